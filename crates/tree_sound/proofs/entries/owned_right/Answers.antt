use Rattle.std.proofs.Common.{rules, tests, arith, ◌≤◌}
use lib.ListN.{get_or-eq_default}
use Rattle.tree_state.specs.Sound as spec
use Rattle.tree_sound.proofs.Lists.{live_counted}
use Rattle.tree_sound.proofs.entries.owned_right.Goals as goal

pub returns-then-tree-owner : goal.returns-then-tree-owner
returns-then-tree-owner c =
    let t = c.args.live.now.tree.now in
    rw (live_counted t c.args.live.now.listed c.args.live.now.counts c.args.live.now.counted (spec.owner_of t c.args.entry)) (search (rules, tests))

pub returns-else-tree-owner : goal.returns-else-tree-owner
returns-else-tree-owner c =
    let t = c.args.live.now.tree.now in
    rw (live_counted t c.args.live.now.listed c.args.live.now.counts c.args.live.now.counted (spec.owner_of t c.args.entry)) (search (rules, tests, λ (g : 256 ≤ spec.owner_of t c.args.entry). get_or-eq_default c.args.live.now.counts 0 {n = spec.owner_of t c.args.entry} (omega (arith, g))))
