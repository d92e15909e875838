use Rattle.std.proofs.Common.{◌≡◌, ◌≤◌, ◌+◌, refl, sym, ◌∙◌, arith, length}
use Rattle.tree_state.specs.Tree.{any_of, marked_at}
use Rattle.tree_verdicts.proofs.need.Walks.{any_more, any_hit}
use Rattle.tree_verdicts.proofs.need.any_marked.Goals as goal

pub loop-i-init : goal.loop-i-init
unfolding any_of
loop-i-init c = refl

pub bounds-tree-slot : goal.bounds-tree-slot
bounds-tree-slot c = c.requires.low c.loop-i.i c.loop-i-test.true

pub returns-then-tree-slot : goal.returns-then-tree-slot
returns-then-tree-slot c =
    let t = c.args.tree.now in
    let h : c.loop-i.i + 1 ≤ length t.links.order = omega (arith, c.loop-i-test.true, c.requires.count_fits, c.requires.orders) in
    sym (any_hit (marked_at t) t.links.order t.links.count c.loop-i.i c.loop-i-test.true (omega arith) c.if-tree-slot.true)

pub loop-i-preserved : goal.loop-i-preserved
loop-i-preserved c =
    let t = c.args.tree.now in
    let h : c.loop-i.i + 1 ≤ length t.links.order = omega (arith, c.loop-i-test.true, c.requires.count_fits, c.requires.orders) in
    any_more (marked_at t) t.links.order c.loop-i.i (omega arith) ∙ rw (c.loop-i.invariant, c.if-tree-slot.false)

pub returns : goal.returns
returns c =
    let t = c.args.tree.now in
    let e : c.loop-i.i ≡ t.links.count = omega (arith, c.loop-i-test.false, c.loop-i.auto.i-end) in
    rw (← e) (sym c.loop-i.invariant)
