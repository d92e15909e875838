use mathlib.Core.Path.{◌≡◌}
use Prim.Native.Nat.{◌+◌, ◌≤◌}
use native.Mathlib.Omega.{arith}
use lib.ListN.{length}
use Rattle.tree_state.specs.Tree.{stored_bounds}
use Rattle.tree_steps.specs.Commit.{damage_of}
use Rattle.tree_rework.specs.preconditions.Fits.{slot_at}
use Rattle.tree_rework.proofs.Node.{adds, damage_few, count_after, room_after}
use Rattle.tree_rework.proofs.rework_node.Goals as goal

pub returns-clause-damage : goal.returns-clause-damage
returns-clause-damage c =
    let t = c.args.tree.now in
    let e : damage_of (stored_bounds t (slot_at t c.args.at)) c.world_bounds-bounds.result ≡ adds t c.args.at = cc in
    let P = rw e at c.push_damage-longer.ensures in
    let few : c.args.count + length (adds t c.args.at) ≤ 512 = omega (arith, damage_few c.requires.1.2, c.requires.1.1) in
    λ ds en. (
      count_after t ds c.args.at c.args.count _ P.1 en,
      λ before er. room_after t ds c.args.at c.args.count c.args.room.now _ before c.requires.0 few P.0 en er,
    )
