use Rattle.tree_rework.proofs.Loop.{start, next}
use Rattle.tree_rework.proofs.rework_all.Goals as goal

pub loop-at-init : goal.loop-at-init
loop-at-init c = start c.args.visits.now c.args.tree.now c.args.room.now c.args.count

pub loop-at-preserved : goal.loop-at-preserved
loop-at-preserved c = let N = c.rework_node-longer in next c.loop-at.invariant c.loop-at-test.true _ _ _ (N.ensures.tree, N.ensures.damage) N.ensures.room
