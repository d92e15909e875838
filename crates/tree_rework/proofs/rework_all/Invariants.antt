use Rattle.tree_rework.proofs.Loop.{Inv}
use Rattle.tree_rework.proofs.rework_all.Given as goal

abbrev pub invariant-loop-at : goal.invariant-loop-at
invariant-loop-at l = Inv l.visits l.fn.tree l.tree l.fn.room l.room l.count l.longer l.at-index
