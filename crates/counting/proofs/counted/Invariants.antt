use Rattle.counting.proofs.Counts.{Counts}
use Rattle.counting.proofs.counted.Given as goal

abbrev pub invariant-loop-slot : goal.invariant-loop-slot
invariant-loop-slot g l = Counts g.row.N l.list l.n l.counts l.slot-index
