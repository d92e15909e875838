use Rattle.std.specs.Prelude.{IfSome}
use Rattle.tree_taps.specs.fine.Fine.{Shown}
use Rattle.tree_taps.specs.candidates.Candidates.{best_of}
use Rattle.tree_taps.proofs.candidates.Tap.{Tapping}
use Rattle.tree_taps.proofs.candidates.strongest.Given as goal

-- the best is the strongest of the candidates among the entries so far
abbrev pub invariant-loop-entry : goal.invariant-loop-entry
invariant-loop-entry l = Tapping l.tree l.asked l.point l.here (best_of l.best) l.entry × IfSome l.best (Shown l.tree)
