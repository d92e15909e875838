-- The numbers read stand in front of those of the words that are left.
use Rattle.sheet_lines.proofs.Spaces.{Inv}
use Rattle.sheet_lines.proofs.row_of.Given as goal

abbrev pub invariant-loop-j : goal.invariant-loop-j
invariant-loop-j l = Inv l.line l.width l.row l.at l.j
