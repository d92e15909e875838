-- The number so far has at most four digits.
use Rattle.std.proofs.Common.{◌≤◌}
use Rattle.text_lines.proofs.report.number.Given as goal

abbrev pub invariant-loop-b : goal.invariant-loop-b
invariant-loop-b l = l.n ≤ 9999
