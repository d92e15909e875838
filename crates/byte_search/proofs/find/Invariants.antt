use Rattle.std.proofs.Common.{◌+◌, ◌≡◌}
use Rattle.byte_search.specs.Bytes.{slice, index_of}
use Rattle.byte_search.proofs.find.Given as goal

abbrev pub invariant-loop-i : goal.invariant-loop-i
invariant-loop-i l = l.from + index_of l.b (slice l.from l.to l.s) ≡ l.i + index_of l.b (slice l.i l.to l.s)
