-- As many turns are done as are counted.
use Rattle.std.proofs.Common.{◌≡◌}
use Rattle.sheet_calls.specs.Calls as call
use Rattle.sheet_records.specs.orientations.Turns as spec
use Rattle.sheet_records.proofs.orientations.orientation.Given as goal

abbrev pub invariant-loop : goal.invariant-loop
invariant-loop l = spec.linear l.m ≡ call.turns l.counter (spec.start_of l.k)
