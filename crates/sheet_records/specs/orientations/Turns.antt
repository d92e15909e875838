-- Whole-number coefficients as the code holds them.
use Rattle.std.specs.Prelude.{ℕ, cond, nat_lt}
use Rattle.sheet_records.specs.declared.orientations.Linear.{Linear}
use Rattle.sheet_calls.specs.Calls as call

abbrev pub linear : Linear → call.Linear
linear m = record { a = m.a; b = m.b; c = m.c; d = m.d }

-- upright below 4, else mirrored
abbrev pub start_of : ℕ → call.Linear
start_of k = cond (nat_lt k 4) call.upright call.mirrored
