-- The refusals of the index by number.
use Rattle.std.specs.Prelude.{ℕ}
use Rattle.index_types.specs.declared.Refusal.{Refusal}
use Rattle.index_types.specs.declared.Refusal.TheVariants as no

abbrev pub number_of : Refusal → ℕ
number_of no.Unsound = 1
number_of no.ShortRoom = 8
number_of no.DeadKey = 10
number_of no.Full = 11
