-- The numbers of the worked rows, and what every row computes through.
use Prim.Native.Nat.{ℕ}
use mathlib.Core.Bool.{false}
use lib.Ieee.{Float, binary64, round, units, odd, size, span, climb, add, sub, mul, div, sum, neg, lt, le, eq, is_nan}
use Rattle.numbers.specs.Number.{minimum, maximum, magnitude}
use Rattle.geometry.specs.declared.point.Point.{Point}

-- the whole number k
unfoldable pub num : ℕ → Float
num k = round binary64 false k 1

unfoldable pub point : Float → Float → Point
point x y = record { x = x; y = y }

unfoldable pub computed : Unit {0}
unfolding num point minimum maximum magnitude round units odd size span climb add sub mul div sum neg lt le eq is_nan
computed = tt
