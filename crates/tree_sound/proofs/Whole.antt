-- What the slots' test gives to the functions that index by slots.
use mathlib.Core.Path.{◌≡◌}
use mathlib.Core.Bool.{true}
use mathlib.Core.List.{List}
use Prim.Native.Nat.{ℕ, ◌≤◌}
use native.Mathlib.Omega.{arith}
use native.Mathlib.Decide.{dec_lt}
use lib.ListN.{length, get_or}
use Rattle.counting.specs.Lists.{once_below}
use Rattle.counting.proofs.Counting.{times_at}
use Rattle.counting.proofs.Words.{OnceBelow, once_below_tells}
use Rattle.tree_sound.specs.Parts.{Low}

-- a list without repeats of numbers below 256
module _ (order : List ℕ) (n : ℕ) (lo : length order ≡ 256) (once : once_below 256 order n ≡ true) where
  holds : OnceBelow 256 order n
  holds = (once_below_tells 256 order n (omega arith)).0 once

  pub list_fit : n ≤ 256
  list_fit = holds.fits

  pub list_low : Low order n
  list_low k h =
      let O = holds in
      let a = get_or order k 0 in
      elim (dec_lt a 256) [ yes l ↦ l | no g ↦ absurd (omega (arith, O.low a (omega arith), times_at order k n h (omega (arith, O.fits)))) ]
