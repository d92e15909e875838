-- Laws of single numbers: what the tests of the code tell, and the minimum, the maximum and the absolute value by them.
use mathlib.Core.Path.{◌≡◌, refl, sym}
use mathlib.Core.Logic.{inl, inr}
use mathlib.Core.Bool.{Bool, true, false, cond}
use Prim.Native.Nat.{ℕ, ◌*◌, ◌<◌}
use native.Mathlib.Nat.{eq-zero-or-pos, mul-pos}
use native.Mathlib.Omega.{arith}
use lib.Ieee.{Float, nan, inf, fin, is_nan, lt, binary64, of_bits, of_fields, odd}
use lib.Ieee.Scale.{finite}
use Rattle.std.specs.Float.{float_is_finite, float_with_sign}
use Rattle.numbers.specs.Rounded as const
use Rattle.numbers.specs.Number.{minimum, maximum, magnitude}
use Rattle.numbers.proofs.Bools.{clash}

-- the library's finite, in the words of the contracts
pub library_finite : (x : Float) → float_is_finite x ≡ finite x
unfolding float_is_finite
library_finite nan = refl
library_finite (inf s) = refl
library_finite (fin s m e) = refl

-- the library's absolute value is the one of specs/
pub library_magnitude : (x : Float) → float_with_sign false x ≡ magnitude x
unfolding float_with_sign magnitude
library_magnitude nan = refl
library_magnitude (inf s) = refl
library_magnitude (fin s m e) = refl

-- what a comparison holds of is no NaN
pub lt_numbers : (x y : Float) → lt x y ≡ true → (is_nan x ≡ false) × (is_nan y ≡ false)
unfolding lt is_nan
lt_numbers nan y h = clash (sym h)
lt_numbers (inf s) nan h = clash (sym h)
lt_numbers (inf s) (inf t) h = (refl, refl)
lt_numbers (inf s) (fin t n d) h = (refl, refl)
lt_numbers (fin s m e) nan h = clash (sym h)
lt_numbers (fin s m e) (inf t) h = (refl, refl)
lt_numbers (fin s m e) (fin t n d) h = (refl, refl)

-- ---- minimum and maximum, by the tests

module _ (x y : Float) where
  pub min_other : is_nan x ≡ true → minimum x y ≡ y
  unfolding minimum
  min_other h = rw (minimum, h)

  pub max_other : is_nan x ≡ true → maximum x y ≡ y
  unfolding maximum
  max_other h = rw (maximum, h)

  pub min_second : lt y x ≡ true → minimum x y ≡ y
  unfolding minimum
  min_second h = rw (minimum, (lt_numbers y x h).0, (lt_numbers y x h).1, h)

  pub max_second : lt x y ≡ true → maximum x y ≡ y
  unfolding maximum
  max_second h = rw (maximum, (lt_numbers x y h).0, (lt_numbers x y h).1, h)

  either : (b : Bool) → cond b x x ≡ x
  either true = refl
  either false = refl

  pub min_first : is_nan x ≡ false → lt y x ≡ false → minimum x y ≡ x
  unfolding minimum
  min_first n h = rw (minimum, n, h) (either (is_nan y))

  pub max_first : is_nan x ≡ false → lt x y ≡ false → maximum x y ≡ x
  unfolding maximum
  max_first n h = rw (maximum, n, h) (either (is_nan y))

-- a product with what is above 0 is 0 only at 0
pub no_product : (m u : ℕ) → 0 < u → m * u ≡ 0 → m ≡ 0
no_product m u U h = elim (eq-zero-or-pos m) [ inl z ↦ z | inr p ↦ absurd (above (m * u) (mul-pos p U) h) ]
  where
    above : (n : ℕ) → 0 < n → n ≡ 0 → ⊥
    above n p z = omega arith

-- ---- the literals 0.0, 0.5 and 2.0

pub literal_zero : (b : ℕ) → b ≡ 0 → of_bits binary64 b ≡ const.zero
unfolding of_bits of_fields odd
literal_zero b e = rw e

pub literal_two : (b : ℕ) → b ≡ 0x4000_0000_0000_0000 → of_bits binary64 b ≡ const.two
unfolding of_bits of_fields odd
literal_two b e = rw e

pub literal_half : (b : ℕ) → b ≡ 0x3fe0_0000_0000_0000 → of_bits binary64 b ≡ const.half
unfolding of_bits of_fields odd
literal_half b e = rw e

pub ruleset literals = (literal_zero, literal_half, literal_two)
