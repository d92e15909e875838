-- A whole number of a magnitude up to 2^53 becomes an f64 exactly: finite, with its sign (0 is +0), and of its size.
use Prim.Native.Nat.{ℕ, zero, suc, ◌*◌, ◌^◌, ◌≤◌, ◌<◌}
use mathlib.Core.Path.{◌≡◌, refl, sym, subst}
use mathlib.Core.Bool.{Bool, true, false}
use native.Mathlib.Nat.{lt_of_lt_of_le, mul-one}
use native.Mathlib.Decide.{ℕ_discrete}
use native.Mathlib.Omega.{arith}
use lib.Dec.{leb→le, ltb→lt}
use lib.IntN.{ℤ, pos, negsuc, neg_ℤ, nat_abs}
use lib.Signed.{le_z, mag}
use lib.Pow.{shl_lt}
use lib.Ieee.{Float, nan, inf, fin, binary64, round, of_int}
use lib.Ieee.Exact.{HasValue, round_exact}
use lib.Ieee.Scale.{finite}
use borrow.Author.Tests.{leb-true}
use Rattle.numbers.proofs.Bools.{clash, and_left, and_right}
use Rattle.sheet_format.specs.Sheet.{within, coordinate}

below : (s : Bool) (n : ℕ) → n < 2 ^ 53 → HasValue (round binary64 s n 1) s n 1
below s n h =
    round_exact binary64 s n 1 n 1074 (omega arith) h (lt_of_lt_of_le (shl_lt 53 1074 h) (leb→le (2 ^ 1127) (2 ^ 2098) tt)) (sym (mul-one (n * 2 ^ 1074)))

top : (s : Bool) → HasValue (round binary64 s (2 ^ 53) 1) s (2 ^ 53) 1
top s = round_exact binary64 s (2 ^ 53) 1 1 1127 (omega arith) (ltb→lt 1 (2 ^ 53) tt) (ltb→lt (1 * 2 ^ 1127) (2 ^ 2098) tt) refl

exactly : (s : Bool) (n : ℕ) → n ≤ 2 ^ 53 → HasValue (round binary64 s n 1) s n 1
exactly s n h =
    elim (ℕ_discrete n (2 ^ 53)) [
      | yes e ↦ subst (λ (m : ℕ). HasValue (round binary64 s m 1) s m 1) (sym e) (top s)
      | no u ↦ below s n (omega (arith, u))
    ]

abbrev pub negative : ℤ → Bool
negative (pos n) = false
negative (negsuc n) = true

pub whole_exact : (z : ℤ) → nat_abs z ≤ 2 ^ 53 → HasValue (of_int binary64 z) (negative z) (nat_abs z) 1
unfolding of_int
whole_exact (pos n) h = exactly false n h
whole_exact (negsuc n) h = exactly true (suc n) h

value_finite : (x : Float) (s : Bool) (a c : ℕ) → HasValue x s a c → finite x ≡ true
value_finite nan s a c h = absurd h
value_finite (inf t) s a c h = absurd h
value_finite (fin t m e) s a c h = refl

pub whole_finite : (z : ℤ) → nat_abs z ≤ 2 ^ 53 → finite (of_int binary64 z) ≡ true
whole_finite z h = value_finite (of_int binary64 z) (negative z) (nat_abs z) 1 (whole_exact z h)

-- ---- the sheet's ranges

-- within limits of the same size
near : (n : ℕ) (z : ℤ) → le_z (neg_ℤ (pos n)) z ≡ true → le_z z (pos n) ≡ true → nat_abs z ≤ n
near n (pos m) a b = leb-true m n b
near zero (negsuc m) a b = clash (sym a)
near (suc n) (negsuc m) a b = omega (arith, leb-true m n a)

pub coordinate_near : (z : ℤ) → coordinate z ≡ true → nat_abs z ≤ 1000000
coordinate_near z h =
    let low = le_z (neg_ℤ (pos 1000000)) z in
    let high = le_z z (pos 1000000) in
    near 1000000 z (and_left low high h) (and_right low high h)

pub from_zero : (n : ℕ) (z : ℤ) → within (pos 0) (pos n) z ≡ true → nat_abs z ≤ n
from_zero n (pos m) h = leb-true m n (and_right (le_z (pos 0) (pos m)) (le_z (pos m) (pos n)) h)
from_zero n (negsuc m) h = clash (sym h)

pub small_finite : (z : ℤ) → nat_abs z ≤ 1000000 → finite (of_int binary64 z) ≡ true
small_finite z h = whole_finite z (omega arith)

-- from 0 up, a number is its magnitude
pub not_negative : (n : ℕ) (z : ℤ) → within (pos 0) (pos n) z ≡ true → z ≡ pos (nat_abs z)
not_negative n (pos m) h = refl
not_negative n (negsuc m) h = clash (sym h)

-- a level fits an i32
pub level_fits : (z : ℤ) → within (neg_ℤ (pos 2147483648)) (pos 2147483647) z ≡ true → mag z ≤ 2147483647
level_fits (pos m) h = leb-true m 2147483647 (and_right true (le_z (pos m) (pos 2147483647)) h)
level_fits (negsuc m) h = leb-true m 2147483647 (and_left (le_z (negsuc 2147483647) (negsuc m)) true h)
