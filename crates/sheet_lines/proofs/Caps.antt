-- Digits read with a cap: what they spell, saturated, is what they spell after the capped number. Saturating and signs. Assumes nothing.
use mathlib.Core.Path.{◌≡◌, refl, sym, ap, ◌∙◌}
use mathlib.Core.Bool.{Bool, true, false, cond}
use mathlib.Core.List.{List, [], ◌∷◌}
use Prim.Native.Nat.{ℕ, zero, suc, ◌+◌, ◌*◌, ◌-◌, ◌≤◌, ◌<◌, min}
use native.Mathlib.Omega.{arith}
use native.Mathlib.Numerals.{add-one}
use borrow.Author.Tests.{le-leb, lt-leb, eq-eqb, ne_eqb}
use lib.Dec.{eqb}
use lib.IntN.{ℤ, pos, negsuc, neg_ℤ}
use lib.ListN.{length, get_or, take, drop, drop_of_length-le}
use lib.Seq.{drop-cons, take-length}
use Rattle.sheet_lines.specs.Lines.{Decimal, malformed, whole, is_digit, digits_after, positive, negated, zero_then, decimal}
use Rattle.std.proofs.Common.{◌⊎◌, inl, inr}
use Rattle.std.specs.Bool.{then_some}
use Rattle.sheet_lines.specs.Saturated.{saturated, saturated_decimal, told_word}

cap_step : (n d : ℕ) → min (n * 10 + d) 1000000000000000 ≡ min (min n 1000000000000000 * 10 + d) 1000000000000000
cap_step n d = omega arith

-- the digits of s after n, as far as 10^15 goes
abbrev after : ℕ → List ℕ → Decimal
after n s = saturated_decimal (digits_after n s)

picked : (b : Bool) (x y : Decimal) → saturated_decimal x ≡ saturated_decimal y → saturated_decimal (cond b x malformed) ≡ saturated_decimal (cond b y malformed)
picked true x y e = e
picked false x y e = refl

cap_twice : (n : ℕ) → min n 1000000000000000 ≡ min (min n 1000000000000000) 1000000000000000
cap_twice n = omega arith

pub after_cap : (n : ℕ) (s : List ℕ) → after n s ≡ after (min n 1000000000000000) s
unfolding digits_after saturated_decimal saturated
after_cap n [] = ap (λ m. whole (pos m)) (cap_twice n)
after_cap n (b ∷ s) =
    let d = b - 48 in
    let c = min n 1000000000000000 in
    picked (is_digit b) _ _ (after_cap (n * 10 + d) s ∙ ap (λ m. after m s) (cap_step n d) ∙ sym (after_cap (c * 10 + d) s))

module _ (s : List ℕ) (n i : ℕ) (h : i < length s) where
  -- a digit is passed
  pub next_digit : (m : ℕ) → 48 ≤ get_or s i 0 → get_or s i 0 ≤ 57 → m ≡ min (n * 10 + (get_or s i 0 - 48)) 1000000000000000
      → after m (drop (i + 1) s) ≡ after n (drop i s)
  unfolding digits_after
  next_digit m lo hi e =
      rw (drop-cons s i 0 h, le-leb 48 (get_or s i 0) lo, le-leb (get_or s i 0) 57 hi, e, add-one i)
      (sym (after_cap (n * 10 + (get_or s i 0 - 48)) (drop (suc i) s)))

  pub no_digit : get_or s i 0 < 48 ⊎ 57 < get_or s i 0 → malformed ≡ after n (drop i s)
  unfolding digits_after saturated_decimal
  no_digit (inl lo) = rw (drop-cons s i 0 h, lt-leb 48 (get_or s i 0) lo)
  no_digit (inr hi) = rw (drop-cons s i 0 h, le-leb 48 (get_or s i 0) (omega arith), lt-leb (get_or s i 0) 57 hi)

pub all_digits : (s : List ℕ) (n i : ℕ) → n ≤ 1000000000000000 → length s ≤ i → whole (pos n) ≡ after n (drop i s)
unfolding digits_after saturated_decimal saturated
all_digits s n i c h = let e : min n 1000000000000000 ≡ n = omega arith in rw (drop_of_length-le s h, e)

-- ---- signs

sat_neg : (z : ℤ) → saturated (neg_ℤ z) ≡ neg_ℤ (saturated z)
unfolding saturated
sat_neg (pos zero) = refl
sat_neg (pos (suc n)) = let e : min (suc n) 1000000000000000 ≡ suc (min n 999999999999999) = omega arith in rw e
sat_neg (negsuc n) = ap pos (omega arith)

sat_negated : (d : Decimal) → saturated_decimal (negated d) ≡ negated (saturated_decimal d)
unfolding saturated_decimal
sat_negated malformed = refl
sat_negated (whole z) = ap whole (sat_neg z)

-- ---- a word by its first byte

pub no_digits : (s : List ℕ) → length s < 1 → malformed ≡ saturated_decimal (positive s)
unfolding positive saturated_decimal
no_digits [] h = refl
no_digits (b ∷ s) h = absurd (omega arith)

pub zero_first : (s : List ℕ) → get_or s 0 0 ≡ 48 → malformed ≡ saturated_decimal (positive s)
unfolding positive saturated_decimal
zero_first [] h = refl
zero_first (b ∷ s) h = rw (eq-eqb b 48 h)

pub no_zero_first : (s : List ℕ) → 1 ≤ length s → (get_or s 0 0 ≡ 48 → ⊥) → after 0 s ≡ saturated_decimal (positive s)
unfolding positive
no_zero_first [] l h = absurd (omega arith)
no_zero_first (b ∷ s) l h = rw (ne_eqb b 48 h)

pub no_word : (s : List ℕ) → length s < 1 → malformed ≡ saturated_decimal (decimal s)
unfolding decimal saturated_decimal
no_word [] h = refl
no_word (b ∷ s) h = absurd (omega arith)

tail_whole : (b : ℕ) (s : List ℕ) → take (suc (length s) - 1) s ≡ s
tail_whole b s = let e : suc (length s) - 1 ≡ length s = omega arith in rw e (take-length s)

pub minus_first : (s : List ℕ) → 1 ≤ length s → get_or s 0 0 ≡ 45 → (d : Decimal)
    → d ≡ saturated_decimal (positive (take (length s - 1) (drop 1 s))) → negated d ≡ saturated_decimal (decimal s)
unfolding decimal
minus_first [] l h d e = absurd (omega arith)
minus_first (b ∷ s) l h d e =
    rw (eq-eqb b 45 h)
    (ap negated (e ∙ ap (λ t. saturated_decimal (positive t)) (tail_whole b s)) ∙ sym (sat_negated (positive s)))

zero_alone : (s : List ℕ) → told_word (then_some (eqb (length s) 0) (pos 0)) ≡ saturated_decimal (zero_then s)
unfolding saturated_decimal saturated
zero_alone [] = refl
zero_alone (b ∷ s) = rw (ne_eqb (suc (length s)) 0 (λ e. omega arith))

pub zero_word : (s : List ℕ) → 1 ≤ length s → get_or s 0 0 ≡ 48
    → told_word (then_some (eqb (length (take (length s - 1) (drop 1 s))) 0) (pos 0)) ≡ saturated_decimal (decimal s)
unfolding decimal
zero_word [] l h = absurd (omega arith)
zero_word (b ∷ s) l h = let m : b ≡ 45 → ⊥ = λ e. omega arith in rw (ne_eqb b 45 m, eq-eqb b 48 h, tail_whole b s) (zero_alone s)

pub plus_first : (s : List ℕ) → 1 ≤ length s → (get_or s 0 0 ≡ 45 → ⊥) → (get_or s 0 0 ≡ 48 → ⊥) → saturated_decimal (positive s) ≡ saturated_decimal (decimal s)
unfolding decimal
plus_first [] l m h = absurd (omega arith)
plus_first (b ∷ s) l m h = rw (ne_eqb b 45 m, ne_eqb b 48 h)
