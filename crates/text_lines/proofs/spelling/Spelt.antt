-- Digits: 16 of them in a row. Assumes nothing.
use Rattle.std.proofs.Common.{◌≡◌, ℕ, ◌+◌, ◌*◌, ◌^◌, ◌<◌, ◌≤◌, List, length, get_or, drop, ◌∙◌, pow-suc, add-one, arith, drop_of_length-le, drop-cons, le-ltb, lt-ltb, eq-eqb, ne_eqb, refl, cond, Bool, true, false, nat_lt, ltb-true, ltb-false, Option, Some, None}
use native.Mathlib.Nat.{pow-le-pow_right}
use Rattle.text_lines.specs.spelling.Words.{digit_value, digit, spelt, pattern_of}

-- one digit more keeps the number below a power of 16
pub grows : (n d i : ℕ) → n < 16 ^ i → d < 16 → n * 16 + d < 16 ^ (i + 1)
grows n d i h l = rw (add-one, pow-suc) (omega arith)

pub small : (i : ℕ) → i ≤ 16 → 16 ^ i ≤ 18446744073709551616
small i h = pow-le-pow_right {n = 16} (omega arith) {i = i} {j = 16} h

module _ (s : List ℕ) (n i : ℕ) (h : i < length s) (known : spelt 0 s ≡ spelt n (drop i s)) where
  pub no_digit : length s ≡ 16 → 16 ≤ digit_value (get_or s i 0) → None ≡ pattern_of s
  unfolding pattern_of spelt
  no_digit e l = rw (eq-eqb (length s) 16 e, known, drop-cons s i 0 h, le-ltb (digit_value (get_or s i 0)) 16 (omega arith))

  pub one_digit : digit_value (get_or s i 0) < 16 → spelt 0 s ≡ spelt (n * 16 + digit_value (get_or s i 0)) (drop (i + 1) s)
  unfolding spelt
  one_digit l = known ∙ rw (add-one, drop-cons s i 0 h, lt-ltb (digit_value (get_or s i 0)) 16 (omega arith))

pub whole : (s : List ℕ) (n i : ℕ) → length s ≡ 16 → length s ≤ i → spelt 0 s ≡ spelt n (drop i s) → Some n ≡ pattern_of s
unfolding pattern_of spelt
whole s n i e j known = rw (eq-eqb (length s) 16 e, known, drop_of_length-le s j)

pub another_length : (s : List ℕ) → (length s ≡ 16 → ⊥) → None ≡ pattern_of s
unfolding pattern_of
another_length s n = rw (ne_eqb (length s) 16 n)

pick : (v : ℕ) (t : Bool) (d : ℕ) → nat_lt v 16 ≡ t → Some d ≡ cond t (Some v) None → (v < 16) × (d ≡ v)
pick v true d l e = (ltb-true v 16 l, cc)
pick v false d l e = cc

skip : (v : ℕ) (t : Bool) → nat_lt v 16 ≡ t → ◌≡◌ {A = Option ℕ} None (cond t (Some v) None) → 16 ≤ v
skip v true l e = cc
skip v false l e = ltb-false v 16 l

pub is_digit : (b d : ℕ) → Some d ≡ digit b → (digit_value b < 16) × (d ≡ digit_value b)
is_digit b d e = pick (digit_value b) (nat_lt (digit_value b) 16) d refl e

pub is_no_digit : (b : ℕ) → None ≡ digit b → 16 ≤ digit_value b
is_no_digit b e = skip (digit_value b) (nat_lt (digit_value b) 16) refl e
