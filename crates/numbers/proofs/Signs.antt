-- The sign of a difference. What the area test accepts has its low edge below its high edge; and a larger number less a smaller one,
-- or a number less itself, has its sign clear, so that half the shorter side of an ordered rectangle is no −0.
use mathlib.Core.Path.{◌≡◌, refl, sym, ◌∙◌}
use mathlib.Core.Bool.{Bool, true, false, not, ◌&&◌, cond, beq}
use Prim.Native.Nat.{ℕ, zero, suc, ◌+◌, ◌-◌, ◌*◌, ◌^◌, ◌<◌, ◌≤◌}
use native.Mathlib.Nat.{le_refl, zero-mul, mul-pos}
use native.Mathlib.Omega.{arith}
use lib.IntN.{ℤ, pos}
use lib.Dec.{ltb}
use borrow.Author.Tests.{ltb-true, ltb-false, lt-ltb, le-ltb}
use lib.Ieee.{Float, nan, inf, fin, Format, binary64, prec, low, emax, up, down, size, span, climb, odd, units, round, sum, add, sub, neg, div, lt, below}
use lib.Ieee.Fits.{round_is, down_pos}
use lib.Ieee.Scale.{round_same}
use Rattle.numbers.specs.Rounded as const
use Rattle.numbers.specs.Rounded.{◌⊖◌, ◌⊘◌}
use Rattle.numbers.specs.Number.{magnitude}
use Rattle.numbers.proofs.Bools.{clash, split}

-- ---- the result of a rounding has the sign it was given

odd_clear : (d q k l : ℕ) → magnitude (odd d false q k l) ≡ odd d false q k l
unfolding magnitude odd
odd_clear d zero k l = refl
odd_clear d (suc q) k l = refl

units_clear : (f : Format) (q k : ℕ) → magnitude (units f false q k) ≡ units f false q k
unfolding magnitude units
units_clear f q k = go (ltb (q * 2 ^ k) (2 ^ (low f + suc (emax f))))
  where
    go : (b : Bool) → magnitude (cond b (odd (suc (prec f)) false q k (low f)) (inf false)) ≡ cond b (odd (suc (prec f)) false q k (low f)) (inf false)
    go true = odd_clear (suc (prec f)) q k (low f)
    go false = refl

pub round_clear : (f : Format) (n c : ℕ) → magnitude (round f false n c) ≡ round f false n c
round_clear f n c = rw (round_is f false n c) (units_clear f _ _)

odd_low : (d q k l : ℕ) → lt const.zero (odd d true q k l) ≡ false
unfolding lt odd
odd_low d zero k l = refl
odd_low d (suc q) k l = refl

units_low : (f : Format) (q k : ℕ) → lt const.zero (units f true q k) ≡ false
unfolding lt units
units_low f q k = go (ltb (q * 2 ^ k) (2 ^ (low f + suc (emax f))))
  where
    go : (b : Bool) → lt const.zero (cond b (odd (suc (prec f)) true q k (low f)) (inf true)) ≡ false
    go true = odd_low (suc (prec f)) q k (low f)
    go false = refl

round_low : (f : Format) (n c : ℕ) → lt const.zero (round f true n c) ≡ false
round_low f n c = rw (round_is f true n c) (units_low f _ _)

-- zero rounds to zero
round_zero : (s : Bool) (c : ℕ) → 0 < c → round binary64 s 0 c ≡ fin s 0 (pos 0)
unfolding round units odd size span climb
round_zero s c C = round_same binary64 s 0 c 0 1 C (omega arith) (zero-mul 1 ∙ sym (zero-mul c))

-- ---- y - x, by the sign t and the size a of y, the sign s and the size b of x, and their common denominator

opened : (t s : Bool) (n m : ℕ) (d e : ℤ) → fin t n d ⊖ fin s m e ≡ sum binary64 t (n * up d * down e) (not s) (m * up e * down d) (down d * down e)
unfolding sub add neg
opened t s n m d e = refl

module _ (a b c : ℕ) (C : 0 < c) where
  -- two of one sign, the size of the first not below the second's, or below it
  less : (s t : Bool) → beq s t ≡ false → b ≤ a → sum binary64 s a t b c ≡ round binary64 (s && ltb b a) (a - b) c
  unfolding sum
  less s t d h = rw (sum, d, le-ltb a b h)

  more : (s t : Bool) → beq s t ≡ false → a < b → sum binary64 s a t b c ≡ round binary64 t (b - a) c
  unfolding sum
  more s t d h = rw (sum, d, lt-ltb a b h)

  joined : (s : Bool) → sum binary64 s a s b c ≡ round binary64 s (a + b) c
  unfolding sum
  joined true = refl
  joined false = refl

  none : (s : Bool) → lt const.zero (fin s 0 (pos 0)) ≡ false
  unfolding lt
  none true = refl
  none false = refl

  -- a rounding of 0 is not above 0
  zero_low : (s : Bool) (n : ℕ) → n ≡ 0 → lt const.zero (round binary64 s n c) ≡ false
  zero_low s n z = rw (z, round_zero s c C) (none s)

  above_sum : (t s : Bool) → lt const.zero (sum binary64 t a (not s) b c) ≡ true → below s b t a ≡ true
  above_sum false true h =
      split (ltb 0 (b + a)) (λ (p : ltb 0 (b + a) ≡ true). p)
      (λ (p : ltb 0 (b + a) ≡ false). clash (sym (rw (joined false) at h) ∙ zero_low false (a + b) (omega (arith, ltb-false 0 (b + a) p))))
  above_sum true false h = clash (sym (rw (joined true) at h) ∙ round_low binary64 (a + b) c)
  above_sum false false h =
      split (ltb b a) (λ (p : ltb b a ≡ true). p)
      (λ (p : ltb b a ≡ false).
      split (ltb a b)
      (λ (q : ltb a b ≡ true). clash (sym (rw (more false true refl (ltb-true a b q)) at h) ∙ round_low binary64 (b - a) c))
      (λ (q : ltb a b ≡ false). clash (sym (rw (less false true refl (ltb-false a b q)) at h) ∙ zero_low false (a - b) (omega (arith, ltb-false b a p)))))
  above_sum true true h =
      split (ltb a b) (λ (p : ltb a b ≡ true). p)
      (λ (p : ltb a b ≡ false).
      split (ltb b a)
      (λ (q : ltb b a ≡ true). clash (sym (rw (less true false refl (ltb-false a b p), q) at h) ∙ round_low binary64 (a - b) c))
      (λ (q : ltb b a ≡ false). clash (sym (rw (less true false refl (ltb-false a b p), q) at h) ∙ zero_low false (a - b) (omega (arith, ltb-false b a q)))))

  clear_sum : (t s : Bool) → below s b t a ≡ true → magnitude (sum binary64 t a (not s) b c) ≡ sum binary64 t a (not s) b c
  clear_sum false true h = rw (joined false) (round_clear binary64 (a + b) c)
  clear_sum true false h = clash (sym h)
  clear_sum false false h = rw (less false true refl (omega (arith, ltb-true b a h))) (round_clear binary64 (a - b) c)
  clear_sum true true h = rw (more true false refl (ltb-true a b h)) (round_clear binary64 (b - a) c)

-- ---- the two laws

-- a difference above 0 tells the order
pub above_tells : (x y : Float) → lt const.zero (y ⊖ x) ≡ true → lt x y ≡ true
unfolding lt sub add neg
above_tells nan nan h = clash (sym h)
above_tells nan (inf t) h = clash (sym h)
above_tells nan (fin t n d) h = clash (sym h)
above_tells (inf s) nan h = clash (sym h)
above_tells (inf true) (inf true) h = clash (sym h)
above_tells (inf true) (inf false) h = refl
above_tells (inf false) (inf true) h = clash (sym h)
above_tells (inf false) (inf false) h = clash (sym h)
above_tells (inf true) (fin t n d) h = refl
above_tells (inf false) (fin t n d) h = clash (sym h)
above_tells (fin s m e) nan h = clash (sym h)
above_tells (fin s m e) (inf true) h = clash (sym h)
above_tells (fin s m e) (inf false) h = refl
above_tells (fin s m e) (fin t n d) h =
    above_sum (n * up d * down e) (m * up e * down d) (down d * down e) (mul-pos (down_pos d) (down_pos e)) t s h

-- a larger number less a smaller one has its sign clear, and so has a number less itself
pub clear_more : (x y : Float) → lt x y ≡ true → magnitude (y ⊖ x) ≡ y ⊖ x
unfolding lt sub add neg magnitude
clear_more nan y h = clash (sym h)
clear_more (inf s) nan h = clash (sym h)
clear_more (inf true) (inf true) h = clash (sym h)
clear_more (inf true) (inf false) h = refl
clear_more (inf false) (inf t) h = clash (sym h)
clear_more (inf true) (fin t n d) h = refl
clear_more (inf false) (fin t n d) h = clash (sym h)
clear_more (fin s m e) nan h = clash (sym h)
clear_more (fin s m e) (inf true) h = clash (sym h)
clear_more (fin s m e) (inf false) h = refl
clear_more (fin s m e) (fin t n d) h =
    clear_sum (n * up d * down e) (m * up e * down d) (down d * down e) (mul-pos (down_pos d) (down_pos e)) t s h

pub clear_same : (x : Float) → magnitude (x ⊖ x) ≡ x ⊖ x
unfolding sub add neg magnitude
clear_same nan = refl
clear_same (inf true) = refl
clear_same (inf false) = refl
clear_same (fin true m e) =
    let a = m * up e * down e in
    rw (le-ltb a a (le_refl a)) (round_clear binary64 (a - a) (down e * down e))
clear_same (fin false m e) =
    let a = m * up e * down e in
    rw (le-ltb a a (le_refl a)) (round_clear binary64 (a - a) (down e * down e))

-- half of it has, too
pub clear_half : (x : Float) → magnitude x ≡ x → magnitude (x ⊘ const.two) ≡ x ⊘ const.two
unfolding div magnitude
clear_half nan h = refl
clear_half (inf true) h = clash (sym (signs h))
  where
    signs : inf false ≡ inf true → false ≡ true
    signs e = cc
clear_half (inf false) h = refl
clear_half (fin true m e) h = clash (sym (signs h))
  where
    signs : fin false m e ≡ fin true m e → false ≡ true
    signs e = cc
clear_half (fin false m e) h = round_clear binary64 (m * up e * 1) (2 * down e)
