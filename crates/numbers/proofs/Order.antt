-- Equality as numbers and the order: equal numbers compare alike with every third number, so no test by edges tells them apart.
use mathlib.Core.Path.{◌≡◌, refl, sym, ap, ◌∙◌}
use mathlib.Core.Logic.{◌⊎◌, inl, inr}
use mathlib.Core.Bool.{Bool, true, false, not, ◌&&◌, ◌||◌, beq}
use Prim.Native.Nat.{ℕ, ◌+◌, ◌*◌, ◌<◌}
use native.Mathlib.Nat.{mul_right_comm, zero-mul, zero-add, add_comm, add-mul, mul-lt-mul_of_pos_right, mul-le-mul_right, lt_of_mul-lt-mul_right, le_of_mul-le-mul_right, eq_of_mul-eq-mul_right}
use native.Mathlib.Omega.{arith}
use lib.Dec.{eqb, ltb}
use borrow.Author.Tests.{ltb-true, ltb-false, lt-ltb, le-ltb, eqb-true, eqb-false, eq-eqb, ne_eqb}
use lib.Ieee.{Float, nan, inf, fin, up, down, below, level, is_nan, lt, le, eq, neg}
use lib.Ieee.Fits.{down_pos}
use lib.Ieee.Scale.{finite}
use Rattle.numbers.proofs.Bools.{clash, split, and_left, and_right, or_true, four, four_chained, all_chained}
use Rattle.numbers.proofs.Numbers.{no_product}

-- ---- equality

pub eq_refl : (x : Float) → is_nan x ≡ false → eq x x ≡ true
unfolding eq is_nan
eq_refl nan h = clash h
eq_refl (inf true) h = refl
eq_refl (inf false) h = refl
eq_refl (fin true m e) h = rw (eq-eqb (m * up e * down e) (m * up e * down e) refl)
eq_refl (fin false m e) h = rw (eq-eqb (m * up e * down e) (m * up e * down e) refl)

pub finite_number : (x : Float) → finite x ≡ true → is_nan x ≡ false
unfolding is_nan
finite_number nan h = clash (sym h)
finite_number (inf s) h = refl
finite_number (fin s m e) h = refl

beq_sym : (s t : Bool) → beq s t ≡ beq t s
beq_sym true true = refl
beq_sym true false = refl
beq_sym false true = refl
beq_sym false false = refl

level_sym : (s t : Bool) (a b : ℕ) → level s a t b ≡ level t b s a
level_sym s t a b =
    split (eqb a b)
    (λ (h : eqb a b ≡ true). rw (eqb-true a b h, beq_sym s t))
    (λ (h : eqb a b ≡ false). rw (h, ne_eqb b a (λ (e : b ≡ a). eqb-false a b h (sym e))))

pub eq_sym : (x y : Float) → eq x y ≡ eq y x
unfolding eq
eq_sym nan nan = refl
eq_sym nan (inf t) = refl
eq_sym nan (fin t n d) = refl
eq_sym (inf s) nan = refl
eq_sym (inf s) (inf t) = beq_sym s t
eq_sym (inf s) (fin t n d) = refl
eq_sym (fin s m e) nan = refl
eq_sym (fin s m e) (inf t) = refl
eq_sym (fin s m e) (fin t n d) = level_sym s t (m * up e * down d) (n * up d * down e)

-- ---- at most

pub lt_le : (x y : Float) → lt x y ≡ true → le x y ≡ true
unfolding le
lt_le x y h = rw (le, h)

pub le_self : (x : Float) → is_nan x ≡ false → le x x ≡ true
unfolding le
le_self x n = rw (le, eq_refl x n) (or_true (lt x x))

-- of two numbers, one is at most the other where that is not below it
trichotomy : (a b : ℕ) → ltb a b || (eqb a b && true) ≡ not (ltb b a)
trichotomy a b =
    split (ltb b a)
    (λ (h : ltb b a ≡ true). let l = ltb-true b a h in rw (h, le-ltb a b (omega arith), ne_eqb a b (λ (e : a ≡ b). omega arith)))
    (λ (h : ltb b a ≡ false).
    split (ltb a b) (λ (k : ltb a b ≡ true). rw (h, k))
    (λ (k : ltb a b ≡ false). rw (h, k, eq-eqb a b (omega (arith, ltb-false b a h, ltb-false a b k)))))

-- a negative size is 0, where the two are equal
opposite : (a b : ℕ) → eqb a b && eqb a 0 ≡ not (ltb 0 (b + a))
opposite a b =
    split (ltb 0 (b + a))
    (λ (h : ltb 0 (b + a) ≡ true).
    let l = ltb-true 0 (b + a) h in
    split (eqb a 0)
    (λ (k : eqb a 0 ≡ true). rw (h, k, ne_eqb a b (λ (e : a ≡ b). omega (arith, eqb-true a 0 k))))
    (λ (k : eqb a 0 ≡ false). rw (h, k) (and_false (eqb a b))))
    (λ (h : ltb 0 (b + a) ≡ false).
    let l = ltb-false 0 (b + a) h in
    rw (h, eq-eqb a b (omega arith), eq-eqb a 0 (omega arith)))
  where
    and_false : (c : Bool) → c && false ≡ false
    and_false true = refl
    and_false false = refl

at_most : (s t : Bool) (a b : ℕ) → below s a t b || level s a t b ≡ not (below t b s a)
at_most false false a b = trichotomy a b
at_most false true a b = opposite a b
at_most true false a b =
    split (ltb 0 (a + b)) (λ (h : ltb 0 (a + b) ≡ true). rw h)
    (λ (h : ltb 0 (a + b) ≡ false).
    let l = ltb-false 0 (a + b) h in
    rw (h, eq-eqb a b (omega arith), eq-eqb a 0 (omega arith)))
at_most true true a b =
    split (eqb a b)
    (λ (h : eqb a b ≡ true). let e = eqb-true a b h in rw (h, le-ltb b a (omega arith), le-ltb a b (omega arith)))
    (λ (h : eqb a b ≡ false).
    split (ltb b a)
    (λ (k : ltb b a ≡ true). let l = ltb-true b a k in rw (h, k, le-ltb a b (omega arith)))
    (λ (k : ltb b a ≡ false). rw (h, k, lt-ltb a b (omega (arith, ltb-false b a k, eqb-false a b h)))))

pub le_not_lt : (x y : Float) → is_nan x ≡ false → is_nan y ≡ false → le x y ≡ not (lt y x)
unfolding is_nan le lt eq
le_not_lt nan y n k = clash n
le_not_lt (inf s) nan n k = clash k
le_not_lt (inf true) (inf true) n k = refl
le_not_lt (inf true) (inf false) n k = refl
le_not_lt (inf false) (inf true) n k = refl
le_not_lt (inf false) (inf false) n k = refl
le_not_lt (inf true) (fin t m d) n k = refl
le_not_lt (inf false) (fin t m d) n k = refl
le_not_lt (fin s m e) nan n k = clash k
le_not_lt (fin s m e) (inf true) n k = refl
le_not_lt (fin s m e) (inf false) n k = refl
le_not_lt (fin s m e) (fin t j d) n k = at_most s t (m * up e * down d) (j * up d * down e)

-- a NaN is at most nothing, nothing is at most it, and nothing is below it or above it
pub nan_lt : (x y : Float) → is_nan x ≡ true → lt x y ≡ false
unfolding is_nan lt
nan_lt nan y n = refl
nan_lt (inf s) y n = clash (sym n)
nan_lt (fin s m e) y n = clash (sym n)

pub le_nan : (x y : Float) → is_nan y ≡ true → le x y ≡ false
unfolding is_nan le lt eq
le_nan nan nan n = refl
le_nan (inf s) nan n = refl
le_nan (fin s m e) nan n = refl
le_nan x (inf t) n = clash (sym n)
le_nan x (fin t m d) n = clash (sym n)

-- ---- comparisons of natural numbers, each side scaled

module _ (a b a' b' p q : ℕ) (P : 0 < p) (Q : 0 < q) (A : a * p ≡ a' * q) (B : b * p ≡ b' * q) where
  ltb_scale : ltb a b ≡ ltb a' b'
  ltb_scale =
      split (ltb a b)
      (λ (h : ltb a b ≡ true). h ∙ sym (lt-ltb a' b' (lt_of_mul-lt-mul_right q (omega (arith, mul-lt-mul_of_pos_right (ltb-true a b h) P)))))
      (λ (h : ltb a b ≡ false). h ∙ sym (le-ltb a' b' (le_of_mul-le-mul_right (omega (arith, mul-le-mul_right p (ltb-false a b h))) Q)))

  eqb_scale : eqb a b ≡ eqb a' b'
  eqb_scale =
      split (eqb a b)
      (λ (h : eqb a b ≡ true). h ∙ sym (eq-eqb a' b' (eq_of_mul-eq-mul_right q Q a' b' (sym A ∙ ap (λ (n : ℕ). n * p) (eqb-true a b h) ∙ B))))
      (λ (h : eqb a b ≡ false). h ∙ sym (ne_eqb a' b' (λ (e : a' ≡ b'). eqb-false a b h (eq_of_mul-eq-mul_right p P a b (A ∙ ap (λ (n : ℕ). n * q) e ∙ sym B)))))

-- ---- two sizes that stand for one number: equal once scaled, and of one sign or both zero

abbrev Alike : Bool → ℕ → Bool → ℕ → Type 0
Alike s a t b = (s ≡ t) ⊎ ((a ≡ 0) × (b ≡ 0))

module _ (a c b d p q : ℕ) (P : 0 < p) (Q : 0 < q) (A : a * p ≡ b * q) (C : c * p ≡ d * q) where
  nil : 0 * p ≡ 0 * q
  nil = zero-mul p ∙ sym (zero-mul q)

  both : (a + c) * p ≡ (b + d) * q
  both = rw (add-mul a c p, add-mul b d q, A, C)

  below_scale : (s u : Bool) → below s a u c ≡ below s b u d
  below_scale false false = ltb_scale a c b d p q P Q A C
  below_scale false true = refl
  below_scale true false = ltb_scale 0 (a + c) 0 (b + d) p q P Q nil both
  below_scale true true = ltb_scale c a d b p q P Q C A

  level_scale : (s u : Bool) → level s a u c ≡ level s b u d
  level_scale s u = rw (eqb_scale a c b d p q P Q A C, eqb_scale a 0 b 0 p q P Q A nil)

below_zero : (s t u : Bool) (c : ℕ) → below s 0 u c ≡ below t 0 u c
below_zero false false u c = refl
below_zero false true false c = rw (zero-add c)
below_zero false true true c = sym (le-ltb c 0 (omega arith))
below_zero true false false c = rw (zero-add c)
below_zero true false true c = le-ltb c 0 (omega arith)
below_zero true true u c = refl

level_zero : (s t u : Bool) (c : ℕ) → level s 0 u c ≡ level t 0 u c
level_zero s t u c = rw (or_true (beq s u), or_true (beq t u))

module _ (a c b d p q : ℕ) (P : 0 < p) (Q : 0 < q) (A : a * p ≡ b * q) (C : c * p ≡ d * q) (s t u : Bool) where
  below_alike : Alike s a t b → below s a u c ≡ below t b u d
  below_alike (inl e) = rw e (below_scale a c b d p q P Q A C t u)
  below_alike (inr z) = below_scale a c b d p q P Q A C s u ∙ rw z.1 (below_zero s t u d)

  level_alike : Alike s a t b → level s a u c ≡ level t b u d
  level_alike (inl e) = rw e (level_scale a c b d p q P Q A C t u)
  level_alike (inr z) = level_scale a c b d p q P Q A C s u ∙ rw z.1 (level_zero s t u d)

-- ---- what equality tells

or_cases : (a b : Bool) → a || b ≡ true → (a ≡ true) ⊎ (b ≡ true)
or_cases true b h = inl refl
or_cases false b h = inr h

beq_true : (s t : Bool) → beq s t ≡ true → s ≡ t
beq_true true true h = refl
beq_true true false h = clash (sym h)
beq_true false true h = clash (sym h)
beq_true false false h = refl

-- A and B are sizes with the denominators p and q
alike_of : (s t : Bool) (A B p q : ℕ) → 0 < p → 0 < q → level s (A * q) t (B * p) ≡ true → Alike s A t B
alike_of s t A B p q P Q h =
    let same : A * q ≡ B * p = eqb-true (A * q) (B * p) (and_left (eqb (A * q) (B * p)) (beq s t || eqb (A * q) 0) h) in
    go same (or_cases (beq s t) (eqb (A * q) 0) (and_right (eqb (A * q) (B * p)) (beq s t || eqb (A * q) 0) h))
  where
    go : A * q ≡ B * p → (beq s t ≡ true) ⊎ (eqb (A * q) 0 ≡ true) → Alike s A t B
    go same (inl e) = inl (beq_true s t e)
    go same (inr z) = inr (no_product A q Q (eqb-true (A * q) 0 z), no_product B p P (sym same ∙ eqb-true (A * q) 0 z))

-- the sizes once more scaled by r, the denominator of a third number
wider : (s t : Bool) (A B r : ℕ) → Alike s A t B → Alike s (A * r) t (B * r)
wider s t A B r (inl e) = inl e
wider s t A B r (inr z) = inr (ap (λ (n : ℕ). n * r) z.0 ∙ zero-mul r, ap (λ (n : ℕ). n * r) z.1 ∙ zero-mul r)

-- ---- equal numbers compare alike with every third number

-- the numbers by their signs, sizes and denominators: A / p and B / q are equal, and C / r is the third
module _ (s t u : Bool) (A B C p q r : ℕ) (P : 0 < p) (Q : 0 < q) (h : level s (A * q) t (B * p) ≡ true) where
  sizes : A * r * q ≡ B * r * p
  sizes =
      mul_right_comm A r q
      ∙ ap (λ (n : ℕ). n * r) (eqb-true (A * q) (B * p) (and_left (eqb (A * q) (B * p)) (beq s t || eqb (A * q) 0) h))
      ∙ mul_right_comm B p r

  below_third : below s (A * r) u (C * p) ≡ below t (B * r) u (C * q)
  below_third = below_alike (A * r) (C * p) (B * r) (C * q) q p Q P sizes (mul_right_comm C p q) s t u (wider s t A B r (alike_of s t A B p q P Q h))

  level_third : level s (A * r) u (C * p) ≡ level t (B * r) u (C * q)
  level_third = level_alike (A * r) (C * p) (B * r) (C * q) q p Q P sizes (mul_right_comm C p q) s t u (wider s t A B r (alike_of s t A B p q P Q h))

pub lt_alike : (x y z : Float) → eq x y ≡ true → lt x z ≡ lt y z
unfolding lt eq
lt_alike nan y z h = clash (sym h)
lt_alike (inf s) nan z h = clash (sym h)
lt_alike (inf s) (inf t) z h = rw (beq_true s t h)
lt_alike (inf s) (fin t n d) z h = clash (sym h)
lt_alike (fin s m e) nan z h = clash (sym h)
lt_alike (fin s m e) (inf t) z h = clash (sym h)
lt_alike (fin s m e) (fin t n d) nan h = refl
lt_alike (fin s m e) (fin t n d) (inf u) h = refl
lt_alike (fin s m e) (fin t n d) (fin u k g) h = below_third s t u (m * up e) (n * up d) (k * up g) (down e) (down d) (down g) (down_pos e) (down_pos d) h

pub eq_alike : (x y z : Float) → eq x y ≡ true → eq x z ≡ eq y z
unfolding eq
eq_alike nan y z h = clash (sym h)
eq_alike (inf s) nan z h = clash (sym h)
eq_alike (inf s) (inf t) z h = rw (beq_true s t h)
eq_alike (inf s) (fin t n d) z h = clash (sym h)
eq_alike (fin s m e) nan z h = clash (sym h)
eq_alike (fin s m e) (inf t) z h = clash (sym h)
eq_alike (fin s m e) (fin t n d) nan h = refl
eq_alike (fin s m e) (fin t n d) (inf u) h = refl
eq_alike (fin s m e) (fin t n d) (fin u k g) h = level_third s t u (m * up e) (n * up d) (k * up g) (down e) (down d) (down g) (down_pos e) (down_pos d) h

-- ---- the order turned round by the sign

pub lt_flip : (x y : Float) → lt x y ≡ lt (neg y) (neg x)
unfolding lt neg
lt_flip nan nan = refl
lt_flip nan (inf t) = refl
lt_flip nan (fin t n d) = refl
lt_flip (inf true) nan = refl
lt_flip (inf false) nan = refl
lt_flip (inf true) (inf true) = refl
lt_flip (inf true) (inf false) = refl
lt_flip (inf false) (inf true) = refl
lt_flip (inf false) (inf false) = refl
lt_flip (inf true) (fin t n d) = refl
lt_flip (inf false) (fin t n d) = refl
lt_flip (fin s m e) nan = refl
lt_flip (fin s m e) (inf true) = refl
lt_flip (fin s m e) (inf false) = refl
lt_flip (fin false m e) (fin false n d) = refl
lt_flip (fin false m e) (fin true n d) = refl
lt_flip (fin true m e) (fin false n d) = rw (add_comm (m * up e * down d) (n * up d * down e))
lt_flip (fin true m e) (fin true n d) = refl

pub eq_flip : (x y : Float) → eq (neg x) (neg y) ≡ eq x y
unfolding eq neg
eq_flip nan y = refl
eq_flip (inf s) nan = refl
eq_flip (inf true) (inf true) = refl
eq_flip (inf true) (inf false) = refl
eq_flip (inf false) (inf true) = refl
eq_flip (inf false) (inf false) = refl
eq_flip (inf s) (fin t n d) = refl
eq_flip (fin s m e) nan = refl
eq_flip (fin s m e) (inf t) = refl
eq_flip (fin true m e) (fin true n d) = refl
eq_flip (fin true m e) (fin false n d) = refl
eq_flip (fin false m e) (fin true n d) = refl
eq_flip (fin false m e) (fin false n d) = refl

pub lt_alike_right : (x y z : Float) → eq x y ≡ true → lt z x ≡ lt z y
lt_alike_right x y z h = lt_flip z x ∙ lt_alike (neg x) (neg y) (neg z) (eq_flip x y ∙ h) ∙ sym (lt_flip z y)

pub le_alike : (x y z : Float) → eq x y ≡ true → le x z ≡ le y z
unfolding le
le_alike x y z h = rw (lt_alike x y z h, eq_alike x y z h)

pub eq_alike_right : (x y z : Float) → eq x y ≡ true → eq z x ≡ eq z y
eq_alike_right x y z h = eq_sym z x ∙ eq_alike x y z h ∙ eq_sym y z

pub le_alike_right : (x y z : Float) → eq x y ≡ true → le z x ≡ le z y
unfolding le
le_alike_right x y z h = rw (lt_alike_right x y z h, eq_alike_right x y z h)

-- ---- four numbers against four: edges, insets or radii

abbrev pub eq_four : (a b c d a' b' c' d' : Float) → Bool
eq_four a b c d a' b' c' d' = eq a a' && (eq b b' && (eq c c' && eq d d'))

module _ (a b c d : Float) where
  pub four_refl : finite a && finite b && (finite c && finite d) ≡ true → eq_four a b c d a b c d ≡ true
  four_refl f =
      let F = four (finite a) (finite b) (finite c) (finite d) f in
      all_chained
      (record {
        first = eq_refl a (finite_number a F.first);
        second = eq_refl b (finite_number b F.second);
        third = eq_refl c (finite_number c F.third);
        fourth = eq_refl d (finite_number d F.fourth);
      })

  module _ (a' b' c' d' : Float) where
    pub four_sym : eq_four a b c d a' b' c' d' ≡ eq_four a' b' c' d' a b c d
    four_sym = rw (eq_sym a a', eq_sym b b', eq_sym c c', eq_sym d d')

    pub four_alike : eq_four a b c d a' b' c' d' ≡ true → (p q r s : Float) → eq_four a b c d p q r s ≡ eq_four a' b' c' d' p q r s
    four_alike h p q r s =
        let F = four_chained (eq a a') (eq b b') (eq c c') (eq d d') h in
        rw (eq_alike a a' p F.first, eq_alike b b' q F.second, eq_alike c c' r F.third, eq_alike d d' s F.fourth)
