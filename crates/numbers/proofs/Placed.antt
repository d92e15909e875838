-- The lower and the higher of two numbers, and a radius fitted under a cap: both are idempotent to the bit, for every f64, and keep
-- finite values finite.
use mathlib.Core.Path.{◌≡◌, refl, sym, ap, ◌∙◌}
use mathlib.Core.Logic.{◌⊎◌, inl, inr}
use mathlib.Core.Bool.{Bool, true, false, cond}
use Prim.Native.Nat.{ℕ, ◌*◌}
use native.Mathlib.Nat.{zero-mul}
use native.Mathlib.Omega.{arith}
use borrow.Author.Tests.{ltb-true, le-ltb}
use lib.Ieee.{Float, nan, inf, fin, up, down, below, is_nan, lt, le}
use lib.Ieee.Scale.{finite}
use Rattle.numbers.specs.Rounded as const
use Rattle.numbers.specs.Rounded.{◌⊖◌}
use Rattle.numbers.specs.Number.{minimum, maximum, magnitude}
use Rattle.numbers.proofs.Bools.{clash, split}
use Rattle.numbers.proofs.Numbers.{lt_numbers, min_other, min_second, min_first, max_other, max_second, max_first}
use Rattle.numbers.proofs.Order.{finite_number, lt_le, le_self}
use Rattle.numbers.proofs.Signs.{clear_more, clear_same}

-- ---- the order of two numbers

below_asym : (s t : Bool) (a b : ℕ) → below s a t b ≡ true → below t b s a ≡ false
below_asym false false a b h = le-ltb b a (omega (arith, ltb-true a b h))
below_asym false true a b h = clash (sym h)
below_asym true false a b h = refl
below_asym true true a b h = le-ltb a b (omega (arith, ltb-true b a h))

pub lt_asym : (x y : Float) → lt x y ≡ true → lt y x ≡ false
unfolding lt
lt_asym nan y h = clash (sym h)
lt_asym (inf s) nan h = clash (sym h)
lt_asym (inf true) (inf true) h = refl
lt_asym (inf true) (inf false) h = refl
lt_asym (inf false) (inf t) h = clash (sym h)
lt_asym (inf true) (fin t n d) h = refl
lt_asym (inf false) (fin t n d) h = clash (sym h)
lt_asym (fin s m e) nan h = clash (sym h)
lt_asym (fin s m e) (inf true) h = clash (sym h)
lt_asym (fin s m e) (inf false) h = refl
lt_asym (fin s m e) (fin t n d) h = below_asym s t (m * up e * down d) (n * up d * down e) h

-- ---- the lower and the higher of two: they are the two in order, or one of them twice

pub data Placed (x y : Float) : Float → Float → Type 0 where
  rising : lt x y ≡ true → Placed x y x y
  falling : lt y x ≡ true → Placed x y y x
  first : Placed x y x x
  second : Placed x y y y

pub placed : (x y : Float) → Placed x y (minimum x y) (maximum x y)
placed x y =
    split (is_nan x) (λ (n : is_nan x ≡ true). rw (min_other x y n, max_other x y n) second)
    (λ (n : is_nan x ≡ false).
    split (lt x y) (λ (h : lt x y ≡ true). rw (min_first x y n (lt_asym x y h), max_second x y h) (rising h))
    (λ (h : lt x y ≡ false).
    split (lt y x) (λ (k : lt y x ≡ true). rw (min_second x y k, max_first x y n h) (falling k))
    (λ (k : lt y x ≡ false). rw (min_first x y n k, max_first x y n h) first)))

either : (b : Bool) (x : Float) → cond b x x ≡ x
either true x = refl
either false x = refl

pub min_self : (x : Float) → minimum x x ≡ x
unfolding minimum
min_self x = rw (minimum, either (lt x x) x, either (is_nan x) x, either (is_nan x) x)

pub max_self : (x : Float) → maximum x x ≡ x
unfolding maximum
max_self x = rw (maximum, either (lt x x) x, either (is_nan x) x, either (is_nan x) x)

module _ {x y : Float} where
  -- ordering again changes nothing
  pub placed_again : {lo hi : Float} → Placed x y lo hi → (minimum lo hi ≡ lo) × (maximum lo hi ≡ hi)
  placed_again (rising h) = (min_first x y (lt_numbers x y h).0 (lt_asym x y h), max_second x y h)
  placed_again (falling h) = (min_first y x (lt_numbers y x h).0 (lt_asym y x h), max_second y x h)
  placed_again first = (min_self x, max_self x)
  placed_again second = (min_self y, max_self y)

  -- the side from the lower to the higher has its sign clear
  pub placed_clear : {lo hi : Float} → Placed x y lo hi → magnitude (hi ⊖ lo) ≡ hi ⊖ lo
  placed_clear (rising h) = clear_more x y h
  placed_clear (falling h) = clear_more y x h
  placed_clear first = clear_same x
  placed_clear second = clear_same y

  -- of numbers, the lower is at most the higher
  pub placed_le : {lo hi : Float} → is_nan x ≡ false → is_nan y ≡ false → Placed x y lo hi → le lo hi ≡ true
  placed_le X Y (rising h) = lt_le x y h
  placed_le X Y (falling h) = lt_le y x h
  placed_le X Y first = le_self x X
  placed_le X Y second = le_self y Y

  pub placed_finite : {lo hi : Float} → finite x ≡ true → finite y ≡ true → Placed x y lo hi → (finite lo ≡ true) × (finite hi ≡ true)
  placed_finite X Y (rising h) = (X, Y)
  placed_finite X Y (falling h) = (Y, X)
  placed_finite X Y first = (X, X)
  placed_finite X Y second = (Y, Y)

-- ---- absolute values

pub magnitude_again : (x : Float) → magnitude (magnitude x) ≡ magnitude x
unfolding magnitude
magnitude_again nan = refl
magnitude_again (inf s) = refl
magnitude_again (fin s m e) = refl

pub magnitude_finite : (x : Float) → finite (magnitude x) ≡ finite x
unfolding magnitude
magnitude_finite nan = refl
magnitude_finite (inf s) = refl
magnitude_finite (fin s m e) = refl

pub magnitude_high : (x : Float) → lt (magnitude x) const.zero ≡ false
unfolding magnitude lt
magnitude_high nan = refl
magnitude_high (inf s) = refl
magnitude_high (fin s m e) = le-ltb (m * up e * 1) (0 * down e) (omega (arith, zero-mul (down e)))

-- ---- a radius made non-negative and capped, by a cap whose sign is clear

abbrev pub fit : Float → Float → Float
fit g x = minimum (magnitude x) g

min_either : (x y : Float) → (minimum x y ≡ x) ⊎ (minimum x y ≡ y)
min_either x y = go (placed x y)
  where
    go : {lo hi : Float} → Placed x y lo hi → (lo ≡ x) ⊎ (lo ≡ y)
    go (rising h) = inl refl
    go (falling h) = inr refl
    go first = inl refl
    go second = inr refl

-- a cap below a finite absolute value is finite, since it is not below 0
under : (g x : Float) → magnitude g ≡ g → finite x ≡ true → lt g (magnitude x) ≡ true → finite g ≡ true
unfolding lt magnitude
under nan x G f h = clash (sym h)
under (inf true) x G f h = clash (sym (signs G))
  where
    signs : inf false ≡ inf true → false ≡ true
    signs e = cc
under (inf false) nan G f h = clash (sym f)
under (inf false) (inf s) G f h = clash (sym f)
under (inf false) (fin s m e) G f h = clash (sym h)
under (fin s m e) x G f h = refl

module _ (g : Float) (G : magnitude g ≡ g) where
  pub fit_again : (x : Float) → fit g (fit g x) ≡ fit g x
  fit_again x = go (min_either (magnitude x) g)
    where
      go : (fit g x ≡ magnitude x) ⊎ (fit g x ≡ g) → fit g (fit g x) ≡ fit g x
      go (inl e) = ap (fit g) e ∙ rw (magnitude_again x)
      go (inr e) = rw (e, G) (min_self g)

  pub fit_finite : (x : Float) → finite x ≡ true → finite (fit g x) ≡ true
  fit_finite x f =
      split (lt g (magnitude x)) (λ (h : lt g (magnitude x) ≡ true). rw (min_second (magnitude x) g h) (under g x G f h))
      (λ (h : lt g (magnitude x) ≡ false). rw (min_first (magnitude x) g (finite_number (magnitude x) (magnitude_finite x ∙ f)) h) (magnitude_finite x ∙ f))

  pub fit_zero : fit g const.zero ≡ const.zero
  unfolding magnitude is_nan
  fit_zero = min_first const.zero g refl (rw G at (magnitude_high g))

pub min_clear : {x y : Float} → magnitude x ≡ x → magnitude y ≡ y → magnitude (minimum x y) ≡ minimum x y
min_clear {x} {y} X Y = go (placed x y)
  where
    go : {lo hi : Float} → Placed x y lo hi → magnitude lo ≡ lo
    go (rising h) = X
    go (falling h) = Y
    go first = X
    go second = Y
