-- A turn of each loop, as a law of lists; what the test of the shape tells of a depth.
use mathlib.Core.Path.{◌≡◌, refl, sym, ap, ◌∙◌}
use mathlib.Core.Bool.{Bool, true, false, ◌&&◌, and-eq-true_iff}
use mathlib.Core.List.{List, [], ◌∷◌, reverse, reverse-append}
use Prim.Native.Nat.{ℕ, zero, suc, ◌+◌, ◌-◌, ◌≤◌, ◌<◌}
use native.Mathlib.Numerals.{add-one}
use native.Mathlib.Omega.{arith}
use native.Mathlib.Decide.{dec_lt}
use borrow.Author.Tests.{le-leb, lt-leb, leb-true, lt-ltb, le-ltb}
use lib.Dec.{leb}
use lib.ListN.{length, take, drop, get_or}
use lib.Seq.{slice-cons, slice_empty, take-suc}
use Rattle.std.specs.Prelude.{Option, None, Some}
use Rattle.link_forest.specs.Table.{less_deep, nearest, depths_from}

-- ---- parent_at
module _ (k j : ℕ) (xs ds : List ℕ) (pos : 0 < j) (lx : j ≤ length xs) (ld : j ≤ length ds) where
  turned : (l : List ℕ) → j ≤ length l → reverse (take j l) ≡ get_or l (j - 1) 0 ∷ reverse (take (j - 1) l)
  turned l h =
      let w : j ≡ suc (j - 1) = omega arith in
      ap (λ (m : ℕ). reverse (take m l)) w ∙ ap reverse (take-suc l (j - 1) 0 (omega arith)) ∙ reverse-append (take (j - 1) l) (get_or l (j - 1) 0 ∷ [])

  pub above_stop : get_or ds (j - 1) 0 < k → nearest (less_deep k (reverse (take j xs)) (reverse (take j ds))) ≡ Some (get_or xs (j - 1) 0)
  unfolding less_deep
  above_stop h = rw (turned xs lx, turned ds ld, less_deep, lt-ltb (get_or ds (j - 1) 0) k h) refl

  pub above_on : k ≤ get_or ds (j - 1) 0 → less_deep k (reverse (take j xs)) (reverse (take j ds)) ≡ less_deep k (reverse (take (j - 1) xs)) (reverse (take (j - 1) ds))
  unfolding less_deep
  above_on h = rw (turned xs lx, turned ds ld, less_deep, le-ltb (get_or ds (j - 1) 0) k h)

pub above_none : (k j : ℕ) (xs ds : List ℕ) → j ≤ 0 → nearest (less_deep k (reverse (take j xs)) (reverse (take j ds))) ≡ None
unfolding less_deep
above_none k j xs ds h = let z : j ≡ 0 = omega arith in rw z refl

low_some : (p q : ℕ) → Some p ≡ Some q → p < 256 → q < 256
low_some p q e h = let f : p ≡ q = grind (arith, e) in omega arith

no_some : (q : ℕ) → ◌≡◌ {A = Option ℕ} None (Some q) → ⊥
no_some q e = grind (arith, e)

-- the slot above is one of those before
pub parent_low : (k j q : ℕ) (xs ds : List ℕ) → j ≤ length xs → j ≤ length ds → ((m : ℕ) → m < j → get_or xs m 0 < 256)
    → nearest (less_deep k (reverse (take j xs)) (reverse (take j ds))) ≡ Some q → q < 256
parent_low k zero q xs ds lx ld low h = absurd (no_some q (sym (above_none k 0 xs ds (omega arith)) ∙ h))
parent_low k (suc j) q xs ds lx ld low h =
    let e : suc j - 1 ≡ j = omega arith in
    elim (dec_lt (get_or ds j 0) k) [
      | yes l ↦ low_some (get_or xs j 0) q (sym (rw e at (above_stop k (suc j) xs ds (omega arith) lx ld (rw e l))) ∙ h) (low j (omega arith))
      | no g ↦
          let on = rw e at (above_on k (suc j) xs ds (omega arith) lx ld (rw e (omega arith))) in
          parent_low k j q xs ds (omega arith) (omega arith) (λ m l. low m (omega arith)) (sym (ap nearest on) ∙ h)
    ]

-- ---- depths_ok
shape_cons : (b d : ℕ) (ds : List ℕ) (s j : Bool) → leb 1 d ≡ s → leb d (suc b) ≡ j → depths_from b (d ∷ ds) ≡ (s && j && depths_from d ds)
unfolding depths_from
shape_cons b d ds s j u v = rw (depths_from, u, v)

module _ (b n i : ℕ) (ds : List ℕ) (fits : n ≤ length ds) (h : i < n) where
  open_shape : depths_from b (drop i (take n ds)) ≡ depths_from b (get_or ds i 0 ∷ drop (i + 1) (take n ds))
  open_shape = rw (add-one, slice-cons i n ds 0 h fits)

  pub shape_zero : get_or ds i 0 < 1 → depths_from b (drop i (take n ds)) ≡ false
  shape_zero k = open_shape ∙ shape_cons b (get_or ds i 0) (drop (i + 1) (take n ds)) false (leb (get_or ds i 0) (suc b)) (lt-leb 1 (get_or ds i 0) k) refl

  pub shape_jump : 1 ≤ get_or ds i 0 → b + 1 < get_or ds i 0 → depths_from b (drop i (take n ds)) ≡ false
  shape_jump k j =
      open_shape ∙ shape_cons b (get_or ds i 0) (drop (i + 1) (take n ds)) true false (le-leb 1 (get_or ds i 0) k) (lt-leb (get_or ds i 0) (suc b) (omega arith))

  pub shape_on : 1 ≤ get_or ds i 0 → get_or ds i 0 ≤ b + 1 → depths_from b (drop i (take n ds)) ≡ depths_from (get_or ds i 0) (drop (i + 1) (take n ds))
  shape_on k j =
      open_shape ∙ shape_cons b (get_or ds i 0) (drop (i + 1) (take n ds)) true true (le-leb 1 (get_or ds i 0) k) (le-leb (get_or ds i 0) (suc b) (omega arith))

pub shape_end : (b n : ℕ) (ds : List ℕ) → depths_from b (drop n (take n ds)) ≡ true
unfolding depths_from
shape_end b n ds = rw (slice_empty n ds)

-- what the test tells of each depth
shape_first : (b d : ℕ) (ds : List ℕ) → depths_from b (d ∷ ds) ≡ true → (d ≤ suc b) × (depths_from d ds ≡ true)
unfolding depths_from
shape_first b d ds h =
    let p = (and-eq-true_iff (leb 1 d && leb d (suc b)) (depths_from d ds)).0 h in
    (leb-true d (suc b) ((and-eq-true_iff (leb 1 d) (leb d (suc b))).0 p.0).1, p.1)

pub depth_small : (b : ℕ) (ds : List ℕ) → depths_from b ds ≡ true → (j : ℕ) → get_or ds j 0 ≤ b + (j + 1)
depth_small b [] h j = omega arith
depth_small b (d ∷ ds) h zero = omega (arith, shape_first b d ds h)
depth_small b (d ∷ ds) h (suc j) = omega (arith, shape_first b d ds h, depth_small d ds (shape_first b d ds h).1 j)

-- the first node is a root
root_alone : (d : ℕ) (ds : List ℕ) → depths_from 0 (d ∷ ds) ≡ true → d ≡ 1
unfolding depths_from
root_alone d ds h =
    let p = (and-eq-true_iff (leb 1 d && leb d (suc 0)) (depths_from d ds)).0 h in
    let q = (and-eq-true_iff (leb 1 d) (leb d (suc 0))).0 p.0 in
    omega (arith, leb-true 1 d q.0, leb-true d (suc 0) q.1)

pub root_first : (n : ℕ) (ds : List ℕ) → depths_from 0 (take n ds) ≡ true → 0 < n → n ≤ length ds → get_or ds 0 0 ≡ 1
root_first zero ds h k l = absurd (omega arith)
root_first (suc n) [] h k l = absurd (omega arith)
root_first (suc n) (d ∷ ds) h k l = root_alone d (take n ds) h
