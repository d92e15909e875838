-- A fact of every slot with what is below it and what is above it: how it is read, how it is shown, and through the changes.
use Prim.Native.Nat.{ℕ, ◌≤◌}
use native.Mathlib.Omega.{arith}
use native.Mathlib.Decide.{ℕ_discrete}
use mathlib.Core.Path.{◌≡◌, refl, sym, ap, ◌∙◌}
use mathlib.Core.Bool.{Bool, true, false}
use mathlib.Core.List.{List, [], ◌∷◌}
use Rattle.counting.specs.Times.{times}
use Rattle.counting.proofs.Counting.{hit, miss}
use Rattle.link_forest.specs.Forest.{Forest, none, tree, cat, has, Distinct, under, remove, Spot, spot, kids, above}
use Rattle.link_forest.proofs.Bools.{never, either_left}
use Rattle.link_forest.proofs.Clauses.{has_top, has_low, has_late, Stands, here, down, right, stands, under_here, under_down, under_right, under_absent, remove_here, remove_down, remove_right, remove_absent, spot_here, spot_down, spot_right}
use Rattle.link_forest.proofs.Counting.{once_below, once_beside, not_below, not_beside, beside_not_below, has_cat, has_under}

-- P holds of each slot with what is below it and what is above it, where l stands above the roots
abbrev pub Holds : (ℕ → Forest → List ℕ → Type 0) → List ℕ → Forest → Type 0
Holds P l none = Unit {0}
Holds P l (tree y c s) = P y c l × Holds P (y ∷ l) c × Holds P l s

-- ---- read at one slot
module _ (P : ℕ → Forest → List ℕ → Type 0) (x : ℕ) where
  part_stands : (l : List ℕ) {f : Forest} → Stands x f → Holds P l f → P x (spot x l f).kids (spot x l f).above × Holds P (x ∷ (spot x l f).above) (spot x l f).kids
  part_stands l (here {c = c} {s = s}) H = rw (spot_here x l c s) (H.0, H.1)
  part_stands l (down {y = y} {c = c} {s = s} e h S) H = rw (spot_down x l y c s e h) (part_stands (y ∷ l) S H.1)
  part_stands l (right {y = y} {c = c} {s = s} e h S) H = rw (spot_right x l y c s e h) (part_stands l S H.2)

  -- of x, and of all that is below it
  pub holds_part : (l : List ℕ) (f : Forest) → has x f ≡ true → Holds P l f → P x (spot x l f).kids (spot x l f).above × Holds P (x ∷ (spot x l f).above) (spot x l f).kids
  holds_part l f h H = part_stands l (stands x f h) H

  pub holds_at : (l : List ℕ) (f : Forest) → has x f ≡ true → Holds P l f → P x (spot x l f).kids (spot x l f).above
  holds_at l f h H = (holds_part l f h H).0

-- ---- shown of all, from each slot
pub holds_all : (P : ℕ → Forest → List ℕ → Type 0) (l : List ℕ) (f : Forest) → Distinct f → ((x : ℕ) → has x f ≡ true → P x (spot x l f).kids (spot x l f).above) → Holds P l f
holds_all P l none o a = tt
holds_all P l (tree y c s) o a = (
  rw (spot_here y l c s) at (a y (has_top y c s)),
  holds_all P (y ∷ l) c (once_below y c s o) (λ x h. rw (spot_down x l y c s (not_below y c s o x h) h) at (a x (has_low x y c s h))),
  holds_all P l s (once_beside y c s o) (λ x h. rw (spot_right x l y c s (not_beside y c s o x h) (beside_not_below y c s o x h)) at (a x (has_late x y c s h))),
)

-- ---- one fact from another, where the slot is known to be in the forest; the second of all slots at once
module _ (P Q : ℕ → Forest → List ℕ → Type 0) where
  pub holds_map_in : (l : List ℕ) (f : Forest) → ((y : ℕ) (c : Forest) (k : List ℕ) → has y f ≡ true → P y c k → Q y c k) → Holds P l f → Holds Q l f
  holds_map_in l none g H = tt
  holds_map_in l (tree y c s) g H = (
    g y c l (has_top y c s) H.0,
    holds_map_in (y ∷ l) c (λ z d k h. g z d k (has_low z y c s h)) H.1,
    holds_map_in l s (λ z d k h. g z d k (has_late z y c s h)) H.2,
  )

  pub holds_map : (l : List ℕ) (f : Forest) → ((y : ℕ) (c : Forest) (k : List ℕ) → P y c k → Q y c k) → Holds P l f → Holds Q l f
  holds_map l f g H = holds_map_in l f (λ y c k h. g y c k) H

-- ---- every slot is found where it stands
abbrev pub Found : Forest → ℕ → Forest → List ℕ → Type 0
Found f y c l = (has y f ≡ true) × (kids y f ≡ c) × (above y f ≡ l)

pub found : (f : Forest) → Distinct f → Holds (Found f) [] f
found f o = holds_all (Found f) [] f o (λ x h. (h, refl, refl))

-- ---- a fact of the parent, where there is one
abbrev pub Parent : (ℕ → List ℕ → Type 0) → List ℕ → Type 0
Parent Q [] = Unit {0}
Parent Q (q ∷ qs) = Q q qs

pub holds_up : (Q : ℕ → List ℕ → Type 0) (l : List ℕ) (f : Forest) → Parent Q l → Holds (λ y c k. Q y k) l f → Holds (λ y c k. Parent Q k) l f
holds_up Q l none u H = tt
holds_up Q l (tree y c s) u H = (u, holds_up Q (y ∷ l) c H.0 H.1, holds_up Q l s u H.2)

abbrev pub Above : Forest → ℕ → List ℕ → Type 0
Above f q qs = (has q f ≡ true) × (above q f ≡ qs)

-- the parent of a slot is in the forest, and above it stands the rest
pub parent_above : (f : Forest) → Distinct f → (x : ℕ) → has x f ≡ true → Parent (Above f) (above x f)
parent_above f o x h =
    holds_at (λ y c k. Parent (Above f) k) x [] f h
    (holds_up (Above f) [] f tt (holds_map (Found f) (λ y c k. Above f y k) [] f (λ y c l H. (H.0, H.2)) (found f o)))

-- ---- facts that do not speak of what is below, through the changes
abbrev pub Each : (ℕ → List ℕ → Type 0) → List ℕ → Forest → Type 0
Each P l f = Holds (λ y c k. P y k) l f

module _ (P : ℕ → List ℕ → Type 0) where
  pub each_cat : (l : List ℕ) (f t : Forest) → Each P l f → Each P l t → Each P l (cat f t)
  unfolding cat
  each_cat l none t H K = K
  each_cat l (tree y c s) t H K = (H.0, H.1, each_cat l s t H.2 K)

  under_stands : (p : ℕ) (t : Forest) (l : List ℕ) {f : Forest} → Stands p f → Each P (p ∷ (spot p l f).above) t → Each P l f → Each P l (under p t f)
  under_stands p t l (here {c = c} {s = s}) K H = rw (under_here p t c s) (H.0, each_cat (p ∷ l) c t H.1 (rw (spot_here p l c s) at K), H.2)
  under_stands p t l (down {y = y} {c = c} {s = s} e h S) K H =
      rw (under_down p t y c s e h) (H.0, under_stands p t (y ∷ l) S (rw (spot_down p l y c s e h) at K) H.1, H.2)
  under_stands p t l (right {y = y} {c = c} {s = s} e h S) K H =
      rw (under_right p t y c s e h) (H.0, H.1, under_stands p t l S (rw (spot_right p l y c s e h) at K) H.2)

  -- of t, with p above it
  pub each_under : (p : ℕ) (t : Forest) (l : List ℕ) (f : Forest) → (has p f ≡ true → Each P (p ∷ (spot p l f).above) t) → Each P l f → Each P l (under p t f)
  each_under p t l f K H = go (has p f) refl
    where
      go : (b : Bool) → has p f ≡ b → Each P l (under p t f)
      go true h = under_stands p t l (stands p f h) (K h) H
      go false n = rw (under_absent p t f n) H

  remove_stands : (p : ℕ) (l : List ℕ) {f : Forest} → Stands p f → Each P l f → Each P l (remove p f)
  remove_stands p l (here {c = c} {s = s}) H = rw (remove_here p c s) H.2
  remove_stands p l (down {y = y} {c = c} {s = s} e h S) H = rw (remove_down p y c s e h) (H.0, remove_stands p (y ∷ l) S H.1, H.2)
  remove_stands p l (right {y = y} {c = c} {s = s} e h S) H = rw (remove_right p y c s e h) (H.0, H.1, remove_stands p l S H.2)

  pub each_remove : (p : ℕ) (l : List ℕ) (f : Forest) → Each P l f → Each P l (remove p f)
  each_remove p l f H = go (has p f) refl
    where
      go : (b : Bool) → has p f ≡ b → Each P l (remove p f)
      go true h = remove_stands p l (stands p f h) H
      go false n = rw (remove_absent p f n) H

-- ---- what is above a node stays where it is not moved
pub each_in : (P : ℕ → List ℕ → Type 0) (l : List ℕ) (f : Forest) → ((y : ℕ) (k : List ℕ) → has y f ≡ true → P y k) → Each P l f
each_in P l none g = tt
each_in P l (tree y c s) g = (
  g y l (has_top y c s),
  each_in P (y ∷ l) c (λ z k h. g z k (has_low z y c s h)),
  each_in P l s (λ z k h. g z k (has_late z y c s h)),
)

module _ (f : Forest) (o : Distinct f) where
  abbrev Kept : ℕ → List ℕ → Type 0
  Kept y k = has y f ≡ true → above y f ≡ k

  kept : Each Kept [] f
  kept = holds_map (Found f) (λ y c k. Kept y k) [] f (λ y c k F h. F.2) (found f o)

  kept_at : (x : ℕ) (g : Forest) → Each Kept [] g → has x g ≡ true → has x f ≡ true → above x g ≡ above x f
  kept_at x g H h k = sym (holds_at (λ y c k. Kept y k) x [] g h H k)

  pub above_remove : (p x : ℕ) → has x (remove p f) ≡ true → has x f ≡ true → above x (remove p f) ≡ above x f
  above_remove p x h = kept_at x (remove p f) (each_remove Kept p [] f kept) h

  module _ (t : Forest) (apart : (y : ℕ) → has y t ≡ true → has y f ≡ false) (x : ℕ) (h : has x f ≡ true) where
    new : (l : List ℕ) → Each Kept l t
    new l = each_in Kept l t (λ y k g u. never u (apart y g))

    pub above_cat : above x (cat f t) ≡ above x f
    above_cat = kept_at x (cat f t) (each_cat Kept [] f t kept (new [])) (has_cat x f t ∙ either_left (has x f) (has x t) h) h

    pub above_under : (p : ℕ) → has p f ≡ true → above x (under p t f) ≡ above x f
    above_under p u =
        kept_at x (under p t f) (each_under Kept p t [] f (λ k. new (p ∷ above p f)) kept) (has_under x p t f u ∙ either_left (has x f) (has x t) h) h

-- ---- p's own spot when trees are put under it: they are its last children
spot_stands : (p : ℕ) (l : List ℕ) (t : Forest) {f : Forest} → Stands p f → spot p l (under p t f) ≡ record { kids = cat (spot p l f).kids t; above = (spot p l f).above }
spot_stands p l t (here {c = c} {s = s}) = rw (under_here p t c s, spot_here p l (cat c t) s, spot_here p l c s)
spot_stands p l t (down {y = y} {c = c} {s = s} e h S) =
    let g : has p (under p t c) ≡ true = has_under p p t c h ∙ either_left (has p c) (has p t) h in
    rw (under_down p t y c s e h, spot_down p l y (under p t c) s e g, spot_down p l y c s e h) (spot_stands p (y ∷ l) t S)
spot_stands p l t (right {y = y} {c = c} {s = s} e h S) =
    rw (under_right p t y c s e h, spot_right p l y c (under p t s) e h, spot_right p l y c s e h) (spot_stands p l t S)

pub kids_under : (p : ℕ) (t f : Forest) → has p f ≡ true → kids p (under p t f) ≡ cat (kids p f) t
kids_under p t f h = ap (λ (w : Spot). w.kids) (spot_stands p [] t (stands p f h))

-- ---- above and below: q is above p exactly where p is below q
more_above : (q p : ℕ) (l : List ℕ) {f : Forest} → Stands p f → times q l ≤ times q (spot p l f).above
unfolding times
more_above q p l (here {c = c} {s = s}) = rw (spot_here p l c s) (omega arith)
more_above q p l (down {y = y} {c = c} {s = s} e h S) = rw (spot_down p l y c s e h) (omega (arith, more_above q p (y ∷ l) S))
more_above q p l (right {y = y} {c = c} {s = s} e h S) = rw (spot_right p l y c s e h) (more_above q p l S)

module _ (f : Forest) (o : Distinct f) where
  -- what is above p: what is above it below q, then q and what is above q
  pub above_inside : (p q : ℕ) → has q f ≡ true → has p (kids q f) ≡ true → above p f ≡ (spot p (q ∷ above q f) (kids q f)).above
  above_inside p q h g = (holds_at (Found f) p (q ∷ above q f) (kids q f) g (holds_part (Found f) q [] f h (found f o)).1).2

  pub below_above : (p q : ℕ) → has q f ≡ true → has p (kids q f) ≡ true → 1 ≤ times q (above p f)
  unfolding times
  below_above p q h g =
      rw (above_inside p q h g) (omega (arith, more_above q p (q ∷ above q f) (stands p (kids q f) g), hit q))

  abbrev Lower : ℕ → List ℕ → Type 0
  Lower y k = (q : ℕ) → 1 ≤ times q k → has y (kids q f) ≡ true

  each_lower : (l : List ℕ) (g : Forest) → Holds (Found f) l g → ((q : ℕ) → 1 ≤ times q l → (x : ℕ) → has x g ≡ true → has x (kids q f) ≡ true) → Each Lower l g
  unfolding times
  each_lower l none H U = tt
  each_lower l (tree y c s) H U = (
    λ q n. U q n y (has_top y c s),
    each_lower (y ∷ l) c H.1 (λ q n x h. elim (ℕ_discrete q y) [ yes e ↦ rw (e, H.0.1) h | no m ↦ U q (omega (arith, miss q y m)) x (has_low x y c s h) ]),
    each_lower l s H.2 (λ q n x h. U q n x (has_late x y c s h)),
  )

  pub above_below : (p q : ℕ) → has p f ≡ true → 1 ≤ times q (above p f) → has p (kids q f) ≡ true
  unfolding times
  above_below p q h n = holds_at (λ y c k. Lower y k) p [] f h (each_lower [] f (found f o) (λ q m x g. absurd (omega arith))) q n
