-- The clauses of the forest's functions as equations, by where a slot stands; and where it does not stand, nothing happens.
use Prim.Native.Nat.{ℕ}
use mathlib.Core.Path.{◌≡◌, refl, ap}
use mathlib.Core.Bool.{Bool, true, false}
use mathlib.Core.List.{List, ◌∷◌}
use lib.Dec.{eqb}
use borrow.Author.Tests.{eqb-true}
use Rattle.link_forest.specs.Forest.{Forest, none, tree, either, has, cat, under, remove, spot}
use Rattle.link_forest.proofs.Bools.{never, neither, other, either_left, either_right, same_slot}

-- ---- has
pub has_top : (y : ℕ) (c s : Forest) → has y (tree y c s) ≡ true
unfolding has
has_top y c s = rw (same_slot y)

pub has_low : (x y : ℕ) (c s : Forest) → has x c ≡ true → has x (tree y c s) ≡ true
unfolding has
has_low x y c s h = either_right (eqb y x) (either (has x c) (has x s)) (either_left (has x c) (has x s) h)

pub has_late : (x y : ℕ) (c s : Forest) → has x s ≡ true → has x (tree y c s) ≡ true
unfolding has
has_late x y c s h = either_right (eqb y x) (either (has x c) (has x s)) (either_right (has x c) (has x s) h)

pub has_rest : (x y : ℕ) (c s : Forest) → has x (tree y c s) ≡ true → eqb y x ≡ false → has x c ≡ false → has x s ≡ true
unfolding has
has_rest x y c s h e n = other (has x c) (has x s) (other (eqb y x) (either (has x c) (has x s)) h e) n

pub lacks : (x y : ℕ) (c s : Forest) → has x (tree y c s) ≡ false → (eqb y x ≡ false) × (has x c ≡ false) × (has x s ≡ false)
unfolding has
lacks x y c s h =
    let n = neither (eqb y x) (either (has x c) (has x s)) h in
    let m = neither (has x c) (has x s) n.1 in
    (n.0, m.0, m.1)

pub has_nothing : {A : Type 0} (x : ℕ) → has x none ≡ true → A
unfolding has
has_nothing x h = never h refl

-- ---- where the first p in pre-order stands: what the functions go by, and what proofs go by cases on
pub data Stands (p : ℕ) : Forest → Type 0 where
  here : {c s : Forest} → Stands p (tree p c s)
  down : {y : ℕ} {c s : Forest} → eqb y p ≡ false → has p c ≡ true → Stands p c → Stands p (tree y c s)
  right : {y : ℕ} {c s : Forest} → eqb y p ≡ false → has p c ≡ false → Stands p s → Stands p (tree y c s)

pub stands : (p : ℕ) (f : Forest) → has p f ≡ true → Stands p f
stands p none h = has_nothing p h
stands p (tree y c s) h = go (eqb y p) refl (has p c) refl (stands p c) (stands p s)
  where
    go : (a : Bool) → eqb y p ≡ a → (b : Bool) → has p c ≡ b → (has p c ≡ true → Stands p c) → (has p s ≡ true → Stands p s) → Stands p (tree y c s)
    go true e b g u v = rw (eqb-true y p e) here
    go false e true g u v = down e g (u g)
    go false e false g u v = right e g (v (has_rest p y c s h e g))

-- ---- under
module _ (p : ℕ) (t : Forest) where
  pub under_here : (c s : Forest) → under p t (tree p c s) ≡ tree p (cat c t) s
  unfolding under
  under_here c s = rw (under, same_slot p)

  pub under_down : (y : ℕ) (c s : Forest) → eqb y p ≡ false → has p c ≡ true → under p t (tree y c s) ≡ tree y (under p t c) s
  unfolding under
  under_down y c s e h = rw (under, e, h)

  pub under_right : (y : ℕ) (c s : Forest) → eqb y p ≡ false → has p c ≡ false → under p t (tree y c s) ≡ tree y c (under p t s)
  unfolding under
  under_right y c s e h = rw (under, e, h)

  pub under_absent : (f : Forest) → has p f ≡ false → under p t f ≡ f
  unfolding under
  under_absent none h = refl
  under_absent (tree y c s) h =
      let n = lacks p y c s h in
      rw (under, n.0, n.1) (ap (tree y c) (under_absent s n.2))

-- ---- remove
module _ (p : ℕ) where
  pub remove_here : (c s : Forest) → remove p (tree p c s) ≡ s
  unfolding remove
  remove_here c s = rw (remove, same_slot p)

  pub remove_down : (y : ℕ) (c s : Forest) → eqb y p ≡ false → has p c ≡ true → remove p (tree y c s) ≡ tree y (remove p c) s
  unfolding remove
  remove_down y c s e h = rw (remove, e, h)

  pub remove_right : (y : ℕ) (c s : Forest) → eqb y p ≡ false → has p c ≡ false → remove p (tree y c s) ≡ tree y c (remove p s)
  unfolding remove
  remove_right y c s e h = rw (remove, e, h)

  pub remove_absent : (f : Forest) → has p f ≡ false → remove p f ≡ f
  unfolding remove
  remove_absent none h = refl
  remove_absent (tree y c s) h =
      let n = lacks p y c s h in
      rw (remove, n.0, n.1) (ap (tree y c) (remove_absent s n.2))

-- ---- spot
module _ (p : ℕ) (l : List ℕ) where
  pub spot_here : (c s : Forest) → spot p l (tree p c s) ≡ record { kids = c; above = l }
  unfolding spot
  spot_here c s = rw (spot, same_slot p)

  pub spot_down : (y : ℕ) (c s : Forest) → eqb y p ≡ false → has p c ≡ true → spot p l (tree y c s) ≡ spot p (y ∷ l) c
  unfolding spot
  spot_down y c s e h = rw (spot, e, h)

  pub spot_right : (y : ℕ) (c s : Forest) → eqb y p ≡ false → has p c ≡ false → spot p l (tree y c s) ≡ spot p l s
  unfolding spot
  spot_right y c s e h = rw (spot, e, h)

  pub spot_absent : (f : Forest) → has p f ≡ false → spot p l f ≡ record { kids = none; above = l }
  unfolding spot
  spot_absent none h = refl
  spot_absent (tree y c s) h =
      let n = lacks p y c s h in
      rw (spot, n.0, n.1) (spot_absent s n.2)
