-- A forest with trees put last under a parent, or last of the roots: who is in it, and what is above a node of it.
use Rattle.index_types.specs.declared.NodeId.{NodeId}
use Rattle.std.specs.Prelude.{None, Some, Option}
use mathlib.Core.Path.{◌≡◌, refl, sym, ◌∙◌}
use mathlib.Core.Bool.{Bool, true, false}
use mathlib.Core.List.{List, [], ◌∷◌}
use Prim.Native.Nat.{ℕ, ◌≤◌}
use native.Mathlib.Omega.{arith}
use borrow.Author.Tests.{eqb-true}
use lib.Dec.{eqb}
use Rattle.counting.specs.Times.{times}
use Rattle.counting.proofs.Counting.{hit}
use Rattle.link_forest.specs.Forest.{Forest, none, tree, leaf, either, has, Distinct, cat, under, remove, kids, above, part}
use Rattle.link_forest.proofs.Bools.{never, same_slot}
use Rattle.link_forest.proofs.Clauses.{has_low}
use Rattle.link_forest.proofs.Counting.{has_cat, has_under, has_parts, once_part, once_remove, not_below, remove_has, remove_lacks}
use Rattle.link_forest.proofs.Holds.{Each, holds_at, each_cat, each_under, above_cat, above_under, above_remove, each_in}
use Rattle.plan.specs.Plan.{onto}

-- the parent, if one is named, is in the forest
abbrev pub Parent : Option NodeId → Forest → Type 0
Parent None f = Unit {0}
Parent (Some h) f = has h.0 f ≡ true

pub has_onto : (o : Option NodeId) (t f : Forest) → Parent o f → (y : ℕ) → has y (onto o t f) ≡ either (has y f) (has y t)
has_onto None t f q y = has_cat y f t
has_onto (Some h) t f q y = has_under y h.0 t f q

pub above_onto : (o : Option NodeId) (t f : Forest) → Parent o f → Distinct f → ((y : ℕ) → has y t ≡ true → has y f ≡ false) → (y : ℕ) → has y f ≡ true
    → above y (onto o t f) ≡ above y f
above_onto None t f q once apart y h = above_cat f once t apart y h
above_onto (Some n) t f q once apart y h = above_under f once t apart y h n.0 q

-- ---- a leaf
pub leaf_has : (x y : ℕ) → has y (leaf x) ≡ true → y ≡ x
unfolding has
leaf_has x y e = go (eqb x y) refl
  where
    go : (b : Bool) → eqb x y ≡ b → y ≡ x
    go true h = sym (eqb-true x y h)
    go false h = never e (rw h)

module _ (o : Option NodeId) (x : ℕ) (f : Forest) (q : Parent o f) (new : has x f ≡ false) where
  -- another node was there
  pub leaf_onto : (y : ℕ) → (y ≡ x → ⊥) → has y (onto o (leaf x) f) ≡ true → has y f ≡ true
  leaf_onto y n e = go (has y f) refl (has y (leaf x)) refl
    where
      go : (a : Bool) → has y f ≡ a → (b : Bool) → has y (leaf x) ≡ b → a ≡ true
      go true u b v = refl
      go false u true v = absurd (n (leaf_has x y v))
      go false u false v = never e (has_onto o (leaf x) f q y ∙ rw (u, v))

  pub leaf_above : Distinct f → (y : ℕ) → has y f ≡ true → above y (onto o (leaf x) f) ≡ above y f
  leaf_above once y h = above_onto o (leaf x) f q once (λ z g. rw (leaf_has x z g) new) y h

-- ---- a node with what is below it
module _ (x : ℕ) (c : Forest) where
  -- of what is below x: x is above it
  abbrev Under : ℕ → List ℕ → Type 0
  Under z k = has z c ≡ true → 1 ≤ times x k

  each_under_x : (l : List ℕ) (g : Forest) → 1 ≤ times x l → Each Under l g
  unfolding times
  each_under_x l none h = tt
  each_under_x l (tree y d s) h = ((λ _. h), each_under_x (y ∷ l) d (omega arith), each_under_x l s h)

  module _ (own : has x c ≡ false) where
    each_part : (l : List ℕ) → Each Under l (tree x c none)
    unfolding times
    each_part l = ((λ h. never h own), each_under_x (x ∷ l) c (omega (arith, hit x)), tt)

    pub below_onto : (o : Option NodeId) (f : Forest) → ((y : ℕ) → has y c ≡ true → has y f ≡ false) → (y : ℕ) → has y (onto o (tree x c none) f) ≡ true
        → has y c ≡ true → 1 ≤ times x (above y (onto o (tree x c none) f))
    below_onto None f apart y h g =
        holds_at (λ z d k. Under z k) y [] (cat f (tree x c none)) h
        (each_cat Under [] f (tree x c none) (each_in Under [] f (λ z k u w. never u (apart z w))) (each_part [])) g
    below_onto (Some n) f apart y h g =
        holds_at (λ z d k. Under z k) y [] (under n.0 (tree x c none) f) h
        (each_under Under n.0 (tree x c none) [] f (λ _. each_part (n.0 ∷ above n.0 f)) (each_in Under [] f (λ z k u w. never u (apart z w)))) g

part_cases : (x : ℕ) (c : Forest) (y : ℕ) → has y (tree x c none) ≡ true → (y ≡ x → ⊥) → has y c ≡ true
unfolding has
part_cases x c y e n = go (eqb x y) refl (has y c) refl
  where
    go : (a : Bool) → eqb x y ≡ a → (b : Bool) → has y c ≡ b → b ≡ true
    go true u b v = absurd (n (sym (eqb-true x y u)))
    go false u true v = refl
    go false u false v = never e (rw (u, v))

-- a node moved with what is below it: f without it, and then the whole onto its new parent
module _ (o : Option NodeId) (x : ℕ) (f : Forest) (once : Distinct f) (live : has x f ≡ true) (q : Parent o (remove x f)) where
  abbrev moved : Forest
  moved = onto o (part x f) (remove x f)

  pub moved_has : (y : ℕ) → has y moved ≡ has y f
  moved_has y = has_onto o (part x f) (remove x f) q y ∙ sym (has_parts y x f live)

  -- what is not below it stays where it is
  pub moved_above : (y : ℕ) → has y f ≡ true → has y (part x f) ≡ false → above y moved ≡ above y f
  moved_above y h n =
      let r = remove_has y x f live h n in
      above_onto o (part x f) (remove x f) q (once_remove x f live once) (λ z g. remove_lacks z x f once live g) y r ∙ above_remove f once x y r h

  own : has x (kids x f) ≡ false
  own = go (has x (kids x f)) refl
    where
      go : (b : Bool) → has x (kids x f) ≡ b → b ≡ false
      go true e = never (same_slot x) (not_below x (kids x f) none (once_part x f live once) x e)
      go false e = refl

  -- and what is below it has it above
  pub moved_below : (y : ℕ) → has y f ≡ true → has y (part x f) ≡ true → (y ≡ x → ⊥) → 1 ≤ times x (above y moved)
  moved_below y h g n =
      let k = part_cases x (kids x f) y g n in
      below_onto x (kids x f) own o (remove x f) (λ z u. remove_lacks z x f once live (has_low z x (kids x f) none u)) y (moved_has y ∙ h) k
