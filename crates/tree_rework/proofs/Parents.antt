-- What is handed down to a position, by the slot right above it.
use Prim.Native.Nat.{ℕ, zero, suc, ◌<◌}
use mathlib.Core.Path.{◌≡◌, refl}
use mathlib.Core.Bool.{Bool, true, false}
use mathlib.Core.List.{List, [], ◌∷◌, reverse, reverse_aux}
use native.Mathlib.Omega.{arith}
use lib.ListN.{get_or, take}
use Rattle.std.proofs.Common.{Some, None, ltb}
use Rattle.tree_worlds.specs.World.{at_root}
use Rattle.link_forest.specs.Table.{less_deep, above_at, nearest}
use Rattle.tree_state.specs.declared.Tree.{Tree}
use Rattle.tree_state.specs.Tree.{stored_place}
use Rattle.tree_steps.specs.Commit.{handed_down, ancestors}
use Rattle.tree_rework.specs.preconditions.Fits.{slot_at}

-- ---- the slot right above is one of those before the position

abbrev Low : List ℕ → Type 0
Low [] = Unit {0}
Low (x ∷ xs) = (x < 256) × Low xs

low_take : (i : ℕ) (l : List ℕ) → ((j : ℕ) → j < i → get_or l j 0 < 256) → Low (take i l)
low_take zero l h = tt
low_take (suc i) [] h = tt
low_take (suc i) (x ∷ l) h = (h 0 (omega arith), low_take i l (λ j g. h (suc j) (omega arith)))

low_back : (xs ys : List ℕ) → Low xs → Low ys → Low (reverse_aux xs ys)
low_back [] ys h g = g
low_back (x ∷ xs) ys h g = low_back xs (x ∷ ys) h.1 (h.0, g)

low_nearest : (d : ℕ) (xs ds : List ℕ) → Low xs → {q : ℕ} → nearest (less_deep d xs ds) ≡ Some q → q < 256
unfolding less_deep
low_nearest d [] ds h e = cc
low_nearest d (x ∷ xs) [] h e = cc
low_nearest d (x ∷ xs) (k ∷ ds) h {q} e = go (ltb k d) (low_nearest d xs ds h.1) e
  where
    go : (b : Bool) → (nearest (less_deep d xs ds) ≡ Some q → q < 256)
        → nearest (elim b [ true ↦ x ∷ less_deep k xs ds | false ↦ less_deep d xs ds ]) ≡ Some q → q < 256
    go true g e = let s : x ≡ q = cc in rw (← s) h.0
    go false g e = g e

pub parent_low : (t : Tree) (i : ℕ) → ((j : ℕ) → j < i → slot_at t j < 256) → {q : ℕ} → nearest (above_at t.links.order t.links.depth i) ≡ Some q → q < 256
parent_low t i h e = low_nearest (get_or t.links.depth i 0) (reverse (take i t.links.order)) (reverse (take i t.links.depth)) (low_back (take i t.links.order) [] (low_take i t.links.order h) tt) e

-- ---- what it hands down

from_none : (t : Tree) (qs : List ℕ) → nearest qs ≡ None → handed_down t qs ≡ at_root
unfolding handed_down
from_none t [] e = refl
from_none t (q ∷ qs) e = cc

from_some : (t : Tree) (qs : List ℕ) {q : ℕ} → nearest qs ≡ Some q → handed_down t qs ≡ stored_place t q
unfolding handed_down
from_some t [] e = cc
from_some t (p ∷ qs) {q} e = let s : p ≡ q = cc in rw s

pub above_root : (t : Tree) (i : ℕ) → nearest (above_at t.links.order t.links.depth i) ≡ None → handed_down t (ancestors t i) ≡ at_root
unfolding ancestors
above_root t i e = from_none t (above_at t.links.order t.links.depth i) e

pub above_child : (t : Tree) (i : ℕ) {q : ℕ} → nearest (above_at t.links.order t.links.depth i) ≡ Some q → handed_down t (ancestors t i) ≡ stored_place t q
unfolding ancestors
above_child t i e = from_some t (above_at t.links.order t.links.depth i) e
