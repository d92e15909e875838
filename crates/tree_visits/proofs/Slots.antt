-- The same of the slots that are visited: each is the forest's, and none is visited twice.
use Prim.Native.Nat.{ℕ, ◌+◌, ◌≤◌, ◌<◌}
use mathlib.Core.Path.{◌≡◌, refl, sym, ap, ap₂, ◌∙◌}
use mathlib.Core.Bool.{Bool, true, false, ◌||◌}
use mathlib.Core.List.{List, [], ◌∷◌}
use native.Mathlib.Omega.{arith}
use native.Mathlib.Decide.{ℕ_discrete}
use lib.Dec.{eqb}
use lib.ListN.{length, get_or, length-map}
use Rattle.counting.specs.Times.{tally, times}
use Rattle.counting.proofs.Counting.{hit, miss}
use Rattle.link_forest.specs.Forest.{Forest, has, count, above}
use Rattle.link_forest.proofs.Bools.{never}
use Rattle.link_forest.proofs.Counting.{has_count}
use Rattle.link_forest.proofs.Rep.{rep_slot, rep_slot_has, rep_slot_at}
use Rattle.link_forest.specs.Sound.{Sound}
use Rattle.tree_state.specs.declared.Tree.{Tree}
use Rattle.tree_state.specs.Tree.{position_of, marked_at, any_of}
use Rattle.tree_steps.specs.Commit.{changed_at, visits_of}
use Rattle.tree_visits.proofs.Walked.{live_at}
use Rattle.tree_visits.proofs.Laws.{visits_low, visits_once, visits_few}
use Rattle.tree_visits.proofs.Cover.{visits_cover}
use Rattle.tree_visits.proofs.Parents.{slots_at}

module _ (t : Tree) (f : Forest) (S : Sound t.links.order t.links.depth t.links.count f) where
  -- a slot is read at its position only
  one_slot : (x i : ℕ) → has x f ≡ true → i < t.links.count → tally (eqb x (get_or t.links.order i 0)) ≡ tally (eqb (position_of t x) i)
  one_slot x i h l =
      elim (ℕ_discrete x (get_or t.links.order i 0)) [
        | yes e ↦
            let q : position_of t x ≡ i = ap (position_of t) e ∙ sym (rep_slot_at S.rep S.once i l).found in
            rw (← e, q) (hit x ∙ sym (hit i))
        | no n ↦
            let m : position_of t x ≡ i → ⊥ = λ q. n (sym (rep_slot S.rep (live_at t f S x h)) ∙ ap (λ (k : ℕ). get_or t.links.order k 0) q) in
            miss x (get_or t.links.order i 0) n ∙ sym (miss (position_of t x) i m)
      ]

  abbrev Low : List ℕ → Type 0
  Low is = (i : ℕ) → 1 ≤ times i is → i < t.links.count

  first_low_lem : (i : ℕ) (is : List ℕ) → Low (i ∷ is) → i < t.links.count
  unfolding times
  first_low_lem i is a = a i (omega (arith, hit i))

  rest_low : (i : ℕ) (is : List ℕ) → Low (i ∷ is) → Low is
  unfolding times
  rest_low i is a j h = a j (omega arith)

  pub times_slots : (x : ℕ) → has x f ≡ true → (is : List ℕ) → ((i : ℕ) → 1 ≤ times i is → i < t.links.count) → times x (slots_at t.links.order is) ≡ times (position_of t x) is
  unfolding times
  times_slots x h [] a = refl
  times_slots x h (i ∷ is) a = ap₂ (λ (m n : ℕ). m + n) (one_slot x i h (first_low_lem i is a)) (times_slots x h is (rest_low i is a))

  pub no_slots : (x : ℕ) → has x f ≡ false → (is : List ℕ) → ((i : ℕ) → 1 ≤ times i is → i < t.links.count) → times x (slots_at t.links.order is) ≡ 0
  unfolding times
  no_slots x h [] a = refl
  no_slots x h (i ∷ is) a =
      let n : x ≡ get_or t.links.order i 0 → ⊥ =
      λ e. never (rep_slot_has S.rep i (first_low_lem i is a)) (ap (λ (y : ℕ). has y f) (sym e) ∙ h) in
      omega (arith, miss x (get_or t.links.order i 0) n, no_slots x h is (rest_low i is a))

  -- ---- of the commit
  pub slots_once : (x : ℕ) → times x (slots_at t.links.order (visits_of t)) ≤ count x f
  slots_once x = go (has x f) refl
    where
      go : (b : Bool) → has x f ≡ b → times x (slots_at t.links.order (visits_of t)) ≤ count x f
      go true h = omega (arith, times_slots x h (visits_of t) (visits_low t f S), visits_once t f S (position_of t x), has_count x f h)
      go false h = omega (arith, no_slots x h (visits_of t) (visits_low t f S))

  pub slots_cover : (x : ℕ) → has x f ≡ true → marked_at t x || any_of (changed_at t) (x ∷ above x f) ≡ true → 1 ≤ times x (slots_at t.links.order (visits_of t))
  slots_cover x h u = rw (times_slots x h (visits_of t) (visits_low t f S)) (visits_cover t f S x h u)

  pub slots_few : length (slots_at t.links.order (visits_of t)) ≤ t.links.count
  slots_few = omega (arith, length-map (visits_of t) (λ (i : ℕ). get_or t.links.order i 0), visits_few t f S)
