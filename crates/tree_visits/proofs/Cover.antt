-- Every marked node is visited, and every node at or below one that counts as changed.
use Prim.Native.Nat.{ℕ, ◌-◌, ◌≤◌}
use mathlib.Core.Path.{◌≡◌, refl, ap, ◌∙◌}
use mathlib.Core.Bool.{Bool, true, false, ◌&&◌, ◌||◌, and-eq-true_iff}
use mathlib.Core.List.{List, [], ◌∷◌}
use native.Mathlib.Omega.{arith}
use native.Mathlib.Decide.{ℕ_discrete}
use Rattle.counting.specs.Times.{tally, times}
use Rattle.counting.proofs.Counting.{hit, miss, times_append}
use Rattle.link_forest.specs.Forest.{Forest, has, above}
use Rattle.link_forest.proofs.Bools.{never}
use Rattle.link_forest.proofs.Laws.{below_within}
use Rattle.link_forest.proofs.Rep.{rep_place, rep_end}
use Rattle.link_forest.specs.Sound.{Sound}
use Rattle.link_table.specs.Links.{end_of}
use Rattle.tree_state.specs.declared.Tree.{Tree}
use Rattle.tree_state.specs.Tree.{position_of, is_live, marked_at, transform_changed_at, clip_changed_at, any_of}
use Rattle.tree_steps.specs.Commit.{ancestors, changed_at, walked, walk_all, starts_of, visits_of}
use Rattle.slot_order.proofs.Members.{slots_member, live_has}
use Rattle.tree_visits.proofs.Owner.{Top, topmost, any_here, any_above, or_other}
use Rattle.tree_visits.proofs.Walked.{live_at, live_segment, ancestors_live, walked_whole, walked_alone, positions_in}

-- what a start has walked is among what all have
walk_has : (t : Tree) (xs : List ℕ) (s i : ℕ) → 1 ≤ times s xs → times i (walked t s) ≤ times i (walk_all t xs)
unfolding times walk_all
walk_has t [] s i h = absurd (omega arith)
walk_has t (x ∷ xs) s i h =
    elim (ℕ_discrete s x) [
      | yes e ↦ rw e (omega (arith, times_append i (walked t x) (walk_all t xs)))
      | no n ↦ omega (arith, miss s x n, walk_has t xs s i (omega (arith, miss s x n)), times_append i (walked t x) (walk_all t xs))
    ]

pub none_of : (b : Bool) → (b ≡ true → ⊥) → b ≡ false
none_of true n = absurd (n refl)
none_of false n = refl

module _ (t : Tree) (f : Forest) (S : Sound t.links.order t.links.depth t.links.count f) where
  -- a marked slot is a start
  pub start_there : (s : ℕ) → has s f ≡ true → marked_at t s ≡ true → 1 ≤ times s (starts_of t)
  start_there s h m =
      let w : tally (is_live t s && marked_at t s) ≡ 1 = rw (live_has t f S s ∙ h, m) in
      omega (arith, slots_member t f S (marked_at t) s)

  free : (s : ℕ) → has s f ≡ true → any_of (changed_at t) (above s f) ≡ false → any_of (changed_at t) (ancestors t (position_of t s)) ≡ false
  free s h e = ap (any_of (changed_at t)) (ancestors_live t f S s h) ∙ e

  -- in the walk of the topmost that counts as changed
  in_whole : (s x : ℕ) → has x f ≡ true → Top (changed_at t) f S.once x s → 1 ≤ times (position_of t x) (walked t s)
  in_whole s x h T =
      let i = position_of t s in
      let e = end_of t.links i in
      let w = below_within s f T.live S.once x T.lies in
      let R = S.rep in
      let p = rep_place R (live_at t f S s T.live) in
      let q = rep_place R (live_at t f S x h) in
      let r = rep_end R (live_segment t f S s T.live) in
      rw (walked_whole t s (free s T.live T.free) T.passes)
      (omega (arith, positions_in (position_of t x) i (e - i) (omega (arith, w.0)) (omega (arith, w.0, w.1))))

  -- or in its own
  in_own : (x : ℕ) → has x f ≡ true → any_of (changed_at t) (x ∷ above x f) ≡ false → 1 ≤ times (position_of t x) (walked t x)
  unfolding times
  in_own x h e =
      let own : changed_at t x ≡ false = none_of (changed_at t x) (λ d. never (any_here (changed_at t) x (above x f) d) e) in
      let up : any_of (changed_at t) (above x f) ≡ false = none_of (any_of (changed_at t) (above x f)) (λ d. never (any_above (changed_at t) x (above x f) d) e) in
      rw (walked_alone t x (free x h up) own) (omega (arith, hit (position_of t x)))

  pub visits_cover : (x : ℕ) → has x f ≡ true → marked_at t x || any_of (changed_at t) (x ∷ above x f) ≡ true → 1 ≤ times (position_of t x) (visits_of t)
  visits_cover x h u = go (any_of (changed_at t) (x ∷ above x f)) refl
    where
      go : (b : Bool) → any_of (changed_at t) (x ∷ above x f) ≡ b → 1 ≤ times (position_of t x) (visits_of t)
      go true e =
          let T = topmost (changed_at t) f S.once x h e in
          let s = T.0 in
          let m : marked_at t s ≡ true = ((and-eq-true_iff (marked_at t s) (transform_changed_at t s || clip_changed_at t s)).0 T.1.passes).0 in
          omega (arith, in_whole s x h T.1, walk_has t (starts_of t) s (position_of t x) (start_there s T.1.live m))
      go false e =
          omega (arith, in_own x h e, walk_has t (starts_of t) x (position_of t x) (start_there x h (or_other (marked_at t x) (any_of (changed_at t) (x ∷ above x f)) u e)))
