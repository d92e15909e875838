-- What the proof of a commit takes of its visits, from the laws of tree_visits.
use mathlib.Core.Path.{◌≡◌}
use mathlib.Core.Bool.{Bool, true}
use mathlib.Core.List.{List, [], ◌∷◌}
use Prim.Native.Nat.{ℕ, ◌≤◌, ◌<◌}
use native.Mathlib.Omega.{arith}
use Rattle.counting.specs.Times.{times}
use Rattle.counting.proofs.Counting.{hit}
use Rattle.link_forest.specs.Forest.{Forest, above}
use Rattle.tree_state.specs.declared.Tree.{Tree}
use Rattle.tree_state.specs.Tree.{marked_at, any_of}
use Rattle.tree_laws.proofs.Ground.{Linked}
use Rattle.tree_steps.specs.Commit.{changed_at, visits_of}
use Rattle.tree_visits.proofs.Laws.{visits_low, visits_once}
use Rattle.tree_visits.proofs.Parents as parents
use Rattle.tree_visits.proofs.Parents.{slots_at, visits_parent}
use Rattle.tree_visits.proofs.Slots.{slots_cover}
use Rattle.tree_visits.proofs.Owner.{or_right, or_left}
use Rattle.agreement.proofs.worlds.Visits.{slot_at, Seen, Good, Visited}

ready_seen : (q : ℕ → Bool) (seen l : List ℕ) → parents.Ready q seen l → any_of q l ≡ true → Seen seen l
ready_seen q seen [] r e = tt
ready_seen q seen (x ∷ xs) r e = r e

module _ (t : Tree) (f : Forest) (L : Linked t f) where
  good_places : (is seen : List ℕ) → ((i : ℕ) → 1 ≤ times i is → i < t.links.count) → parents.Good (changed_at t) f seen (slots_at t.links.order is) → Good t.links (changed_at t) f seen is
  unfolding times
  good_places [] seen low G = tt
  good_places (i ∷ is) seen low G = (
    low i (omega (arith, hit i)),
    ready_seen (changed_at t) seen (above (slot_at t.links i) f) G.1,
    good_places is (slot_at t.links i ∷ seen) (λ j l. low j (omega arith)) G.2,
  )

  pub visited_linked : Visited t f
  visited_linked =
      record {
        good = good_places (visits_of t) [] (visits_low t f L) (visits_parent t f L);
        covers =
            record {
              marked = λ x h m. slots_cover t f L x h (or_left (marked_at t x) (any_of (changed_at t) (x ∷ above x f)) m);
              changed = λ x h c. slots_cover t f L x h (or_right (marked_at t x) (any_of (changed_at t) (x ∷ above x f)) c);
            };
        once = visits_once t f L;
      }
