-- The positions that a commit visits: none twice, and only what is marked or below what counts as changed.
use Prim.Native.Nat.{ℕ, ◌+◌, ◌≤◌, ◌<◌}
use mathlib.Core.Path.{◌≡◌, refl, subst}
use mathlib.Core.Bool.{Bool, true, false, ◌&&◌, ◌||◌}
use mathlib.Core.List.{List, [], ◌∷◌}
use native.Mathlib.Omega.{arith}
use native.Mathlib.Decide.{dec_lt}
use lib.ListN.{length, get_or}
use Rattle.counting.specs.Times.{tally, times}
use Rattle.counting.proofs.Counting.{hit, times_append, shorter}
use Rattle.link_forest.specs.Forest.{Forest, has, count, above}
use Rattle.link_forest.proofs.Counting.{count_has}
use Rattle.link_forest.specs.Sound.{Sound}
use Rattle.tree_state.specs.declared.Tree.{Tree}
use Rattle.tree_state.specs.Tree.{is_live, marked_at, any_of}
use Rattle.tree_steps.specs.Commit.{changed_at, walked, walk_all, starts_of, visits_of}
use Rattle.slot_order.proofs.Members.{slots_count, slots_member}
use Rattle.tree_visits.proofs.Owner.{or_left, or_right, mine_self}
use Rattle.tree_visits.proofs.Walked.{owner_at, walked_once, walked_low}

-- ---- the positions that some starts have walked, where each start is a slot of the forest and none stands twice
module _ (t : Tree) (f : Forest) (S : Sound t.links.order t.links.depth t.links.count f) where
  abbrev pub Live : List ℕ → Type 0
  Live xs = (x : ℕ) → 1 ≤ times x xs → has x f ≡ true

  pub first_live : (x : ℕ) (xs : List ℕ) → Live (x ∷ xs) → has x f ≡ true
  unfolding times
  first_live x xs a = a x (omega (arith, hit x))

  pub rest_live : (x : ℕ) (xs : List ℕ) → Live (x ∷ xs) → Live xs
  unfolding times
  rest_live x xs a y h = a y (omega arith)

  owned_once : (xs : List ℕ) (i : ℕ) → Live xs → i < t.links.count → times i (walk_all t xs) ≤ times (owner_at t f S i) xs
  unfolding times walk_all
  owned_once [] i a l = omega arith
  owned_once (x ∷ xs) i a l =
      omega (
        arith,
        times_append i (walked t x) (walk_all t xs),
        walked_once t f S x i (first_live x xs a) l,
        owned_once xs i (rest_live x xs a) l,
      )

  none_behind : (xs : List ℕ) (i : ℕ) → Live xs → t.links.count ≤ i → times i (walk_all t xs) ≡ 0
  unfolding times walk_all
  none_behind [] i a l = refl
  none_behind (x ∷ xs) i a l =
      omega (arith, times_append i (walked t x) (walk_all t xs), walked_low t f S x i (first_live x xs a) l, none_behind xs i (rest_live x xs a) l)

  module _ (xs : List ℕ) (a : (x : ℕ) → times x xs ≤ count x f) where
    pub all_live : Live xs
    all_live x h = count_has x f (omega (arith, a x))

    pub walk_low : (i : ℕ) → 1 ≤ times i (walk_all t xs) → i < t.links.count
    walk_low i h = elim (dec_lt i t.links.count) [ yes l ↦ l | no n ↦ absurd (omega (arith, none_behind xs i all_live (omega arith))) ]

    pub walk_once : (i : ℕ) → times i (walk_all t xs) ≤ 1
    walk_once i =
        elim (dec_lt i t.links.count) [
          | yes l ↦ omega (arith, owned_once xs i all_live l, a (owner_at t f S i), S.once (owner_at t f S i))
          | no n ↦ omega (arith, none_behind xs i all_live (omega arith))
        ]

    pub walk_few : length (walk_all t xs) ≤ t.links.count
    walk_few =
        let n = t.links.count in
        let w =
        shorter (n + 1) n (walk_all t xs) walk_once (λ i h. none_behind xs i all_live (omega arith)) (omega arith) (none_behind xs n all_live (omega arith)) in
        omega arith

  -- ---- of the commit
  pub visits_low : (i : ℕ) → 1 ≤ times i (visits_of t) → i < t.links.count
  visits_low = walk_low (starts_of t) (slots_count t f S (marked_at t))

  pub visits_once : (i : ℕ) → times i (visits_of t) ≤ 1
  visits_once = walk_once (starts_of t) (slots_count t f S (marked_at t))

  pub visits_few : length (visits_of t) ≤ t.links.count
  visits_few = walk_few (starts_of t) (slots_count t f S (marked_at t))

  -- nothing else is visited: each has a mark, or something above it counts as changed
  pub visits_why : (i : ℕ) → 1 ≤ times i (visits_of t) → marked_at t (get_or t.links.order i 0) || any_of (changed_at t) (above (get_or t.links.order i 0) f) ≡ true
  visits_why i h = go (any_of (changed_at t) (above (get_or t.links.order i 0) f)) refl
    where
      start : 1 ≤ times (owner_at t f S i) (starts_of t)
      start = omega (arith, owned_once (starts_of t) i (all_live (starts_of t) (slots_count t f S (marked_at t))) (visits_low i h))

      second : (a b : Bool) → 1 ≤ tally (a && b) → b ≡ true
      second true true k = refl
      second true false k = absurd (omega arith)
      second false b k = absurd (omega arith)

      marked : marked_at t (owner_at t f S i) ≡ true
      marked =
          second (is_live t (owner_at t f S i)) (marked_at t (owner_at t f S i)) (omega (arith, start, slots_member t f S (marked_at t) (owner_at t f S i)))

      go : (b : Bool) → any_of (changed_at t) (above (get_or t.links.order i 0) f) ≡ b
          → marked_at t (get_or t.links.order i 0) || any_of (changed_at t) (above (get_or t.links.order i 0) f) ≡ true
      go true e = or_right (marked_at t (get_or t.links.order i 0)) (any_of (changed_at t) (above (get_or t.links.order i 0) f)) e
      go false e =
          or_left (marked_at t (get_or t.links.order i 0)) (any_of (changed_at t) (above (get_or t.links.order i 0) f))
          (subst (λ (y : ℕ). marked_at t y ≡ true) (mine_self (changed_at t) f S.once (get_or t.links.order i 0) e) marked)
