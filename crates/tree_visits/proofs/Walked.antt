-- What one start has walked, on a table that is a forest's.
use Prim.Native.Nat.{ℕ, zero, suc, ◌+◌, ◌-◌, ◌≤◌, ◌<◌}
use mathlib.Core.Path.{◌≡◌, refl, sym, ap, subst, ◌∙◌}
use mathlib.Core.Bool.{Bool, true, false, cond}
use mathlib.Core.List.{List, [], ◌∷◌}
use native.Mathlib.Omega.{arith}
use native.Mathlib.Decide.{dec_lt, ℕ_discrete}
use lib.Dec.{eqb}
use lib.ListN.{get_or}
use Rattle.counting.specs.Times.{tally, times}
use Rattle.counting.proofs.Counting.{hit, miss, tally_small}
use Rattle.link_forest.specs.Forest.{Forest, has, above}
use Rattle.link_forest.proofs.Laws.{place_there}
use Rattle.link_forest.proofs.Rep.{At, Segment, rep_slot, rep_slot_at, rep_ancestors, rep_after, rep_within, rep_within_below}
use Rattle.link_forest.specs.Sound.{Sound}
use Rattle.link_table.specs.Links.{end_of}
use Rattle.tree_state.specs.declared.Tree.{Tree}
use Rattle.tree_state.specs.Tree.{position_of, any_of}
use Rattle.tree_steps.specs.Commit.{ancestors, changed_at, positions_from, walked}
use Rattle.tree_visits.proofs.Owner.{mine, mine_self, mine_part}

-- ---- positions in a row
pub positions_before : (i a n : ℕ) → i < a → times i (positions_from a n) ≡ 0
unfolding times positions_from
positions_before i a zero h = refl
positions_before i a (suc n) h = omega (arith, miss i a (λ e. omega arith), positions_before i (suc a) n (omega arith))

pub positions_behind : (i a n : ℕ) → a + n ≤ i → times i (positions_from a n) ≡ 0
unfolding times positions_from
positions_behind i a zero h = refl
positions_behind i a (suc n) h = omega (arith, miss i a (λ e. omega arith), positions_behind i (suc a) n (omega arith))

positions_here : (a n : ℕ) → times a (positions_from a (suc n)) ≡ 1
unfolding times positions_from
positions_here a n = omega (arith, hit a, positions_before a (suc a) n (omega arith))

pub positions_in : (i a n : ℕ) → a ≤ i → i < a + n → times i (positions_from a n) ≡ 1
unfolding times positions_from
positions_in i a zero h k = absurd (omega arith)
positions_in i a (suc n) h k =
    elim (ℕ_discrete i a) [
      | yes e ↦ ap (λ (k : ℕ). times k (positions_from a (suc n))) e ∙ positions_here a n
      | no m ↦ omega (arith, miss i a m, positions_in i (suc a) n (omega arith) (omega arith))
    ]

-- ---- the three cases
module _ (t : Tree) (x : ℕ) where
  abbrev covered : Bool
  covered = any_of (changed_at t) (ancestors t (position_of t x))

  abbrev whole : List ℕ
  whole = positions_from (position_of t x) (end_of t.links (position_of t x) - position_of t x)

  pub walked_covered : any_of (changed_at t) (ancestors t (position_of t x)) ≡ true → walked t x ≡ []
  walked_covered e = ap (λ (b : Bool). cond b [] (cond (changed_at t x) whole (position_of t x ∷ []))) e

  pub walked_free : any_of (changed_at t) (ancestors t (position_of t x)) ≡ false
      → walked t x ≡ cond (changed_at t x) (positions_from (position_of t x) (end_of t.links (position_of t x) - position_of t x)) (position_of t x ∷ [])
  walked_free e = ap (λ (b : Bool). cond b [] (cond (changed_at t x) whole (position_of t x ∷ []))) e

  pub walked_whole : any_of (changed_at t) (ancestors t (position_of t x)) ≡ false → changed_at t x ≡ true
      → walked t x ≡ positions_from (position_of t x) (end_of t.links (position_of t x) - position_of t x)
  walked_whole e d = walked_free e ∙ ap (λ (b : Bool). cond b whole (position_of t x ∷ [])) d

  pub walked_alone : any_of (changed_at t) (ancestors t (position_of t x)) ≡ false → changed_at t x ≡ false → walked t x ≡ position_of t x ∷ []
  walked_alone e d = walked_free e ∙ ap (λ (b : Bool). cond b whole (position_of t x ∷ [])) d

-- ---- on a forest's table
module _ (t : Tree) (f : Forest) (S : Sound t.links.order t.links.depth t.links.count f) where
  -- a slot of the forest stands at its position
  pub live_at : (x : ℕ) → has x f ≡ true → At t.links.order t.links.count x (position_of t x)
  live_at x h =
      let R = S.rep in
      record { found = refl; inside = rw R.order (omega (arith, place_there x f h, R.counted)) }

  pub live_segment : (x : ℕ) → has x f ≡ true → Segment t.links.order t.links.depth t.links.count x (position_of t x) (end_of t.links (position_of t x))
  live_segment x h = record { at = live_at x h; ends = refl }

  -- above its position stands what is above it
  pub ancestors_live : (x : ℕ) → has x f ≡ true → ancestors t (position_of t x) ≡ above x f
  unfolding ancestors
  ancestors_live x h = rep_ancestors S.rep (live_at x h)

  pub ancestors_position : (i : ℕ) → i < t.links.count → ancestors t i ≡ above (get_or t.links.order i 0) f
  unfolding ancestors
  ancestors_position i h = rep_ancestors S.rep (rep_slot_at S.rep S.once i h)

  abbrev pub owner_at : ℕ → ℕ
  owner_at i = mine (changed_at t) f S.once (get_or t.links.order i 0)

  -- a position below the count is in one start's walk only, and there once
  pub walked_once : (s i : ℕ) → has s f ≡ true → i < t.links.count → times i (walked t s) ≤ tally (eqb (owner_at i) s)
  unfolding times
  walked_once s i h l = go (any_of (changed_at t) (ancestors t (position_of t s))) refl (changed_at t s) refl
    where
      g : Segment t.links.order t.links.depth t.links.count s (position_of t s) (end_of t.links (position_of t s))
      g = live_segment s h

      a : At t.links.order t.links.count (get_or t.links.order i 0) i
      a = rep_slot_at S.rep S.once i l

      free : any_of (changed_at t) (ancestors t (position_of t s)) ≡ false → any_of (changed_at t) (above s f) ≡ false
      free e = ap (any_of (changed_at t)) (sym (ancestors_live s h)) ∙ e

      is : owner_at i ≡ s → (n : ℕ) → n ≤ 1 → n ≤ tally (eqb (owner_at i) s)
      is e n k = rw e (omega (arith, hit s))

      inside : any_of (changed_at t) (ancestors t (position_of t s)) ≡ false → changed_at t s ≡ true → position_of t s ≤ i → i < end_of t.links (position_of t s) → owner_at i ≡ s
      inside e d low high =
          mine_part (changed_at t) f S.once s (get_or t.links.order i 0) h (free e) d (rep_within_below S.rep g (get_or t.links.order i 0) i a.found low high)

      here : any_of (changed_at t) (ancestors t (position_of t s)) ≡ false → i ≡ position_of t s → owner_at i ≡ s
      here e q =
          let w : s ≡ get_or t.links.order i 0 = sym (rep_slot S.rep (live_at s h)) ∙ ap (λ (k : ℕ). get_or t.links.order k 0) (sym q) in
          subst (λ (y : ℕ). mine (changed_at t) f S.once y ≡ s) w (mine_self (changed_at t) f S.once s (free e))

      go : (b : Bool) → any_of (changed_at t) (ancestors t (position_of t s)) ≡ b → (d : Bool) → changed_at t s ≡ d → times i (walked t s) ≤ tally (eqb (owner_at i) s)
      go true e d k = rw (walked_covered t s e) (omega arith)
      go false e true k =
          let m = end_of t.links (position_of t s) - position_of t s in
          let far = rep_after S.rep g in
          rw (walked_whole t s e k)
          (elim (dec_lt i (position_of t s)) [
            | yes u ↦ omega (arith, positions_before i (position_of t s) m u)
            | no v ↦
                elim (dec_lt i (end_of t.links (position_of t s))) [
                  | yes u ↦ is (inside e k (omega arith) u) (times i (positions_from (position_of t s) m)) (omega (arith, positions_in i (position_of t s) m (omega arith) (omega arith)))
                  | no w ↦ omega (arith, positions_behind i (position_of t s) m (omega arith))
                ]
          ])
      go false e false k =
          rw (walked_alone t s e k)
          (elim (ℕ_discrete i (position_of t s)) [
            | yes q ↦ is (here e q) (tally (eqb i (position_of t s)) + 0) (omega (arith, tally_small (eqb i (position_of t s))))
            | no n ↦ omega (arith, miss i (position_of t s) n)
          ])

  -- and no other position is walked
  pub walked_low : (s i : ℕ) → has s f ≡ true → t.links.count ≤ i → times i (walked t s) ≡ 0
  unfolding times
  walked_low s i h l = go (any_of (changed_at t) (ancestors t (position_of t s))) refl (changed_at t s) refl
    where
      g : Segment t.links.order t.links.depth t.links.count s (position_of t s) (end_of t.links (position_of t s))
      g = live_segment s h

      go : (b : Bool) → any_of (changed_at t) (ancestors t (position_of t s)) ≡ b → (d : Bool) → changed_at t s ≡ d → times i (walked t s) ≡ 0
      go true e d k = rw (walked_covered t s e)
      go false e true k =
          let m = end_of t.links (position_of t s) - position_of t s in
          rw (walked_whole t s e k) (positions_behind i (position_of t s) m (omega (arith, rep_after S.rep g, rep_within S.rep g)))
      go false e false k = let w = (live_at s h).inside in rw (walked_alone t s e k) (omega (arith, miss i (position_of t s) (λ q. omega arith)))
