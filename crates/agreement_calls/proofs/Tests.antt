-- The tests of the calls, on a tree and a plan that agree: each answers the same on both.
use Rattle.std.specs.Prelude.{Ok, None, Some, Option}
use mathlib.Core.Path.{◌≡◌, refl, sym, ap, ◌∙◌}
use mathlib.Core.Bool.{Bool, true, false, not, ◌||◌}
use mathlib.Core.List.{List, [], ◌∷◌}
use Prim.Native.Nat.{ℕ, zero, suc, ◌≤◌, ◌<◌}
use native.Mathlib.Omega.{arith}
use native.Mathlib.Decide.{dec_lt, ℕ_discrete}
use borrow.Author.Tests.{lt-ltb, le-ltb, le-leb, lt-leb, ltb-true, leb-true}
use lib.Dec.{ltb, leb}
use lib.ListN.{length, take}
use Rattle.counting.specs.Times.{tally, times}
use Rattle.counting.specs.Lists.{Tells}
use Rattle.counting.proofs.Counting.{hit}
use Rattle.counting.proofs.Kit.{contra, same}
use Rattle.counting.proofs.Words.{seen}
use Rattle.index_types.specs.declared.NodeId.{NodeId}
use Rattle.link_forest.specs.Forest.{pre, has}
use Rattle.link_forest.proofs.Counting.{count_pre, count_has}
use Rattle.tree_state.specs.declared.Tree.{Tree}
use Rattle.tree_state.specs.Tree as tree
use Rattle.tree_state.specs.Tree.{live_slots, position_of, marked_at, entry_mark, is_removed, any_of, some}
use Rattle.tree_state.specs.Sound.{count_below}
use Rattle.tree_sound.proofs.Exact.{decides}
use Rattle.tree_steps.specs.Setters.{held}
use Rattle.tree_steps.specs.Structure as structure
use Rattle.tree_laws.proofs.Whole.{sized}
use Rattle.tree_laws.proofs.Ground.{live_has, below_by_places}
use Rattle.plan.specs.Lists.{any}
use Rattle.plan.specs.Plan as plan
use Rattle.plan.specs.Plan.{Plan, Mark, nodes, full}
use Rattle.agreement.proofs.Same.{Known}
use Rattle.tree_visits.proofs.Owner.{or_right}

-- ---- over numbers and lists

pub ltb_not : (m n : ℕ) → ltb m n ≡ not (leb n m)
ltb_not m n = elim (dec_lt m n) [ yes l ↦ rw (lt-ltb m n l, lt-leb n m l) | no g ↦ rw (le-ltb m n (omega arith), le-leb n m (omega arith)) ]

pub any_alike : (p q : ℕ → Bool) (l : List ℕ) → ((x : ℕ) → 1 ≤ times x l → p x ≡ q x) → any_of p l ≡ any q l
unfolding any_of any times
any_alike p q [] h = refl
any_alike p q (x ∷ l) h = rw (h x (omega (arith, hit x)), any_alike p q l (λ y n. h y (omega arith)))

or_cases : (a b : Bool) → a || b ≡ true → a ≡ false → b ≡ true
or_cases true b e n = absurd (contra refl n)
or_cases false b e n = e

pub some_at : (n : ℕ) (q : ℕ → Bool) (k : ℕ) → k < n → q k ≡ true → some n q ≡ true
unfolding some
some_at zero q k l e = absurd (omega arith)
some_at (suc n) q k l e = elim (ℕ_discrete k n) [ yes w ↦ or_right (some n q) (q n) (rw w at e) | no m ↦ rw (some_at n q k (omega arith) e) ]

pub some_find : (n : ℕ) (q : ℕ → Bool) → some n q ≡ true → (k : ℕ) × (k < n) × (q k ≡ true)
unfolding some
some_find zero q e = absurd (contra e refl)
some_find (suc n) q e = go (some n q) refl (some_find n q)
  where
    go : (b : Bool) → some n q ≡ b → (some n q ≡ true → (k : ℕ) × (k < n) × (q k ≡ true)) → (k : ℕ) × (k < suc n) × (q k ≡ true)
    go true s r = let F = r s in (F.0, omega arith, F.2)
    go false s r = (n, omega arith, or_cases (some n q) (q n) e s)

-- a count that is not 0 has something to count
pub some_counted : (n : ℕ) (q : ℕ → Bool) → 1 ≤ count_below n q → some n q ≡ true
unfolding some count_below
some_counted zero q h = absurd (omega arith)
some_counted (suc n) q h = go (q n) refl (some_counted n q)
  where
    go : (b : Bool) → q n ≡ b → (1 ≤ count_below n q → some n q ≡ true) → some n q || q n ≡ true
    go true e r = or_right (some n q) (q n) e
    go false e r = let z : tally (q n) ≡ 0 = rw e in rw (r (omega arith))

-- one of three that comes only with the second
third : (a b c : Bool) → (c ≡ true → b ≡ true) → a || b || c ≡ a || b
third true b c h = refl
third false true c h = refl
third false false true h = absurd (contra (h refl) refl)
third false false false h = refl

abbrev filled : List ℕ → Bool
filled [] = false
filled (x ∷ l) = true

filled_tells : (l : List ℕ) → Tells (filled l) ((k : ℕ) × (1 ≤ times k l))
unfolding times
filled_tells [] = ((λ e. absurd (contra e refl)), (λ p. absurd (omega (arith, p.1))))
filled_tells (x ∷ l) = ((λ e. (x, omega (arith, hit x))), (λ p. refl))

plan_needs : (p : Plan) (l : List ℕ) → p.entries.removed ≡ l → plan.needs_commit p ≡ any (λ x. (p.mark x).marked) (nodes p) || filled l
unfolding plan.needs_commit
plan_needs p [] e = rw (plan.needs_commit, e)
plan_needs p (x ∷ l) e = rw (plan.needs_commit, e)

-- ---- the tests

module _ (t : Tree) (p : Plan) (K : Known t p) where
  pub live_same : (i : NodeId) → tree.live t i ≡ plan.live p i
  unfolding tree.live
  live_same i = rw (live_has t p.links K.same.links i.0, K.same.generation i.0)

  pub parent_live_same : (o : Option NodeId) → structure.parent_live t o ≡ plan.parent_live p o
  parent_live_same None = refl
  parent_live_same (Some h) = live_same h

  -- of a node that is there
  pub at_or_below_same : (x : ℕ) → has x p.links ≡ true → (o : Option NodeId) → structure.at_or_below t (position_of t x) o ≡ plan.at_or_below p x o
  at_or_below_same x h None = refl
  at_or_below_same x h (Some i) = sym (below_by_places t p.links K.same.links x h i.0)

  pub room_same : ltb t.links.count 256 ≡ not (full p)
  room_same = ltb_not t.links.count 256 ∙ rw K.same.links.rep.counted

  pub held_accepted : held t ≡ Ok tt
  held_accepted = rw ((decides t (sized t K.whole)).1 K.sound)

  -- a slot of the table is live
  pub listed_has : (x : ℕ) → 1 ≤ times x (pre p.links) → has x p.links ≡ true
  listed_has x h = count_has x p.links (omega (arith, count_pre x p.links))

  marks_same : any_of (marked_at t) (live_slots t) ≡ any (λ x. (p.mark x).marked) (nodes p)
  marks_same =
      rw K.same.links.rep.order
      (any_alike (marked_at t) (λ x. (p.mark x).marked) (pre p.links) (λ x h. ap (λ (m : Mark). m.marked) (K.same.mark x (listed_has x h))))

  -- the queue is what is marked removed
  queue_fits : t.index.queued ≤ length t.index.dirty
  queue_fits = omega (arith, K.whole.index.dirty, K.sound.index.queue_fits)

  mark_low : (k : ℕ) → is_removed (entry_mark t k) ≡ true → k < 512
  mark_low k h =
      elim (dec_lt k 512) [
        | yes l ↦ l
        | no g ↦ absurd (omega (arith, leb-true 4 (entry_mark t k) h, K.sound.index.beyond k (omega (arith, K.sound.index.used_fits))))
      ]

  removed_tells : Tells (some 512 (λ k. is_removed (entry_mark t k))) ((k : ℕ) × (1 ≤ times k (take t.index.queued t.index.dirty)))
  removed_tells = (
    λ e.
        let F = some_find 512 (λ k. is_removed (entry_mark t k)) e in
        let m = leb-true 4 (entry_mark t F.0) F.2 in
        (F.0, seen t.index.dirty t.index.queued queue_fits F.0 (K.sound.index.marked_queued F.0 (omega arith))),
    λ P. let r = K.queue P.0 P.1 in some_at 512 (λ k. is_removed (entry_mark t k)) P.0 (mark_low P.0 r) r,
  )

  pub needs_same : tree.needs_commit t ≡ plan.needs_commit p
  unfolding tree.needs_commit
  needs_same =
      third (any_of (marked_at t) (live_slots t)) (some 512 (λ k. is_removed (entry_mark t k))) (ltb 0 t.pending.count)
      (λ c. some_counted 512 (λ k. is_removed (entry_mark t k)) (omega (arith, ltb-true 0 t.pending.count c, K.sound.pending)))
      ∙ rw (
        marks_same,
        same (some 512 (λ k. is_removed (entry_mark t k))) (filled (take t.index.queued t.index.dirty)) removed_tells
            (filled_tells (take t.index.queued t.index.dirty)),
      )
      (sym (plan_needs p (take t.index.queued t.index.dirty) (sym K.same.removed)))
