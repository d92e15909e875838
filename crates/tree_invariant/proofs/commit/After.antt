-- After an accepted commit nothing calls for another: no live node has a mark or counts as changed, no entry is removed, nothing is pending.
use mathlib.Core.Path.{◌≡◌, refl, sym, ap, ◌∙◌}
use mathlib.Core.Bool.{Bool, true, false, ◌||◌}
use mathlib.Core.List.{List, [], ◌∷◌}
use Prim.Native.Nat.{ℕ, zero, suc, ◌≤◌}
use native.Mathlib.Omega.{arith}
use native.Mathlib.Decide.{ℕ_discrete}
use borrow.Author.Tests.{lt-leb, ltb-false, le-ltb}
use lib.Dec.{ltb}
use Rattle.counting.specs.Times.{times}
use Rattle.counting.proofs.Counting.{miss}
use Rattle.link_forest.specs.Forest.{Forest}
use Rattle.link_forest.proofs.Bools.{never}
use Rattle.link_forest.proofs.Counting.{has_count}
use Rattle.link_forest.proofs.Rep.{rep_times}
use Rattle.tree_state.specs.declared.Dirty.{Dirty}
use Rattle.tree_state.specs.declared.Tree.{Tree}
use Rattle.tree_state.specs.Tree.{live_slots, marked_at, transform_changed_at, clip_changed_at, committed_at, entry_mark, is_removed, some, any_of, needs_commit}
use Rattle.tree_state.specs.Sound.{SoundTree, Live, count_below}
use Rattle.tree_state.specs.Whole.{Whole}
use Rattle.tree_laws.proofs.Ground.{Linked, linked, live_has}
use Rattle.tree_steps.specs.Commit.{visits_of, rework_all, begun, no_marks, finished, work_for, commit_tree}
use Rattle.agreement.proofs.worlds.Sound.{Finished, none_removed}
use Rattle.tree_invariant.specs.commit.Calm.{Calm}
use Rattle.tree_invariant.proofs.commit.Keep.{finished_in, keep_commit}

-- ---- tests over a list and over the numbers below a bound
none_any : (p : ℕ → Bool) (l : List ℕ) → ((y : ℕ) → p y ≡ false) → any_of p l ≡ false
unfolding any_of
none_any p [] h = refl
none_any p (x ∷ l) h = rw (h x) (none_any p l h)

any_none : (p : ℕ → Bool) (l : List ℕ) → any_of p l ≡ false → (y : ℕ) → 1 ≤ times y l → p y ≡ false
unfolding any_of times
any_none p [] e y h = absurd (omega arith)
any_none p (x ∷ l) e y h = go (p x) refl e (λ d n. any_none p l d y n)
  where
    go : (b : Bool) → p x ≡ b → b || any_of p l ≡ false → (any_of p l ≡ false → 1 ≤ times y l → p y ≡ false) → p y ≡ false
    go true d e u = never refl e
    go false d e u = elim (ℕ_discrete y x) [ yes i ↦ rw (i, d) | no n ↦ u e (omega (arith, miss y x n)) ]

none_some : (n : ℕ) (p : ℕ → Bool) → ((k : ℕ) → p k ≡ false) → some n p ≡ false
unfolding some
none_some zero p h = refl
none_some (suc n) p h = rw (none_some n p h) (h n)

first : (a b : Bool) → a || b ≡ false → a ≡ false
first true b e = e
first false b e = refl

second : (a b : Bool) → a || b ≡ false → b ≡ false
second true b e = never refl e
second false b e = e

some_none : (n : ℕ) (p : ℕ → Bool) → some n p ≡ false → count_below n p ≡ 0
unfolding some count_below
some_none zero p e = refl
some_none (suc n) p e = rw (some_none n p (first (some n p) (p n) e), second (some n p) (p n) e) (omega arith)

-- ---- a sound tree that needs no commit
calm_before : (t : Tree) (f : Forest) → SoundTree t → Linked t f → needs_commit t ≡ false → Calm t
unfolding needs_commit
calm_before t f S L e =
    record {
      no_need = e;
      unmarked = unmarked;
      transform_same = λ x h. none (transform_changed_at t x) (λ c. never (S.transform_marked x h c) (unmarked x h));
      clip_same = λ x h. none (clip_changed_at t x) (λ c. never (S.clip_marked x h c) (unmarked x h));
      none_removed = some_none 512 (λ k. is_removed (entry_mark t k)) (second a b (first (a || b) d e));
      none_pending = omega (arith, ltb-false 0 t.pending.count (second (a || b) d e));
    }
  where
    a : Bool
    a = any_of (marked_at t) (live_slots t)

    b : Bool
    b = some 512 (λ k. is_removed (entry_mark t k))

    d : Bool
    d = ltb 0 t.pending.count

    none : (c : Bool) → (c ≡ true → ⊥) → c ≡ false
    none true n = absurd (n refl)
    none false n = refl

    unmarked : (x : ℕ) → Live t x → marked_at t x ≡ false
    unmarked x h =
        any_none (marked_at t) (live_slots t) (first a b (first (a || b) d e)) x
        (omega (arith, rep_times L.rep x, has_count x f (sym (live_has t f L x) ∙ h)))

-- ---- a tree that a commit has finished
calm_after : (t d : Tree) → Whole t → SoundTree t → Finished t (finished d) → Calm (finished d)
unfolding needs_commit
calm_after t d W S F =
    record {
      no_need =
          rw (none_any (marked_at (finished d)) (live_slots (finished d)) (λ x. ap (λ (c : Dirty). c.marked) (F.dirty_is x)), none_some 512 (λ k. is_removed (entry_mark (finished d) k)) (λ k. lt-leb 4 (entry_mark (finished d) k) (omega (arith, F.marks k))))
          (le-ltb 0 0 (omega arith));
      unmarked = λ x h. ap (λ (c : Dirty). c.marked) (F.dirty_is x);
      transform_same = λ x h. ap (λ (c : Dirty). c.transform) (F.dirty_is x);
      clip_same = λ x h. ap (λ (c : Dirty). c.clip) (F.dirty_is x);
      none_removed = none_removed t (finished d) W.links.order S F;
      none_pending = refl;
    }

pub after_commit : (t : Tree) → Whole t → SoundTree t → Calm (commit_tree t).tree
unfolding commit_tree
after_commit t W S =
    let G = linked t W S in
    go (needs_commit t) (calm_before t G.0 S G.1) (calm_after t (rework_all (begun t) (visits_of t)).tree W S (finished_in t G.0 W S G.1))
  where
    go : (b : Bool) → (b ≡ false → Calm t) → Calm (finished (rework_all (begun t) (visits_of t)).tree) → Calm (work_for b t).tree
    go true g h = h
    go false g h = g refl

-- every live node is committed then: one that is not would be marked
pub live_committed : (t : Tree) → Whole t → SoundTree t → (x : ℕ) → Live (commit_tree t).tree x → committed_at (commit_tree t).tree x ≡ true
live_committed t W S x h = go (committed_at (commit_tree t).tree x) refl
  where
    go : (b : Bool) → committed_at (commit_tree t).tree x ≡ b → b ≡ true
    go true c = refl
    go false c = never ((keep_commit t W S).1.uncommitted x h c).in_transform ((after_commit t W S).transform_same x h)

-- where a commit was needed, no slot has a mark
pub after_marks : (t : Tree) → needs_commit t ≡ true → (commit_tree t).tree.marks ≡ no_marks
unfolding commit_tree
after_marks t e = rw e
