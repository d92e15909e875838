-- An accepted commit keeps all that a tree and a plan agree in.
use mathlib.Core.Path.{◌≡◌, refl, sym, ap, ◌∙◌, subst}
use mathlib.Core.Bool.{Bool, true, false, ◌&&◌, cond}
use mathlib.Core.List.{List, [], ◌∷◌, ◌++◌, map, reverse, append-nil}
use Prim.Native.Nat.{ℕ, zero, suc, ◌≤◌, ◌<◌}
use native.Mathlib.Omega.{arith}
use native.Mathlib.Decide.{dec_lt, ℕ_discrete}
use borrow.Author.Tests.{leb-true}
use lib.ListN.{length, take}
use Rattle.counting.specs.Times.{times}
use Rattle.counting.proofs.Counting.{hit}
use Rattle.link_forest.specs.Forest.{Forest, has}
use Rattle.link_forest.proofs.Bools.{never}
use Rattle.index_sound.proofs.Exact.{counted}
use Rattle.index_sound.specs.Sound.{CountOf}
use Rattle.index_commit.specs.Commit.{start, work}
use Rattle.index_commit.proofs.Keep.{keep_commit}
use Rattle.index_types.specs.declared.Index.{Index}
use Rattle.index_state.specs.Index.{work_of}
use Rattle.index_state.proofs.Calls.{or_none}
use Rattle.tree_state.specs.declared.Tree.{Tree}
use Rattle.tree_state.specs.Tree.{is_live, live_slots, local_at, marked_at, transform_changed_at, clip_changed_at, entry_mark, is_removed, some, any_of, needs_commit}
use Rattle.tree_laws.proofs.Ground.{Linked, live_has}
use Rattle.tree_steps.specs.SlotOrder.{put_in, slots_below}
use Rattle.tree_steps.specs.Commit.{begun, starts_below, walk_all, visits_of, finished, work_for, commit_tree}
use Rattle.plan.specs.Plan.{Plan, no_mark, Entries}
use Rattle.plan.specs.Visits.{visits, enter, free_removed, committed}
use Rattle.agreement.proofs.Same.{Same, Known, as_mark, mark_of, entry_of}
use Rattle.agreement.proofs.worlds.Visits.{slot_at, Visited, visited}
use Rattle.agreement.proofs.worlds.Keyed.{KeyedTree}
use Rattle.agreement.proofs.worlds.Entries.{Entered}
use Rattle.agreement.proofs.worlds.Committed.{done, inside, keyed, fits, entries_done, unmarked, commit_right}
use Rattle.agreement.proofs.worlds.Left.{commit_whole_tree, commit_queue, commit_backed}
use Rattle.agreement.proofs.worlds.Owned.{owned_sound}
use Rattle.agreement.proofs.worlds.Sound.{Finished, finished_commit, commit_sound}
use Rattle.agreement.proofs.worlds.Numbers.{NumberedTree, numbered_ran}
use Rattle.agreement.proofs.worlds.Freeing.{freed_all}

-- the tree's visits are the plan's
abbrev pub Walks : Tree → Plan → Type 0
Walks t p = visited t ≡ visits p

-- ---- the plan's entries before the commit
numbered_known : (t : Tree) (p : Plan) → Known t p → NumberedTree t p.entries p.links
unfolding times
numbered_known t p K =
    let S = K.same in
    record {
      entry_is = S.entry;
      used_is = S.entries_used;
      free_is = S.entries_free;
      rest = [];
      queue_is = S.removed ∙ sym (append-nil p.entries.removed);
      removed = λ y h. leb-true 4 (entry_mark t y) (K.queue y (rw S.removed h));
      others = λ y h. absurd (omega arith);
    }

-- ---- what finishing leaves
module _ (t r : Tree) (p : Plan) (S : Same t p) (F : Finished t r) where
  linked_after : Linked r p.links
  linked_after = rw F.links S.links

  local_after : (x : ℕ) → has x p.links ≡ true → local_at r x ≡ p.local x
  unfolding local_at
  local_after x h = rw F.locals (S.local x h)

  mark_after : (x : ℕ) → mark_of r x ≡ no_mark
  mark_after x = ap as_mark (F.dirty_is x)

  same_after : (e : Entries) → ((x : ℕ) → has x p.links ≡ true → entry_of r x ≡ e.entry x) → take r.index.queued r.index.dirty ≡ [] → r.index.used ≡ e.used → reverse (take r.index.frees r.index.free) ≡ reverse e.removed ++ e.free
      → Same r (record { links = p.links; slots = p.slots; local = p.local; mark = λ x. no_mark; entries = free_removed e })
  same_after e entry queue used free =
      record {
        links = linked_after;
        used = rw F.slots S.used;
        generation = λ x. rw F.slots (S.generation x);
        free = rw F.slots S.free;
        local = local_after;
        mark = λ x h. mark_after x;
        entry = entry;
        removed = queue;
        entries_used = used;
        entries_free = free;
      }

-- ---- the free list after the index's commit
module _ (t : Tree) (f : Forest) (K : KeyedTree t f) (e : Entries) (N : NumberedTree t e f) where
  abbrev ix : Index
  ix = t.index

  free_after : reverse (take (work_of t.index).frees (work_of t.index).free) ≡ reverse e.removed ++ e.free
  unfolding work_of
  free_after =
      let w = start ix in
      let C = keep_commit ix.dirty ix.queued ix.used w K.counts K.index.entries K.index.free K.index.dirty in
      let fits : (work w (e.removed ++ N.rest)).frees ≤ length ix.free = rw (← N.queue_is) (omega (arith, C.free_fits, K.index.free)) in
      rw N.queue_is
      (freed_all w e.removed N.rest (λ y. rw (← N.queue_is) (K.counts.once y)) N.removed N.others fits ∙ ap (λ (l : List ℕ). reverse e.removed ++ l) N.free_is)

-- ---- a tree that needs no commit
no_members : (l : List ℕ) → ((y : ℕ) → 1 ≤ times y l → ⊥) → l ≡ []
unfolding times
no_members [] h = refl
no_members (x ∷ l) h = absurd (h x (omega (arith, hit x)))

none_of_some : (n : ℕ) (q : ℕ → Bool) → some n q ≡ false → (k : ℕ) → k < n → q k ≡ false
unfolding some
none_of_some zero q e k l = absurd (omega arith)
none_of_some (suc n) q e k l =
    let w = or_none (some n q) (q n) e in
    elim (ℕ_discrete k n) [ yes d ↦ rw (d, w.1) | no m ↦ none_of_some n q w.0 k (omega arith) ]

no_starts : (t : Tree) → ((x : ℕ) → is_live t x ≡ true → marked_at t x ≡ false) → (n : ℕ) → starts_below t n ≡ []
unfolding slots_below put_in
no_starts t h zero = refl
no_starts t h (suc n) = rw (no_starts t h n) (go (is_live t n) refl)
  where
    go : (b : Bool) → is_live t n ≡ b → cond (b && marked_at t n) (n ∷ []) [] ≡ []
    go true e = rw (h n e)
    go false e = refl

module _ (t : Tree) (p : Plan) (K : Known t p) (walks : Walks t p) (calm : needs_commit t ≡ false) where
  abbrev f : Forest
  f = p.links

  still : (x : ℕ) → has x f ≡ true → marked_at t x ≡ false
  still = unmarked t p K calm

  nobody : visits p ≡ []
  unfolding walk_all
  nobody =
      sym walks
      ∙ ap (λ (l : List ℕ). map (slot_at t.links) (walk_all t l)) (no_starts t (λ x h. still x (sym (live_has t f K.same.links x) ∙ h)) 256)

  none_removed : (k : ℕ) → k < 512 → is_removed (entry_mark t k) ≡ false
  unfolding needs_commit
  none_removed k l =
      none_of_some 512 (λ j. is_removed (entry_mark t j)) (or_none (any_of (marked_at t) (live_slots t)) _ (or_none _ _ calm).0).1 k l

  nothing_queued : take t.index.queued t.index.dirty ≡ []
  nothing_queued = no_members (take t.index.queued t.index.dirty) (λ y h. empty y h)
    where
      C : CountOf t.index.entries t.index.free t.index.frees t.index.dirty t.index.queued t.index.used
      C = counted t.index.entries t.index.free t.index.frees t.index.dirty t.index.queued t.index.used K.whole.index.entries K.whole.index.free K.whole.index.dirty K.sound.index

      empty : (y : ℕ) → 1 ≤ times y (take t.index.queued t.index.dirty) → ⊥
      empty y h = elim (dec_lt y 512) [ yes l ↦ never (K.queue y h) (none_removed y l) | no n ↦ omega (arith, C.low y (omega arith)) ]

  plain : (x : ℕ) → has x f ≡ true → mark_of t x ≡ no_mark
  plain x h = rw (still x h, go (transform_changed_at t x) refl (K.sound.transform_marked x live), go (clip_changed_at t x) refl (K.sound.clip_marked x live))
    where
      live : is_live t x ≡ true
      live = live_has t f K.same.links x ∙ h

      go : (b : Bool) → {c : Bool} → c ≡ b → (c ≡ true → marked_at t x ≡ true) → c ≡ false
      go true e u = never (u e) (still x h)
      go false e u = e

  calm_same : Same t (committed p)
  unfolding committed enter
  calm_same =
      let S = K.same in
      let gone : p.entries.removed ≡ [] = sym S.removed ∙ nothing_queued in
      rw nobody
      (record {
        links = S.links;
        used = S.used;
        generation = S.generation;
        free = S.free;
        local = S.local;
        mark = plain;
        entry = S.entry;
        removed = nothing_queued;
        entries_used = S.entries_used;
        entries_free = S.entries_free ∙ ap (λ (l : List ℕ). reverse l ++ p.entries.free) (sym gone);
      })

-- ---- the whole commit
module _ (t : Tree) (p : Plan) (K : Known t p) (E : Entered t p.links) (Vs : Visited t p.links) (walks : Walks t p) where
  numbered_done : NumberedTree (done t p K E Vs) (enter p.entries (visits p)) p.links
  numbered_done =
      subst (λ (l : List ℕ). NumberedTree (done t p K E Vs) (enter p.entries l) p.links) walks
      (numbered_ran p.links (visits_of t) (begun t) p.entries K.same.links (keyed t p K E Vs) (inside t p K E Vs) (fits t p K E Vs) (owned_sound t p.links K.sound K.same.links) (numbered_known t p K))

  done_same : Same (finished (done t p K E Vs)) (committed p)
  unfolding committed
  done_same =
      same_after t (finished (done t p K E Vs)) p K.same (finished_commit t p K E Vs) (enter p.entries (visits p))
      numbered_done.entry_is refl numbered_done.used_is
      (free_after (done t p K E Vs) p.links (entries_done t p K E Vs).keyed (enter p.entries (visits p)) numbered_done)

  pub commit_same : Same (commit_tree t).tree (committed p)
  unfolding commit_tree
  commit_same = go (needs_commit t) refl
    where
      go : (b : Bool) → needs_commit t ≡ b → Same (work_for b t).tree (committed p)
      go true n = done_same
      go false n = calm_same t p K walks n

  -- an accepted commit keeps the agreement with the plan
  pub commit_known : Known (commit_tree t).tree (committed p)
  commit_known =
      record {
        whole = commit_whole_tree t p K E Vs;
        sound = commit_sound t p K E Vs;
        same = commit_same;
        queue = commit_queue t p K E Vs;
        backed = commit_backed t p K E Vs;
        right = commit_right t p K E Vs;
      }
