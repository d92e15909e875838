-- An accepted commit keeps the tree sound.
use mathlib.Core.Path.{◌≡◌, refl, sym, ap, ◌∙◌, subst}
use mathlib.Core.Logic.{◌⊎◌, inl, inr}
use mathlib.Core.Bool.{Bool, true, false}
use mathlib.Core.List.{List, [], ◌∷◌}
use Prim.Native.Nat.{ℕ, zero, suc, ◌≤◌, ◌<◌}
use native.Mathlib.Omega.{arith}
use native.Mathlib.Decide.{dec_lt}
use borrow.Author.Tests.{lt-leb}
use lib.ListN.{length, take, replicate}
use lib.Seq.{length-take-le}
use Rattle.index_types.specs.Slots.{entry_in}
use Rattle.counting.proofs.Counting.{tally_small}
use Rattle.link_forest.specs.Forest.{Forest, has}
use Rattle.link_forest.proofs.Bools.{never}
use Rattle.index_sound.specs.Sound.{SoundOf}
use Rattle.index_sound.proofs.Exact.{worded}
use Rattle.index_commit.specs.Commit.{start}
use Rattle.index_commit.proofs.Loop.{commit_bare}
use Rattle.index_commit.proofs.Keep.{unmarked, keep_commit, commit_whole}
use Rattle.index_types.specs.declared.Slot.{Slot}
use Rattle.index_types.specs.declared.Index.{Index}
use Rattle.index_state.specs.Index.{work_of, commit_of}
use Rattle.index_state.proofs.Soundness.{Counts}
use Rattle.tree_state.specs.declared.Dirty.{Dirty}
use Rattle.tree_state.specs.declared.Tree.{Tree}
use Rattle.tree_state.specs.Tree.{no_dirty, live_slots, local_at, dirty, committed_at, key_at, entry_mark, is_removed, needs_commit}
use Rattle.tree_state.specs.Sound.{SoundTree, Owns, Live, count_of, count_below, removed_entries}
use Rattle.tree_state.specs.Whole.{WholeIndex}
use Rattle.tree_laws.proofs.Ground.{live_has}
use Rattle.tree_steps.specs.Commit.{begun, visits_of, finished, work_for, commit_tree}
use Rattle.plan.specs.Plan.{Plan}
use Rattle.agreement.proofs.Same.{Known}
use Rattle.agreement.proofs.worlds.Visits.{Visited}
use Rattle.agreement.proofs.worlds.Fold.{Frame}
use Rattle.agreement.proofs.worlds.Keyed.{KeyedTree}
use Rattle.agreement.proofs.worlds.Entries.{Entered}
use Rattle.agreement.proofs.worlds.Committed.{done, inside, keyed, fits, worlds_ran, entries_done, fresh_done}
use Rattle.agreement.proofs.worlds.Owned.{OwnedTree, Comes, comes_work, owned_ran, owned_sound}

-- ---- counts
pub count_none : (n : ℕ) (p : ℕ → Bool) → ((k : ℕ) → p k ≡ false) → count_below n p ≡ 0
unfolding count_below
count_none zero p h = refl
count_none (suc n) p h = rw (count_none n p h, h n) (omega arith)

count_few : (p : ℕ → Bool) (l : List ℕ) → count_of p l ≤ length l
unfolding count_of
count_few p [] = omega arith
count_few p (x ∷ l) = omega (arith, count_few p l, tally_small (p x))

pub clean : (n x : ℕ) → dirty (replicate n no_dirty) x ≡ no_dirty
clean zero x = refl
clean (suc n) zero = refl
clean (suc n) (suc x) = clean n x

-- ---- a tree with the slots, links and local records of a sound one, nothing pending, no mark, and its entries in order
pub record Finished (t r : Tree) : Type 0 where
  pub slots : r.slots ≡ t.slots
  pub links : r.links ≡ t.links
  pub locals : r.locals ≡ t.locals
  pub pending : r.pending.count ≡ 0
  pub dirty_is : (x : ℕ) → dirty r.marks x ≡ no_dirty
  pub committed : (x : ℕ) → Live t x → committed_at r x ≡ true
  pub owns : (x : ℕ) → Live t x → Owns r x (key_at r x).0
  pub marks : (k : ℕ) → entry_mark r k < 2
  pub owner : (k : ℕ) → k < 512 → (entry_mark r k ≡ 0 → ⊥) → (x : ℕ) × Live t x × ((key_at r x).0 ≡ k)
  pub index : SoundOf r.index.entries r.index.free r.index.frees r.index.dirty r.index.queued r.index.used

module _ (t r : Tree) (w : length t.links.order ≡ 256) (S : SoundTree t) (F : Finished t r) where
  live_same : (x : ℕ) → Live r x → Live t x
  live_same x h = rw F.links at h

  same_live : (x : ℕ) → Live t x → Live r x
  same_live x h = rw F.links h

  pub none_removed : removed_entries r ≡ 0
  none_removed = count_none 512 (λ k. is_removed (entry_mark r k)) (λ k. lt-leb 4 (entry_mark r k) (omega (arith, F.marks k)))

  live_few : length (live_slots r) ≤ 256
  live_few = rw F.links (omega (arith, S.count_fits, length-take-le t.links.count t.links.order (omega (arith, S.count_fits))))

  pub finished_sound : SoundTree r
  unfolding local_at
  finished_sound =
      record {
        used_fits = rw F.slots S.used_fits;
        count_fits = rw F.links S.count_fits;
        free_fits = rw F.slots S.free_fits;
        pending_fits = omega (arith, F.pending);
        links = rw F.links S.links;
        once = rw (F.links, F.slots) S.once;
        beyond = rw (F.links, F.slots) S.beyond;
        finite = λ x h. rw F.locals (S.finite x (live_same x h));
        flags_known = λ x h. rw F.locals (S.flags_known x (live_same x h));
        clips = λ x h. rw F.locals (S.clips x (live_same x h));
        committed = λ x h c. F.owns x (live_same x h);
        uncommitted = λ x h c. never (F.committed x (live_same x h)) c;
        transform_marked = λ x h c. never c (ap (λ (d : Dirty). d.transform) (F.dirty_is x));
        clip_marked = λ x h c. never c (ap (λ (d : Dirty). d.clip) (F.dirty_is x));
        pending = omega (arith, F.pending);
        few = omega (arith, none_removed, count_few (committed_at r) (live_slots r), live_few);
        owned = λ k l n e.
            let u = F.owner k l n in
            (u.0, same_live u.0 u.1, F.committed u.0 u.1, subst (Owns r u.0) u.2 (F.owns u.0 u.1));
        index = F.index;
      }

-- ---- the marks that the index's commit leaves
module _ (ix : Index) (W : WholeIndex ix) (C : Counts ix) where
  abbrev before : ℕ → ℕ
  before e = (entry_in ix.entries e).mark

  abbrev after : ℕ → ℕ
  after e = (entry_in (commit_of ix (work_of ix)).entries e).mark

  pub after_low : (e : ℕ) → after e < 2
  unfolding work_of
  after_low e =
      unmarked ix.dirty ix.queued ix.used (start ix) C W.entries W.free W.dirty e

  comes : (e : ℕ) → Comes (before e) (after e)
  unfolding work_of
  comes e =
      comes_work (start ix) (take ix.queued ix.dirty) e

  -- an entry that is not removed stays, without a mark
  pub after_stays : (e : ℕ) → (before e ≡ 0 → ⊥) → before e ≤ 3 → after e ≡ 1
  after_stays e n h = omega (arith, ((comes e).stays (omega arith) h).0, after_low e)

  -- and what stays was one
  pub after_from : (e : ℕ) → (after e ≡ 0 → ⊥) → (before e ≡ 0 → ⊥) × (before e ≤ 3)
  after_from e n = ((λ z. n ((comes e).empty z)), elim (dec_lt (before e) 4) [ yes l ↦ omega arith | no g ↦ absurd (gone ((comes e).goes (omega arith))) ])
    where
      gone : (4 ≤ after e) ⊎ (after e ≡ 0) → ⊥
      gone (inl l) = omega (arith, after_low e)
      gone (inr z) = n z

  pub after_sound : let r = commit_of ix (work_of ix) in SoundOf r.entries r.free r.frees r.dirty r.queued r.used
  unfolding work_of
  after_sound =
      let w = start ix in
      let r = commit_of ix (work_of ix) in
      let l = commit_whole ix.dirty ix.queued ix.used w C W.entries W.free W.dirty in
      worded r.entries r.free r.frees r.dirty r.queued r.used l.0 l.1 W.dirty
      (keep_commit ix.dirty ix.queued ix.used w C W.entries W.free W.dirty)

-- ---- the whole commit
module _ (t : Tree) (p : Plan) (K : Known t p) (E : Entered t p.links) (Vs : Visited t p.links) where
  abbrev f : Forest
  f = p.links

  pub owned_done : OwnedTree (done t p K E Vs) f
  owned_done =
      owned_ran f (visits_of t) (begun t) K.same.links (keyed t p K E Vs) (inside t p K E Vs) (fits t p K E Vs) (owned_sound t f K.sound K.same.links)

  pub finished_commit : Finished t (finished (done t p K E Vs))
  finished_commit = record {
    slots = frame.slots;
    links = frame.links;
    locals = frame.locals;
    pending = refl;
    dirty_is = clean 256;
    committed = λ x h. (fresh_done t p K E Vs x (there x h)).1;
    owns = owns;
    marks = after_low d.index Y.index Y.counts;
    owner = owner;
    index = after_sound d.index Y.index Y.counts;
  }
    where
      d : Tree
      d = done t p K E Vs

      frame : Frame t (done t p K E Vs)
      frame = (worlds_ran t p K E Vs).frame

      Y : KeyedTree (done t p K E Vs) f
      Y = (entries_done t p K E Vs).keyed

      there : (x : ℕ) → Live t x → has x f ≡ true
      there x h = sym (live_has t f K.same.links x) ∙ h

      owns : (x : ℕ) → Live t x → Owns (finished (done t p K E Vs)) x (key_at (finished (done t p K E Vs)) x).0
      owns x h =
          let g = there x h in
          let c = (fresh_done t p K E Vs x g).1 in
          let H = Y.held x g c in
          let B = owned_done.owns x g c in
          let stays = commit_bare (done t p K E Vs).index (key_at (done t p K E Vs) x).0 in
          record {
            slot = refl;
            is_entry = H.0;
            unmarked = after_stays (done t p K E Vs).index Y.index Y.counts (key_at (done t p K E Vs) x).0 H.1 B.kept;
            under_key = ap (λ (s : Slot). s.generation) stays ∙ B.under_key;
            carries = ap (λ (s : Slot). s.payload) stays ∙ B.carries;
          }

      owner : (k : ℕ) → k < 512 → (entry_mark (finished (done t p K E Vs)) k ≡ 0 → ⊥) → (x : ℕ) × Live t x × ((key_at (finished (done t p K E Vs)) x).0 ≡ k)
      owner k l n =
          let u = after_from (done t p K E Vs).index Y.index Y.counts k n in
          let w = owned_done.owner k l u.0 u.1 in
          (w.0, live_has t f K.same.links w.0 ∙ w.1, w.3)

  pub commit_sound : SoundTree (commit_tree t).tree
  unfolding commit_tree
  commit_sound = go (needs_commit t)
    where
      go : (b : Bool) → SoundTree (work_for b t).tree
      go true = finished_sound t (finished (done t p K E Vs)) K.whole.links.order K.sound finished_commit
      go false = K.sound
