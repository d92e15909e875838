-- An accepted commit: each turn of it finds what it needs, it has room for its damage, and it keeps the tree sound and its tables' lengths.
use mathlib.Core.Path.{◌≡◌, refl, sym, ap, ◌∙◌, subst}
use mathlib.Core.Bool.{Bool, true, false}
use mathlib.Core.List.{List, []}
use Prim.Native.Nat.{ℕ, ◌≤◌, ◌<◌}
use native.Mathlib.Omega.{arith}
use lib.ListN.{length}
use lib.Seq.{length-take-le}
use Rattle.geometry.specs.Rectangle.{has_area}
use Rattle.link_forest.specs.Forest.{Forest, has}
use Rattle.link_forest.proofs.Rep.{rep_times}
use Rattle.index_types.specs.declared.Slot.{Slot}
use Rattle.index_sound.specs.Sound.{SoundOf}
use Rattle.index_sound.proofs.Exact.{worded}
use Rattle.index_commit.proofs.Loop.{commit_bare}
use Rattle.tree_state.specs.declared.Pending.{Pending}
use Rattle.tree_state.specs.declared.Tree.{Tree}
use Rattle.tree_state.specs.Tree.{live_slots, committed_at, key_at, stored_bounds, entry_mark, needs_commit}
use Rattle.tree_state.specs.Sound.{SoundTree, Owns, Live, count_of, committed_nodes}
use Rattle.tree_state.specs.Whole.{Whole, WholeSlots, WholeLinks, WholeIndex}
use Rattle.tree_laws.proofs.Ground.{Linked, linked, live_has}
use Rattle.tree_steps.specs.Commit.{visits_of, rework_all, begun, finished, work_for, commit_tree}
use Rattle.tree_rework.specs.preconditions.Fits.{Ready}
use Rattle.tree_visits.proofs.Parents.{slots_at}
use Rattle.tree_visits.proofs.Laws.{visits_low, visits_few}
use Rattle.tree_visits.proofs.Slots.{slots_once, slots_cover}
use Rattle.tree_visits.proofs.Cover.{none_of}
use Rattle.tree_invariant.proofs.remove.Fold.{no_area}
use Rattle.agreement.proofs.worlds.Room.{few_entries}
use Rattle.agreement.proofs.worlds.Fold.{Frame}
use Rattle.agreement.proofs.worlds.Sound.{Finished, after_low, after_stays, after_from, after_sound, clean, finished_sound}
use Rattle.tree_invariant.proofs.commit.Filed.{FiledTree, filed_sound}
use Rattle.tree_invariant.proofs.commit.Turn.{Before}
use Rattle.tree_invariant.proofs.commit.Fold.{all_fit, all_done, all_stay, all_committed, all_frame}
use Rattle.tree_invariant.proofs.commit.Sizes.{whole_commit, count_more}

-- ---- before the first turn

-- the pending rectangles
pub begun_many : (t : Tree) → Whole t → SoundTree t → length (begun t).damage ≡ t.pending.count
begun_many t W S = length-take-le t.pending.count t.pending.rects (omega (arith, W.pending, S.pending_fits))

module _ (t : Tree) (f : Forest) (W : Whole t) (S : SoundTree t) (L : Linked t f) where
  abbrev slots : List ℕ
  slots = slots_at t.links.order (visits_of t)

  few_committed : count_of (committed_at t) slots ≤ committed_nodes t
  few_committed = count_more (committed_at t) slots (live_slots t) (λ y. omega (arith, slots_once t f L y, rep_times L.rep y))

  start : Before (committed_at t) f (begun t) (visits_of t)
  start =
      record {
        links = L;
        filed = filed_sound t f W S L;
        worlds = W.worlds;
        no_box = λ x h c. none_of (has_area (stored_bounds t x)) (no_area (stored_bounds t x) (S.uncommitted x (live_has t f L x ∙ h) c).no_box);
        inside = visits_low t f L;
        once = λ y. omega (arith, slots_once t f L y, L.once y);
        same = λ y h. refl;
        room = omega (arith, few_entries t f W S L, visits_few t f L, S.count_fits);
        damage = omega (arith, begun_many t W S, S.pending, S.few, few_committed, visits_few t f L, S.count_fits);
      }

  abbrev d : Tree
  d = (rework_all (begun t) (visits_of t)).tree

  done : Before (committed_at t) f (rework_all (begun t) (visits_of t)) []
  done = all_done (committed_at t) f (visits_of t) (begun t) start

  frame : Frame t (rework_all (begun t) (visits_of t)).tree
  frame = all_frame (visits_of t) (begun t)

  ready_in : Ready t (begun t).damage (visits_of t)
  ready_in = all_fit (committed_at t) f (visits_of t) (begun t) start

  few_in : length (rework_all (begun t) (visits_of t)).damage ≤ 512
  few_in = omega (arith, done.damage)

  -- every live node is committed: one that was not is marked, and so it is visited
  committed_in : (x : ℕ) → has x f ≡ true → committed_at d x ≡ true
  committed_in x h = go (committed_at t x) refl
    where
      live : Live t x
      live = live_has t f L x ∙ h

      go : (b : Bool) → committed_at t x ≡ b → committed_at d x ≡ true
      go true c = all_stay (committed_at t) f (visits_of t) (begun t) start x c
      go false c =
          all_committed (committed_at t) f (visits_of t) (begun t) start x
          (slots_cover t f L x h (rw (S.transform_marked x live (S.uncommitted x live c).in_transform)))

  -- ---- the commit of the index
  pub finished_in : Finished t (finished d)
  finished_in =
      record {
        slots = frame.slots;
        links = frame.links;
        locals = frame.locals;
        pending = refl;
        dirty_is = clean 256;
        committed = λ x h. committed_in x (there x h);
        owns = owns;
        marks = after_low d.index K.index K.counts;
        owner = owner;
        index = after_sound d.index K.index K.counts;
      }
    where
      K : FiledTree d f
      K = done.filed

      there : (x : ℕ) → Live t x → has x f ≡ true
      there x h = sym (live_has t f L x) ∙ h

      owns : (x : ℕ) → Live t x → Owns (finished d) x (key_at (finished d) x).0
      owns x h =
          let g = there x h in
          let c = committed_in x g in
          let H = K.held x g c in
          let B = K.owned.owns x g c in
          let stays = commit_bare d.index (key_at d x).0 in
          record {
            slot = refl;
            is_entry = H.0;
            unmarked = after_stays d.index K.index K.counts (key_at d x).0 H.1 B.kept;
            under_key = ap (λ (s : Slot). s.generation) stays ∙ B.under_key;
            carries = ap (λ (s : Slot). s.payload) stays ∙ B.carries;
          }

      owner : (e : ℕ) → e < 512 → (entry_mark (finished d) e ≡ 0 → ⊥) → (x : ℕ) × Live t x × ((key_at (finished d) x).0 ≡ e)
      owner e l n =
          let u = after_from d.index K.index K.counts e n in
          let w = K.owned.owner e l u.0 u.1 in
          (w.0, live_has t f L w.0 ∙ w.1, w.3)

  whole_in : Whole (finished d)
  whole_in =
      record {
        slots = subst WholeSlots (sym frame.slots) W.slots;
        links = subst WholeLinks (sym frame.links) W.links;
        locals = ap length frame.locals ∙ W.locals;
        worlds = done.worlds;
        marks = refl;
        keys = done.filed.keys;
        pending = ap (λ (q : Pending). length q.rects) frame.pending ∙ W.pending;
        index = whole_commit d.index done.filed.index done.filed.counts;
      }

  sound_in : SoundTree (finished d)
  sound_in = finished_sound t (finished d) W.links.order S finished_in

-- ---- the whole

-- each turn of the commit of a sound tree finds what it needs
pub ready : (t : Tree) → Whole t → SoundTree t → Ready t (begun t).damage (visits_of t)
ready t W S = let F = linked t W S in ready_in t F.0 W S F.1

-- and so does the commit of its index
pub index_ready : (t : Tree) → Whole t → SoundTree t → let ix = (rework_all (begun t) (visits_of t)).tree.index in WholeIndex ix × SoundOf ix.entries ix.free ix.frees ix.dirty ix.queued ix.used
index_ready t W S =
    let F = linked t W S in
    let K = (done t F.0 W S F.1).filed in
    let ix = (rework_all (begun t) (visits_of t)).tree.index in
    (K.index, worded ix.entries ix.free ix.frees ix.dirty ix.queued ix.used K.index.entries K.index.free K.index.dirty K.counts)

-- the rectangles of damage, with those that were pending
pub few : (t : Tree) → Whole t → SoundTree t → length (commit_tree t).damage ≤ 512
unfolding commit_tree
few t W S = let F = linked t W S in go (needs_commit t) (few_in t F.0 W S F.1)
  where
    go : (b : Bool) → length (rework_all (begun t) (visits_of t)).damage ≤ 512 → length (work_for b t).damage ≤ 512
    go true h = h
    go false h = omega arith

pub keep_commit : (t : Tree) → Whole t → SoundTree t → Whole (commit_tree t).tree × SoundTree (commit_tree t).tree
unfolding commit_tree
keep_commit t W S = let F = linked t W S in go (needs_commit t) (whole_in t F.0 W S F.1) (sound_in t F.0 W S F.1)
  where
    go : (b : Bool) → Whole (finished (rework_all (begun t) (visits_of t)).tree) → SoundTree (finished (rework_all (begun t) (visits_of t)).tree)
        → Whole (work_for b t).tree × SoundTree (work_for b t).tree
    go true w s = (w, s)
    go false w s = (W, S)

-- no commit touches slots, links or local records
pub frame_commit : (t : Tree) → ((commit_tree t).tree.slots ≡ t.slots) × ((commit_tree t).tree.links ≡ t.links) × ((commit_tree t).tree.locals ≡ t.locals)
unfolding commit_tree
frame_commit t = go (needs_commit t)
  where
    go : (b : Bool) → ((work_for b t).tree.slots ≡ t.slots) × ((work_for b t).tree.links ≡ t.links) × ((work_for b t).tree.locals ≡ t.locals)
    go true = let F = all_frame (visits_of t) (begun t) in (F.slots, F.links, F.locals)
    go false = (refl, refl, refl)
