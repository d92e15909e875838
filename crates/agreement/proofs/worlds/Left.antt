-- What a commit leaves of the tables: their lengths, an empty queue, and in the backend each entry's own box.
use mathlib.Core.Path.{◌≡◌, refl, sym, ap, ◌∙◌, subst}
use mathlib.Core.Bool.{Bool, true, false}
use mathlib.Core.List.{List, [], ◌∷◌}
use Prim.Native.Nat.{ℕ, ◌<◌}
use native.Mathlib.Omega.{arith}
use lib.ListN.{length}
use Rattle.index_types.specs.Slots.{entry_in}
use Rattle.geometry.specs.Rectangle.{rect_eq}
use Rattle.index_types.specs.declared.Aabb2D.{Aabb2D}
use Rattle.counting.specs.Times.{times}
use Rattle.tree_types.specs.Local.{rect_to_aabb}
use Rattle.link_forest.specs.Forest.{Forest, has}
use Rattle.index_entries.proofs.Finding.{slot_unused}
use Rattle.index_entries.proofs.Keep.{slot_empty, kind}
use Rattle.index_commit.specs.Commit.{start}
use Rattle.index_commit.proofs.Loop.{slot_low}
use Rattle.index_commit.proofs.Keep.{commit_whole}
use Rattle.index_commit.proofs.Agree.{own_work}
use Rattle.index_commit.specs.Agree.{Agree}
use Rattle.index_types.specs.declared.Index.{Index}
use Rattle.index_state.specs.Index.{slot_of, mark_at, work_of, commit_of}
use Rattle.index_state.proofs.Backend.{away, updated_mark_lem, updated_unseen}
use Rattle.tree_state.specs.declared.Pending.{Pending}
use Rattle.tree_state.specs.declared.Tree.{Tree}
use Rattle.tree_state.specs.Tree.{committed_at, key_at, stored_hit_bounds, needs_commit}
use Rattle.tree_state.specs.Whole.{Whole, WholeSlots, WholeLinks, WholeIndex}
use Rattle.tree_laws.proofs.Ground.{Linked, slot_live}
use Rattle.tree_steps.specs.Commit.{Work, enter_index, new_place, new_hit_bounds, rework, rework_all, begun, visits_of, work_for, commit_tree}
use Rattle.plan.specs.Plan.{Plan}
use Rattle.agreement.proofs.Same.{Known, Queued, Backed}
use Rattle.agreement.proofs.worlds.Visits.{slot_at, Visited}
use Rattle.agreement.proofs.worlds.Fold.{Frame}
use Rattle.agreement.proofs.worlds.Keyed.{KeyedTree}
use Rattle.agreement.proofs.worlds.Entries.{Entered, Fitting, Inside, turn_keyed}
use Rattle.agreement.proofs.worlds.Committed.{done, inside, keyed, fits, worlds_ran, entries_done}

-- ---- the backend through a turn
abbrev BackedIndex : Index → Type 0
BackedIndex ix = Agree ix.entries ix.backend.entries

module _ (t : Tree) (f : Forest) (K : KeyedTree t f) (x : ℕ) (h : has x f ≡ true) (r : Aabb2D) (B : Backed t) where
  backed_turn : (b c : Bool) → committed_at t x ≡ b → (b ≡ false → slot_of t.index < 512) → BackedIndex (enter_index b c t x r)
  backed_turn false c d fits =
      let ix = t.index in
      let z =
      slot_empty ix.entries ix.free ix.frees ix.dirty ix.queued ix.used K.counts K.index.entries K.index.free K.index.dirty
      (λ e. rw (slot_unused ix.entries ix.free ix.frees ix.used e) at (fits refl)) in
      away ix.entries ix.backend.entries (slot_of ix) _ (fits refl) (λ e. omega arith) (rw z) B
  backed_turn true true d fits = B
  backed_turn true false d fits =
      let ix = t.index in
      let k = (key_at t x).0 in
      let H = K.held x h d in
      away ix.entries ix.backend.entries k _ H.0 (updated_mark_lem (mark_at ix k)) (updated_unseen (kind (entry_in ix.entries k).mark H.1)) B

pub backed_ran : (f : Forest) (is : List ℕ) (k : Work) → Linked k.tree f → KeyedTree k.tree f → Inside k.tree.links is → Fitting k is → Backed k.tree → Backed (rework_all k is).tree
unfolding rework_all rework
backed_ran f [] k L K I F B = B
backed_ran f (i ∷ is) k L K I F B =
    let t = k.tree in
    let x = slot_at t.links i in
    let h = slot_live t f L i I.0 in
    let b = new_hit_bounds t x (new_place t i x) in
    backed_ran f is (rework k i) L (turn_keyed t f L K i x h F.0) I.1 F.1
    (backed_turn t f K x h (rect_to_aabb b) B (committed_at t x) (rect_eq (stored_hit_bounds t x) b) refl F.0)

-- ---- the index's own commit
module _ (t : Tree) (f : Forest) (K : KeyedTree t f) (B : Backed t) where
  abbrev ix : Index
  ix = t.index

  pub index_backed : BackedIndex (commit_of t.index (work_of t.index))
  unfolding work_of
  index_backed =
      own_work ix.dirty ix.queued (start ix) (omega (arith, K.index.dirty, K.counts.queue_fits))
      (λ k l. slot_low ix.entries ix.free ix.frees ix.dirty ix.queued ix.used k K.counts K.index.dirty l) ix.queued (omega arith) B

  pub index_whole : WholeIndex (commit_of t.index (work_of t.index))
  unfolding work_of
  index_whole =
      let l = commit_whole ix.dirty ix.queued ix.used (start ix) K.counts K.index.entries K.index.free K.index.dirty in
      record { entries = l.0; free = l.1; dirty = K.index.dirty; stored = index_backed.stored_whole }

-- ---- the whole commit
module _ (t : Tree) (p : Plan) (K : Known t p) (E : Entered t p.links) (Vs : Visited t p.links) where
  backed_done : Backed (done t p K E Vs)
  backed_done = backed_ran p.links (visits_of t) (begun t) K.same.links (keyed t p K E Vs) (inside t p K E Vs) (fits t p K E Vs) K.backed

  pub commit_backed : Backed (commit_tree t).tree
  unfolding commit_tree
  commit_backed = go (needs_commit t)
    where
      go : (b : Bool) → Backed (work_for b t).tree
      go true = index_backed (done t p K E Vs) p.links (entries_done t p K E Vs).keyed backed_done
      go false = K.backed

  pub commit_queue : Queued (commit_tree t).tree
  unfolding commit_tree times
  commit_queue = go (needs_commit t)
    where
      go : (b : Bool) → Queued (work_for b t).tree
      go true k h = absurd (omega arith)
      go false k h = K.queue k h

  pub commit_whole_tree : Whole (commit_tree t).tree
  unfolding commit_tree
  commit_whole_tree = go (needs_commit t)
    where
      F : Frame t (done t p K E Vs)
      F = (worlds_ran t p K E Vs).frame

      go : (b : Bool) → Whole (work_for b t).tree
      go true =
          record {
            slots = subst WholeSlots (sym F.slots) K.whole.slots;
            links = subst WholeLinks (sym F.links) K.whole.links;
            locals = ap length F.locals ∙ K.whole.locals;
            worlds = (worlds_ran t p K E Vs).worlds;
            marks = refl;
            keys = (entries_done t p K E Vs).keyed.keys;
            pending = ap (λ (q : Pending). length q.rects) F.pending ∙ K.whole.pending;
            index = index_whole (done t p K E Vs) p.links (entries_done t p K E Vs).keyed backed_done;
          }
      go false = K.whole
