-- An accepted remove keeps a tree sound and its tables' lengths.
use Rattle.std.specs.Prelude.{Ok, Err}
use mathlib.Core.Path.{◌≡◌, refl, sym, ap, ◌∙◌, subst}
use mathlib.Core.Bool.{Bool, true, false}
use mathlib.Core.List.{List, ◌++◌}
use Prim.Native.Nat.{ℕ, ◌+◌, ◌≤◌, ◌<◌}
use native.Mathlib.Omega.{arith}
use native.Mathlib.Decide.{dec_lt}
use lib.Dec.{eqb}
use lib.ListN.{length, take, length-append}
use lib.Seq.{length-sets, length-take-le}
use Rattle.numbers.proofs.Bools.{and_left}
use Rattle.counting.specs.Times.{times}
use Rattle.counting.proofs.Counting.{times_append, shorter}
use Rattle.counting.proofs.Kit.{contra}
use Rattle.geometry.specs.Rectangle.{has_area}
use Rattle.index_types.specs.declared.NodeId.{NodeId}
use Rattle.index_types.specs.declared.Slot.{Slot}
use Rattle.link_forest.specs.Forest.{Forest, post, has, count, remove, part}
use Rattle.link_forest.proofs.Counting.{count_has, has_count, count_parts, count_post}
use Rattle.link_forest.proofs.Rep.{rep_times}
use Rattle.link_forest.proofs.Sound.{sound_remove}
use Rattle.link_table.specs.Links.{cut_tree}
use Rattle.index_sound.specs.Sound.{SoundOf}
use Rattle.index_sound.proofs.Exact.{worded, counted}
use Rattle.tree_state.specs.declared.Tree.{Tree}
use Rattle.tree_state.specs.declared.Refusal.{Refusal}
use Rattle.tree_state.specs.declared.Refusal.TheVariants as no
use Rattle.tree_state.specs.Tree as tree
use Rattle.tree_state.specs.Tree.{live_slots, position_of, is_live, local_at, committed_at, key_at, stored_bounds, entry_mark, is_removed, checked, Verdict}
use Rattle.tree_state.specs.Sound.{Live, Owns, SoundTree, count_of, owner_of, removed_entries, committed_nodes}
use Rattle.tree_steps.specs.Setters.{held, of_node}
use Rattle.tree_steps.specs.Structure.{remove_all, with_links, remove_tree}
use Rattle.tree_state.specs.Whole.{Whole}
use Rattle.tree_laws.proofs.Ground.{Linked, linked, live_has, segment, subtree_post}
use Rattle.tree_invariant.proofs.remove.Counts.{count_rest, count_fewer, keys_length, keys_has, keys_times, keys_owner, take_sets}
use Rattle.tree_invariant.proofs.remove.Entries.{marks_length, rest_stays, mark_stays, mark_removed, removed_more, queue_length, keep_keys}
use Rattle.tree_invariant.specs.remove.Removals.{Plain}
use Rattle.tree_invariant.proofs.remove.Fold.{pending_length, pending_count, no_area, gone_keys, left, removes}

-- ---- a node of the forest that a sound tree's links are

module _ (t : Tree) (w : Whole t) (S : SoundTree t) (f : Forest) (L : Linked t f) (x : ℕ) (h : has x f ≡ true) where
  -- what goes, children first, and the keys of the committed ones
  abbrev pub gone : List ℕ
  gone = post (part x f)

  abbrev pub keys : List ℕ
  keys = gone_keys t gone

  abbrev pub after : Tree
  after = left t (cut_tree t.links (position_of t x)) gone

  pub live_of : (y : ℕ) → has y f ≡ true → Live t y
  live_of y g = live_has t f L y ∙ g

  gone_count : (y : ℕ) → count y (remove x f) + times y gone ≡ count y f
  gone_count y = omega (arith, count_post y (part x f), count_parts y x f h)

  pub gone_has : (y : ℕ) → 1 ≤ times y gone → has y f ≡ true
  gone_has y n = count_has y f (omega (arith, gone_count y))

  gone_once : (y : ℕ) → times y gone ≤ 1
  gone_once y = omega (arith, gone_count y, L.once y)

  -- what stays
  pub rest_has : (y : ℕ) → has y (remove x f) ≡ true → has y f ≡ true
  rest_has y g = count_has y f (omega (arith, gone_count y, has_count y (remove x f) g))

  pub rest_out : (y : ℕ) → has y (remove x f) ≡ true → times y gone ≡ 0
  rest_out y g = omega (arith, gone_count y, has_count y (remove x f) g, L.once y)

  rest_in : (y : ℕ) → has y f ≡ true → times y gone ≡ 0 → has y (remove x f) ≡ true
  rest_in y g z = count_has y (remove x f) (omega (arith, gone_count y, has_count y f g))

  -- ---- keys

  -- the entry under a key carries its owner's id
  owner_back : (y : ℕ) → has y f ≡ true → committed_at t y ≡ true → owner_of t (key_at t y).0 ≡ y
  owner_back y g c = ap (λ (i : NodeId). i.0) (S.committed y (live_of y g) c).carries

  keys_few : (k : ℕ) → times k keys ≤ times (owner_of t k) gone
  keys_few k = keys_times (committed_at t) (λ y. (key_at t y).0) (owner_of t) k gone (λ y n. owner_back y (gone_has y n))

  pub plain : Plain t.index.entries keys
  plain =
      record {
        low = λ k n. let o = owner k n in rw (← o.3) (owns k n).is_entry;
        unmarked = λ k n. let o = owner k n in rw (← o.3) (owns k n).unmarked;
        once = λ k. omega (arith, keys_few k, gone_once (owner_of t k));
      }
    where
      owner : (k : ℕ) → 1 ≤ times k keys → (y : ℕ) × (1 ≤ times y gone) × (committed_at t y ≡ true) × ((key_at t y).0 ≡ k)
      owner k n = keys_owner (committed_at t) (λ y. (key_at t y).0) k gone n

      owns : (k : ℕ) (n : 1 ≤ times k keys) → Owns t (owner k n).0 (key_at t (owner k n).0).0
      owns k n = let o = owner k n in S.committed o.0 (live_of o.0 (gone_has o.0 o.1)) o.2

  -- the key of one that stays is not among them
  rest_key : (y : ℕ) → has y (remove x f) ≡ true → committed_at t y ≡ true → times (key_at t y).0 keys ≡ 0
  rest_key y g c =
      let z : times (owner_of t (key_at t y).0) gone ≡ 0 = rw (owner_back y (rest_has y g) c) (rest_out y g) in
      omega (arith, keys_few (key_at t y).0)

  -- ---- links

  pub linked_after : Linked after (remove x f)
  unfolding cut_tree
  linked_after = sound_remove L (segment t f L x h)

  pub live_after : (y : ℕ) → Live after y → has y (remove x f) ≡ true
  live_after y l = sym (live_has after (remove x f) linked_after y) ∙ l

  after_live : (y : ℕ) → has y (remove x f) ≡ true → Live after y
  after_live y g = live_has after (remove x f) linked_after y ∙ g

  was : (y : ℕ) → Live after y → Live t y
  was y l = live_of y (rest_has y (live_after y l))

  -- ---- slots

  live_count : (y : ℕ) → times y (live_slots t) ≡ count y f
  live_count y = rep_times L.rep y

  share : (y : ℕ) → times y (live_slots t) + times y (take t.slots.frees t.slots.free) ≤ 1
  share y = elim (dec_lt y t.slots.used) [ yes l ↦ omega (arith, S.once y l) | no g ↦ omega (arith, S.beyond y (omega arith)) ]

  -- there is room for what is freed
  pub room : t.slots.frees + length gone ≤ 256
  room =
      let free = take t.slots.frees t.slots.free in
      let u = S.used_fits in
      let m : (y : ℕ) → times y (free ++ gone) ≤ 1 = λ y. omega (arith, times_append y free gone, gone_count y, live_count y, share y) in
      let z : (y : ℕ) → 256 ≤ y → times y (free ++ gone) ≡ 0 = λ y g. omega (arith, times_append y free gone, gone_count y, live_count y, S.beyond y (omega arith)) in
      let fits : t.slots.frees ≤ length t.slots.free = omega (arith, w.slots.free, S.free_fits) in
      omega (arith, shorter 257 256 (free ++ gone) m (λ y g. z y (omega arith)) (omega arith) (z 256 (omega arith)), length-append free gone, length-take-le t.slots.frees t.slots.free fits)

  pub free_after : take after.slots.frees after.slots.free ≡ take t.slots.frees t.slots.free ++ gone
  free_after = take_sets t.slots.free t.slots.frees gone (omega (arith, room, w.slots.free))

  shares : (y : ℕ) → times y (live_slots after) + times y (take after.slots.frees after.slots.free) ≡ times y (live_slots t) + times y (take t.slots.frees t.slots.free)
  shares y =
      rw (free_after, times_append y (take t.slots.frees t.slots.free) gone)
      (omega (arith, rep_times linked_after.rep y, gone_count y, live_count y))

  -- ---- counts

  abbrev committed_gone : ℕ
  committed_gone = count_of (committed_at t) gone

  pub removed_after : removed_entries after ≡ removed_entries t + committed_gone
  removed_after =
      omega (arith, removed_more t.index.entries keys w.index.entries plain, keys_length (committed_at t) (λ y. (key_at t y).0) gone)

  committed_after : committed_nodes after + committed_gone ≡ committed_nodes t
  committed_after =
      omega (arith, ap (count_of (committed_at t)) linked_after.rep.order, ap (count_of (committed_at t)) L.rep.order, count_rest (committed_at t) x f h)

  -- a node without an entry has no area
  pending_after : after.pending.count ≤ t.pending.count + committed_gone
  pending_after =
      omega (arith, pending_count (stored_bounds t) t.pending gone, count_fewer (λ y. has_area (stored_bounds t y)) (committed_at t) gone (λ y n a. at y n a (committed_at t y) refl))
    where
      at : (y : ℕ) → 1 ≤ times y gone → has_area (stored_bounds t y) ≡ true → (b : Bool) → committed_at t y ≡ b → b ≡ true
      at y n a true c = refl
      at y n a false c = absurd (no_area (stored_bounds t y) (S.uncommitted y (live_of y (gone_has y n)) c).no_box a)

  -- ---- the whole

  pub whole_after : Whole after
  whole_after =
      record {
        slots = record { generation = w.slots.generation; free = length-sets t.slots.free t.slots.frees gone ∙ w.slots.free };
        links = record { order = linked_after.rep.sizes.0; depth = linked_after.rep.sizes.1 };
        locals = w.locals;
        worlds = w.worlds;
        marks = w.marks;
        keys = w.keys;
        pending = pending_length (stored_bounds t) t.pending gone ∙ w.pending;
        index =
            record {
              entries = marks_length t.index.entries keys ∙ w.index.entries;
              free = w.index.free;
              dirty = queue_length t.index.dirty t.index.queued keys ∙ w.index.dirty;
              stored = w.index.stored;
            };
      }

  owns_after : (y k : ℕ) → times k keys ≡ 0 → Owns t y k → Owns after y k
  owns_after y k z O =
      record {
        slot = O.slot;
        is_entry = O.is_entry;
        unmarked = mark_stays t.index.entries keys k z ∙ O.unmarked;
        under_key = ap (λ (e : Slot). e.generation) (rest_stays t.index.entries keys k) ∙ O.under_key;
        carries = ap (λ (e : Slot). e.payload) (rest_stays t.index.entries keys k) ∙ O.carries;
      }

  owned_after : (k : ℕ) → k < 512 → (entry_mark after k ≡ 0 → ⊥) → is_removed (entry_mark after k) ≡ false → (y : ℕ) × Live after y × (committed_at after y ≡ true) × Owns after y k
  owned_after k low held stays =
      elim (dec_lt (times k keys) 1) [
        | yes l ↦
            let z : times k keys ≡ 0 = omega arith in
            let e : entry_mark after k ≡ entry_mark t k = mark_stays t.index.entries keys k z in
            let O = S.owned k low (λ q. held (e ∙ q)) (ap is_removed (sym e) ∙ stays) in
            let y = O.0 in
            let g : has y f ≡ true = sym (live_has t f L y) ∙ O.1 in
            let out : times y gone ≡ 0 =
            elim (dec_lt (times y gone) 1) [
              | yes l ↦ omega arith
              | no n ↦
                  let b : 1 ≤ times k keys = rw O.3.slot at (keys_has (committed_at t) (λ y. (key_at t y).0) gone y O.2 (omega arith)) in
                  absurd (omega arith)
            ] in
            (y, after_live y (rest_in y g out), O.2, owns_after y k z O.3)
        | no n ↦
            let e : entry_mark after k ≡ 4 = mark_removed t.index.entries keys w.index.entries plain k (omega arith) in
            absurd (contra (ap is_removed e) stays)
      ]

  index_after : SoundOf after.index.entries after.index.free after.index.frees after.index.dirty after.index.queued after.index.used
  index_after =
      let X = t.index in
      let I = whole_after.index in
      worded after.index.entries X.free X.frees after.index.dirty after.index.queued X.used I.entries I.free I.dirty
      (keep_keys X.free X.frees X.used w.index.free X.entries X.dirty X.queued keys w.index.entries w.index.dirty plain
      (counted X.entries X.free X.frees X.dirty X.queued X.used w.index.entries w.index.free w.index.dirty S.index))

  pub sound_after : SoundTree after
  unfolding local_at
  sound_after =
      let few : removed_entries after + committed_nodes after ≤ 256 = omega (arith, removed_after, committed_after, S.few) in
      let pending : after.pending.count ≤ removed_entries after = omega (arith, pending_after, removed_after, S.pending) in
      record {
        used_fits = S.used_fits;
        count_fits = linked_after.rep.small;
        free_fits = room;
        pending_fits = omega arith;
        links = (remove x f, linked_after.rep.order, linked_after.rep.depth);
        once = λ y l. shares y ∙ S.once y l;
        beyond = λ y l. shares y ∙ S.beyond y l;
        finite = λ y l. S.finite y (was y l);
        flags_known = λ y l. S.flags_known y (was y l);
        clips = λ y l. S.clips y (was y l);
        committed = λ y l c. owns_after y (key_at t y).0 (rest_key y (live_after y l) c) (S.committed y (was y l) c);
        uncommitted = λ y l c.
            let N = S.uncommitted y (was y l) c in
            record { no_box = N.no_box; no_hit_box = N.no_hit_box; in_transform = N.in_transform; in_clip = N.in_clip };
        transform_marked = λ y l. S.transform_marked y (was y l);
        clip_marked = λ y l. S.clip_marked y (was y l);
        pending = pending;
        few = few;
        owned = owned_after;
        index = index_after;
      }

  -- remove leaves that tree
  pub removes_to : remove_tree t (position_of t x) ≡ after
  unfolding remove_tree
  removes_to =
      ap (λ (xs : List ℕ). with_links (remove_all t xs) (cut_tree t.links (position_of t x))) (subtree_post t f L x h)
      ∙ removes t (cut_tree t.links (position_of t x)) gone plain

-- ---- an accepted call is of a live node

accepted : (v : Verdict) (b : Bool) (r : Refusal) → checked v b r ≡ Ok tt → b ≡ true
accepted (Ok tt) true r e = refl
accepted (Ok tt) false r e = let z : ◌≡◌ {A = ℕ} 0 1 = cc in absurd (omega arith)
accepted (Err q) b r e = let z : ◌≡◌ {A = ℕ} 0 1 = cc in absurd (omega arith)

pub node_live : (t : Tree) (i : NodeId) → of_node t i ≡ Ok tt → Live t i.0
unfolding tree.live
node_live t i ok = and_left (is_live t i.0) (eqb (tree.generation_at t i.0) i.1) (accepted (held t) (tree.live t i) no.DeadNode ok)

pub keep_remove : (t : Tree) (i : NodeId) → Whole t → SoundTree t → of_node t i ≡ Ok tt
    → Whole (remove_tree t (position_of t i.0)) × SoundTree (remove_tree t (position_of t i.0))
keep_remove t i w S ok =
    let F = linked t w S in
    let h : has i.0 F.0 ≡ true = sym (live_has t F.0 F.1 i.0) ∙ node_live t i ok in
    let e = sym (removes_to t w S F.0 F.1 i.0 h) in
    (subst Whole e (whole_after t w S F.0 F.1 i.0 h), subst SoundTree e (sound_after t w S F.0 F.1 i.0 h))
