-- An accepted insert keeps the tree sound and the lengths of its tables: the new slot has the stored record, no boxes and no key, and is marked
-- and changed in both; every other slot is as it was.
use Rattle.std.specs.Prelude.{Ok, None, Some, Option}
use mathlib.Core.Path.{◌≡◌, refl, sym, ap, subst, ◌∙◌}
use mathlib.Core.Bool.{Bool, true, false}
use Prim.Native.Nat.{ℕ, ◌+◌, ◌≤◌, ◌<◌}
use native.Mathlib.Omega.{arith}
use native.Mathlib.Decide.{ℕ_discrete}
use lib.Dec.{eqb}
use lib.Ieee.{eq}
use lib.ListN.{length, set, take, length-set}
use lib.Seq.{get_or-set_same, get_or-set_other}
use Rattle.numbers.proofs.Bools.{four}
use Rattle.geometry.specs.Rectangle.{rect_eq, finite_rect, finite_insets}
use Rattle.geometry.specs.Transform.{finite_affine}
use Rattle.geometry_clips.specs.Clips.{finite_clip}
use Rattle.geometry_clips.proofs.Construct.{construct_again, construct_finite}
use Rattle.index_types.specs.declared.NodeId.{NodeId}
use Rattle.tree_types.specs.declared.LocalNode.{LocalNode}
use Rattle.tree_types.specs.Local.{finite_local, known, stored, empty_rect}
use Rattle.counting.specs.Times.{tally, times}
use Rattle.counting.proofs.Counting.{miss}
use Rattle.counting.proofs.Kit.{contra}
use Rattle.link_forest.specs.Forest.{Forest, leaf, has, count}
use Rattle.link_forest.proofs.Counting.{count_cat, count_under, tally_sym}
use Rattle.link_forest.proofs.Rep.{rep_times}
use Rattle.link_forest.specs.Sound.{Sound}
use Rattle.link_table.specs.declared.Links.{Links}
use Rattle.tree_state.specs.declared.Dirty.{Dirty}
use Rattle.tree_state.specs.declared.IndexKey.{IndexKey}
use Rattle.tree_state.specs.declared.WorldNode.{WorldNode}
use Rattle.tree_state.specs.declared.Tree.{Tree}
use Rattle.tree_state.specs.Worlds.{no_world}
use Rattle.tree_state.specs.Tree.{no_dirty, no_key, live_slots, local_at, generation_at, dirty, index_key, committed_at, key_at, world_at}
use Rattle.tree_state.specs.Sound.{Live, SoundTree, committed_nodes}
use Rattle.tree_sound.proofs.Exact.{listed, live}
use Rattle.tree_steps.specs.Setters.{marked_both, mark_both}
use Rattle.tree_steps.specs.Structure.{slot_of, generation_of, take_slot, parent_live, link_new, store_local, clear_boxes, without_key, insert_verdict, insert_tree}
use Rattle.tree_laws.proofs.Whole.{sized}
use Rattle.tree_state.specs.Whole.{Whole}
use Rattle.tree_laws.proofs.Ground.{Linked, linked, live_has}
use Rattle.plan.specs.Plan.{onto}
use Rattle.tree_laws.proofs.Counts.{weight, weight_none, count_same}
use Rattle.tree_invariant.proofs.calls.Accepted.{live_slot, insert_accepted}
use Rattle.tree_invariant.proofs.calls.Links.{insert_links}
use Rattle.tree_laws.proofs.Records.{field_stays}
use Rattle.tree_laws.proofs.Taken.{new_times, new_low}
use Rattle.tree_invariant.proofs.calls.Slots.{taken_fits, taken_once, taken_beyond}
use Rattle.tree_invariant.proofs.calls.Nodes.{Good, good_of, Shape, Node, Kept, kept_node, assemble}
use Rattle.tree_state.specs.Locals.{record_of}
use Rattle.tree_state.proofs.Locals.{local_is, local_back, record_same, record_other}
use Rattle.tree_invariant.proofs.calls.Marks.{dirty_here, in_both}

-- ---- what is stored

pub good_stored : (v : LocalNode) → finite_local v ≡ true → known v.flags ≡ true → Good (stored v)
unfolding finite_local stored
good_stored v h k =
    let F = four (finite_rect v.local_bounds) (finite_insets v.hit_slop) (finite_affine v.local_transform) (finite_clip v.local_clip) h in
    record {
      bounds = F.first;
      slop = F.second;
      transform = F.third;
      clip = construct_finite v.local_clip F.fourth;
      as_constructed_lem = construct_again v.local_clip;
      flags_known = k;
    }

empty_equal : rect_eq empty_rect empty_rect ≡ true
unfolding rect_eq eq
empty_equal = refl

-- ---- the tree after an insert, with its links named
abbrev added : Tree → Links → LocalNode → Tree
added t l v =
    let x = slot_of t.slots in
    record {
      slots = take_slot t.slots;
      links = l;
      locals = store_local t.locals x (stored v);
      worlds = set t.worlds x (clear_boxes (world_at t x));
      marks = mark_both t.marks x;
      keys = without_key t.keys x;
      pending = t.pending;
      index = t.index;
    }

-- the new slot's key
abbrev keyless : Tree → IndexKey
keyless t = record (index_key t.keys (slot_of t.slots)) { committed = false }

-- any other slot
module _ (t : Tree) (l : Links) (v : LocalNode) (y : ℕ) (n : y ≡ slot_of t.slots → ⊥) where
  other_local : local_at (added t l v) y ≡ local_at t y
  other_local = local_is (added t l v) y ∙ record_other t.locals (slot_of t.slots) (record_of (stored v)) y n ∙ sym (local_is t y)

  other_dirty : dirty (added t l v).marks y ≡ dirty t.marks y
  other_dirty = get_or-set_other t.marks (slot_of t.slots) y marked_both no_dirty n

  other_key : index_key (added t l v).keys y ≡ index_key t.keys y
  other_key = get_or-set_other t.keys (slot_of t.slots) y (keyless t) no_key n

  other_committed : committed_at (added t l v) y ≡ committed_at t y
  other_committed = ap (λ (i : IndexKey). i.committed) other_key

  other_generation : generation_at (added t l v) y ≡ generation_at t y
  other_generation = get_or-set_other t.slots.generation (slot_of t.slots) y (generation_of t.slots) 0 n

  other_world : world_at (added t l v) y ≡ world_at t y
  other_world = get_or-set_other t.worlds (slot_of t.slots) y (clear_boxes (world_at t (slot_of t.slots))) no_world n

  other_kept : Kept t (added t l v) y
  other_kept =
      record {
        committed = other_committed;
        key = ap (λ (i : IndexKey). i.key) other_key;
        id = ap (λ (g : ℕ). let i : NodeId = record { 0 = y; 1 = g } in i) other_generation;
        bounds = ap (λ (w : WorldNode). w.bounds) other_world;
        hit_bounds = ap (λ (w : WorldNode). w.hit_bounds) other_world;
        transform_grows = λ h. ap (λ (d : Dirty). d.transform) other_dirty ∙ h;
        clip_grows = λ h. ap (λ (d : Dirty). d.clip) other_dirty ∙ h;
      }

-- the new slot
module _ (t : Tree) (l : Links) (v : LocalNode) (w : Whole t) (low : slot_of t.slots < 256) where
  new_local : local_at (added t l v) (slot_of t.slots) ≡ stored v
  new_local = local_is (added t l v) (slot_of t.slots) ∙ record_same t.locals (slot_of t.slots) (record_of (stored v)) w.locals low ∙ local_back (stored v)

  new_committed : committed_at (added t l v) (slot_of t.slots) ≡ false
  new_committed = ap (λ (i : IndexKey). i.committed) (get_or-set_same t.keys (slot_of t.slots) (keyless t) no_key (omega (arith, w.keys)))

  new_generation : generation_at (added t l v) (slot_of t.slots) ≡ generation_of t.slots
  new_generation = get_or-set_same t.slots.generation (slot_of t.slots) (generation_of t.slots) 0 (omega (arith, w.slots.generation))

  new_dirty : dirty (added t l v).marks (slot_of t.slots) ≡ marked_both
  new_dirty = dirty_here t.marks (slot_of t.slots) w.marks low marked_both

  new_world : world_at (added t l v) (slot_of t.slots) ≡ clear_boxes (world_at t (slot_of t.slots))
  new_world = get_or-set_same t.worlds (slot_of t.slots) (clear_boxes (world_at t (slot_of t.slots))) no_world (omega (arith, w.worlds))

  new_node : Good (stored v) → Node (added t l v) (slot_of t.slots)
  new_node G =
      record {
        values = subst Good (sym new_local) G;
        committed = λ c. absurd (contra c new_committed);
        uncommitted =
            λ _. record {
              no_box = ap (λ (w : WorldNode). rect_eq w.bounds empty_rect) new_world ∙ empty_equal;
              no_hit_box = ap (λ (w : WorldNode). rect_eq w.hit_bounds empty_rect) new_world ∙ empty_equal;
              in_transform = ap (λ (d : Dirty). d.transform) new_dirty;
              in_clip = ap (λ (d : Dirty). d.clip) new_dirty;
            };
        transform_marked = λ _. ap (λ (d : Dirty). d.marked) new_dirty;
        clip_marked = λ _. ap (λ (d : Dirty). d.marked) new_dirty;
      }

-- ---- soundness, where the links have the new slot and all those before
module _ (t : Tree) (l : Links) (v : LocalNode) (w : Whole t) (S : SoundTree t) (low : slot_of t.slots < 256) (G : Good (stored v)) (g : Forest)
    (L : Sound l.order l.depth l.count g)
    (more : (y : ℕ) → times y (take l.count l.order) ≡ times y (live_slots t) + tally (eqb y (slot_of t.slots))) where
  added_whole : Whole (added t l v)
  added_whole =
      record {
        slots = record { generation = length-set t.slots.generation (slot_of t.slots) (generation_of t.slots) ∙ w.slots.generation; free = w.slots.free };
        links = record { order = L.rep.sizes.0; depth = L.rep.sizes.1 };
        locals = length-set t.locals (slot_of t.slots) (record_of (stored v)) ∙ w.locals;
        worlds = length-set t.worlds (slot_of t.slots) (clear_boxes (world_at t (slot_of t.slots))) ∙ w.worlds;
        marks = (in_both t.marks (slot_of t.slots) w.marks low).whole;
        keys = length-set t.keys (slot_of t.slots) (keyless t) ∙ w.keys;
        pending = w.pending;
        index = w.index;
      }

  free_within : t.slots.frees ≤ length t.slots.free
  free_within = omega (arith, S.free_fits, w.slots.free)

  added_shape : Shape (added t l v)
  added_shape =
      record {
        used_fits = taken_fits t.slots low S.used_fits;
        count_fits = L.rep.small;
        free_fits = omega (arith, S.free_fits);
        links = (g, L.rep.order, L.rep.depth);
        once = taken_once t.slots (live_slots t) (take l.count l.order) free_within S.once S.beyond more;
        beyond = taken_beyond t.slots (live_slots t) (take l.count l.order) free_within S.once S.beyond more;
      }

  -- live as before, and the new one
  stays_live : (y : ℕ) → Live t y → Live (added t l v) y
  stays_live y h =
      live (added t l v) (sized (added t l v) added_whole) L.rep.small y (omega (arith, more y, listed t (sized t w) S.count_fits y h))

  was_live : (y : ℕ) → (y ≡ slot_of t.slots → ⊥) → Live (added t l v) y → Live t y
  was_live y n h =
      live t (sized t w) S.count_fits y
      (omega (arith, more y, miss y (slot_of t.slots) n, listed (added t l v) (sized (added t l v) added_whole) L.rep.small y h))

  not_new : (y : ℕ) → Live t y → y ≡ slot_of t.slots → ⊥
  not_new y h e = omega (arith, listed t (sized t w) S.count_fits y h, ap (λ (z : ℕ). times z (live_slots t)) e, new_times t w S)

  added_node : (y : ℕ) → Live (added t l v) y → Node (added t l v) y
  added_node y h =
      elim (ℕ_discrete y (slot_of t.slots)) [
        | yes e ↦ subst (λ (z : ℕ). Node (added t l v) z) (sym e) (new_node t l v w low G)
        | no n ↦
            let k = was_live y n h in
            kept_node t (added t l v) S refl y k (other_kept t l v y n) (subst Good (sym (other_local t l v y n)) (good_of t S y k))
            (subst (λ (d : Dirty). d.transform ≡ true → d.marked ≡ true) (sym (other_dirty t l v y n)) (S.transform_marked y k))
            (subst (λ (d : Dirty). d.clip ≡ true → d.marked ≡ true) (sym (other_dirty t l v y n)) (S.clip_marked y k))
      ]

  added_weight : (y : ℕ) → weight (committed_at (added t l v) y) (times y (take l.count l.order)) ≡ weight (committed_at t y) (times y (live_slots t))
  added_weight y =
      elim (ℕ_discrete y (slot_of t.slots)) [
        | yes e ↦
            let a : committed_at (added t l v) y ≡ false = ap (committed_at (added t l v)) e ∙ new_committed t l v w low in
            let z : times y (live_slots t) ≡ 0 = ap (λ (z : ℕ). times z (live_slots t)) e ∙ new_times t w S in
            ap (λ (b : Bool). weight b (times y (take l.count l.order))) a ∙ sym (ap (weight (committed_at t y)) z ∙ weight_none (committed_at t y))
        | no n ↦
            let s : times y (take l.count l.order) ≡ times y (live_slots t) = omega (arith, more y, miss y (slot_of t.slots) n) in
            ap (λ (b : Bool). weight b (times y (take l.count l.order))) (other_committed t l v y n) ∙ ap (weight (committed_at t y)) s
      ]

  added_count : committed_nodes (added t l v) ≡ committed_nodes t
  added_count =
      let none : (y : ℕ) → 256 ≤ y → times y (live_slots t) ≡ 0 = λ y h. omega (arith, S.beyond y (omega (arith, S.used_fits))) in
      count_same 256 (committed_at (added t l v)) (committed_at t) (take l.count l.order) (live_slots t)
      (λ y h. omega (arith, more y, none y h, miss y (slot_of t.slots) (λ e. omega arith))) none (λ y h. added_weight y)

  keep_added : Whole (added t l v) × SoundTree (added t l v)
  keep_added = (
    added_whole,
    assemble t (added t l v) S refl refl added_shape added_node (λ y h. (stays_live y h, other_kept t l v y (not_new y h))) added_count,
  )

-- ---- the forest has the new slot and all those before
leaf_count : (x y : ℕ) → count y (leaf x) ≡ tally (eqb y x)
unfolding count
leaf_count x y = omega (arith, tally_sym y x)

onto_count : (t : Tree) (f : Forest) → Linked t f → (parent : Option NodeId) → parent_live t parent ≡ true → (x y : ℕ) → count y (onto parent (leaf x) f) ≡ count y f + tally (eqb y x)
onto_count t f L None p x y = omega (arith, count_cat y f (leaf x), leaf_count x y)
onto_count t f L (Some h) p x y =
    let lives : has h.0 f ≡ true = sym (live_has t f L h.0) ∙ live_slot t h p in
    omega (arith, count_under y h.0 (leaf x) f lives, leaf_count x y)

module _ (t : Tree) (parent : Option NodeId) (v : LocalNode) where
  -- every slot stands as often as before, and the new one once more
  pub insert_count : (f : Forest) → Linked t f → insert_verdict t parent v ≡ Ok tt → (y : ℕ)
      → count y (onto parent (leaf (slot_of t.slots)) f) ≡ count y f + tally (eqb y (slot_of t.slots))
  insert_count f L e = onto_count t f L parent (insert_accepted t parent v e).parent_live_lem (slot_of t.slots)

  pub keep_insert : Whole t → SoundTree t → insert_verdict t parent v ≡ Ok tt → Whole (insert_tree t parent v) × SoundTree (insert_tree t parent v)
  unfolding insert_tree
  keep_insert w S e =
      let A = insert_accepted t parent v e in
      let F = linked t w S in
      let x = slot_of t.slots in
      let L = insert_links t w S F.0 F.1 parent v e in
      keep_added t (link_new t parent x) v w S (new_low t w S A.room) (good_stored v A.finite A.flags_known) (onto parent (leaf x) F.0) L
      (λ y. omega (arith, rep_times L.rep y, insert_count F.0 F.1 e y, rep_times F.1.rep y))

-- ---- what is read after an insert

module _ (t : Tree) (parent : Option NodeId) (v : LocalNode) where
  pub insert_slots : (insert_tree t parent v).slots ≡ take_slot t.slots
  unfolding insert_tree
  insert_slots = refl

  pub insert_pending : (insert_tree t parent v).pending ≡ t.pending
  unfolding insert_tree
  insert_pending = refl

  pub insert_index : (insert_tree t parent v).index ≡ t.index
  unfolding insert_tree
  insert_index = refl

  -- a key is read of committed nodes only, and stays
  pub insert_key : (y : ℕ) → key_at (insert_tree t parent v) y ≡ key_at t y
  unfolding insert_tree
  insert_key y = field_stays (λ (i : IndexKey). i.key) t.keys (slot_of t.slots) (keyless t) no_key refl y

  -- ---- of any other slot
  module _ (y : ℕ) (n : y ≡ slot_of t.slots → ⊥) where
    pub insert_local_other : local_at (insert_tree t parent v) y ≡ local_at t y
    unfolding insert_tree
    insert_local_other = other_local t (link_new t parent (slot_of t.slots)) v y n

    pub insert_dirty_other : dirty (insert_tree t parent v).marks y ≡ dirty t.marks y
    unfolding insert_tree
    insert_dirty_other = other_dirty t (link_new t parent (slot_of t.slots)) v y n

    pub insert_committed_other : committed_at (insert_tree t parent v) y ≡ committed_at t y
    unfolding insert_tree
    insert_committed_other = other_committed t (link_new t parent (slot_of t.slots)) v y n

    pub insert_generation_other : generation_at (insert_tree t parent v) y ≡ generation_at t y
    unfolding insert_tree
    insert_generation_other = other_generation t (link_new t parent (slot_of t.slots)) v y n

    pub insert_world_other : world_at (insert_tree t parent v) y ≡ world_at t y
    unfolding insert_tree
    insert_world_other = other_world t (link_new t parent (slot_of t.slots)) v y n

  -- ---- of the new slot
  module _ (w : Whole t) (S : SoundTree t) (accepted : insert_verdict t parent v ≡ Ok tt) where
    pub insert_low : slot_of t.slots < 256
    insert_low = new_low t w S (insert_accepted t parent v accepted).room

    pub insert_local_new : local_at (insert_tree t parent v) (slot_of t.slots) ≡ stored v
    unfolding insert_tree
    insert_local_new = new_local t (link_new t parent (slot_of t.slots)) v w insert_low

    pub insert_dirty_new : dirty (insert_tree t parent v).marks (slot_of t.slots) ≡ marked_both
    unfolding insert_tree
    insert_dirty_new = new_dirty t (link_new t parent (slot_of t.slots)) v w insert_low

    pub insert_committed_new : committed_at (insert_tree t parent v) (slot_of t.slots) ≡ false
    unfolding insert_tree
    insert_committed_new = new_committed t (link_new t parent (slot_of t.slots)) v w insert_low

    pub insert_generation_new : generation_at (insert_tree t parent v) (slot_of t.slots) ≡ generation_of t.slots
    unfolding insert_tree
    insert_generation_new = new_generation t (link_new t parent (slot_of t.slots)) v w insert_low

    -- its place stays, and it has no boxes
    pub insert_world_new : world_at (insert_tree t parent v) (slot_of t.slots) ≡ clear_boxes (world_at t (slot_of t.slots))
    unfolding insert_tree
    insert_world_new = new_world t (link_new t parent (slot_of t.slots)) v w insert_low
