-- An accepted reparent keeps the tree sound and the lengths of its tables: the links are a forest's with the same slots, and the node is marked.
use Rattle.std.specs.Prelude.{Ok, None, Some, Option}
use mathlib.Core.Path.{◌≡◌, refl, sym, ap, subst, ◌∙◌}
use mathlib.Core.Bool.{true, false}
use mathlib.Core.List.{List}
use Prim.Native.Nat.{ℕ, ◌≤◌, ◌<◌}
use native.Mathlib.Omega.{arith}
use lib.Dec.{ltb}
use lib.ListN.{length, take}
use Rattle.index_types.specs.declared.NodeId.{NodeId}
use Rattle.counting.specs.Times.{times}
use Rattle.link_forest.specs.Forest.{Forest, has, count, remove, part}
use Rattle.link_forest.proofs.Counting.{count_cat, count_under, count_parts, remove_has}
use Rattle.link_forest.proofs.Rep.{rep_times}
use Rattle.link_forest.specs.Sound.{Sound}
use Rattle.link_table.specs.declared.Links.{Links}
use Rattle.tree_state.specs.declared.Dirty.{Dirty}
use Rattle.tree_state.specs.declared.Tree.{Tree}
use Rattle.tree_state.specs.Tree.{live_slots, local_at, is_live, position_of, dirty, committed_at}
use Rattle.tree_state.specs.Sound.{Live, SoundTree, committed_nodes}
use Rattle.tree_sound.proofs.Exact.{live_is, live_low}
use Rattle.tree_steps.specs.Setters.{marked_both, mark_both}
use Rattle.tree_steps.specs.Structure.{parent_live, at_or_below, move_links, reparent_verdict, reparent_tree}
use Rattle.tree_laws.proofs.Whole.{sized}
use Rattle.tree_state.specs.Whole.{Whole}
use Rattle.tree_laws.proofs.Ground.{Linked, linked, live_has, below_by_places}
use Rattle.plan.specs.Plan.{onto}
use Rattle.tree_laws.proofs.Counts.{weight, count_same}
use Rattle.tree_invariant.proofs.calls.Accepted.{live_slot, reparent_accepted}
use Rattle.tree_invariant.proofs.calls.Links.{reparent_links}
use Rattle.tree_invariant.proofs.calls.Nodes.{Good, good_of, Shape, Node, Kept, kept_node, assemble}
use Rattle.tree_invariant.proofs.calls.Marks.{Grown, grown, dirty_here, in_both}

-- a tree with other links and marks
abbrev relinked : Tree → Links → List Dirty → Tree
relinked t l m =
    record { slots = t.slots; links = l; locals = t.locals; worlds = t.worlds; marks = m; keys = t.keys; pending = t.pending; index = t.index }

same_local : (t : Tree) (l : Links) (m : List Dirty) (y : ℕ) → local_at (relinked t l m) y ≡ local_at t y
unfolding local_at
same_local t l m y = refl

-- ---- links of the same slots
module _ (t : Tree) (l : Links) (m : List Dirty) (w : Whole t) (S : SoundTree t) (wm : length m ≡ 256) (g : Forest) (L : Sound l.order l.depth l.count g)
    (same : (y : ℕ) → times y (take l.count l.order) ≡ times y (live_slots t)) (marks : (y : ℕ) → Live t y → Grown (dirty t.marks y) (dirty m y)) where
  relinked_whole : Whole (relinked t l m)
  relinked_whole =
      record {
        slots = w.slots;
        links = record { order = L.rep.sizes.0; depth = L.rep.sizes.1 };
        locals = w.locals;
        worlds = w.worlds;
        marks = wm;
        keys = w.keys;
        pending = w.pending;
        index = w.index;
      }

  relinked_live : (y : ℕ) → is_live (relinked t l m) y ≡ is_live t y
  relinked_live y =
      live_is (relinked t l m) (sized (relinked t l m) relinked_whole) L.rep.small y ∙ ap (ltb 0) (same y) ∙ sym (live_is t (sized t w) S.count_fits y)

  relinked_shape : Shape (relinked t l m)
  relinked_shape =
      record {
        used_fits = S.used_fits;
        count_fits = L.rep.small;
        free_fits = S.free_fits;
        links = (g, L.rep.order, L.rep.depth);
        once = λ y h. omega (arith, same y, S.once y h);
        beyond = λ y h. omega (arith, same y, S.beyond y h);
      }

  relinked_kept : (y : ℕ) → Live t y → Kept t (relinked t l m) y
  relinked_kept y h =
      record { committed = refl; key = refl; id = refl; bounds = refl; hit_bounds = refl; transform_grows = (marks y h).transform; clip_grows = (marks y h).clip }

  relinked_node : (y : ℕ) → Live (relinked t l m) y → Node (relinked t l m) y
  relinked_node y k =
      let h : Live t y = sym (relinked_live y) ∙ k in
      kept_node t (relinked t l m) S refl y h (relinked_kept y h) (subst Good (sym (same_local t l m y)) (good_of t S y h)) (marks y h).transform_marked (marks y h).clip_marked

  relinked_count : committed_nodes (relinked t l m) ≡ committed_nodes t
  relinked_count =
      let low : (y : ℕ) → 256 ≤ y → times y (live_slots t) ≡ 0 = λ y h. omega (arith, S.beyond y (omega (arith, S.used_fits))) in
      count_same 256 (committed_at t) (committed_at t) (take l.count l.order) (live_slots t) (λ y h. same y ∙ low y h) low (λ y h. ap (weight (committed_at t y)) (same y))

  keep_relinked : Whole (relinked t l m) × SoundTree (relinked t l m)
  keep_relinked = (
    relinked_whole,
    assemble t (relinked t l m) S refl refl relinked_shape relinked_node (λ y h. (relinked_live y ∙ h, relinked_kept y h)) relinked_count,
  )

-- ---- the moved node's forest has the slots of the one before
module _ (t : Tree) (f : Forest) (L : Linked t f) (x : ℕ) (there : has x f ≡ true) where
  moved_count : (parent : Option NodeId) → parent_live t parent ≡ true → at_or_below t (position_of t x) parent ≡ false → (y : ℕ)
      → count y (onto parent (part x f) (remove x f)) ≡ count y f
  moved_count None p b y = count_cat y (remove x f) (part x f) ∙ count_parts y x f there
  moved_count (Some h) p b y =
      let lives : has h.0 f ≡ true = sym (live_has t f L h.0) ∙ live_slot t h p in
      let stays : has h.0 (remove x f) ≡ true = remove_has h.0 x f there lives (below_by_places t f L x there h.0 ∙ b) in
      count_under y h.0 (part x f) (remove x f) stays ∙ count_parts y x f there

module _ (t : Tree) (i : NodeId) (parent : Option NodeId) where
  -- every slot stands as often as before
  pub reparent_count : (f : Forest) → Linked t f → reparent_verdict t i parent ≡ Ok tt → (y : ℕ) → count y (onto parent (part i.0 f) (remove i.0 f)) ≡ count y f
  reparent_count f L e =
      let A = reparent_accepted t i parent e in
      moved_count t f L i.0 (sym (live_has t f L i.0) ∙ A.is_live_lem) parent A.parent_live_lem A.not_below

  pub keep_reparent : Whole t → SoundTree t → reparent_verdict t i parent ≡ Ok tt → Whole (reparent_tree t i.0 parent) × SoundTree (reparent_tree t i.0 parent)
  unfolding reparent_tree
  keep_reparent w S e =
      let A = reparent_accepted t i parent e in
      let F = linked t w S in
      let g = onto parent (part i.0 F.0) (remove i.0 F.0) in
      let L = reparent_links t F.0 F.1 i parent e in
      let low : i.0 < 256 = live_low t (sized t w) S i.0 A.is_live_lem in
      keep_relinked t (move_links t (position_of t i.0) parent) (mark_both t.marks i.0) w S (in_both t.marks i.0 w.marks low).whole g L
      (λ y. rep_times L.rep y ∙ reparent_count F.0 F.1 e y ∙ sym (rep_times F.1.rep y))
      (λ y h. grown t.marks (mark_both t.marks i.0) i.0 (in_both t.marks i.0 w.marks low) y (S.transform_marked y h) (S.clip_marked y h))

-- ---- what is read after a reparent

module _ (t : Tree) (x : ℕ) (parent : Option NodeId) where
  pub reparent_slots : (reparent_tree t x parent).slots ≡ t.slots
  unfolding reparent_tree
  reparent_slots = refl

  pub reparent_locals : (reparent_tree t x parent).locals ≡ t.locals
  unfolding reparent_tree
  reparent_locals = refl

  pub reparent_local : (y : ℕ) → local_at (reparent_tree t x parent) y ≡ local_at t y
  unfolding reparent_tree
  reparent_local y = same_local t (move_links t (position_of t x) parent) (mark_both t.marks x) y

  pub reparent_worlds : (reparent_tree t x parent).worlds ≡ t.worlds
  unfolding reparent_tree
  reparent_worlds = refl

  pub reparent_marks : (reparent_tree t x parent).marks ≡ mark_both t.marks x
  unfolding reparent_tree
  reparent_marks = refl

  pub reparent_keys : (reparent_tree t x parent).keys ≡ t.keys
  unfolding reparent_tree
  reparent_keys = refl

  pub reparent_pending : (reparent_tree t x parent).pending ≡ t.pending
  unfolding reparent_tree
  reparent_pending = refl

  pub reparent_index : (reparent_tree t x parent).index ≡ t.index
  unfolding reparent_tree
  reparent_index = refl

  -- ---- marks
  module _ (w : Whole t) (low : x < 256) where
    pub reparent_dirty_new : dirty (reparent_tree t x parent).marks x ≡ marked_both
    unfolding reparent_tree
    reparent_dirty_new = dirty_here t.marks x w.marks low marked_both

    pub reparent_dirty_other : (y : ℕ) → (y ≡ x → ⊥) → dirty (reparent_tree t x parent).marks y ≡ dirty t.marks y
    unfolding reparent_tree
    reparent_dirty_other = (in_both t.marks x w.marks low).other

-- the node that is moved is one of the tables' slots
pub reparent_low : (t : Tree) (i : NodeId) (parent : Option NodeId) → Whole t → SoundTree t → reparent_verdict t i parent ≡ Ok tt → i.0 < 256
reparent_low t i parent w S e = live_low t (sized t w) S i.0 (reparent_accepted t i parent e).is_live_lem
