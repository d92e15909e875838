-- Insert, remove and reparent on the tree's record.
use Rattle.std.specs.Prelude.{ℕ, ◌+◌, ◌-◌, Bool, true, false, not, ◌&&◌, cond, List, [], ◌∷◌, eqb, ltb, leb, get_or, set, None, Some, Option}
use Rattle.geometry.specs.declared.rect.Rect.{Rect}
use Rattle.geometry.specs.Rectangle.{has_area}
use Rattle.index_types.specs.declared.NodeId.{NodeId}
use Rattle.tree_types.specs.declared.LocalNode.{LocalNode}
use Rattle.tree_types.specs.Local.{finite_local, known, stored, empty_rect}
use Rattle.link_forest.specs.Table.{post_of}
use Rattle.link_table.specs.declared.Links.{Links}
use Rattle.link_table.specs.Links.{end_of, between, add_root, add_last, cut_tree, move_last, move_root}
use Rattle.index_types.specs.declared.Index.{Index}
use Rattle.index_state.specs.Index.{remove_of}
use Rattle.tree_state.specs.declared.Slots.{Slots}
use Rattle.tree_state.specs.declared.Local.{Local}
use Rattle.tree_state.specs.declared.WorldNode.{WorldNode}
use Rattle.tree_state.specs.declared.IndexKey.{IndexKey}
use Rattle.tree_state.specs.declared.Pending.{Pending}
use Rattle.tree_state.specs.declared.Tree.{Tree}
use Rattle.tree_state.specs.declared.Refusal.TheVariants as no
use Rattle.tree_state.specs.Locals.{record_of}
use Rattle.tree_state.specs.Tree.{position_of, live, index_key, committed_at, key_at, world_at, stored_bounds, checked, Verdict, After}
use Rattle.tree_steps.specs.Setters.{held, of_node, after, mark_both}

-- ---- refusals

abbrev pub parent_live : Tree → Option NodeId → Bool
parent_live t None = true
parent_live t (Some h) = live t h

-- the position of a node that is at or below the node at position i: two comparisons of positions
abbrev pub at_or_below : Tree → ℕ → Option NodeId → Bool
at_or_below t i None = false
at_or_below t i (Some h) = leb i (position_of t h.0) && ltb (position_of t h.0) (end_of t.links i)

-- 1, 3, 5, 6, 9
abbrev pub insert_verdict : Tree → Option NodeId → LocalNode → Verdict
insert_verdict t parent v =
    checked
    (checked (checked (checked (held t) (parent_live t parent) no.DeadParent) (finite_local v) no.NotFinite) (known v.flags) no.UnknownFlags)
    (ltb t.links.count 256) no.Full

-- 1, 2, 3, 4
abbrev pub reparent_verdict : Tree → NodeId → Option NodeId → Verdict
reparent_verdict t i parent =
    checked (checked (of_node t i) (parent_live t parent) no.DeadParent) (not (at_or_below t (position_of t i.0) parent)) no.BelowItself

-- ---- insert: "the last freed slot, generation one higher (saturating, as in Rust), else the next unused slot, generation 1"

abbrev pub slot_of : Slots → ℕ
slot_of s = cond (eqb s.frees 0) s.used (get_or s.free (s.frees - 1) 0)

abbrev pub saturated : ℕ → ℕ
saturated g = cond (ltb g 4294967295) (g + 1) 4294967295

abbrev pub generation_of : Slots → ℕ
generation_of s = cond (eqb s.frees 0) 1 (saturated (get_or s.generation (slot_of s) 0))

abbrev pub new_id : Tree → NodeId
new_id t = record { 0 = slot_of t.slots; 1 = generation_of t.slots }

abbrev pub take_slot : Slots → Slots
take_slot s =
    record {
      generation = set s.generation (slot_of s) (generation_of s);
      used = cond (eqb s.frees 0) (s.used + 1) s.used;
      free = s.free;
      frees = s.frees - 1;
    }

abbrev pub link_new : Tree → Option NodeId → ℕ → Links
link_new t None x = add_root t.links x
link_new t (Some h) x = add_last t.links (position_of t h.0) x

abbrev pub store_local : List Local → ℕ → LocalNode → List Local
store_local l x v = set l x (record_of v)

-- no world boxes yet; what else stands there is not read before the commit
abbrev pub clear_boxes : WorldNode → WorldNode
clear_boxes w = record w { bounds = empty_rect; hit_bounds = empty_rect }

abbrev pub without_key : List IndexKey → ℕ → List IndexKey
without_key k x = set k x (record (index_key k x) { committed = false })

unfoldable pub insert_tree : Tree → Option NodeId → LocalNode → Tree
insert_tree t parent v =
    let x = slot_of t.slots in
    record {
      slots = take_slot t.slots;
      links = link_new t parent x;
      locals = store_local t.locals x (stored v);
      worlds = set t.worlds x (clear_boxes (world_at t x));
      marks = mark_both t.marks x;
      keys = without_key t.keys x;
      pending = t.pending;
      index = t.index;
    }

-- ---- remove: the subtree, "children first in order"; of each node its world box is pending if it has area, its entry is marked removed, and
-- its slot is freed

abbrev pub push_rect : Bool → Pending → Rect → Pending
push_rect false p r = p
push_rect true p r = record { rects = set p.rects p.count r; count = p.count + 1 }

abbrev pub remove_entry : Bool → Index → ℕ → Index
remove_entry false ix k = ix
remove_entry true ix k = remove_of ix k

abbrev pub free_slot : Slots → ℕ → Slots
free_slot s x = record { generation = s.generation; used = s.used; free = set s.free s.frees x; frees = s.frees + 1 }

-- one node of the subtree
abbrev pub remove_node : Tree → ℕ → Tree
remove_node t x =
    record {
      slots = free_slot t.slots x;
      links = t.links;
      locals = t.locals;
      worlds = t.worlds;
      marks = t.marks;
      keys = t.keys;
      pending = push_rect (has_area (stored_bounds t x)) t.pending (stored_bounds t x);
      index = remove_entry (committed_at t x) t.index (key_at t x).0;
    }

unfoldable pub remove_all : Tree → List ℕ → Tree
remove_all t [] = t
remove_all t (x ∷ xs) = remove_all (remove_node t x) xs

abbrev pub with_links : Tree → Links → Tree
with_links t l =
    record { slots = t.slots; links = l; locals = t.locals; worlds = t.worlds; marks = t.marks; keys = t.keys; pending = t.pending; index = t.index }

-- the slots of the subtree at position i, children first
abbrev pub subtree_at : Links → ℕ → List ℕ
subtree_at l i = post_of (between i (end_of l i) l.order) (between i (end_of l i) l.depth)

unfoldable pub remove_tree : Tree → ℕ → Tree
remove_tree t i = with_links (remove_all t (subtree_at t.links i)) (cut_tree t.links i)

-- ---- reparent: last among the new siblings, marked, and changed in both

abbrev pub move_links : Tree → ℕ → Option NodeId → Links
move_links t i None = move_root t.links i
move_links t i (Some h) = move_last t.links i (position_of t h.0)

unfoldable pub reparent_tree : Tree → ℕ → Option NodeId → Tree
reparent_tree t x parent =
    record {
      slots = t.slots;
      links = move_links t (position_of t x) parent;
      locals = t.locals;
      worlds = t.worlds;
      marks = mark_both t.marks x;
      keys = t.keys;
      pending = t.pending;
      index = t.index;
    }

-- ---- the calls: what each answers, and the tree after it

abbrev pub remove_call : Tree → NodeId → After Unit
remove_call t i = after (of_node t i) (remove_tree t (position_of t i.0)) t

abbrev pub reparent_call : Tree → NodeId → Option NodeId → After Unit
reparent_call t i parent = after (reparent_verdict t i parent) (reparent_tree t i.0 parent) t
