-- The commit on the tree's record: the positions to visit, the rework of one position over the stored records of its parent, and the index.
use Rattle.std.specs.Prelude.{ℕ, zero, suc, ◌-◌, Bool, true, false, not, ◌&&◌, ◌||◌, cond, List, [], ◌∷◌, ◌++◌, reverse, ltb, length, get_or, set, take, drop, replicate, Float}
use Rattle.geometry.specs.declared.rect.Rect.{Rect}
use Rattle.geometry.specs.Rectangle.{rect_eq, has_area}
use Rattle.index_types.specs.declared.Aabb2D.{Aabb2D}
use Rattle.tree_types.specs.Local.{rect_to_aabb}
use Rattle.tree_types.specs.rooms.Rooms.{rect_at, of_rect}
use Rattle.tree_worlds.specs.declared.Placed.{Placed}
use Rattle.tree_worlds.specs.World.{at_root, placed, world_box, hit_box}
use Rattle.link_forest.specs.Table.{less_deep}
use Rattle.link_table.specs.Links.{end_of}
use Rattle.index_types.specs.declared.Index.{Index}
use Rattle.index_state.specs.Index as index
use Rattle.tree_state.specs.declared.WorldNode.{WorldNode}
use Rattle.tree_state.specs.declared.Dirty.{Dirty}
use Rattle.tree_state.specs.declared.IndexKey.{IndexKey}
use Rattle.tree_state.specs.declared.Tree.{Tree}
use Rattle.tree_state.specs.declared.Refusal.TheVariants as no
use Rattle.tree_state.specs.Locals.{record_at}
use Rattle.tree_state.specs.Worlds.{stored_world}
use Rattle.tree_state.specs.Tree.{no_dirty, position_of, id_at, clip_of, marked_at, transform_changed_at, clip_changed_at, committed_at, key_at, world_at, stored_place, stored_bounds, stored_hit_bounds, any_of, needs_commit, checked, Verdict}
use Rattle.tree_steps.specs.Setters.{held}
use Rattle.tree_steps.specs.SlotOrder.{slots_below}

-- 1, 8: under 512 rectangles, of four numbers
abbrev pub commit_verdict : Tree → ℕ → Verdict
commit_verdict t len = checked (held t) (not (ltb len 2048)) no.ShortRoom

-- ---- the slots above a position, the parent first: going back through the table, each position that is less deep

unfoldable pub ancestors : Tree → ℕ → List ℕ
ancestors t i = less_deep (get_or t.links.depth i 0) (reverse (take i t.links.order)) (reverse (take i t.links.depth))

-- ---- the starts: the marked live slots, by generation and then index

abbrev pub changed_at : Tree → ℕ → Bool
changed_at t x = marked_at t x && (transform_changed_at t x || clip_changed_at t x)

abbrev pub starts_below : Tree → ℕ → List ℕ
starts_below t n = slots_below (marked_at t) t n

abbrev pub starts_of : Tree → List ℕ
starts_of t = starts_below t 256

-- ---- the positions that each start has walked: none where it is covered, its segment where it counts as changed, else its own

unfoldable pub positions_from : ℕ → ℕ → List ℕ
positions_from i zero = []
positions_from i (suc n) = i ∷ positions_from (suc i) n

abbrev pub walked : Tree → ℕ → List ℕ
walked t x =
    let i = position_of t x in
    cond (any_of (changed_at t) (ancestors t i)) []
    (cond (changed_at t x) (positions_from i (end_of t.links i - i)) (i ∷ []))

unfoldable pub walk_all : Tree → List ℕ → List ℕ
walk_all t [] = []
walk_all t (x ∷ xs) = walked t x ++ walk_all t xs

abbrev pub visits_of : Tree → List ℕ
visits_of t = walk_all t (starts_of t)

-- ---- the rework of one position

-- what its parent hands down, as stored
unfoldable pub handed_down : Tree → List ℕ → Placed
handed_down t [] = at_root
handed_down t (q ∷ qs) = stored_place t q

abbrev pub new_place : Tree → ℕ → ℕ → Placed
new_place t i x = placed (handed_down t (ancestors t i)) (record_at t.locals x).transform (clip_of t x)

abbrev pub new_bounds : Tree → ℕ → Placed → Rect
new_bounds t x w = world_box w (record_at t.locals x).bounds

abbrev pub new_hit_bounds : Tree → ℕ → Placed → Rect
new_hit_bounds t x w = hit_box w (record_at t.locals x).bounds (record_at t.locals x).slop

abbrev pub new_world : Tree → ℕ → Placed → WorldNode
new_world t x w = stored_world (world_at t x) w (new_bounds t x w) (new_hit_bounds t x w)

-- a rectangle of damage "if its own width and height exceed 0.0"
abbrev pub if_area : Rect → List Rect
if_area r = cond (has_area r) (r ∷ []) []

-- "A changed world box gives its old form, then its new, as damage"
abbrev pub damage_of : Rect → Rect → List Rect
damage_of old new = cond (rect_eq old new) [] (if_area old ++ if_area new)

-- the entry: a node without one gets one; otherwise it is updated where the hit box has changed
abbrev pub enter_index : Bool → Bool → Tree → ℕ → Aabb2D → Index
enter_index false same t x b = index.insert_of t.index b (id_at t x)
enter_index true true t x b = t.index
enter_index true false t x b = index.update_of t.index (key_at t x).0 b

-- the key of the entry that comes next
abbrev pub new_key : Index → IndexKey
new_key ix = record { committed = true; key = index.key_of (index.slot_of ix) (index.generation_of ix) }

abbrev pub enter_keys : Bool → Tree → ℕ → List IndexKey
enter_keys true t x = t.keys
enter_keys false t x = set t.keys x (new_key t.index)

-- the tree and the damage so far
pub record Work : Type 0 where
  pub tree : Tree
  pub damage : List Rect

abbrev pub reworked : Tree → ℕ → Placed → Tree
reworked t x w =
    let h = new_hit_bounds t x w in
    record {
      slots = t.slots;
      links = t.links;
      locals = t.locals;
      worlds = set t.worlds x (new_world t x w);
      marks = t.marks;
      keys = enter_keys (committed_at t x) t x;
      pending = t.pending;
      index = enter_index (committed_at t x) (rect_eq (stored_hit_bounds t x) h) t x (rect_to_aabb h);
    }

unfoldable pub rework : Work → ℕ → Work
rework k i =
    let t = k.tree in
    let x = get_or t.links.order i 0 in
    let w = new_place t i x in
    record { tree = reworked t x w; damage = k.damage ++ damage_of (stored_bounds t x) (new_bounds t x w) }

unfoldable pub rework_all : Work → List ℕ → Work
rework_all k [] = k
rework_all k (i ∷ is) = rework_all (rework k i) is

-- ---- the whole

-- "earlier removals stand first"
abbrev pub begun : Tree → Work
begun t = record { tree = t; damage = take t.pending.count t.pending.rects }

abbrev pub no_marks : List Dirty
no_marks = replicate 256 no_dirty

-- "An accepted commit leaves no mark, nothing that counts as changed, no removed entry and no pending rectangle"
abbrev pub finished : Tree → Tree
finished t =
    record {
      slots = t.slots;
      links = t.links;
      locals = t.locals;
      worlds = t.worlds;
      marks = no_marks;
      keys = t.keys;
      pending = record { rects = t.pending.rects; count = 0 };
      index = index.commit_of t.index (index.work_of t.index);
    }

abbrev pub work_for : Bool → Tree → Work
work_for false t = record { tree = t; damage = [] }
work_for true t = let k = rework_all (begun t) (visits_of t) in record { tree = finished k.tree; damage = k.damage }

-- a tree that needs no commit stays as it is
unfoldable pub commit_tree : Tree → Work
commit_tree t = work_for (needs_commit t) t

-- the rectangles in front of the room, and behind them what stood there
abbrev pub numbers_of : List Rect → List Float
numbers_of [] = []
numbers_of (r ∷ rs) = of_rect r ++ numbers_of rs

unfoldable pub rects_in_front : List Rect → List Float → List Float
rects_in_front rs room = numbers_of rs ++ drop (length (numbers_of rs)) room

-- the first n rectangles of a room
unfoldable pub rects_of : List Float → ℕ → List Rect
rects_of l zero = []
rects_of l (suc n) = rects_of l n ++ (rect_at l n ∷ [])
