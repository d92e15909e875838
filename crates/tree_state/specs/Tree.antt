-- The tree's record: what a slot's node is, read off the tables, and what calls for a commit.
use Rattle.std.specs.Prelude.{ℕ, zero, suc, Bool, false, ◌&&◌, ◌||◌, List, [], ◌∷◌, eqb, ltb, leb, get_or, take, replicate, pos, if◌then◌else◌, Ok, Err, Result}
use Rattle.numbers.specs.Rounded as float
use Rattle.geometry.specs.declared.rect.Rect.{Rect}
use Rattle.geometry.specs.declared.affine.Affine.{Affine}
use Rattle.geometry_clips.specs.declared.clip.Clip.{Clip}
use Rattle.geometry_clips.specs.Clips.{no_radii}
use Rattle.index_types.specs.declared.NodeId.{NodeId}
use Rattle.index_types.specs.declared.Key.{Key}
use Rattle.tree_types.specs.declared.LocalNode.{LocalNode}
use Rattle.tree_types.specs.Local.{flags, no_inset, empty_rect}
use Rattle.tree_worlds.specs.declared.Placed.{Placed}
use Rattle.link_forest.specs.Table.{index_of}
use Rattle.index_types.specs.Slots.{entry}
use Rattle.index_state.specs.Index.{fresh_index}
use Rattle.tree_state.specs.declared.Dirty.{Dirty}
use Rattle.tree_state.specs.declared.IndexKey.{IndexKey}
use Rattle.tree_state.specs.declared.Local.{Local}
use Rattle.tree_state.specs.declared.WorldNode.{WorldNode}
use Rattle.tree_state.specs.declared.Tree.{Tree}
use Rattle.tree_state.specs.declared.Refusal.{Refusal}
use Rattle.tree_state.specs.declared.Refusal.TheVariants as no
use Rattle.tree_state.specs.Locals.{record_at, clip_in, local_in}
use Rattle.tree_state.specs.Worlds.{no_world, place_of}

-- ---- refusals

-- document 01's number of each
unfoldable pub number_of : Refusal → ℕ
number_of no.Unsound = 1
number_of no.DeadNode = 2
number_of no.DeadParent = 3
number_of no.BelowItself = 4
number_of no.NotFinite = 5
number_of no.UnknownFlags = 6
number_of no.NeedsCommit = 7
number_of no.ShortRoom = 8
number_of no.Full = 9

-- accepted, or refused and why
abbrev pub Verdict : Type 0
Verdict = Result Unit Refusal

-- what a call that changes the tree answers, and the tree after it
pub record After (A : Type 0) : Type 0 where
  pub answer : Result A Refusal
  pub tree : Tree

-- the value of an accepted call, or the refusal
abbrev pub value_if : {A : Type 0} → Verdict → A → Result A Refusal
value_if (Ok tt) a = Ok a
value_if (Err r) a = Err r

-- 0 where the call is accepted
unfoldable pub number_in : {A : Type 0} → Result A Refusal → ℕ
number_in (Ok a) = 0
number_in (Err r) = number_of r

-- "The lowest number that applies is given": conditions are checked in the order of their numbers
abbrev pub checked_next : Bool → Refusal → Verdict
checked_next holds r = if holds then Ok tt else Err r

abbrev pub checked : Verdict → Bool → Refusal → Verdict
checked (Ok tt) holds r = checked_next holds r
checked (Err q) holds r = Err q

-- ---- fresh

-- a slot that was never used: no number is read before a call stores it
abbrev pub no_transform : Affine
no_transform = record { a = float.zero; b = float.zero; c = float.zero; d = float.zero; e = float.zero; f = float.zero }

abbrev pub fresh_local : Local
fresh_local =
    record {
      bounds = empty_rect;
      slop = no_inset;
      transform = no_transform;
      kind = 0;
      clip = empty_rect;
      radii = no_radii;
      level = pos 0;
      flags = flags 0;
    }

abbrev pub fresh_world : WorldNode
fresh_world =
    record {
      transform = no_transform;
      clipped = false;
      clip = empty_rect;
      bounds = empty_rect;
      hit_bounds = empty_rect;
    }

-- a slot's marks and its key where it has neither
abbrev pub no_dirty : Dirty
no_dirty = record { marked = false; transform = false; clip = false }

abbrev pub no_key : IndexKey
no_key = record { committed = false; key = record { 0 = 0; 1 = 0 } }

unfoldable pub fresh_tree : Tree
fresh_tree =
    record {
      slots = record { generation = replicate 256 0; used = 0; free = replicate 256 0; frees = 0 };
      links = record { order = replicate 256 0; depth = replicate 256 0; count = 0 };
      locals = replicate 256 fresh_local;
      worlds = replicate 256 fresh_world;
      marks = replicate 256 no_dirty;
      keys = replicate 256 no_key;
      pending = record { rects = replicate 256 empty_rect; count = 0 };
      index = fresh_index;
    }

-- ---- the node at a slot

-- the live slots, in the order of a walk
abbrev pub live_slots : Tree → List ℕ
live_slots t = take t.links.count t.links.order

abbrev pub position_of : Tree → ℕ → ℕ
position_of t x = index_of x (live_slots t)

-- a slot that a live node has
abbrev pub is_live : Tree → ℕ → Bool
is_live t x = ltb (position_of t x) t.links.count

abbrev pub generation_at : Tree → ℕ → ℕ
generation_at t x = get_or t.slots.generation x 0

abbrev pub id_at : Tree → ℕ → NodeId
id_at t x = record { 0 = x; 1 = generation_at t x }

-- a node id that is live
unfoldable pub live : Tree → NodeId → Bool
live t i = is_live t i.0 && eqb (generation_at t i.0) i.1

abbrev pub clip_of : Tree → ℕ → Clip
clip_of t x = clip_in (record_at t.locals x)

unfoldable pub local_at : Tree → ℕ → LocalNode
local_at t x = local_in t.locals x

-- a slot's marks
abbrev pub dirty : List Dirty → ℕ → Dirty
dirty marks x = get_or marks x no_dirty

abbrev pub marked_at : Tree → ℕ → Bool
marked_at t x = (dirty t.marks x).marked

-- counts as changed in transform, in clip
abbrev pub transform_changed_at : Tree → ℕ → Bool
transform_changed_at t x = (dirty t.marks x).transform

abbrev pub clip_changed_at : Tree → ℕ → Bool
clip_changed_at t x = (dirty t.marks x).clip

-- a slot's key, and whether it has one
abbrev pub index_key : List IndexKey → ℕ → IndexKey
index_key keys x = get_or keys x no_key

-- a committed node: one that has an entry of the index
abbrev pub committed_at : Tree → ℕ → Bool
committed_at t x = (index_key t.keys x).committed

-- a committed node's key
abbrev pub key_at : Tree → ℕ → Key
key_at t x = (index_key t.keys x).key

-- the stored world record
abbrev pub world_at : Tree → ℕ → WorldNode
world_at t x = get_or t.worlds x no_world

abbrev pub stored_place : Tree → ℕ → Placed
stored_place t x = place_of (world_at t x)

abbrev pub stored_bounds : Tree → ℕ → Rect
stored_bounds t x = (world_at t x).bounds

abbrev pub stored_hit_bounds : Tree → ℕ → Rect
stored_hit_bounds t x = (world_at t x).hit_bounds

-- ---- the index's entries

-- an entry's mark: 0 empty, 1 unmarked, 2 added, 3 updated, from 4 on removed
abbrev pub entry_mark : Tree → ℕ → ℕ
entry_mark t k = (entry t.index k).mark

abbrev pub is_removed : ℕ → Bool
is_removed m = leb 4 m

-- one of the first n passes the test
unfoldable pub some : ℕ → (ℕ → Bool) → Bool
some zero p = false
some (suc n) p = some n p || p n

-- ---- need: "nothing but a mark, a removed entry or a pending rectangle calls for a commit"

unfoldable pub any_of : (ℕ → Bool) → List ℕ → Bool
any_of p [] = false
any_of p (x ∷ xs) = p x || any_of p xs

unfoldable pub needs_commit : Tree → Bool
needs_commit t = any_of (marked_at t) (live_slots t) || some 512 (λ k. is_removed (entry_mark t k)) || ltb 0 t.pending.count
