-- Document 01's "Sound tree", in its words and order. Stored values are those of live nodes; that any mark, removed entry or pending rectangle
-- means a commit is needed holds by the definition of `needs_commit`.
use Rattle.std.specs.Prelude.{ℕ, zero, suc, ◌+◌, ◌≤◌, ◌<◌, ◌≡◌, Bool, true, false, not, ◌&&◌, ◌||◌, cond, List, [], ◌∷◌, eqb, ltb, leb, take}
use Rattle.geometry.specs.Rectangle.{rect_eq}
use Rattle.geometry_clips.specs.Clips.{constructed}
use Rattle.geometry_clips.specs.constructed.Constructed.{as_constructed}
use Rattle.index_types.specs.declared.NodeId.{NodeId}
use Rattle.tree_types.specs.Local.{finite_local, known, empty_rect}
use Rattle.index_types.specs.Slots.{entry}
use Rattle.counting.specs.Times.{tally, times, every}
use Rattle.counting.specs.Lists.{once_below}
use Rattle.link_forest.specs.Forest.{Forest, pre, dep}
use Rattle.link_forest.specs.Table.{depths_from}
use Rattle.index_sound.specs.Sound.{SoundOf, sound_of}
use Rattle.tree_state.specs.declared.Tree.{Tree}
use Rattle.tree_state.specs.Tree as tree
use Rattle.tree_state.specs.Tree.{live_slots, is_live, local_at, clip_of, marked_at, transform_changed_at, clip_changed_at, committed_at, key_at, stored_bounds, stored_hit_bounds, entry_mark, is_removed}

abbrev pub Live : Tree → ℕ → Type 0
Live t x = is_live t x ≡ true

-- how many of these slots, or of the numbers below n, pass the test
unfoldable pub count_of : (ℕ → Bool) → List ℕ → ℕ
count_of p [] = 0
count_of p (x ∷ xs) = tally (p x) + count_of p xs

unfoldable pub count_below : ℕ → (ℕ → Bool) → ℕ
count_below zero p = 0
count_below (suc n) p = count_below n p + tally (p n)

-- entries that are marked removed, and committed nodes
abbrev pub removed_entries : Tree → ℕ
removed_entries t = count_below 512 (λ k. is_removed (entry_mark t k))

abbrev pub committed_nodes : Tree → ℕ
committed_nodes t = count_of (committed_at t) (live_slots t)

-- node x owns the entry k: unmarked, live under x's key, and carrying x's id
pub record Owns (t : Tree) (x k : ℕ) : Type 0 where
  pub slot : (key_at t x).0 ≡ k
  pub is_entry : k < 512
  pub unmarked : entry_mark t k ≡ 1
  pub under_key : (entry t.index k).generation ≡ (key_at t x).1
  pub carries : (entry t.index k).payload ≡ tree.id_at t x

-- a node that no commit has seen
pub record Uncommitted (t : Tree) (x : ℕ) : Type 0 where
  pub no_box : rect_eq (stored_bounds t x) empty_rect ≡ true
  pub no_hit_box : rect_eq (stored_hit_bounds t x) empty_rect ≡ true
  pub in_transform : transform_changed_at t x ≡ true
  pub in_clip : clip_changed_at t x ≡ true

pub record SoundTree (t : Tree) : Type 0 where
  -- the shape of the tables: what is used, linked, freed and pending fits
  pub used_fits : t.slots.used ≤ 256
  pub count_fits : t.links.count ≤ 256
  pub free_fits : t.slots.frees ≤ 256
  pub pending_fits : t.pending.count ≤ 256
  -- "live links agree both ways by full id, no loop, no child twice": the table is some forest's
  pub links : (f : Forest) × (live_slots t ≡ pre f) × (take t.links.count t.links.depth ≡ dep 1 f)
  -- "the free list is exactly the used dead slots, each once": a used slot stands once among the live or the free ones, and no other does
  pub once : (x : ℕ) → x < t.slots.used → times x (live_slots t) + times x (take t.slots.frees t.slots.free) ≡ 1
  pub beyond : (x : ℕ) → t.slots.used ≤ x → times x (live_slots t) + times x (take t.slots.frees t.slots.free) ≡ 0
  -- "stored values pass 5 and 6; clips are as constructed"
  pub finite : (x : ℕ) → Live t x → finite_local (local_at t x) ≡ true
  pub flags_known : (x : ℕ) → Live t x → known (local_at t x).flags ≡ true
  pub clips : (x : ℕ) → Live t x → constructed (clip_of t x) ≡ clip_of t x
  -- "a committed node owns one unmarked live entry carrying its id"
  pub committed : (x : ℕ) → Live t x → committed_at t x ≡ true → Owns t x (key_at t x).0
  -- "an uncommitted one has none, zero world boxes, and counts as changed in transform and clip"
  pub uncommitted : (x : ℕ) → Live t x → committed_at t x ≡ false → Uncommitted t x
  -- "each node that counts as changed has a mark"
  pub transform_marked : (x : ℕ) → Live t x → transform_changed_at t x ≡ true → marked_at t x ≡ true
  pub clip_marked : (x : ℕ) → Live t x → clip_changed_at t x ≡ true → marked_at t x ≡ true
  -- "pending rectangles are no more than entries marked removed"
  pub pending : t.pending.count ≤ removed_entries t
  -- "those entries with the committed nodes are at most 256"
  pub few : removed_entries t + committed_nodes t ≤ 256
  -- "every other entry is owned by a committed node"
  pub owned : (k : ℕ) → k < 512 → (entry_mark t k ≡ 0 → ⊥) → is_removed (entry_mark t k) ≡ false
      → (x : ℕ) × Live t x × (committed_at t x ≡ true) × Owns t x k
  -- "its index is sound"
  pub index : SoundOf t.index.entries t.index.free t.index.frees t.index.dirty t.index.queued t.index.used

-- ---- the same as a test that computes

unfoldable pub every_of : (ℕ → Bool) → List ℕ → Bool
every_of p [] = true
every_of p (x ∷ xs) = p x && every_of p xs

-- slots: live and free ones are below 256, each once, and together they are the used ones
unfoldable pub slots_right : List ℕ → ℕ → List ℕ → ℕ → ℕ → Bool
slots_right order n free m used =
    leb used 256
    && (once_below 256 order n
    && (once_below 256 free m && every 256 (λ x. eqb (times x (take n order) + times x (take m free)) (tally (ltb x used)))))

-- one live node: its values, its marks, and its entry or that it has none yet
abbrev pub values_right : Tree → ℕ → Bool
values_right t x = finite_local (local_at t x) && (known (local_at t x).flags && as_constructed (clip_of t x))

abbrev pub marks_right : Tree → ℕ → Bool
marks_right t x = marked_at t x || not (transform_changed_at t x || clip_changed_at t x)

abbrev pub same_id : NodeId → NodeId → Bool
same_id i j = eqb i.0 j.0 && eqb i.1 j.1

abbrev pub owns_right : Tree → ℕ → ℕ → Bool
owns_right t x k =
    ltb k 512
    && (eqb (entry_mark t k) 1 && (eqb ((entry t.index k).generation) (key_at t x).1 && same_id (entry t.index k).payload (tree.id_at t x)))

abbrev pub new_right : Tree → ℕ → Bool
new_right t x =
    rect_eq (stored_bounds t x) empty_rect && (rect_eq (stored_hit_bounds t x) empty_rect && (transform_changed_at t x && clip_changed_at t x))

abbrev pub key_right : Tree → ℕ → Bool
key_right t x = cond (committed_at t x) (owns_right t x (key_at t x).0) (new_right t x)

unfoldable pub node_right : Tree → ℕ → Bool
node_right t x = values_right t x && (marks_right t x && key_right t x)

-- one entry: empty, removed, or unmarked and owned by the live committed node whose id it carries
abbrev pub owner_of : Tree → ℕ → ℕ
owner_of t k = (entry t.index k).payload.0

abbrev pub owned_right : Tree → ℕ → Bool
owned_right t k = is_live t (owner_of t k) && (committed_at t (owner_of t k) && eqb (key_at t (owner_of t k)).0 k)

unfoldable pub entry_right : Tree → ℕ → Bool
entry_right t k = eqb (entry_mark t k) 0 || is_removed (entry_mark t k) || (eqb (entry_mark t k) 1 && owned_right t k)

unfoldable pub counts_right : Tree → Bool
counts_right t = leb t.pending.count (removed_entries t) && leb (removed_entries t + committed_nodes t) 256

unfoldable pub sound_tree : Tree → Bool
sound_tree t =
    slots_right t.links.order t.links.count t.slots.free t.slots.frees t.slots.used
    && (depths_from 0 (take t.links.count t.links.depth)
    && (sound_of t.index.entries t.index.free t.index.frees t.index.dirty t.index.queued t.index.used
    && (every_of (node_right t) (live_slots t) && (every 512 (entry_right t) && counts_right t))))
