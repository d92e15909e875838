-- What the rework of a position needs so that every table holds what it stores.
use Rattle.std.specs.Prelude.{ℕ, ◌≤◌, ◌<◌, ◌≡◌, true, false, List, length, get_or, take}
use Rattle.geometry.specs.declared.rect.Rect.{Rect}
use Rattle.index_entries.specs.Entries.{stands}
use Rattle.index_state.specs.Index as index
use Rattle.tree_state.specs.declared.Tree.{Tree}
use Rattle.tree_state.specs.Tree.{committed_at, key_at}
use Rattle.tree_steps.specs.Commit.{Work, rework, rework_all}

-- the slot at a position
abbrev pub slot_at : Tree → ℕ → ℕ
slot_at t i = get_or t.links.order i 0

-- the position i can be reworked
pub record Fits (k : Work) (i : ℕ) : Type 0 where
  pub place : i < k.tree.links.count
  pub count_fits : k.tree.links.count ≤ 256
  pub slots_low : (j : ℕ) → j < k.tree.links.count → slot_at k.tree j < 256
  pub used_fits : k.tree.index.used ≤ 512
  pub frees_fit : k.tree.index.frees ≤ 512
  pub queue_fits : k.tree.index.queued ≤ 512
  -- a node without an entry: a slot for one, and a place in the queue unless that slot stands there
  pub slot_fits : committed_at k.tree (slot_at k.tree i) ≡ false → index.slot_of k.tree.index < 512
  pub slot_queued : committed_at k.tree (slot_at k.tree i) ≡ false
      → stands (index.slot_of k.tree.index) k.tree.index.dirty k.tree.index.queued ≡ false → k.tree.index.queued < 512
  -- a committed one: its key finds its entry, and there is a place in the queue unless the entry stands there
  pub key_lives : committed_at k.tree (slot_at k.tree i) ≡ true → index.live k.tree.index (key_at k.tree (slot_at k.tree i)) ≡ true
  pub key_queued : committed_at k.tree (slot_at k.tree i) ≡ true
      → stands (key_at k.tree (slot_at k.tree i)).0 k.tree.index.dirty k.tree.index.queued ≡ false → k.tree.index.queued < 512
  -- room for 512 rectangles
  pub damage_fits : length (rework k i).damage ≤ 512

-- the tree and the damage before the positions are reworked
abbrev pub from : Tree → List Rect → Work
from t ds = record { tree = t; damage = ds }

-- each of the positions in turn can be reworked
abbrev pub Ready : Tree → List Rect → List ℕ → Type 0
Ready t ds vs = (j : ℕ) → j < length vs → Fits (rework_all (from t ds) (take j vs)) (get_or vs j 0)
