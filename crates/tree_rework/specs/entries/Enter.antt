-- The entry of a node: the tree once it has one, and what that needs.
use Rattle.std.specs.Prelude.{ℕ, ◌≡◌, Bool, true, false}
use Rattle.index_types.specs.declared.Aabb2D.{Aabb2D}
use Rattle.index_entries.specs.Entries.{Inserts, Queues}
use Rattle.tree_state.specs.declared.Tree.{Tree}
use Rattle.tree_state.specs.Tree.{committed_at, key_at}
use Rattle.tree_steps.specs.Commit.{enter_index, enter_keys}

-- the tree with the entry of the slot x; `same` is whether its hit box is as it was
abbrev pub entered : Tree → ℕ → Aabb2D → Bool → Tree
entered t x b same =
    record {
      slots = t.slots;
      links = t.links;
      locals = t.locals;
      worlds = t.worlds;
      marks = t.marks;
      keys = enter_keys (committed_at t x) t x;
      pending = t.pending;
      index = enter_index (committed_at t x) same t x b;
    }

-- what that needs of the index: a slot for a new entry, or a place in the queue for the node's own
pub record Enters (t : Tree) (x : ℕ) : Type 0 where
  pub inserts : committed_at t x ≡ false → Inserts t.index
  pub queues : committed_at t x ≡ true → Queues t.index (key_at t x).0
