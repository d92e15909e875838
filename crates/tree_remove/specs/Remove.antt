-- What the removal of a node requires of the tree, and that of several, one after the other.
use Rattle.std.specs.Prelude.{◌≡◌, ℕ, true, ◌<◌, List, [], ◌∷◌}
use Rattle.geometry.specs.Rectangle.{has_area}
use Rattle.index_entries.specs.Entries.{Removes}
use Rattle.tree_state.specs.declared.Tree.{Tree}
use Rattle.tree_state.specs.Tree.{committed_at, key_at, stored_bounds}
use Rattle.tree_steps.specs.Structure.{remove_node}

-- there is room for the slot, for the node's box and for its entry
pub record Goes (t : Tree) (x : ℕ) : Type 0 where
  pub low : x < 256
  pub room : t.slots.frees < 256
  pub pending_room : has_area (stored_bounds t x) ≡ true → t.pending.count < 256
  pub entry : committed_at t x ≡ true → Removes t.index (key_at t x).0

unfoldable pub Removals : Tree → List ℕ → Type 0
Removals t [] = Unit {0}
Removals t (x ∷ xs) = Goes t x × Removals (remove_node t x) xs
