-- What a move requires of the new parent.
use Rattle.std.specs.Prelude.{◌≡◌, ℕ, true, ◌≤◌, ◌<◌, None, Some, Option, take}
use Rattle.index_types.specs.declared.NodeId.{NodeId}
use Rattle.link_forest.specs.Table.{depths_from}
use Rattle.link_table.specs.Links.{end_of}
use Rattle.tree_state.specs.declared.Tree.{Tree}
use Rattle.tree_state.specs.Tree.{position_of}

-- it has a position, and none of the segment of the position i
abbrev pub Outside : Tree → ℕ → Option NodeId → Type 0
Outside t i None = Unit {0}
Outside t i (Some h) = (position_of t h.0 < t.links.count) × (i ≤ position_of t h.0 → end_of t.links i ≤ position_of t h.0)

-- what the move of the node at the slot x requires: it stands at the position i of the table, and the parent is outside its segment
pub record Movable (t : Tree) (i x : ℕ) (parent : Option NodeId) : Type 0 where
  pub position : i ≡ position_of t x
  pub position_fits : i < t.links.count
  pub count_fits : t.links.count ≤ 256
  pub slot_low : x < 256
  pub depths : depths_from 0 (take t.links.count t.links.depth) ≡ true
  pub outside : Outside t i parent
