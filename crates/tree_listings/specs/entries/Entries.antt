-- What a listing takes of the entries.
use Rattle.index_types.specs.Slots.{entry}
use Rattle.std.specs.Prelude.{Bool, ◌&&◌, ℕ}
use Rattle.index_types.specs.declared.Aabb2D.{Aabb2D}
use Rattle.index_types.specs.Boxes.{overlaps}
use Rattle.tree_types.specs.declared.NodeFlags.{NodeFlags}
use Rattle.tree_types.specs.Local.{has_all, rect_to_aabb}
use Rattle.index_query.specs.Query.{visits}
use Rattle.tree_state.specs.declared.Tree.{Tree}
use Rattle.tree_state.specs.Tree.{local_at, stored_bounds}

-- the slot of the node that an entry carries
abbrev pub node_of : Tree → ℕ → ℕ
node_of t k = (entry t.index k).payload.0

abbrev pub visited : Tree → Aabb2D → ℕ → Bool
visited t rect k = visits t.index rect k

-- a node has all asked flags, and its world box meets the rectangle
abbrev pub meets : Tree → NodeFlags → Aabb2D → ℕ → Bool
meets t asked rect x = has_all (local_at t x).flags asked && overlaps (rect_to_aabb (stored_bounds t x)) rect

-- an entry is visited, and its node meets the rectangle
abbrev pub takes : Tree → NodeFlags → Aabb2D → ℕ → Bool
takes t asked rect k = visited t rect k && meets t asked rect (node_of t k)
