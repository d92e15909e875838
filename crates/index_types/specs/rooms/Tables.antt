-- Boxes in lent room as segments of four floats, and ids as segments of two numbers.
use Rattle.std.specs.Prelude.{List, [], ◌∷◌, ℕ, get_or, Float}
use Rattle.std.specs.Float.{nan}
use Rattle.index_types.specs.declared.Aabb2D.{Aabb2D}
use Rattle.index_types.specs.declared.NodeId.{NodeId}
use Rattle.index_types.specs.Boxes.{aabb}
use Rattle.index_types.specs.rooms.Stride.{segment, store}

abbrev pub box_of : List Float → Aabb2D
box_of v = aabb (get_or v 0 nan) (get_or v 1 nan) (get_or v 2 nan) (get_or v 3 nan)

abbrev pub of_box : Aabb2D → List Float
of_box b = b.min_x ∷ b.min_y ∷ b.max_x ∷ b.max_y ∷ []

-- the i-th box of lent room, and the room with another box there
unfoldable pub box_at : List Float → ℕ → Aabb2D
box_at l i = box_of (segment 4 l i)

unfoldable pub put_box : List Float → ℕ → Aabb2D → List Float
put_box l i b = store 4 l i (of_box b)

abbrev pub of_id : NodeId → List ℕ
of_id n = n.0 ∷ n.1 ∷ []

-- the room with another id at the place i
unfoldable pub put_id : List ℕ → ℕ → NodeId → List ℕ
put_id l i n = store 2 l i (of_id n)
