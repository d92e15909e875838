-- Rectangles as segments of four numbers of lent room.
use Rattle.std.specs.Prelude.{ℕ, List, [], ◌∷◌, get_or, Float}
use Rattle.std.specs.Float.{nan}
use Rattle.geometry.specs.declared.rect.Rect.{Rect}
use Rattle.geometry.specs.Rectangle.{rect}
use Rattle.index_types.specs.rooms.Stride.{segment, store}

abbrev pub rect_of : List Float → Rect
rect_of v = rect (get_or v 0 nan) (get_or v 1 nan) (get_or v 2 nan) (get_or v 3 nan)

abbrev pub of_rect : Rect → List Float
of_rect r = r.x0 ∷ r.y0 ∷ r.x1 ∷ r.y1 ∷ []

-- the i-th rectangle of a room, and the room with another there
unfoldable pub rect_at : List Float → ℕ → Rect
rect_at l i = rect_of (segment 4 l i)

unfoldable pub put_rect : List Float → ℕ → Rect → List Float
put_rect l i r = store 4 l i (of_rect r)
