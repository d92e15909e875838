-- Damage in lent room.
use Rattle.std.specs.Prelude.{ℕ, ◌+◌, List, [], ◌∷◌, Float}
use Rattle.geometry.specs.declared.rect.Rect.{Rect}
use Rattle.tree_types.specs.rooms.Rooms.{put_rect}

-- rectangles one after the other, the first at the position n
unfoldable pub laid : List Float → ℕ → List Rect → List Float
laid room n [] = room
laid room n (r ∷ rs) = laid (put_rect room n r) (n + 1) rs
