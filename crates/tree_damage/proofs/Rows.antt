-- Worked rows of the union, each by computation.
use mathlib.Core.Path.{◌≡◌, refl}
use mathlib.Core.Bool.{Bool, true, false}
use mathlib.Core.List.{List, [], ◌++◌}
use Rattle.std.specs.Prelude.{Ok, Err, Some, None}
use lib.IntN.{pos}
use lib.Ieee.{Float, fin, lt, is_nan}
use Rattle.numbers.specs.Number.{minimum, maximum}
use Rattle.geometry.specs.declared.rect.Rect.{Rect}
use Rattle.geometry.specs.Rectangle.{rect, union}
use Rattle.tree_types.specs.rooms.Rooms.{of_rect, rect_at}
use Rattle.tree_steps.specs.Commit.{rects_of}
use Rattle.tree_state.specs.declared.Refusal.TheVariants as no
use Rattle.tree_state.specs.Tree.{number_of, number_in}
use Rattle.tree_damage.specs.Damage.{with_rect, join_all, union_rect}

pub low : Float
low = fin false 1 (pos 0)

pub high : Float
high = fin false 1 (pos 1)

pub nought : Bool → Float
nought minus = fin minus 0 (pos 0)

-- a rectangle without width or height
pub spot : Float → Rect
spot x = rect x x x x

pub two : List Float
two = of_rect (spot high) ++ of_rect (spot low)

pub rows : (union_rect [] 0 ≡ Ok None)  -- no damage, no union
    × (union_rect two 0 ≡ Ok None)
    × (union_rect two 1 ≡ Ok (Some (spot high)))
    × (union_rect two 2 ≡ Ok (Some (rect low low high high)))
    × (union_rect (of_rect (spot (nought true)) ++ of_rect (spot (nought false))) 2 ≡ Ok (Some (spot (nought true))))  -- of equal numbers the first
    × (union_rect two 3 ≡ Err no.ShortRoom)
    × (number_in (union_rect two 2) ≡ 0)
    × (number_in (union_rect two 3) ≡ 8)
unfolding low high nought spot two union_rect join_all with_rect rects_of rect_at union minimum maximum lt is_nan number_of number_in
rows = (refl, refl, refl, refl, refl, refl, refl, refl)
