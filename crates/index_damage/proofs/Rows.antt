-- Worked rows of the union, each by computation. The order shows where a NaN stands: an unordered pair gives the first.
use mathlib.Core.Path.{◌≡◌, refl}
use mathlib.Core.Bool.{Bool, true, false}
use mathlib.Core.List.{[], ◌++◌}
use mathlib.Core.Option.{Option, none, some}
use lib.IntN.{pos}
use lib.Ieee.{Float, nan, fin, lt}
use Rattle.counting.specs.Conditions.{lowest, Told, refused, gives, told_if}
use Rattle.counting.specs.Joined.{joined}
use Rattle.index_types.specs.declared.Aabb2D.{Aabb2D}
use Rattle.index_types.specs.Boxes.{aabb, least, greatest, union}
use Rattle.index_types.specs.rooms.Tables.{of_box, box_at}
use Rattle.index_damage.specs.Damage.{boxes_in, moves_in, union_of}

-- a box of no numbers, and boxes of one number
pub blank : Aabb2D
blank = aabb nan nan nan nan

pub spot : Float → Aabb2D
spot x = aabb x x x x

pub low : Float
low = fin false 1 (pos 0)

pub high : Float
high = fin false 1 (pos 1)

pub nought : Bool → Float
nought minus = fin minus 0 (pos 0)

-- the union of one box of each kind, in rooms for one box each
pub all : Aabb2D → Aabb2D → Aabb2D → Aabb2D → Told (Option Aabb2D)
all a r o n = union_of (of_box a) 1 (of_box r) 1 (of_box o) (of_box n) 1

pub rows : (union_of [] 0 [] 0 [] [] 0 ≡ gives none)  -- no damage, no union
    × (union_of [] 1 [] 0 [] [] 0 ≡ refused 8)
    × (all (spot high) (spot low) (spot low) (spot low) ≡ gives (some (aabb low low high high)))
    × (all blank (spot low) (spot low) (spot low) ≡ gives (some blank))  -- the first added box starts it
    × (all (spot low) blank blank blank ≡ gives (some (spot low)))
    × (union_of [] 0 (of_box blank) 1 (of_box (spot low)) (of_box (spot high)) 1 ≡ gives (some blank))  -- then what is removed
    × (union_of [] 0 [] 0 (of_box blank) (of_box (spot low)) 1 ≡ gives (some blank))  -- then the moves, the old box before the new
    × (union_of [] 0 [] 0 (of_box (spot low)) (of_box blank) 1 ≡ gives (some (spot low)))
    × (union_of [] 0 [] 0 (of_box (spot low) ++ of_box (spot (nought true))) (of_box (spot (nought false)) ++ of_box (spot high)) 2 ≡ gives (some (aabb (nought false) (nought false) high high)))  -- pair by pair: +0 comes before −0
    × (union_of (of_box (spot low) ++ of_box (spot high)) 1 (of_box (spot high)) 0 (of_box (spot high)) (of_box (spot high)) 0 ≡ gives (some (spot low)))  -- no more boxes than are counted
unfolding blank spot low high nought all union_of lowest told_if joined boxes_in moves_in box_at union least greatest lt
rows = (refl, refl, refl, refl, refl, refl, refl, refl, refl, refl)
