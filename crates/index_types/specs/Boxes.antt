-- Boxes of the index (document 01, module 3): containment and overlap include all edges, as numbers stand, whatever their order.
use Rattle.std.specs.Prelude.{Bool, ◌&&◌, cond, Float}
use Rattle.std.specs.Float.Ieee.{lt, le, eq}
use Rattle.index_types.specs.declared.Aabb2D.{Aabb2D}

abbrev pub aabb : Float → Float → Float → Float → Aabb2D
aabb x0 y0 x1 y1 = record { min_x = x0; min_y = y0; max_x = x1; max_y = y1 }

-- `min_t` and `max_t`: the smaller, or the larger; "an unordered pair gives the first", and so does an equal one
unfoldable pub least : Float → Float → Float
least a b = cond (lt b a) b a

unfoldable pub greatest : Float → Float → Float
greatest a b = cond (lt a b) b a

-- a point between the low edges and the high edges, each edge in
unfoldable pub contains_point : Aabb2D → Float → Float → Bool
contains_point b x y = le b.min_x x && le b.min_y y && (le x b.max_x && le y b.max_y)

-- each low edge is at most the other's high edge
unfoldable pub overlaps : Aabb2D → Aabb2D → Bool
overlaps b c =
    le b.min_x c.max_x && le c.min_x b.max_x && (le b.min_y c.max_y && le c.min_y b.max_y)

unfoldable pub union : Aabb2D → Aabb2D → Aabb2D
union b c =
    aabb (least b.min_x c.min_x) (least b.min_y c.min_y) (greatest b.max_x c.max_x) (greatest b.max_y c.max_y)

-- equality as numbers: −0 equals +0, a NaN equals nothing
unfoldable pub aabb_eq : Aabb2D → Aabb2D → Bool
aabb_eq b c = eq b.min_x c.min_x && (eq b.min_y c.min_y && (eq b.max_x c.max_x && eq b.max_y c.max_y))
