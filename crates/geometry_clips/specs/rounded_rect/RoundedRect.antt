-- A rectangle with four radii: a point inside, and equality to the bit.
use Rattle.std.specs.Prelude.{Bool, ◌&&◌, Float}
use Rattle.std.specs.Float.Ieee.{le}
use Rattle.geometry.specs.declared.point.Point.{Point}
use Rattle.geometry.specs.declared.rect.Rect.{Rect}
use Rattle.geometry_clips.specs.declared.rounded_rect_radii.RoundedRectRadii.{RoundedRectRadii}
use Rattle.numbers.specs.Rounded.{◌⊕◌, ◌⊖◌, ◌⊗◌, ◌⊘◌, zero, half, two}
use Rattle.numbers.specs.Number.{maximum, magnitude, same}
use Rattle.geometry.specs.Rectangle.{width, height}
use Rattle.geometry_clips.specs.rounded_rect_radii.Radii.{quadrant}

-- ---- a point inside, measured from the centre of the rectangle as it is given

abbrev pub centre : Rect → Point
centre r = record { x = half ⊗ (r.x0 ⊕ r.x1); y = half ⊗ (r.y0 ⊕ r.y1) }

-- How far an offset d reaches past the straight part of a side of this length, whose corners have the radius R: never below 0, and 0 for
-- a NaN offset, since a maximum with a NaN gives the other operand. So a point whose offsets are both NaN is inside every clip.
unfoldable pub excess : Float → Float → Float → Float
excess d side R = maximum (magnitude d ⊖ maximum (side ⊘ two ⊖ R) zero) zero

abbrev pub inside_corner : Float → Float → Float → Bool
inside_corner px py R = le (px ⊗ px ⊕ py ⊗ py) (R ⊗ R)

abbrev pub inside_at : Rect → Float → Float → Float → Bool
inside_at r dx dy R = inside_corner (excess dx (width r) R) (excess dy (height r) R) R

unfoldable pub inside_rounded : Rect → RoundedRectRadii → Point → Bool
inside_rounded r q p =
    let dx = p.x ⊖ (centre r).x in
    let dy = p.y ⊖ (centre r).y in
    inside_at r dx dy (quadrant q dx dy)

-- ---- equality to the bit

abbrev pub same_rect : Rect → Rect → Bool
same_rect r s = same r.x0 s.x0 && same r.y0 s.y0 && (same r.x1 s.x1 && same r.y1 s.y1)

abbrev pub same_radii : RoundedRectRadii → RoundedRectRadii → Bool
same_radii q s =
    same q.top_left s.top_left && same q.top_right s.top_right
    && (same q.bottom_right s.bottom_right && same q.bottom_left s.bottom_left)
