-- The four radii of a rounded rectangle, in the order top left, top right, bottom right, bottom left.
use Rattle.std.specs.Prelude.{Bool, ◌&&◌, ◌||◌, cond, Float}
use Rattle.std.specs.Float.Ieee.{is_nan, lt, eq}
use Rattle.geometry.specs.declared.rect.Rect.{Rect}
use Rattle.geometry_clips.specs.declared.rounded_rect_radii.RoundedRectRadii.{RoundedRectRadii}
use Rattle.numbers.specs.Rounded.{◌⊘◌, zero, two}
use Rattle.numbers.specs.Number.{minimum, magnitude}
use Rattle.geometry.specs.Rectangle.{width, height}

abbrev pub radii : Float → Float → Float → Float → RoundedRectRadii
radii tl tr br bl = record { top_left = tl; top_right = tr; bottom_right = br; bottom_left = bl }

abbrev pub no_radii : RoundedRectRadii
no_radii = radii zero zero zero zero

-- the same done to each radius
abbrev pub each : (Float → Float) → RoundedRectRadii → RoundedRectRadii
each f r = radii (f r.top_left) (f r.top_right) (f r.bottom_right) (f r.bottom_left)

-- the same true of all four
abbrev pub all : (Float → Bool) → RoundedRectRadii → Bool
all p r = p r.top_left && (p r.top_right && (p r.bottom_right && p r.bottom_left))

abbrev pub radii_eq : RoundedRectRadii → RoundedRectRadii → Bool
radii_eq r s =
    eq r.top_left s.top_left && (eq r.top_right s.top_right && (eq r.bottom_right s.bottom_right && eq r.bottom_left s.bottom_left))

-- ---- the constructor: radii made non-negative, each capped at half the shorter side

-- half the shorter side
abbrev pub cap : Rect → Float
cap r = minimum (width r) (height r) ⊘ two

-- a NaN radius becomes the cap, and under a NaN cap no radius is capped
unfoldable pub fitted : Rect → RoundedRectRadii → RoundedRectRadii
fitted r q = each (λ x. minimum (magnitude x) (cap r)) q

-- ---- the radius at a point

-- The radius of the quadrant that the offset lies in: a zero offset, of either sign, counts as right or bottom; with any NaN it is 0.
unfoldable pub quadrant : RoundedRectRadii → Float → Float → Float
quadrant q dx dy =
    cond (is_nan dx || is_nan dy) zero
    (cond (lt dx zero) (cond (lt dy zero) q.top_left q.bottom_left) (cond (lt dy zero) q.top_right q.bottom_right))
