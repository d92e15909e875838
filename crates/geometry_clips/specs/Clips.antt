-- Clips: none, square, or rounded with four radii, in the order top left, top right, bottom right, bottom
-- left. A clip is read by its rectangle, if there is a clip, and its radii: "square means all radii 0". Below, `is.` marks the cases of `Clip`.
use Rattle.std.specs.Prelude.{Bool, true, ◌&&◌, cond, Option, None, Some}
use Rattle.std.specs.Float.Ieee.{eq}
use Rattle.std.specs.Float.Ieee.Scale.{finite}
use Rattle.geometry.specs.declared.point.Point.{Point}
use Rattle.geometry.specs.declared.rect.Rect.{Rect}
use Rattle.geometry_clips.specs.declared.rounded_rect_radii.RoundedRectRadii.{RoundedRectRadii}
use Rattle.geometry_clips.specs.declared.clip.Clip.{Clip}
use Rattle.geometry_clips.specs.declared.clip.Clip.TheVariants as is
use Rattle.numbers.specs.Rounded.{zero}
use Rattle.geometry.specs.Rectangle.{rect, ordered}
unfoldable pub use Rattle.geometry_clips.specs.Rects.{clip_rect_eq, finite_clip_rect}
pub use Rattle.geometry_clips.specs.rounded_rect_radii.Radii.{radii, no_radii, each, all, radii_eq, cap}
unfoldable pub use Rattle.geometry_clips.specs.rounded_rect_radii.Radii.{fitted, quadrant}
pub use Rattle.geometry_clips.specs.rounded_rect.RoundedRect.{centre, inside_corner, inside_at, same_rect, same_radii}
unfoldable pub use Rattle.geometry_clips.specs.rounded_rect.RoundedRect.{excess, inside_rounded}

-- ---- a clip's parts

unfoldable pub clip_rect : Clip → Option Rect
clip_rect is.None = None
clip_rect (is.Square x0 y0 x1 y1) = Some (rect x0 y0 x1 y1)
clip_rect (is.Rounded x0 y0 x1 y1 tl tr br bl) = Some (rect x0 y0 x1 y1)

unfoldable pub clip_radii : Clip → RoundedRectRadii
clip_radii is.None = no_radii
clip_radii (is.Square x0 y0 x1 y1) = no_radii
clip_radii (is.Rounded x0 y0 x1 y1 tl tr br bl) = radii tl tr br bl

-- ---- the constructor: corners put in order, radii made non-negative, each capped at half the shorter side; square means all radii 0

abbrev pub square : Rect → Clip
square r = is.Square r.x0 r.y0 r.x1 r.y1

abbrev pub rounded : Rect → RoundedRectRadii → Clip
rounded r q = is.Rounded r.x0 r.y0 r.x1 r.y1 q.top_left q.top_right q.bottom_right q.bottom_left

unfoldable pub shaped : Rect → RoundedRectRadii → Clip
shaped r q = cond (all (λ x. eq x zero) q) (square r) (rounded r q)

abbrev pub constructed_of : Option Rect → RoundedRectRadii → Clip
constructed_of None q = is.None
constructed_of (Some r) q = shaped (ordered r) (fitted (ordered r) q)

unfoldable pub constructed : Clip → Clip
constructed c = constructed_of (clip_rect c) (clip_radii c)

-- ---- a point inside, measured from the centre of the clip as it is given: the constructor comes first

-- no clip leaves every point inside
abbrev pub inside_of : Option Rect → RoundedRectRadii → Point → Bool
inside_of None q p = true
inside_of (Some r) q p = inside_rounded r q p

unfoldable pub inside : Clip → Point → Bool
inside c p = inside_of (clip_rect c) (clip_radii c) p

-- ---- equality as numbers, of what is given: (10, 10, 0, 0) is not (0, 0, 10, 10)

unfoldable pub clip_eq : Clip → Clip → Bool
clip_eq c d = clip_rect_eq (clip_rect c) (clip_rect d) && radii_eq (clip_radii c) (clip_radii d)

-- ---- finiteness of what the case carries, as handed over: what refusal 5 asks

unfoldable pub finite_clip : Clip → Bool
finite_clip c = finite_clip_rect (clip_rect c) && all finite (clip_radii c)
