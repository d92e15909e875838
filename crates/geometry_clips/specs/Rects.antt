-- A clip's rectangle, if there is a clip.
use Rattle.std.specs.Prelude.{Bool, true, Option, None, Some}
use Rattle.std.specs.Option.{option_eq}
use Rattle.geometry.specs.declared.rect.Rect.{Rect}
use Rattle.geometry.specs.Rectangle.{rect_eq, finite_rect}

-- equality as numbers
unfoldable pub clip_rect_eq : Option Rect → Option Rect → Bool
clip_rect_eq g h = option_eq rect_eq g h

-- every edge is finite, where there is a rectangle: part of what the refusal of numbers that are not finite asks
unfoldable pub finite_clip_rect : Option Rect → Bool
finite_clip_rect None = true
finite_clip_rect (Some r) = finite_rect r
