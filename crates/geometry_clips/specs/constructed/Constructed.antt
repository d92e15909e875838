-- "Clips are as constructed": the constructor leaves the clip as it is, to the bit.
use Rattle.std.specs.Prelude.{Bool, true, not, ◌&&◌}
use Rattle.std.specs.Float.Ieee.{eq}
use Rattle.numbers.specs.Rounded.{zero}
use Rattle.geometry.specs.Rectangle.{rect, ordered}
use Rattle.geometry_clips.specs.declared.clip.Clip.{Clip}
use Rattle.geometry_clips.specs.declared.clip.Clip.TheVariants as is
use Rattle.geometry_clips.specs.Clips.{radii, all, fitted, same_rect, same_radii}

unfoldable pub as_constructed : Clip → Bool
as_constructed is.None = true
as_constructed (is.Square x0 y0 x1 y1) = let r = rect x0 y0 x1 y1 in same_rect (ordered r) r
as_constructed (is.Rounded x0 y0 x1 y1 tl tr br bl) =
    let r = rect x0 y0 x1 y1 in
    let q = radii tl tr br bl in
    same_rect (ordered r) r && same_radii (fitted r q) q && not (all (λ x. eq x zero) q)
