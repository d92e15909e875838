-- World records of a node (document 01, "What the tree does"), from what its parent hands down and its own local record.
use Rattle.std.specs.Prelude.{Bool, ◌&&◌, cond}
use Rattle.geometry.specs.declared.point.Point.{Point}
use Rattle.geometry.specs.declared.rect.Rect.{Rect}
use Rattle.geometry.specs.declared.insets.Insets.{Insets}
use Rattle.geometry.specs.Rectangle.{intersection, contains, plus_insets, zero_insets}
use Rattle.geometry.specs.declared.affine.Affine.{Affine}
use Rattle.geometry.specs.Transform.{identity, mapped, product}
use Rattle.geometry.specs.bbox.Bbox.{transform_rect_bbox}
use Rattle.geometry_clips.specs.declared.clip.Clip.{Clip}
use Rattle.std.specs.declared.option.Option.{Option}
use Rattle.std.specs.declared.option.Option.TheVariants as of
use Rattle.geometry_clips.specs.Clips.{clip_rect, inside}
use Rattle.tree_worlds.specs.declared.Placed.{Placed}

-- above a root: the identity, and no clip
abbrev pub at_root : Placed
at_root = record { transform = identity; clip = of.None }

-- the image of a clip's rectangle
unfoldable pub image : Affine → Option Rect → Option Rect
image t of.None = of.None
image t (of.Some r) = of.Some (transform_rect_bbox t r)

-- the own clip's image intersected with the parent's world clip, or the one there is
unfoldable pub meet_own : Rect → Option Rect → Option Rect
meet_own own of.None = of.Some own
meet_own own (of.Some p) = of.Some (intersection own p)

unfoldable pub meet : Option Rect → Option Rect → Option Rect
meet of.None parent = parent
meet (of.Some own) parent = meet_own own parent

-- intersected with the world clip, if any
unfoldable pub clipped : Rect → Option Rect → Rect
clipped r of.None = r
clipped r (of.Some c) = intersection r c

-- "World transform: parent's (identity at a root) times own. The world clip is the image of the own clip's rectangle intersected with the
-- parent's world clip, or the one there is."
unfoldable pub placed : Placed → Affine → Clip → Placed
placed P t c =
    let world = product P.transform t in
    record { transform = world; clip = meet (image world (clip_rect c)) P.clip }

-- "World box: image of the bounds as stored, intersected with the world clip if any."
unfoldable pub world_box : Placed → Rect → Rect
world_box w bounds = clipped (transform_rect_bbox w.transform bounds) w.clip

-- "Hit box: the world box if all slops equal 0, else the image of bounds plus slop, intersected likewise."
unfoldable pub hit_box : Placed → Rect → Insets → Rect
hit_box w bounds slop = cond (zero_insets slop) (world_box w bounds) (world_box w (plus_insets bounds slop))

-- the mapped-back point is in bounds plus slop and in the own clip
unfoldable pub reached : Affine → Rect → Insets → Clip → Point → Bool
reached inverse bounds slop c p = contains (plus_insets bounds slop) (mapped inverse p) && inside c (mapped inverse p)
