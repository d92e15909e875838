-- Local records: the one at a slot, the local node that it stands for, and the one that a local node is stored as.
use Rattle.std.specs.Prelude.{ℕ, cond, List, eqb, get_or, pos, None, Some, Option}
use Rattle.std.specs.Float.{nan}
use Rattle.numbers.specs.Rounded.{zero}
use Rattle.geometry.specs.declared.rect.Rect.{Rect}
use Rattle.geometry.specs.Rectangle.{rect}
use Rattle.geometry_clips.specs.declared.rounded_rect_radii.RoundedRectRadii.{RoundedRectRadii}
use Rattle.geometry_clips.specs.declared.clip.Clip.{Clip}
use Rattle.geometry_clips.specs.declared.clip.Clip.TheVariants as is
use Rattle.geometry_clips.specs.Clips.{clip_rect, clip_radii, radii, square, rounded}
use Rattle.tree_types.specs.declared.LocalNode.{LocalNode}
use Rattle.tree_types.specs.Local.{flags}
use Rattle.tree_state.specs.declared.Local.{Local}

-- beyond the slots
abbrev pub no_local : Local
no_local =
    record {
      bounds = rect nan nan nan nan;
      slop = record { x0 = nan; y0 = nan; x1 = nan; y1 = nan };
      transform = record { a = nan; b = nan; c = nan; d = nan; e = nan; f = nan };
      kind = 0;
      clip = rect nan nan nan nan;
      radii = radii nan nan nan nan;
      level = pos 0;
      flags = flags 0;
    }

abbrev pub record_at : List Local → ℕ → Local
record_at l x = get_or l x no_local

-- ---- the clip: of a kind, 0 none, 1 square, any other rounded

unfoldable pub clip_by : ℕ → Rect → RoundedRectRadii → Clip
clip_by kind edges q = cond (eqb kind 0) is.None (cond (eqb kind 1) (square edges) (rounded edges q))

abbrev pub clip_in : Local → Clip
clip_in l = clip_by l.kind l.clip l.radii

unfoldable pub kind_of : Clip → ℕ
kind_of is.None = 0
kind_of (is.Square x0 y0 x1 y1) = 1
kind_of (is.Rounded x0 y0 x1 y1 tl tr br bl) = 2

-- the rectangle, or four zeros
unfoldable pub edges_from : Option Rect → Rect
edges_from None = rect zero zero zero zero
edges_from (Some r) = r

abbrev pub edges_of : Clip → Rect
edges_of c = edges_from (clip_rect c)

-- ---- the local node that a record stands for, and the record that a local node is stored as

abbrev pub local_of : Local → LocalNode
local_of l =
    record {
      local_bounds = l.bounds;
      hit_slop = l.slop;
      local_transform = l.transform;
      local_clip = clip_in l;
      z_index = l.level;
      flags = l.flags;
    }

abbrev pub record_of : LocalNode → Local
record_of v =
    record {
      bounds = v.local_bounds;
      slop = v.hit_slop;
      transform = v.local_transform;
      kind = kind_of v.local_clip;
      clip = edges_of v.local_clip;
      radii = clip_radii v.local_clip;
      level = v.z_index;
      flags = v.flags;
    }

abbrev pub put_clip : Clip → Local → Local
put_clip c l = record l { kind = kind_of c; clip = edges_of c; radii = clip_radii c }

abbrev pub local_in : List Local → ℕ → LocalNode
local_in l x = local_of (record_at l x)
