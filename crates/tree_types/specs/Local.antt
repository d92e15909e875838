-- Local records and flags (document 01, module 6). Flags: visible 1, pickable 2, focusable 4. The level is `z_index`.
use Rattle.std.specs.Prelude.{ℕ, Bool, ◌&&◌, eqb, ltb, ℤ, pos}
use Rattle.std.specs.Int.Bits.{bit_and, bit_or}
use Rattle.numbers.specs.Rounded.{zero}
use Rattle.geometry.specs.declared.rect.Rect.{Rect}
use Rattle.geometry.specs.declared.insets.Insets.{Insets}
use Rattle.geometry.specs.Rectangle.{rect, finite_rect, finite_insets}
use Rattle.geometry.specs.declared.affine.Affine.{Affine}
use Rattle.geometry.specs.Transform.{identity, finite_affine}
use Rattle.geometry_clips.specs.declared.clip.Clip.{Clip}
use Rattle.geometry_clips.specs.declared.clip.Clip.TheVariants as is
use Rattle.geometry_clips.specs.Clips.{constructed, finite_clip}
use Rattle.index_types.specs.declared.Aabb2D.{Aabb2D}
use Rattle.index_types.specs.Boxes.{aabb}
use Rattle.tree_types.specs.declared.NodeFlags.{NodeFlags}
use Rattle.tree_types.specs.declared.LocalNode.{LocalNode}
use Rattle.tree_types.specs.declared.QueryFilter.{QueryFilter}

-- ---- flags

abbrev pub flags : ℕ → NodeFlags
flags b = record { 0 = b }

abbrev pub default_flags : NodeFlags
default_flags = flags 3

-- all asked flags are there; asked for none, every node has them
unfoldable pub has_all : NodeFlags → NodeFlags → Bool
has_all have asked = eqb (bit_and have.0 asked.0) asked.0

-- 6: a flag byte above 7
abbrev pub known : NodeFlags → Bool
known f = ltb f.0 8

abbrev pub asking : ℕ → QueryFilter
asking b = record { required_flags = flags b }

abbrev pub also_asking : QueryFilter → ℕ → QueryFilter
also_asking q b = asking (bit_or q.required_flags.0 b)

-- ---- local records

abbrev pub no_inset : Insets
no_inset = record { x0 = zero; y0 = zero; x1 = zero; y1 = zero }

abbrev pub empty_rect : Rect
empty_rect = rect zero zero zero zero

abbrev pub default_local : LocalNode
default_local =
    record {
      local_bounds = empty_rect;
      hit_slop = no_inset;
      local_transform = identity;
      local_clip = is.None;
      z_index = pos 0;
      flags = default_flags;
    }

-- ---- a local record with one field replaced

abbrev pub with_bounds : Rect → LocalNode → LocalNode
with_bounds r v =
    record {
      local_bounds = r;
      hit_slop = v.hit_slop;
      local_transform = v.local_transform;
      local_clip = v.local_clip;
      z_index = v.z_index;
      flags = v.flags;
    }

abbrev pub with_slop : Insets → LocalNode → LocalNode
with_slop s v =
    record {
      local_bounds = v.local_bounds;
      hit_slop = s;
      local_transform = v.local_transform;
      local_clip = v.local_clip;
      z_index = v.z_index;
      flags = v.flags;
    }

abbrev pub with_transform : Affine → LocalNode → LocalNode
with_transform a v =
    record {
      local_bounds = v.local_bounds;
      hit_slop = v.hit_slop;
      local_transform = a;
      local_clip = v.local_clip;
      z_index = v.z_index;
      flags = v.flags;
    }

abbrev pub with_clip : Clip → LocalNode → LocalNode
with_clip c v =
    record {
      local_bounds = v.local_bounds;
      hit_slop = v.hit_slop;
      local_transform = v.local_transform;
      local_clip = c;
      z_index = v.z_index;
      flags = v.flags;
    }

abbrev pub with_level : ℤ → LocalNode → LocalNode
with_level z v =
    record {
      local_bounds = v.local_bounds;
      hit_slop = v.hit_slop;
      local_transform = v.local_transform;
      local_clip = v.local_clip;
      z_index = z;
      flags = v.flags;
    }

abbrev pub with_flags : NodeFlags → LocalNode → LocalNode
with_flags f v =
    record {
      local_bounds = v.local_bounds;
      hit_slop = v.hit_slop;
      local_transform = v.local_transform;
      local_clip = v.local_clip;
      z_index = v.z_index;
      flags = f;
    }

-- ---- what is stored

-- 5: a coordinate, coefficient, inset or radius, as handed over, is not finite
unfoldable pub finite_local : LocalNode → Bool
finite_local v =
    finite_rect v.local_bounds && finite_insets v.hit_slop && (finite_affine v.local_transform && finite_clip v.local_clip)

-- "Insert and the clip setter put every clip they are handed through" the constructor
unfoldable pub stored : LocalNode → LocalNode
stored v = with_clip (constructed v.local_clip) v

abbrev pub rect_to_aabb : Rect → Aabb2D
rect_to_aabb r = aabb r.x0 r.y0 r.x1 r.y1
