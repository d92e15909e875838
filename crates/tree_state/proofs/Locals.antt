-- What is read of the local records after a store: at the slot what was stored, at any other what stood there.
use mathlib.Core.Path.{◌≡◌, refl, ap}
use mathlib.Core.List.{List}
use Prim.Native.Nat.{ℕ, ◌<◌}
use native.Mathlib.Omega.{arith}
use lib.ListN.{length, set}
use lib.Seq.{get_or-set_same, get_or-set_other}
use Rattle.geometry_clips.specs.declared.clip.Clip.{Clip}
use Rattle.geometry_clips.specs.declared.clip.Clip.TheVariants as is
use Rattle.geometry_clips.specs.Clips.{clip_rect, clip_radii}
use Rattle.tree_types.specs.declared.LocalNode.{LocalNode}
use Rattle.tree_types.specs.Local as local
use Rattle.tree_state.specs.declared.Local.{Local}
use Rattle.tree_state.specs.declared.Tree.{Tree}
use Rattle.tree_state.specs.Locals.{no_local, clip_by, clip_in, kind_of, edges_from, local_of, record_of, put_clip, local_in}
use Rattle.tree_state.specs.Tree.{local_at}

pub local_is : (t : Tree) (x : ℕ) → local_at t x ≡ local_in t.locals x
unfolding local_at
local_is t x = refl

pub clip_back : (c : Clip) (l : Local) → clip_in (put_clip c l) ≡ c
unfolding clip_by kind_of edges_from clip_rect clip_radii
clip_back is.None l = refl
clip_back (is.Square x0 y0 x1 y1) l = refl
clip_back (is.Rounded x0 y0 x1 y1 tl tr br bl) l = refl

pub clip_stored : (c : Clip) (l : Local) → local_of (put_clip c l) ≡ local.with_clip c (local_of l)
clip_stored c l = ap (λ (d : Clip). local.with_clip d (local_of l)) (clip_back c l)

pub local_back : (v : LocalNode) → local_of (record_of v) ≡ v
local_back v = ap (λ (d : Clip). local.with_clip d v) (clip_back v.local_clip (record_of v))

module _ (l : List Local) (x : ℕ) (r : Local) where
  pub record_same : length l ≡ 256 → x < 256 → local_in (set l x r) x ≡ local_of r
  record_same w low = ap local_of (get_or-set_same l x r no_local (omega arith))

  pub record_other : (y : ℕ) → (y ≡ x → ⊥) → local_in (set l x r) y ≡ local_in l y
  record_other y n = ap local_of (get_or-set_other l x y r no_local n)
