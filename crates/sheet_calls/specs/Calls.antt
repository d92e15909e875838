-- The calls that a sheet stands for (document 01): "The program reads a sheet .., inserts, commits". An insert for each place, in order, its clip
-- given with it; then one commit. On a fresh tree place k is the node (k − 1, 1).
use Rattle.index_types.specs.declared.NodeId.{NodeId}
use Rattle.std.specs.Prelude.{ℕ, zero, suc, ◌%◌, ◌&&◌, cond, List, [], ◌∷◌, ◌++◌, ltb, ℤ, pos, neg_ℤ, nat_abs, Float, replicate, None, Some, Option}
use Rattle.std.specs.Float.{binary64}
use Rattle.std.specs.Float.Ieee.{of_int}
use Rattle.numbers.specs.Rounded as fl
use Rattle.geometry.specs.declared.insets.Insets.{Insets}
use Rattle.geometry.specs.Rectangle.{rect}
use Rattle.geometry.specs.declared.affine.Affine.{Affine}
use Rattle.geometry_clips.specs.declared.clip.Clip.{Clip}
use Rattle.geometry_clips.specs.declared.clip.Clip.TheVariants as clip
use Rattle.tree_types.specs.declared.LocalNode.{LocalNode}
use Rattle.tree_types.specs.Local.{flags, default_local, with_bounds, with_slop, with_transform, with_clip, with_level, with_flags}
use Rattle.plan.specs.Calls as call
use Rattle.plan.specs.Calls.{Call, Outcome}
use Rattle.sheet_format.specs.declared.PlaceLine.{PlaceLine}
use Rattle.sheet_format.specs.declared.ClipLine.{ClipLine}
use Rattle.sheet_format.specs.Sheet.{Sheet, place_of, clip_of, equal}

-- a whole number as an f64; 0 is +0
abbrev pub real : ℤ → Float
real z = of_int binary64 z

-- ---- "Orientation k: from 4 up, first x becomes −x; then k mod 4 times (x, y) becomes (−y, x), the shift last; worked in whole numbers, zeros
-- positive"

-- (x, y) goes to (a·x + c·y, b·x + d·y)
pub record Linear : Type 0 where
  pub a : ℤ
  pub b : ℤ
  pub c : ℤ
  pub d : ℤ

abbrev pub upright : Linear
upright = record { a = pos 1; b = pos 0; c = pos 0; d = pos 1 }

-- x becomes −x
abbrev pub mirrored : Linear
mirrored = record { a = neg_ℤ (pos 1); b = pos 0; c = pos 0; d = pos 1 }

-- (x, y) becomes (−y, x)
abbrev pub turned : Linear → Linear
turned m = record { a = neg_ℤ m.b; b = m.a; c = neg_ℤ m.d; d = m.c }

unfoldable pub turns : ℕ → Linear → Linear
turns zero m = m
turns (suc k) m = turned (turns k m)

unfoldable pub orientation : ℕ → Linear
orientation k = turns (k % 4) (cond (ltb k 4) upright mirrored)

abbrev pub shifted : Linear → ℤ → ℤ → Affine
shifted m x y = record { a = real m.a; b = real m.b; c = real m.c; d = real m.d; e = real x; f = real y }

-- ---- a place's local record

-- "A clip line whose two corners are equal stands for no clip"
unfoldable pub clip_on : ClipLine → Clip
clip_on c =
    let r = real c.radius in
    cond (equal c.x0 c.x1 && equal c.y0 c.y1) clip.None
    (clip.Rounded (real c.x0) (real c.y0) (real c.x1) (real c.y1) r r r r)

-- the clip of place k: that of its clip line, if there is one
unfoldable pub clip_for : List (List ℤ) → ℕ → Clip
clip_for [] k = clip.None
clip_for (zs ∷ clips) k = cond (equal (clip_of zs).place (pos k)) (clip_on (clip_of zs)) (clip_for clips k)

abbrev pub all_sides : Float → Insets
all_sides s = record { x0 = s; y0 = s; x1 = s; y1 = s }

-- the record of a place, with its clip; a field that no line has is the default's
unfoldable pub local_of : PlaceLine → Clip → LocalNode
local_of p c =
    with_bounds (rect (real p.x0) (real p.y0) (real p.x1) (real p.y1))
    (with_slop (all_sides (real p.slop))
    (with_transform (shifted (orientation (nat_abs p.orientation)) p.x p.y)
    (with_clip c (with_level p.level (with_flags (flags (nat_abs p.flags)) default_local)))))

-- ---- the calls

-- "parent (0 none, else an earlier place)"
abbrev pub parent_at : ℕ → Option NodeId
parent_at zero = None
parent_at (suc k) = Some record { 0 = k; 1 = 1 }

-- place k, with its clip
unfoldable pub insert_of : List (List ℤ) → ℕ → PlaceLine → Call
insert_of clips k p = call.insert (parent_at (nat_abs p.parent)) (local_of p (clip_for clips k))

-- the places from k on
unfoldable pub inserts_from : List (List ℤ) → ℕ → List (List ℤ) → List Call
inserts_from clips k [] = []
inserts_from clips k (zs ∷ places) = insert_of clips k (place_of zs) ∷ inserts_from clips (suc k) places

-- the commit's room: 512 rectangles of zeros
unfoldable pub room : List Float
room = replicate 2048 fl.zero

unfoldable pub calls_of : Sheet → List Call
calls_of s = inserts_from s.clips 1 s.places ++ call.commit room ∷ []

-- what the inserts of n places answer, from the slot k on
unfoldable pub handed_out : ℕ → ℕ → List Outcome
handed_out k zero = []
handed_out k (suc n) = record { refused = 0; told = call.id (record { 0 = k; 1 = 1 }) } ∷ handed_out (suc k) n
