-- Worked rows of transforms, each by computation.
use mathlib.Core.Path.{◌≡◌, refl}
use mathlib.Core.Bool.{true, false}
use lib.Ieee.{Float, nan, inf, neg}
use Rattle.geometry.specs.Rectangle.{rect}
use Rattle.geometry.specs.declared.affine.Affine.{Affine}
use Rattle.geometry.specs.Transform.{identity, product, inverse, mapped}
use Rattle.geometry.specs.bbox.Bbox.{transform_rect_bbox}
use Rattle.geometry_rows.proofs.Numbers.{num, point, computed}

affine : Float → Float → Float → Float → Float → Float → Affine
affine a b c d e f = record { a = a; b = b; c = c; d = d; e = e; f = f }

-- a quarter turn, (x, y) to (−y, x), then a shift by (100, 0)
turned : Affine
turned = affine (num 0) (num 1) (neg (num 1)) (num 0) (num 100) (num 0)

rows : (product identity (affine (neg (num 0)) (num 0) (num 0) (neg (num 0)) (neg (num 0)) (neg (num 0))) ≡ affine (num 0) (num 0) (num 0) (num 0) (num 0) (num 0))  -- identity times own, not own
    × (mapped turned (point (num 40) (num 20)) ≡ point (num 80) (num 40))
    × (transform_rect_bbox turned (rect (num 0) (num 0) (num 40) (num 20)) ≡ rect (num 80) (num 0) (num 100) (num 40))  -- the place of example P6
    × (transform_rect_bbox identity (rect (num 6) (num 6) (num 4) (num 4)) ≡ rect (num 4) (num 4) (num 6) (num 6))  -- unordered corners
    × (mapped (inverse turned) (point (num 80) (num 40)) ≡ point (num 40) (num 20))
    × (inverse (affine (num 0) (num 0) (num 0) (num 0) (num 5) (num 5)) ≡ affine nan nan nan nan nan nan)  -- an all-zero linear part
    × (inverse (affine (num 1) (neg (num 1)) (neg (num 1)) (num 1) (num 1) (num 0)) ≡ affine (inf false) (inf false) (inf false) (inf false) (inf true) (inf true))  -- a zero determinant is not refused
unfolding computed affine turned product mapped inverse transform_rect_bbox
rows = (refl, refl, refl, refl, refl, refl, refl)
