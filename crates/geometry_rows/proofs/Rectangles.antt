-- Worked rows of rectangles, each by computation.
use mathlib.Core.Path.{◌≡◌, refl}
use mathlib.Core.Bool.{true, false}
use lib.Ieee.{Float, nan, inf, neg}
use Rattle.geometry.specs.declared.insets.Insets.{Insets}
use Rattle.geometry.specs.Rectangle.{rect, ordered, intersection, contains, plus_insets, has_area}
use Rattle.geometry_rows.proofs.Numbers.{num, point, computed}

around : Float → Insets
around s = record { x0 = s; y0 = s; x1 = s; y1 = s }

rows : (plus_insets (rect (num 10) (num 10) (num 0) (num 0)) (around (num 0)) ≡ rect (num 0) (num 0) (num 10) (num 10))  -- unordered bounds
    × (plus_insets (rect (num 0) (num 0) (num 10) (num 10)) (around (neg (num 6))) ≡ rect (num 6) (num 6) (num 4) (num 4))  -- negative insets
    × (intersection (rect (num 20) (num 20) (num 30) (num 30)) (rect (num 0) (num 0) (num 10) (num 10)) ≡ rect (num 20) (num 20) (num 20) (num 20))  -- apart
    × (intersection (rect nan nan nan nan) (rect (num 0) (num 0) (num 10) (num 10)) ≡ rect (num 0) (num 0) (num 10) (num 10))  -- a NaN box gives way
    × (contains (rect (num 0) (num 0) (num 10) (num 10)) (point (num 0) (num 0)) ≡ true)  -- low edges in
    × (contains (rect (num 0) (num 0) (num 10) (num 10)) (point (num 10) (num 5)) ≡ false)  -- high edges out
    × (contains (rect (num 0) (num 0) (num 10) (num 10)) (point nan (num 5)) ≡ false)
    × (ordered (rect (num 0) nan (neg (num 0)) (num 5)) ≡ rect (num 0) (num 5) (num 0) (num 5))  -- the first of two zeros, the other of a NaN
    × (has_area (rect (num 0) (num 0) (num 10) (num 0)) ≡ false)
    × (has_area (rect (inf true) (num 0) (inf false) (num 1)) ≡ true)
unfolding computed around ordered intersection contains plus_insets has_area
rows = (refl, refl, refl, refl, refl, refl, refl, refl, refl, refl)
