-- Worked rows of clips, each by computation.
use mathlib.Core.Path.{◌≡◌, refl}
use mathlib.Core.Bool.{true, false}
use Prim.Native.Nat.{ℕ}
use lib.Ieee.{Float, nan, binary64, of_bits, of_fields, round, neg}
use Rattle.geometry.specs.Rectangle.{ordered, rect_eq}
use Rattle.geometry_clips.specs.declared.clip.Clip.TheVariants.{None, Square, Rounded}
use Rattle.geometry_clips.specs.Clips.{clip_rect, clip_radii, fitted, shaped, constructed, quadrant, excess, inside_rounded, inside, clip_rect_eq, clip_eq}
use Rattle.geometry_rows.proofs.Numbers.{num, point, computed}

-- the halves of whole numbers
halves : ℕ → Float
halves k = round binary64 false k 2

-- 0.1 and 0.3
tenth : Float
tenth = of_bits binary64 0x3fb9_9999_9999_999a

three_tenths : Float
three_tenths = of_bits binary64 0x3fd3_3333_3333_3333

built : (constructed (Rounded (num 10) (num 10) (num 0) (num 0) (neg (num 3)) (num 0) (num 9) nan) ≡ Rounded (num 0) (num 0) (num 10) (num 10) (num 3) (num 0) (num 5) (num 5))  -- absolute value, cap, a NaN becomes the cap
    × (constructed (Rounded (num 3) (num 0) (num 3) (num 9) (num 7) (num 7) (num 7) (num 7)) ≡ Square (num 3) (num 0) (num 3) (num 9))  -- all radii 0: square
    × (constructed (Square (num 10) (num 10) (num 0) (num 0)) ≡ Square (num 0) (num 0) (num 10) (num 10))
    × (clip_eq (Square (num 0) (num 0) (num 10) (num 10)) (Rounded (num 0) (num 0) (num 10) (num 10) (num 0) (neg (num 0)) (num 0) (num 0)) ≡ true)
    × (clip_eq None (Square (num 0) (num 0) (num 0) (num 0)) ≡ false)
unfolding computed constructed clip_rect clip_radii fitted shaped ordered clip_eq clip_rect_eq rect_eq
built = (refl, refl, refl, refl, refl)

held : (inside (Square tenth (neg (num 1)) three_tenths (num 1)) (point tenth (num 0)) ≡ false)  -- a square clip is no test by edges
    × (inside (Square (num 0) (num 0) (num 10) (num 10)) (point (num 10) (num 10)) ≡ true)
    × (inside (Square (num 0) (num 0) (num 10) (num 10)) (point (halves 21) (num 10)) ≡ false)
    × (inside (Rounded (num 0) (num 0) (num 10) (num 10) (num 5) (num 0) (num 0) (num 0)) (point (halves 1) (halves 1)) ≡ false)  -- top left is round
    × (inside (Rounded (num 0) (num 0) (num 10) (num 10) (num 5) (num 0) (num 0) (num 0)) (point (halves 19) (halves 19)) ≡ true)  -- bottom right is not
    × (inside (Rounded (num 0) (num 0) (num 10) (num 10) (num 0) (num 5) (num 0) (num 0)) (point (halves 19) (halves 1)) ≡ false)  -- top right
    × (inside (Rounded (num 0) (num 0) (num 10) (num 10) (num 0) (num 0) (num 0) (num 5)) (point (halves 1) (halves 19)) ≡ false)  -- bottom left
    × (inside (Rounded (num 0) (num 0) (num 10) (num 10) (num 5) (num 5) (num 5) (num 5)) (point nan nan) ≡ true)  -- a NaN point is inside every clip
    × (inside None (point (num 1) (num 1)) ≡ true)
unfolding computed halves tenth three_tenths inside clip_rect clip_radii inside_rounded quadrant excess of_bits of_fields
held = (refl, refl, refl, refl, refl, refl, refl, refl, refl)
