-- Minimum, maximum and absolute value of f64. Finite is lib.Ieee.Scale's `finite`: neither a NaN nor an infinity. Equality as numbers is
-- lib.Ieee's `eq`: −0 equals +0, and a NaN equals nothing.
use Rattle.std.specs.Prelude.{Bool, true, false, ◌&&◌, cond, eqb}
use Rattle.std.specs.Bool.{beq}
use Rattle.std.specs.Int.Signed.{le_z}
use lib.Ieee.{Float, nan, inf, fin, is_nan, lt}

-- "Minimum and maximum: with one NaN the other operand, with two NaN; with equal operands the first." So of +0 and −0, which are
-- equal, the first is given, to the bit. These are f64's, as kurbo has them; the index has another family, `min_t` and `max_t`.
unfoldable pub minimum : Float → Float → Float
minimum x y = cond (is_nan x) y (cond (is_nan y) x (cond (lt y x) y x))

unfoldable pub maximum : Float → Float → Float
maximum x y = cond (is_nan x) y (cond (is_nan y) x (cond (lt x y) y x))

-- the absolute value: the sign cleared, so −0 becomes +0
unfoldable pub magnitude : Float → Float
magnitude nan = nan
magnitude (inf s) = inf false
magnitude (fin s m e) = fin false m e

-- equality to the bit: a zero's sign counts, and a NaN is the same as a NaN
unfoldable pub same : Float → Float → Bool
same nan nan = true
same nan (inf t) = false
same nan (fin t n d) = false
same (inf s) nan = false
same (inf s) (inf t) = beq s t
same (inf s) (fin t n d) = false
same (fin s m e) nan = false
same (fin s m e) (inf t) = false
same (fin s m e) (fin t n d) = beq s t && (eqb m n && (le_z e d && le_z d e))
