-- Arithmetic of f64. Each symbol in a circle is one operation of IEEE 754's binary64, rounded once, to nearest, a tie to even.
-- The definitions of geometry, transforms and clips are written with them, in kurbo's order of operations: ⊗ and ⊘ bind tighter
-- than ⊕ and ⊖, and each groups to the left. No law of real algebra is assumed of them, and nothing is fused.
use Rattle.std.specs.Prelude.{false, Float, pos, negsuc}
use Rattle.std.specs.Float.{fin, binary64}
use Rattle.std.specs.Float.Ieee.{add, sub, mul, div}

infixl 60 ◌⊕◌ ◌⊖◌
infixl 70 ◌⊗◌ ◌⊘◌
abbrev pub ◌⊕◌ : Float → Float → Float
x ⊕ y = add binary64 x y

abbrev pub ◌⊖◌ : Float → Float → Float
x ⊖ y = sub binary64 x y

abbrev pub ◌⊗◌ : Float → Float → Float
x ⊗ y = mul binary64 x y

abbrev pub ◌⊘◌ : Float → Float → Float
x ⊘ y = div binary64 x y

-- the constants 0, 1/2, 1 and 2
abbrev pub zero : Float
zero = fin false 0 (pos 0)

abbrev pub half : Float
half = fin false 1 (negsuc 0)

abbrev pub one : Float
one = fin false 1 (pos 0)

abbrev pub two : Float
two = fin false 1 (pos 1)
