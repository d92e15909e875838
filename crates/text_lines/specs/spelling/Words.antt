-- Words of a line: names parted by spaces, and the 64 bits that 16 hexadecimal digits spell. A byte is its ASCII code.
use Rattle.std.specs.Prelude.{ℕ, ◌+◌, ◌-◌, ◌*◌, cond, ◌&&◌, List, [], ◌∷◌, length, slice_get, ◌==◌, nat_le, nat_lt, Option, Some, None}
use Rattle.std.specs.Option.{option_and_then}
use Rattle.std.specs.List.{position, onto_first}
use Rattle.std.specs.Str.{bytes_eq}

-- the names of a text: each ends at a space, 32, or where the text ends
unfoldable pub parted : List ℕ → List (List ℕ)
parted [] = []
parted (b ∷ s) = cond (b == 32) ([] ∷ parted s) (onto_first b (parted s))

-- the place of a name among those of a text, counted from 0: the first where it stands
abbrev pub place : List ℕ → List ℕ → Option ℕ
place w names = position (bytes_eq w) (parted names)

-- the kind that has a name: what stands among the kinds where the name stands among the names
abbrev pub named : {K : Type 0} → List K → List ℕ → List ℕ → Option K
named kinds names w = option_and_then (slice_get kinds) (place w names)

-- a hexadecimal digit's value: `0` to `9` are 48 to 57, `a` to `f` are 97 to 102; 16 for every other byte
abbrev pub digit_value : ℕ → ℕ
digit_value b = cond (nat_le 48 b && nat_le b 57) (b - 48) (cond (nat_le 97 b && nat_le b 102) (b - 97 + 10) 16)

-- the value of a byte that is a digit
abbrev pub digit : ℕ → Option ℕ
digit b = cond (nat_lt (digit_value b) 16) (Some (digit_value b)) None

-- the digits of s written after the number n, if all are digits
unfoldable pub spelt : ℕ → List ℕ → Option ℕ
spelt n [] = Some n
spelt n (b ∷ s) = cond (nat_lt (digit_value b) 16) (spelt (n * 16 + digit_value b) s) None

-- the bits of 16 digits, the highest first
unfoldable pub pattern_of : List ℕ → Option ℕ
pattern_of s = cond (length s == 16) (spelt 0 s) None
