-- Numbers of any size in 64 bits: a number beyond 10^15 counts as 10^15, one below -10^15 as -10^15. What the code's options stand for.
use Rattle.std.specs.Prelude.{ℕ, min, cond, Option, Some, None, List, map, leb, ℤ, pos, negsuc, take, drop}
use Rattle.sheet_lines.specs.Lines.{line_width, Decimal, Numbers, malformed, whole, numbers, fields, Cut, without, line, cut}
use Rattle.sheet_lines.specs.declared.LineRow.{LineRow}

unfoldable pub saturated : ℤ → ℤ
saturated (pos n) = pos (min n 1000000000000000)
saturated (negsuc n) = negsuc (min n 999999999999999)

unfoldable pub saturated_decimal : Decimal → Decimal
saturated_decimal malformed = malformed
saturated_decimal (whole z) = whole (saturated z)

unfoldable pub saturated_numbers : Numbers → Numbers
saturated_numbers malformed = malformed
saturated_numbers (numbers zs) = numbers (map saturated zs)

-- ---- the first line of some bytes

-- its numbers and what follows its LF; or there is none with its LF, or it has not so many well-formed whole numbers, or so many are more than any line has
pub data First : Type 0 where
  unfit : First
  row : List ℤ → List ℕ → First

abbrev pub followed : List ℕ → Numbers → First
followed rest malformed = unfit
followed rest (numbers zs) = row zs rest

abbrev pub first_of : ℕ → Cut → First
first_of width without = unfit
first_of width (line s rest) = followed rest (saturated_numbers (fields width s))

unfoldable pub first_fields : ℕ → List ℕ → First
first_fields width s = cond (leb width line_width) (first_of width (cut s)) unfit

-- ---- what the code's options stand for

abbrev pub told_digits : Option ℕ → Decimal
told_digits None = malformed
told_digits (Some n) = whole (pos n)

abbrev pub told_word : Option ℤ → Decimal
told_word None = malformed
told_word (Some z) = whole z

abbrev pub told_row : ℕ → Option (List ℤ) → Numbers
told_row width None = malformed
told_row width (Some zs) = numbers (take width zs)

-- a row, and the bytes behind its line
abbrev pub told_first : ℕ → List ℕ → Option (List ℤ) → First
told_first width rest None = unfit
told_first width rest (Some zs) = row (take width zs) rest

-- the line that was read among the bytes s
abbrev pub told_line : ℕ → List ℕ → LineRow → First
told_line width s r = told_first width (drop r.next s) r.row
