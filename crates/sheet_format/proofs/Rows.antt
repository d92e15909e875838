-- Sheets worked out on the definitions: the example that the sheet's description gives, and refusals of every kind with their lines.
use Prim.Native.Nat.{ℕ}
use Prim.Native.Char.{code}
use Prim.Native.String.{String, [] as end, ◌∷◌ as ◌then◌}
use mathlib.Core.Path.{◌≡◌, refl}
use mathlib.Core.Bool.{Bool, true, false, ◌&&◌}
use mathlib.Core.List.{List, [], ◌∷◌}
use lib.Dec.{eqb}
use lib.IntN.{ℤ, pos}
use Rattle.sheet_lines.specs.Lines.{digits_after, positive, decimal, words_of, numbers_of, fields, cut}
use Rattle.sheet_format.specs.Sheet.{Read, refused, sheet, place_of, clip_of, tap_of, place_in_range, clip_in_range, tap_in_range, parent_earlier, clipped_before, clip_place_open, judge, section, counted, read_sheet}

-- a text's bytes
abbrev pub bytes : String → List ℕ
bytes end = []
bytes (c then s) = code c ∷ bytes s

-- what the rows compute through
unfoldable pub computed : Unit {0}
unfolding read_sheet counted section judge place_of place_in_range parent_earlier clip_of clip_in_range clipped_before clip_place_open tap_of tap_in_range cut
    fields numbers_of words_of decimal positive digits_after
computed = tt

-- ---- the example that the sheet's description gives

abbrev n : ℕ → ℤ
n k = pos k

example : read_sheet (bytes "2\n0 0 0 0 0 0 100 100 0 0 3\n1 1 100 0 0 0 40 20 0 0 3\n0\n4\n90 10 3\n100 10 3\n80 10 3\n200 200 3\n")
    ≡ sheet record {
      places = (n 0 ∷ n 0 ∷ n 0 ∷ n 0 ∷ n 0 ∷ n 0 ∷ n 100 ∷ n 100 ∷ n 0 ∷ n 0 ∷ n 3 ∷ []) ∷ (n 1 ∷ n 1 ∷ n 100 ∷ n 0 ∷ n 0 ∷ n 0 ∷ n 40 ∷ n 20 ∷ n 0 ∷ n 0 ∷ n 3 ∷ []) ∷ [];
      clips = [];
      taps = (n 90 ∷ n 10 ∷ n 3 ∷ []) ∷ (n 100 ∷ n 10 ∷ n 3 ∷ []) ∷ (n 80 ∷ n 10 ∷ n 3 ∷ []) ∷ (n 200 ∷ n 200 ∷ n 3 ∷ []) ∷ [];
    }
unfolding computed
example = refl

-- ---- accepted, or refused with a number and a line

data Row : Type 0 where
  accepted : String → Row
  refuses : String → ℕ → ℕ → Row

is_sheet : Read → Bool
is_sheet (sheet s) = true
is_sheet (refused r at) = false

is_refused : ℕ → ℕ → Read → Bool
is_refused r at (sheet s) = false
is_refused r at (refused q k) = eqb q r && eqb k at

holds : Row → Bool
unfolding is_sheet is_refused
holds (accepted s) = is_sheet (read_sheet (bytes s))
holds (refuses s r at) = is_refused r at (read_sheet (bytes s))

all : List Row → Bool
all [] = true
all (r ∷ rs) = holds r && all rs

rows : List Row
rows =
    accepted "0\n0\n0\n"
    ∷ refuses "" 21 1
    ∷ refuses "\n" 21 1
    ∷ refuses "0\n0\n0" 21 3
    ∷ refuses "0\n" 21 2
    ∷ refuses "0\n0\n0\nx" 24 4
    ∷ refuses "0\n0\n0\n\n" 24 4
    ∷ refuses "00\n0\n0\n" 21 1
    ∷ refuses "-0\n0\n0\n" 21 1
    ∷ refuses "+0\n0\n0\n" 21 1
    ∷ refuses "-1\n0\n0\n" 22 1
    ∷ refuses "257\n0\n0\n" 22 1
    ∷ refuses "9999999999999999999999999999999999999999\n0\n0\n" 22 1
    ∷ refuses "0 \n0\n0\n" 21 1
    ∷ refuses "-\n0\n0\n" 21 1
    ∷ refuses "0\n1\n0\n" 22 2
    ∷ refuses "0\n0\n1001\n" 22 3
    ∷ refuses "0\n0\n1\n" 21 4
    ∷ refuses "1\n0 0 0 0 0 0 10 10 0 0\n0\n0\n" 21 2
    ∷ refuses "1\n0  0 0 0 0 0 10 10 0 0 3\n0\n0\n" 21 2
    ∷ refuses "1\n1 0 0 0 0 0 10 10 0 0 3\n0\n0\n" 23 2
    ∷ refuses "1\n-1 0 0 0 0 0 10 10 0 0 3\n0\n0\n" 23 2
    ∷ refuses "1\n9999999999999999999999999999999999999999 0 0 0 0 0 10 10 0 0 3\n0\n0\n" 23 2
    ∷ refuses "1\n5 8 0 0 0 0 10 10 0 0 3\n0\n0\n" 22 2
    ∷ refuses "1\n0 0 1000001 0 0 0 10 10 0 0 3\n0\n0\n" 22 2
    ∷ refuses "1\n0 0 0 0 0 0 10 10 0 2147483648 3\n0\n0\n" 22 2
    ∷ accepted "1\n0 0 0 0 0 0 10 10 0 -2147483648 3\n0\n0\n"
    ∷ refuses "1\n0 0 0 0 0 0 10 10 0 0 8\n0\n0\n" 22 2
    ∷ refuses "2\n9 0 0 0 0 0 10 10 0 0 3\nx\n0\n0\n" 23 2
    ∷ refuses "1\n0 0 0 0 0 0 10 10 0 0 3\n1\n0 0 0 5 5 0\n0\n" 23 4
    ∷ refuses "1\n0 0 0 0 0 0 10 10 0 0 3\n1\n2 0 0 1000001 5 0\n0\n" 22 4
    ∷ refuses "2\n0 0 0 0 0 0 10 10 0 0 3\n0 0 0 0 0 0 10 10 0 0 3\n2\n1 3 3 3 3 0\n1 0 0 6 6 0\n0\n" 23 6
    ∷ refuses "3\n0 0 0 0 0 0 10 10 0 0 3\n0 0 0 0 0 0 10 10 0 0 3\n0 0 0 0 0 0 10 10 0 0 3\n3\n1 0 0 5 5 0\n2 0 0 5 5 0\n1 0 0 6 6 0\n0\n" 23 8
    ∷ accepted "1\n0 0 0 0 0 0 10 10 1000 0 3\n0\n0\n"
    ∷ refuses "1\n0 0 0 0 0 0 10 10 1001 0 3\n0\n0\n" 22 2
    ∷ refuses "1\n0 0 0 -1000001 0 0 10 10 0 0 3\n0\n0\n" 22 2
    ∷ refuses ":\n0\n0\n" 21 1
    ∷ refuses "/\n0\n0\n" 21 1
    ∷ refuses "1\n0 0 0 0 0 0 10 10 0 0 3\n0\n1\n5 5 8\n" 22 5
    ∷ refuses "1\n0 0 0 0 0 0 10 10 0 0 3\n0\n1\n5 5 3 0\n" 21 5
    ∷ []

worked : all rows ≡ true
unfolding computed all holds rows is_sheet is_refused
worked = refl
