-- The words of a line, one space apart, and the numbers that they spell. A byte is its ASCII code.
use Rattle.std.specs.Prelude.{ℕ, List, [], ◌∷◌, ◌==◌, drop, from_bits, Option, Some, None}
use Rattle.std.specs.Float.{binary64, Float}
use Rattle.std.specs.List.{slice_split}
use denote.Ref.{Bor}
use Rattle.text_lines.specs.spelling.Words.{pattern_of}
use Rattle.text_lines.specs.declared.words.Words.{Words}

-- the words: each ends at a space, 32, or where the line ends
abbrev pub words : List ℕ → List (List ℕ)
words s = slice_split (λ b. b == 32) s

-- those of what is left of a line, if anything is
abbrev pub words_of : Option (Bor (List ℕ)) → List (List ℕ)
words_of None = []
words_of (Some r) = words r.now

-- those that are still to be read
abbrev pub left : Words → List (List ℕ)
left w = words_of w.rest

-- the number of a pattern
abbrev pub number_of : Option ℕ → Option Float
number_of (Some w) = Some (from_bits binary64 w)
number_of None = None

-- the number that the first of some words spells
abbrev pub number : List (List ℕ) → Option Float
number [] = None
number (w ∷ ws) = number_of (pattern_of w)

-- all of four numbers, where each is there
abbrev pub all_four : Option Float → Option Float → Option Float → Option Float → Option (List Float)
all_four (Some a) (Some b) (Some c) (Some d) = Some (a ∷ b ∷ c ∷ d ∷ [])
all_four (Some a) (Some b) (Some c) None = None
all_four (Some a) (Some b) None d = None
all_four (Some a) None c d = None
all_four None b c d = None

-- the numbers that the first four of some words spell
unfoldable pub four : List (List ℕ) → Option (List Float)
four ws = all_four (number ws) (number (drop 1 ws)) (number (drop 2 ws)) (number (drop 3 ws))
