-- Lines of whole numbers (document 01, "The plan sheet"): "Decimals without leading zeros or −0, one space between, LF after each line."
-- A byte is its ASCII code.
use Rattle.std.specs.Prelude.{ℕ, suc, ◌+◌, ◌*◌, ◌-◌, Bool, ◌&&◌, cond, List, [], ◌∷◌, leb, eqb, ℤ, pos, neg_ℤ, length}

-- ---- a whole number, of any size

pub data Decimal : Type 0 where
  malformed : Decimal
  whole : ℤ → Decimal

abbrev pub is_digit : ℕ → Bool
is_digit b = leb 48 b && leb b 57

-- the digits of s written after the number n, if all are digits
unfoldable pub digits_after : ℕ → List ℕ → Decimal
digits_after n [] = whole (pos n)
digits_after n (b ∷ s) = cond (is_digit b) (digits_after (n * 10 + (b - 48)) s) malformed

-- digits, the first of them not 0
unfoldable pub positive : List ℕ → Decimal
positive [] = malformed
positive (b ∷ s) = cond (eqb b 48) malformed (digits_after 0 (b ∷ s))

abbrev pub negated : Decimal → Decimal
negated malformed = malformed
negated (whole z) = whole (neg_ℤ z)

-- nothing after a zero
abbrev pub zero_then : List ℕ → Decimal
zero_then [] = whole (pos 0)
zero_then (b ∷ s) = malformed

-- "0", or a positive number, or "-" before one
unfoldable pub decimal : List ℕ → Decimal
decimal [] = malformed
decimal (b ∷ s) = cond (eqb b 45) (negated (positive s)) (cond (eqb b 48) (zero_then s) (positive (b ∷ s)))

-- ---- the numbers of a line

-- the most that one has
abbrev pub line_width : ℕ
line_width = 11

-- a byte in front of the first word
abbrev pub on_first : ℕ → List (List ℕ) → List (List ℕ)
on_first b [] = (b ∷ []) ∷ []
on_first b (w ∷ ws) = (b ∷ w) ∷ ws

-- a line's words: one more than spaces, each maybe empty
unfoldable pub words_of : List ℕ → List (List ℕ)
words_of [] = [] ∷ []
words_of (b ∷ s) = cond (eqb b 32) ([] ∷ words_of s) (on_first b (words_of s))

pub data Numbers : Type 0 where
  malformed : Numbers
  numbers : List ℤ → Numbers

-- a word's number in front of the others; malformed where either is
abbrev pub with_first : Decimal → Numbers → Numbers
with_first malformed ns = malformed
with_first (whole z) malformed = malformed
with_first (whole z) (numbers zs) = numbers (z ∷ zs)

unfoldable pub numbers_of : List (List ℕ) → Numbers
numbers_of [] = numbers []
numbers_of (w ∷ ws) = with_first (decimal w) (numbers_of ws)

abbrev pub of_width : ℕ → Numbers → Numbers
of_width n malformed = malformed
of_width n (numbers zs) = cond (eqb (length zs) n) (numbers zs) malformed

-- "the right number of well-formed whole numbers"
unfoldable pub fields : ℕ → List ℕ → Numbers
fields n line = of_width n (numbers_of (words_of line))

-- ---- lines

-- the first line with its LF, 10, and what follows it; or no such line
pub data Cut : Type 0 where
  without : Cut
  line : List ℕ → List ℕ → Cut

abbrev pub beginning : ℕ → Cut → Cut
beginning b without = without
beginning b (line s rest) = line (b ∷ s) rest

unfoldable pub cut : List ℕ → Cut
cut [] = without
cut (b ∷ s) = cond (eqb b 10) (line [] s) (beginning b (cut s))

-- the position behind the first line with its LF, of bytes that begin at a position; or, without such a line, that position
abbrev pub behind : ℕ → Cut → ℕ
behind at without = at
behind at (line s rest) = at + suc (length s)
