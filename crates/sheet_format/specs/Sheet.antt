-- The plan sheet (document 01): which bytes are a sheet, the lines it has, and the refusal, with its line, of any other bytes.
-- "Three sections in fixed order, each after a line with its count: places (0 to 256), clips (0 to the places), taps (0 to 1,000)."
use Rattle.std.specs.Prelude.{ℕ, zero, suc, ◌+◌, Bool, true, false, not, ◌&&◌, ◌||◌, cond, List, [], ◌∷◌, ◌++◌, ltb, ℤ, pos, neg_ℤ, nat_abs, length, get_or}
use Rattle.std.specs.Int.Signed.{le_z}
use Rattle.sheet_lines.specs.Lines.{line_width, Numbers, malformed, numbers, fields, Cut, without, line, cut}
use Rattle.sheet_format.specs.declared.PlaceLine.{PlaceLine}
use Rattle.sheet_format.specs.declared.ClipLine.{ClipLine}
use Rattle.sheet_format.specs.declared.TapLine.{TapLine}

-- ---- how much stands on a sheet

-- numbers on a line: a place's line is the widest
abbrev pub place_width : ℕ
place_width = line_width

abbrev pub clip_width : ℕ
clip_width = 6

abbrev pub tap_width : ℕ
tap_width = 3

-- lines of a section: no place has two clips, and no section has more lines than the taps
abbrev pub most_places : ℕ
most_places = 256

abbrev pub most_taps : ℕ
most_taps = 1000

abbrev pub most_lines : ℕ
most_lines = most_taps

-- ---- what stands on a line

-- the number in a column, counted from 0
abbrev pub column : List ℤ → ℕ → ℤ
column zs k = get_or zs k (pos 0)

-- "place: parent (0 none, else an earlier place), orientation 0..7, shift x y, bounds x0 y0 x1 y1, slop on all sides (0..1,000), level (i32), flags"
unfoldable pub place_of : List ℤ → PlaceLine
place_of zs =
    record {
      parent = column zs 0;
      orientation = column zs 1;
      x = column zs 2;
      y = column zs 3;
      x0 = column zs 4;
      y0 = column zs 5;
      x1 = column zs 6;
      y1 = column zs 7;
      slop = column zs 8;
      level = column zs 9;
      flags = column zs 10;
    }

-- "clip: place, x0 y0 x1 y1, one radius (0..1,000,000)"
unfoldable pub clip_of : List ℤ → ClipLine
clip_of zs =
    record { place = column zs 0; x0 = column zs 1; y0 = column zs 2; x1 = column zs 3; y1 = column zs 4; radius = column zs 5 }

-- "tap: x, y, asked flags"
unfoldable pub tap_of : List ℤ → TapLine
tap_of zs = record { x = column zs 0; y = column zs 1; flags = column zs 2 }

-- ---- ranges (22)

abbrev pub within : ℤ → ℤ → ℤ → Bool
within low high z = le_z low z && le_z z high

-- "Shifts, bounds, clip corners and taps are within ±1,000,000"
abbrev pub coordinate : ℤ → Bool
coordinate z = within (neg_ℤ (pos 1000000)) (pos 1000000) z

-- "flags": visible 1, pickable 2, focusable 4
abbrev pub flag_byte : ℤ → Bool
flag_byte z = within (pos 0) (pos 7) z

unfoldable pub place_in_range : PlaceLine → Bool
place_in_range p =
    within (pos 0) (pos 7) p.orientation
    && (coordinate p.x && coordinate p.y)
    && (coordinate p.x0 && coordinate p.y0 && coordinate p.x1 && coordinate p.y1)
    && within (pos 0) (pos 1000) p.slop
    && within (neg_ℤ (pos 2147483648)) (pos 2147483647) p.level
    && flag_byte p.flags

unfoldable pub clip_in_range : ClipLine → Bool
clip_in_range c =
    (coordinate c.x0 && coordinate c.y0 && coordinate c.x1 && coordinate c.y1) && within (pos 0) (pos 1000000) c.radius

unfoldable pub tap_in_range : TapLine → Bool
tap_in_range t = coordinate t.x && coordinate t.y && flag_byte t.flags

-- ---- places that a line names (23)

abbrev pub equal : ℤ → ℤ → Bool
equal a b = le_z a b && le_z b a

-- "a parent not earlier": the next place's number is one more than the places before it
unfoldable pub parent_earlier : List (List ℤ) → PlaceLine → Bool
parent_earlier before p = le_z (pos 0) p.parent && le_z p.parent (pos (length before))

-- "clipped before": a clip line before it names the place
unfoldable pub clipped_before : List (List ℤ) → ℤ → Bool
clipped_before [] k = false
clipped_before (zs ∷ before) k = equal k (clip_of zs).place || clipped_before before k

-- "a clip's place unknown or clipped before": places are 1 to their number
unfoldable pub clip_place_open : ℕ → List (List ℤ) → ClipLine → Bool
clip_place_open places before c = within (pos 1) (pos places) c.place && not (clipped_before before c.place)

-- ---- a line's rule: how many numbers it has, which are in range (22), and which fit the lines before it in its section (23)

pub record Rule : Type 0 where
  pub width : ℕ
  pub in_range : List ℤ → Bool
  pub fitting : List (List ℤ) → List ℤ → Bool

abbrev pub count_rule : ℕ → Rule
count_rule most = record { width = 1; in_range = λ zs. within (pos 0) (pos most) (column zs 0); fitting = λ before zs. true }

abbrev pub place_rule : Rule
place_rule = record { width = place_width; in_range = λ zs. place_in_range (place_of zs); fitting = λ before zs. parent_earlier before (place_of zs) }

abbrev pub clip_rule : ℕ → Rule
clip_rule places =
    record { width = clip_width; in_range = λ zs. clip_in_range (clip_of zs); fitting = λ before zs. clip_place_open places before (clip_of zs) }

abbrev pub tap_rule : Rule
tap_rule = record { width = tap_width; in_range = λ zs. tap_in_range (tap_of zs); fitting = λ before zs. true }

-- a line's numbers, or its refusal: "the lowest number that applies"
pub data Judged : Type 0 where
  bad : ℕ → Judged
  good : List ℤ → Judged

abbrev pub judge_numbers : Rule → List (List ℤ) → Numbers → Judged
judge_numbers rule before malformed = bad 21
judge_numbers rule before (numbers zs) = cond (rule.in_range zs) (cond (rule.fitting before zs) (good zs) (bad 23)) (bad 22)

-- "a line without the right number of well-formed whole numbers": 21
unfoldable pub judge : Rule → List (List ℤ) → List ℕ → Judged
judge rule before s = judge_numbers rule before (fields rule.width s)

-- ---- a section: so many lines of one rule, the first of them with a line number; "first bad line"

pub data Section : Type 0 where
  stopped : ℕ → ℕ → Section  -- the refusal, and its line
  ended : List (List ℤ) → List ℕ → Section  -- the lines, and the bytes after them

abbrev pub on_judged : ℕ → (List ℤ → Section) → Judged → Section
on_judged at next (bad r) = stopped r at
on_judged at next (good zs) = next zs

-- "or its LF, or missing": 21
abbrev pub on_line : Rule → List (List ℤ) → ℕ → (List ℤ → List ℕ → Section) → Cut → Section
on_line rule before at next without = stopped 21 at
on_line rule before at next (line s rest) = on_judged at (λ zs. next zs rest) (judge rule before s)

-- n more lines, after the lines before them
unfoldable pub section : Rule → ℕ → List (List ℤ) → ℕ → List ℕ → Section
section rule zero before at s = ended before s
section rule (suc n) before at s = on_line rule before at (λ zs rest. section rule n (before ++ zs ∷ []) (suc at) rest) (cut s)

-- ---- "each after a line with its count"

abbrev pub then_section : Section → (List (List ℤ) → List ℕ → Section) → Section
then_section (stopped r at) next = stopped r at
then_section (ended lines rest) next = next lines rest

abbrev pub count_on : List (List ℤ) → ℕ
count_on lines = nat_abs (column (get_or lines 0 []) 0)

unfoldable pub counted : Rule → ℕ → ℕ → List ℕ → Section
counted rule most at s = then_section (section (count_rule most) 1 [] at s) (λ lines rest. section rule (count_on lines) [] (suc at) rest)

-- ---- the sheet

pub record Sheet : Type 0 where
  pub places : List (List ℤ)
  pub clips : List (List ℤ)
  pub taps : List (List ℤ)

pub data Read : Type 0 where
  refused : ℕ → ℕ → Read  -- document 01's number, and the line
  sheet : Sheet → Read

abbrev pub then_read : Section → (List (List ℤ) → List ℕ → Read) → Read
then_read (stopped r at) next = refused r at
then_read (ended lines rest) next = next lines rest

-- "24, bytes after the last line, with the next line's number"
abbrev pub at_end : ℕ → Sheet → List ℕ → Read
at_end at whole [] = sheet whole
at_end at whole (b ∷ rest) = refused 24 at

-- "20, over 65,536 bytes (line 0)"
unfoldable pub read_sheet : List ℕ → Read
read_sheet s =
    cond (ltb 65536 (length s)) (refused 20 0)
    (then_read (counted place_rule most_places 1 s) (λ places s₁.
    let n = length places in
    then_read (counted (clip_rule n) n (2 + n) s₁) (λ clips s₂.
    let m = n + length clips in
    then_read (counted tap_rule most_taps (3 + m) s₂) (λ taps s₃. at_end (4 + m + length taps) (record { places = places; clips = clips; taps = taps }) s₃))))
