-- What the code's types stand for, in the sheet's definitions.
use Rattle.std.specs.Prelude.{ℕ, Result, Ok, Err, List, [], ◌∷◌, map, ℤ, pos}
use Rattle.sheet_format.specs.declared.lines.Lines.{Lines}
use Rattle.sheet_format.specs.Lines.{items}
use Rattle.sheet_format.specs.Sheet.{Section, stopped, ended, Sheet, Read, refused, sheet}
use Rattle.sheet_format.specs.declared.PlaceLine.{PlaceLine}
use Rattle.sheet_format.specs.declared.ClipLine.{ClipLine}
use Rattle.sheet_format.specs.declared.TapLine.{TapLine}
use Rattle.sheet_format.specs.declared.Refusal.{Refusal}
use Rattle.sheet_format.specs.declared.Refusal.TheVariants as why
use Rattle.sheet_format.specs.declared.Refused.{Refused}
use Rattle.sheet_format.specs.declared.Parsed.{Parsed}

-- the number of a refusal, as an answer prints it
abbrev pub number_of : Refusal → ℕ
number_of why.TooLong = 20
number_of why.Malformed = 21
number_of why.OutOfRange = 22
number_of why.BadPlace = 23
number_of why.Trailing = 24

-- ---- the numbers of a line

abbrev pub place_numbers : PlaceLine → List ℤ
place_numbers p = p.parent ∷ p.orientation ∷ p.x ∷ p.y ∷ p.x0 ∷ p.y0 ∷ p.x1 ∷ p.y1 ∷ p.slop ∷ p.level ∷ p.flags ∷ []

abbrev pub clip_numbers : ClipLine → List ℤ
clip_numbers c = c.place ∷ c.x0 ∷ c.y0 ∷ c.x1 ∷ c.y1 ∷ c.radius ∷ []

abbrev pub tap_numbers : TapLine → List ℤ
tap_numbers t = t.x ∷ t.y ∷ t.flags ∷ []

-- ---- what was read

-- lines that were read, with the bytes behind them; or the refusal, with its line
abbrev pub told_lines : {L : Type 0} {MOST : ℕ} → (L → List ℤ) → List ℕ → Result (Lines L MOST) Refused → Section
told_lines numbers rest (Ok lines) = ended (map numbers (items lines)) rest
told_lines numbers rest (Err r) = stopped (number_of r.why) r.line

-- a count that was read, with the bytes behind it
abbrev pub told_count : List ℕ → Result ℕ Refused → Section
told_count rest (Ok n) = ended ((pos n ∷ []) ∷ []) rest
told_count rest (Err r) = stopped (number_of r.why) r.line

abbrev pub sheet_of : Parsed → Sheet
sheet_of p =
    record {
      places = map place_numbers (items p.places);
      clips = map clip_numbers (items p.clips);
      taps = map tap_numbers (items p.taps);
    }

-- a sheet that was read
abbrev pub told : Result Parsed Refused → Read
told (Ok p) = sheet (sheet_of p)
told (Err r) = refused (number_of r.why) r.line

-- the lines of what was read: a refused sheet has none
abbrev pub lines_of : Read → Sheet
lines_of (refused r at) = record { places = []; clips = []; taps = [] }
lines_of (sheet whole) = whole
