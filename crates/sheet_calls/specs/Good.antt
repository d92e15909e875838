-- What every accepted sheet has: rows of the right width, in range, that fit the rows before them, and no more of them than document 01 allows.
use Rattle.std.specs.Prelude.{◌≤◌, ◌≡◌, true, List, [], ◌∷◌, ◌++◌, ℤ, nat_abs, length}
use Rattle.sheet_format.specs.Sheet.{most_places, most_taps, Sheet, Rule, place_rule, clip_rule, tap_rule}
use Rattle.sheet_calls.specs.Calls.{Linear}

-- a row that its rule lets pass, after the rows before it in its section
pub record Fair (rule : Rule) (before : List (List ℤ)) (row : List ℤ) : Type 0 where
  pub wide : length row ≡ rule.width
  pub ranged : rule.in_range row ≡ true
  pub fitting : rule.fitting before row ≡ true

-- each of the rows, in order
unfoldable pub Passes : Rule → List (List ℤ) → List (List ℤ) → Type 0
Passes rule before [] = Unit {0}
Passes rule before (row ∷ rows) = Fair rule before row × Passes rule (before ++ row ∷ []) rows

pub record Good (s : Sheet) : Type 0 where
  pub few_places : length s.places ≤ most_places
  pub few_clips : length s.clips ≤ length s.places
  pub few_taps : length s.taps ≤ most_taps
  pub places : Passes place_rule [] s.places
  pub clips : Passes (clip_rule (length s.places)) [] s.clips
  pub taps : Passes tap_rule [] s.taps

-- coefficients 0, 1 and −1
pub record Small (m : Linear) : Type 0 where
  pub a : nat_abs m.a ≤ 1
  pub b : nat_abs m.b ≤ 1
  pub c : nat_abs m.c ≤ 1
  pub d : nat_abs m.d ≤ 1
