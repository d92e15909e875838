-- The loop over a section's lines: what each turn makes of the section from there on. Assumes nothing.
use mathlib.Core.Path.{◌≡◌, sym, ap, ◌∙◌}
use mathlib.Core.Bool.{true, false}
use mathlib.Core.List.{List, [], ◌∷◌, ◌++◌, map}
use Prim.Native.Nat.{ℕ, suc, ◌+◌, ◌-◌, ◌≤◌, ◌<◌}
use native.Mathlib.Numerals.{add-one}
use native.Mathlib.Omega.{arith}
use lib.IntN.{ℤ}
use lib.ListN.{length, length-map, length-append, take}
use Rattle.std.proofs.lemmas.List.{map-append}
use Rattle.sheet_lines.specs.Lines.{line_width}
use Rattle.sheet_lines.specs.Saturated.{unfit, row, first_fields}
use Rattle.sheet_format.specs.Sheet.{most_lines, Rule, Section, stopped, ended, section}
use Rattle.sheet_reader.specs.Blind.{Blind}
use Rattle.sheet_reader.proofs.Steps.{stop_21, stop_22, stop_23, pass}

-- a line more
module _ (rule : Rule) (before : List (List ℤ)) (B : Blind rule before) (w : ℕ) (q : rule.width ≡ w) (N : w ≤ line_width) (m line : ℕ) (s : List ℕ) (whole : Section)
    (h : 1 ≤ m) (here : section rule m before line s ≡ whole) where
  narrow : rule.width ≤ line_width
  narrow = omega arith

  next : section rule (suc (m - 1)) before line s ≡ whole
  next = let e : m ≡ suc (m - 1) = omega arith in rw e at here

  pub turn_21 : unfit ≡ first_fields w s → stopped 21 line ≡ whole
  turn_21 e = sym (stop_21 rule before B narrow (m - 1) line s (rw (← q) at e)) ∙ next

  module _ (zs : List ℤ) (rest : List ℕ) (e : row zs rest ≡ first_fields w s) where
    read : row zs rest ≡ first_fields rule.width s
    read = rw (← q) at e

    pub turn_22 : rule.in_range zs ≡ false → stopped 22 line ≡ whole
    turn_22 r = sym (stop_22 rule before B narrow (m - 1) line s zs rest read r) ∙ next

    pub turn_23 : rule.in_range zs ≡ true → rule.fitting before zs ≡ false → stopped 23 line ≡ whole
    turn_23 r f = sym (stop_23 rule before B narrow (m - 1) line s zs rest read r f) ∙ next

    pub turn : rule.in_range zs ≡ true → rule.fitting before zs ≡ true → section rule (m - 1) (before ++ zs ∷ []) (suc line) rest ≡ whole
    turn r f = sym (pass rule before B narrow (m - 1) line s zs rest read r f) ∙ next

-- ---- the loop over lines of a type

-- the lines that are read, and what the section is from there on
pub record Here {T : Type 0} (numbers : T → List ℤ) (rule : Rule) (first count line : ℕ) (items : List T) (s₀ s : List ℕ) : Type 0 where
  pub read : first + length items ≡ line
  pub rest : section rule (first + count - line) (map numbers items) line s ≡ section rule count [] first s₀

pub lines_read : {T : Type 0} (numbers : T → List ℤ) (rule : Rule) (first count line : ℕ) (items : List T) (s₀ s : List ℕ)
    → Here numbers rule first count line items s₀ s → first + count ≤ line → ended (map numbers items) s ≡ section rule count [] first s₀
unfolding section
lines_read numbers rule first count line items s₀ s I h = let z : first + count - line ≡ 0 = omega arith in rw z at I.rest

module _ {T : Type 0} (numbers : T → List ℤ) (rule : Rule) (w : ℕ) (q : rule.width ≡ w) (N : w ≤ line_width)
    (B : (before : List (List ℤ)) → length before ≤ most_lines → Blind rule before) (first count line : ℕ) (items : List T) (s₀ s : List ℕ) (few : count ≤ most_lines)
    (I : Here numbers rule first count line items s₀ s) (h : line < first + count) where
  before : List (List ℤ)
  before = map numbers items

  b : Blind rule before
  unfolding before
  b = B (map numbers items) (omega (arith, I.read, length-map items numbers))

  m : ℕ
  m = first + count - line

  some : 1 ≤ m
  unfolding m
  some = omega arith

  pub line_21 : unfit ≡ first_fields w s → stopped 21 line ≡ section rule count [] first s₀
  unfolding before m
  line_21 e = turn_21 rule before b w q N m line s _ some I.rest e

  module _ (x : T) (zs : List ℤ) (rest : List ℕ) (n : numbers x ≡ take w zs) (e : row (take w zs) rest ≡ first_fields w s) where
    e' : row (numbers x) rest ≡ first_fields w s
    e' = ap (λ ys. row ys rest) n ∙ e

    pub line_22 : rule.in_range (numbers x) ≡ false → stopped 22 line ≡ section rule count [] first s₀
    unfolding before m
    line_22 r = turn_22 rule before b w q N m line s _ some I.rest (numbers x) rest e' r

    pub line_23 : rule.in_range (numbers x) ≡ true → rule.fitting (map numbers items) (numbers x) ≡ false → stopped 23 line ≡ section rule count [] first s₀
    unfolding before m
    line_23 r f = turn_23 rule before b w q N m line s _ some I.rest (numbers x) rest e' r f

    pub line_read : (items' : List T) → items' ≡ items ++ x ∷ [] → rule.in_range (numbers x) ≡ true → rule.fitting (map numbers items) (numbers x) ≡ true
        → Here numbers rule first count (line + 1) items' s₀ rest
    unfolding before m
    line_read items' p r f =
        let l : first + count - (line + 1) ≡ first + count - line - 1 = omega arith in
        let k : length (items ++ x ∷ []) ≡ length items + 1 = length-append items (x ∷ []) in
        record {
          read = rw p (omega (arith, I.read));
          rest = rw (p, map-append numbers items (x ∷ []), l, add-one line) (turn rule before b w q N m line s _ some I.rest (numbers x) rest e' r f);
        }
