-- A count line: refused, or the count; and the section that it counts. Assumes nothing.
use mathlib.Core.Path.{◌≡◌, refl}
use mathlib.Core.Bool.{true}
use mathlib.Core.List.{List, [], ◌∷◌}
use Prim.Native.Nat.{ℕ, suc, ◌+◌, ◌≤◌}
use native.Mathlib.Omega.{arith}
use borrow.Author.Tests.{leb-true}
use lib.Dec.{T}
use lib.IntN.{ℤ, pos, negsuc, nat_abs}
use lib.Signed.{le_z, non_neg}
use lib.ListN.{length, get_or, take}
use mir.Syntax.{w64}
use mir.Val.{Fits}
use Rattle.sheet_lines.specs.Lines.{line_width}
use Rattle.sheet_lines.proofs.Bounds.{clash}
use Rattle.sheet_format.specs.Sheet.{most_lines, Rule, stopped, ended, within, count_rule, section, counted}
use Rattle.sheet_reader.specs.Ranges.{and_left, and_right}

pub one_number : (l : List ℤ) → length l ≡ line_width → take 1 l ≡ get_or l 0 (pos 0) ∷ []
one_number [] h = absurd (omega arith)
one_number (z ∷ l) h = refl

-- ---- a number within its bounds is a count

itself_by : (z : ℤ) → le_z (pos 0) z ≡ true → pos (nat_abs z) ≡ z
itself_by (pos n) h = refl
itself_by (negsuc n) h = clash h

few_by : (most : ℕ) (z : ℤ) → le_z (pos 0) z ≡ true → le_z z (pos most) ≡ true → nat_abs z ≤ most
few_by most (pos n) h k = leb-true n most k
few_by most (negsuc n) h k = clash h

no_sign : (z : ℤ) → le_z (pos 0) z ≡ true → T (non_neg z)
no_sign (pos n) h = tt
no_sign (negsuc n) h = clash h

module _ (most : ℕ) (z : ℤ) (h : within (pos 0) (pos most) z ≡ true) where
  low : le_z (pos 0) z ≡ true
  low = and_left (le_z (pos 0) z) (le_z z (pos most)) h

  pub few : nat_abs z ≤ most
  few = few_by most z low (and_right (le_z (pos 0) z) (le_z z (pos most)) h)

  pub itself : pos (nat_abs z) ≡ z
  itself = itself_by z low

  pub castable : most ≤ most_lines → T (non_neg z) × Fits w64 (nat_abs z)
  castable m = (no_sign z low, record { fits = omega (arith, few) })

-- ---- the section that is counted

pub count_stops : (rule : Rule) (most line : ℕ) (s : List ℕ) (r l : ℕ) → stopped r l ≡ section (count_rule most) 1 [] line s → stopped r l ≡ counted rule most line s
unfolding counted
count_stops rule most line s r l e = rw (← e)

pub count_goes : (rule : Rule) (most line : ℕ) (s rest : List ℕ) (n : ℕ) → ended ((pos n ∷ []) ∷ []) rest ≡ section (count_rule most) 1 [] line s
    → section rule n [] (line + 1) rest ≡ counted rule most line s
unfolding counted
count_goes rule most line s rest n e =
    let a : line + 1 ≡ suc line = omega arith in
    rw (← e, a)
