-- The first line of some bytes, by the place of its LF. Assumes nothing.
use mathlib.Core.Path.{◌≡◌, refl, ap}
use mathlib.Core.Bool.{Bool, true, false, cond}
use mathlib.Core.List.{List, [], ◌∷◌}
use Prim.Native.Nat.{ℕ, suc, ◌+◌, ◌-◌, ◌≤◌, ◌<◌}
use native.Mathlib.Omega.{arith}
use borrow.Author.Tests.{le-leb, lt-leb}
use lib.Dec.{leb, eqb}
use lib.IntN.{ℤ}
use lib.ListN.{length, take, drop, length-drop, drop_of_length-le}
use lib.Seq.{take-length, length-take-le, drop-drop}
use Rattle.byte_search.specs.Bytes.{slice, index_of, index_after}
use Rattle.sheet_lines.specs.Lines.{line_width, Numbers, fields, without, line, beginning, cut, behind}
use Rattle.std.specs.Prelude.{Option, None, Some}
use Rattle.sheet_lines.specs.Saturated.{saturated_numbers, unfit, followed, first_of, first_fields, told_row, told_first}

ends : (e : Bool) (b : ℕ) (s : List ℕ) → (index_of 10 s < length s → cut s ≡ line (take (index_of 10 s) s) (drop (suc (index_of 10 s)) s))
    → index_after e (index_of 10 s) < length (b ∷ s)
    → cond e (line [] s) (beginning b (cut s)) ≡ line (take (index_after e (index_of 10 s)) (b ∷ s)) (drop (suc (index_after e (index_of 10 s))) (b ∷ s))
unfolding index_after
ends true b s ih h = refl
ends false b s ih h = ap (beginning b) (ih (omega arith))

cut_at : (s : List ℕ) → index_of 10 s < length s → cut s ≡ line (take (index_of 10 s) s) (drop (suc (index_of 10 s)) s)
unfolding cut index_of
cut_at [] h = absurd (omega arith)
cut_at (b ∷ s) h = ends (eqb b 10) b s (cut_at s) h

lacks : (e : Bool) (b : ℕ) (s : List ℕ) → (length s ≤ index_of 10 s → cut s ≡ without) → length (b ∷ s) ≤ index_after e (index_of 10 s)
    → cond e (line [] s) (beginning b (cut s)) ≡ without
unfolding index_after
lacks true b s ih h = absurd (omega arith)
lacks false b s ih h = ap (beginning b) (ih (omega arith))

cut_none : (s : List ℕ) → length s ≤ index_of 10 s → cut s ≡ without
unfolding cut index_of
cut_none [] h = refl
cut_none (b ∷ s) h = lacks (eqb b 10) b s (cut_none s) h

-- without a line no width fits
unfit_any : (b : Bool) → unfit ≡ cond b unfit unfit
unfit_any true = refl
unfit_any false = refl

pub past_end : (s : List ℕ) (at width : ℕ) → length s < at → (unfit ≡ first_fields width (drop at s)) × (at ≡ behind at (cut (drop at s)))
unfolding first_fields cut
past_end s at width h = let l : length s ≤ at = omega arith in rw (drop_of_length-le s l) (unfit_any (leb width line_width), refl)

pub too_wide : (s : List ℕ) (width : ℕ) → line_width < width → unfit ≡ first_fields width s
unfolding first_fields
too_wide s width h = rw (lt-leb width line_width h)

pub narrow : (s : List ℕ) (width : ℕ) → width ≤ line_width → first_fields width s ≡ first_of width (cut s)
unfolding first_fields
narrow s width h = rw (le-leb width line_width h)

module _ (s : List ℕ) (at e width : ℕ) (q : e ≡ at + index_of 10 (slice at (length s) s)) where
  place : e ≡ at + index_of 10 (drop at s)
  unfolding slice
  place = rw take-length at q

  pub no_end : length s ≤ e → (unfit ≡ first_fields width (drop at s)) × (at ≡ behind at (cut (drop at s)))
  unfolding first_fields
  no_end h =
      let l : length (drop at s) ≤ index_of 10 (drop at s) = simp length-drop (omega (arith, place)) in
      rw (cut_none (drop at s) l) (unfit_any (leb width line_width), refl)

  pub passed : e < length s → e + 1 ≡ behind at (cut (drop at s))
  passed h =
      let i = index_of 10 (drop at s) in
      let l : i < length (drop at s) = simp length-drop (omega (arith, place)) in
      let m : i ≤ length (drop at s) = omega arith in
      rw (cut_at (drop at s) l, length-take-le i (drop at s) m) (omega (arith, place))

  pub with_end : e < length s → width ≤ line_width → followed (drop (e + 1) s) (saturated_numbers (fields width (take (e - at) (drop at s)))) ≡ first_fields width (drop at s)
  unfolding first_fields
  with_end h w =
      let i = index_of 10 (drop at s) in
      let l : i < length (drop at s) = simp length-drop (omega (arith, place)) in
      let a : e - at ≡ i = omega (arith, place) in
      let b : e + 1 ≡ at + suc i = omega (arith, place) in
      rw (le-leb width line_width w, cut_at (drop at s) l, a, b, drop-drop (suc i) at s)

pub told : (width next : ℕ) (s : List ℕ) (r : Option (List ℤ)) (ns : Numbers) → told_row width r ≡ ns → told_first width (drop next s) r ≡ followed (drop next s) ns
told width next s None ns e = ap (followed (drop next s)) e
told width next s (Some zs) ns e = ap (followed (drop next s)) e
