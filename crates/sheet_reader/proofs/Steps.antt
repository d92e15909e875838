-- A line of a section, from the first line of the bytes with its numbers saturated: refused, or one more row. Assumes nothing.
use mathlib.Core.Path.{◌≡◌, refl, sym, ap, ◌∙◌}
use mathlib.Core.Bool.{Bool, true, false, cond}
use mathlib.Core.List.{List, [], ◌∷◌, ◌++◌, map}
use Prim.Native.Nat.{ℕ, suc, ◌≤◌}
use native.Mathlib.Omega.{arith}
use borrow.Author.Tests.{eqb-true}
use lib.Dec.{eqb}
use lib.IntN.{ℤ}
use lib.ListN.{length}
use Rattle.sheet_lines.specs.Lines.{line_width, Numbers, malformed, numbers, numbers_of, words_of, of_width, fields, Cut, without, line, cut}
use Rattle.sheet_lines.specs.Saturated.{saturated, saturated_numbers, unfit, row, followed, first_of, first_fields}
use Rattle.sheet_lines.proofs.Cuts.{narrow}
use Rattle.sheet_format.specs.Sheet.{Rule, judge_numbers, judge, Section, stopped, on_judged, on_line, section}
use Rattle.sheet_reader.specs.Blind.{Blind}

apart : {A : Type 0} (zs : List ℤ) (rest : List ℕ) → row zs rest ≡ unfit → A
apart zs rest h = let z : ◌≡◌ {A = ℕ} 0 1 = cc in absurd (omega arith)

none : {A : Type 0} (zs : List ℤ) → malformed ≡ numbers zs → A
none zs h = let z : ◌≡◌ {A = ℕ} 0 1 = cc in absurd (omega arith)

sized_by : (b : Bool) (w : ℕ) (zs ys : List ℤ) → eqb (length zs) w ≡ b → cond b (numbers zs) malformed ≡ numbers ys → length ys ≡ w
sized_by true w zs ys t e = let q : zs ≡ ys = cc in ap length (sym q) ∙ eqb-true (length zs) w t
sized_by false w zs ys t e = none ys e

sized : (w : ℕ) (ns : Numbers) (ys : List ℤ) → of_width w ns ≡ numbers ys → length ys ≡ w
sized w malformed ys e = none ys e
sized w (numbers zs) ys e = sized_by (eqb (length zs) w) w zs ys refl e

-- what is known of a row that was read
module _ (rule : Rule) (before : List (List ℤ)) (B : Blind rule before) (l : ℕ) (next : List ℤ → List ℕ → Section) where
  abbrev judged : List ℕ → Numbers → Section
  judged rest ns = on_judged l (λ zs. next zs rest) (judge_numbers rule before ns)

  unfit_by : (ns : Numbers) (rest : List ℕ) → followed rest (saturated_numbers ns) ≡ unfit → judged rest ns ≡ stopped 21 l
  unfolding saturated_numbers
  unfit_by malformed rest e = refl
  unfit_by (numbers ys) rest e = apart (map saturated ys) rest e

  unfit_cut : (x : Cut) → first_of rule.width x ≡ unfit → on_line rule before l next x ≡ stopped 21 l
  unfolding judge
  unfit_cut without e = refl
  unfit_cut (line t rest) e = unfit_by (fields rule.width t) rest e

  module _ (zs : List ℤ) (rest' : List ℕ) where
    module _ (ys : List ℤ) (rest : List ℕ) (e : row (map saturated ys) rest ≡ row zs rest') where
      same_numbers : map saturated ys ≡ zs
      same_numbers = cc

      same_rest : rest ≡ rest'
      same_rest = cc

      in_range_lem : rule.in_range ys ≡ rule.in_range zs
      in_range_lem = sym (B.ranged ys) ∙ ap rule.in_range same_numbers

      fitting : rule.fitting before ys ≡ rule.fitting before zs
      fitting = sym (B.fitted ys) ∙ ap (rule.fitting before) same_numbers

    out_by : (ns : Numbers) (rest : List ℕ) → followed rest (saturated_numbers ns) ≡ row zs rest' → rule.in_range zs ≡ false → judged rest ns ≡ stopped 22 l
    unfolding saturated_numbers
    out_by malformed rest e r = apart zs rest' (sym e)
    out_by (numbers ys) rest e r = rw (in_range_lem ys rest e ∙ r)

    bad_by : (ns : Numbers) (rest : List ℕ) → followed rest (saturated_numbers ns) ≡ row zs rest' → rule.in_range zs ≡ true → rule.fitting before zs ≡ false
        → judged rest ns ≡ stopped 23 l
    unfolding saturated_numbers
    bad_by malformed rest e r f = apart zs rest' (sym e)
    bad_by (numbers ys) rest e r f = rw (in_range_lem ys rest e ∙ r, fitting ys rest e ∙ f)

    good_by : (ns : Numbers) (rest : List ℕ) → ((ys : List ℤ) → ns ≡ numbers ys → length ys ≡ rule.width) → followed rest (saturated_numbers ns) ≡ row zs rest'
        → rule.in_range zs ≡ true → rule.fitting before zs ≡ true → judged rest ns ≡ next zs rest'
    unfolding saturated_numbers
    good_by malformed rest w e r f = apart zs rest' (sym e)
    good_by (numbers ys) rest w e r f =
        let a : rule.in_range ys ≡ true = in_range_lem ys rest e ∙ r in
        let b : rule.fitting before ys ≡ true = fitting ys rest e ∙ f in
        let q : ys ≡ zs = sym (B.uncut ys (w ys refl) a b) ∙ same_numbers ys rest e in
        rw (a, b) (ap (λ xs. next xs rest) q ∙ ap (next zs) (same_rest ys rest e))

    out_cut : (x : Cut) → first_of rule.width x ≡ row zs rest' → rule.in_range zs ≡ false → on_line rule before l next x ≡ stopped 22 l
    unfolding judge
    out_cut without e r = apart zs rest' (sym e)
    out_cut (line t rest) e r = out_by (fields rule.width t) rest e r

    bad_cut : (x : Cut) → first_of rule.width x ≡ row zs rest' → rule.in_range zs ≡ true → rule.fitting before zs ≡ false
        → on_line rule before l next x ≡ stopped 23 l
    unfolding judge
    bad_cut without e r f = apart zs rest' (sym e)
    bad_cut (line t rest) e r f = bad_by (fields rule.width t) rest e r f

    good_cut : (x : Cut) → first_of rule.width x ≡ row zs rest' → rule.in_range zs ≡ true → rule.fitting before zs ≡ true
        → on_line rule before l next x ≡ next zs rest'
    unfolding judge fields
    good_cut without e r f = apart zs rest' (sym e)
    good_cut (line t rest) e r f =
        good_by (of_width rule.width (numbers_of (words_of t))) rest (λ ys q. sized rule.width (numbers_of (words_of t)) ys q) e r f

-- ---- one more line of a section

module _ (rule : Rule) (before : List (List ℤ)) (B : Blind rule before) (N : rule.width ≤ line_width) (n l : ℕ) (s : List ℕ) where
  abbrev go_on : List ℤ → List ℕ → Section
  go_on zs rest = section rule n (before ++ zs ∷ []) (suc l) rest

  pub stop_21 : unfit ≡ first_fields rule.width s → section rule (suc n) before l s ≡ stopped 21 l
  unfolding section
  stop_21 e = unfit_cut rule before B l go_on (cut s) (sym (e ∙ narrow s rule.width N))

  module _ (zs : List ℤ) (rest : List ℕ) (e : row zs rest ≡ first_fields rule.width s) where
    pub stop_22 : rule.in_range zs ≡ false → section rule (suc n) before l s ≡ stopped 22 l
    unfolding section
    stop_22 r = out_cut rule before B l go_on zs rest (cut s) (sym (e ∙ narrow s rule.width N)) r

    pub stop_23 : rule.in_range zs ≡ true → rule.fitting before zs ≡ false → section rule (suc n) before l s ≡ stopped 23 l
    unfolding section
    stop_23 r f = bad_cut rule before B l go_on zs rest (cut s) (sym (e ∙ narrow s rule.width N)) r f

    pub pass : rule.in_range zs ≡ true → rule.fitting before zs ≡ true → section rule (suc n) before l s ≡ section rule n (before ++ zs ∷ []) (suc l) rest
    unfolding section
    pass r f = good_cut rule before B l go_on zs rest (cut s) (sym (e ∙ narrow s rule.width N)) r f
