-- Every sheet that the reader's definition accepts is good.
use Prim.Native.Nat.{ℕ, zero, suc, ◌+◌, ◌≤◌}
use mathlib.Core.Path.{◌≡◌, refl, sym, ap, ◌∙◌, subst}
use mathlib.Core.Bool.{Bool, true, false, cond}
use mathlib.Core.List.{List, [], ◌∷◌, ◌++◌, append_assoc, append-nil}
use native.Mathlib.Omega.{arith}
use lib.Dec.{ltb, eqb}
use lib.IntN.{ℤ, pos, negsuc, nat_abs}
use lib.Signed.{le_z}
use lib.ListN.{length}
use borrow.Author.Tests.{eqb-true, leb-true}
use Rattle.numbers.proofs.Bools.{clash, and_left, and_right}
use Rattle.sheet_lines.specs.Lines.{Numbers, malformed, numbers, fields, of_width, numbers_of, words_of, Cut, without, line, cut}
use Rattle.sheet_format.specs.Sheet.{most_places, most_taps, Rule, Judged, bad, good, judge_numbers, judge, Section, stopped, ended, on_judged, on_line, section, then_section, count_rule, count_on, counted, column, place_rule, clip_rule, tap_rule, Sheet, refused, sheet, then_read, at_end, read_sheet}
use Rattle.sheet_calls.specs.Good.{Fair, Passes, Good}

-- ---- constructors apart

ended_lines : {a b : List (List ℤ)} {s t : List ℕ} → ended a s ≡ ended b t → a ≡ b
ended_lines e = cc

same_sheet : {a b : Sheet} → sheet a ≡ sheet b → a ≡ b
same_sheet e = cc

never_ended : {A : Type 0} {r at : ℕ} {a : List (List ℤ)} {s : List ℕ} → stopped r at ≡ ended a s → A
never_ended e = let z : ◌≡◌ {A = ℕ} 0 1 = cc in absurd (omega arith)

never_sheet : {A : Type 0} {r at : ℕ} {a : Sheet} → refused r at ≡ sheet a → A
never_sheet e = let z : ◌≡◌ {A = ℕ} 0 1 = cc in absurd (omega arith)

never_good : {A : Type 0} {r : ℕ} {a : List ℤ} → bad r ≡ good a → A
never_good e = let z : ◌≡◌ {A = ℕ} 0 1 = cc in absurd (omega arith)

-- ---- a line

numbers_of_lem : {a b : List ℤ} → numbers a ≡ numbers b → a ≡ b
numbers_of_lem e = cc

never_numbers : {A : Type 0} {a : List ℤ} → malformed ≡ numbers a → A
never_numbers e = let z : ◌≡◌ {A = ℕ} 0 1 = cc in absurd (omega arith)

wide_if : (n : ℕ) (ns : Numbers) (zs : List ℤ) → of_width n ns ≡ numbers zs → length zs ≡ n
wide_if n malformed zs e = never_numbers e
wide_if n (numbers ys) zs e = go (eqb (length ys) n) refl e
  where
    go : (b : Bool) → eqb (length ys) n ≡ b → cond b (numbers ys) malformed ≡ numbers zs → length zs ≡ n
    go true w q = ap length (sym (numbers_of_lem q)) ∙ eqb-true (length ys) n w
    go false w q = never_numbers q

fair_if : (rule : Rule) (before : List (List ℤ)) (ns : Numbers) (zs : List ℤ) → ((ys : List ℤ) → ns ≡ numbers ys → length ys ≡ rule.width)
    → judge_numbers rule before ns ≡ good zs → Fair rule before zs
fair_if rule before malformed zs w e = never_good e
fair_if rule before (numbers ys) zs w e = go (rule.in_range ys) refl (rule.fitting before ys) refl e
  where
    go : (a : Bool) → rule.in_range ys ≡ a → (b : Bool) → rule.fitting before ys ≡ b → cond a (cond b (good ys) (bad 23)) (bad 22) ≡ good zs → Fair rule before zs
    go true r true f q = let same : ys ≡ zs = cc in subst (λ (l : List ℤ). Fair rule before l) same (record { wide = w ys refl; ranged = r; fitting = f })
    go true r false f q = never_good q
    go false r b f q = never_good q

fair_line : (rule : Rule) (before : List (List ℤ)) (s : List ℕ) (zs : List ℤ) → judge rule before s ≡ good zs → Fair rule before zs
unfolding judge fields
fair_line rule before s zs e = fair_if rule before (fields rule.width s) zs (λ ys w. wide_if rule.width (numbers_of (words_of s)) ys w) e

-- ---- a section

pub record Rows (rule : Rule) (n : ℕ) (before lines : List (List ℤ)) : Type 0 where
  pub rows : List (List ℤ)
  pub all : lines ≡ before ++ rows
  pub many : length rows ≡ n
  pub passes : Passes rule before rows

pub section_rows : (rule : Rule) (n : ℕ) (before : List (List ℤ)) (at : ℕ) (s : List ℕ) (lines : List (List ℤ)) (rest : List ℕ)
    → section rule n before at s ≡ ended lines rest → Rows rule n before lines
unfolding section Passes
section_rows rule zero before at s lines rest e = record { rows = []; all = sym (ended_lines e) ∙ sym (append-nil before); many = refl; passes = tt }
section_rows rule (suc n) before at s lines rest e = on_cut (λ zs after q. section_rows rule n (before ++ zs ∷ []) (suc at) after lines rest q) (cut s) e
  where
    Later : Type 0
    Later = (zs : List ℤ) (after : List ℕ) → section rule n (before ++ zs ∷ []) (suc at) after ≡ ended lines rest → Rows rule n (before ++ zs ∷ []) lines

    more : (zs : List ℤ) → Fair rule before zs → Rows rule n (before ++ zs ∷ []) lines → Rows rule (suc n) before lines
    more zs f r =
        record {
          rows = zs ∷ r.rows;
          all = r.all ∙ append_assoc before (zs ∷ []) r.rows;
          many = ap suc r.many;
          passes = (f, r.passes);
        }

    on_good : Later → (l after : List ℕ) (j : Judged) → judge rule before l ≡ j → on_judged at (λ zs. section rule n (before ++ zs ∷ []) (suc at) after) j ≡ ended lines rest → Rows rule (suc n) before lines
    on_good later l after (bad r) w q = never_ended q
    on_good later l after (good zs) w q = more zs (fair_line rule before l zs w) (later zs after q)

    on_cut : Later → (k : Cut) → on_line rule before at (λ zs after. section rule n (before ++ zs ∷ []) (suc at) after) k ≡ ended lines rest → Rows rule (suc n) before lines
    on_cut later without q = never_ended q
    on_cut later (line l after) q = on_good later l after (judge rule before l) refl q

-- ---- a section after its count

-- the count is in its range
count_most : (most : ℕ) (z : ℤ) → le_z (pos 0) z ≡ true → le_z z (pos most) ≡ true → nat_abs z ≤ most
count_most most (pos n) a b = leb-true n most b
count_most most (negsuc n) a b = clash (sym a)

counted_few : (most : ℕ) (lines : List (List ℤ)) → Rows (count_rule most) 1 [] lines → count_on lines ≤ most
unfolding Passes
counted_few most lines r = go r.rows r.many r.passes r.all
  where
    go : (rows : List (List ℤ)) → length rows ≡ 1 → Passes (count_rule most) [] rows → lines ≡ rows → count_on lines ≤ most
    go [] m p e = absurd (omega arith)
    go (zs ∷ rows) m p e =
        let z = column zs 0 in
        let h = p.0.ranged in
        subst (λ (l : List (List ℤ)). count_on l ≤ most) (sym e)
        (count_most most z (and_left (le_z (pos 0) z) (le_z z (pos most)) h) (and_right (le_z (pos 0) z) (le_z z (pos most)) h))

-- the count line that was read
pub count_few : (most at : ℕ) (s : List ℕ) (lines : List (List ℤ)) (rest : List ℕ) → section (count_rule most) 1 [] at s ≡ ended lines rest → count_on lines ≤ most
count_few most at s lines rest e = counted_few most lines (section_rows (count_rule most) 1 [] at s lines rest e)

pub record Counted (rule : Rule) (most : ℕ) (lines : List (List ℤ)) : Type 0 where
  pub few : length lines ≤ most
  pub passes : Passes rule [] lines

all_rows : (rule : Rule) (most n : ℕ) (lines : List (List ℤ)) → n ≤ most → Rows rule n [] lines → Counted rule most lines
all_rows rule most n lines h r =
    subst (λ (l : List (List ℤ)). Counted rule most l) (sym r.all) (record { few = omega (arith, r.many); passes = r.passes })

pub counted_rows : (rule : Rule) (most at : ℕ) (s : List ℕ) (lines : List (List ℤ)) (rest : List ℕ) → counted rule most at s ≡ ended lines rest → Counted rule most lines
unfolding counted
counted_rows rule most at s lines rest e = go (section (count_rule most) 1 [] at s) refl e
  where
    go : (c : Section) → section (count_rule most) 1 [] at s ≡ c → then_section c (λ l r. section rule (count_on l) [] (suc at) r) ≡ ended lines rest → Counted rule most lines
    go (stopped r n) w q = never_ended q
    go (ended l r) w q =
        all_rows rule most (count_on l) lines (counted_few most l (section_rows (count_rule most) 1 [] at s l r w)) (section_rows rule (count_on l) [] (suc at) r lines rest q)

-- ---- the sheet

at_end_lem : (n : ℕ) (whole s : Sheet) (rest : List ℕ) → at_end n whole rest ≡ sheet s → whole ≡ s
at_end_lem n whole s [] e = same_sheet e
at_end_lem n whole s (b ∷ rest) e = never_sheet e

pub good_sheet : (b : List ℕ) (s : Sheet) → read_sheet b ≡ sheet s → Good s
unfolding read_sheet
good_sheet b s e = short (ltb 65536 (length b)) e
  where
    Lines : Type 0
    Lines = List (List ℤ)

    last : (places clips taps : Lines) (n : ℕ) (rest : List ℕ) → Counted place_rule most_places places → Counted (clip_rule (length places)) (length places) clips → Counted tap_rule most_taps taps
        → at_end n (record { places = places; clips = clips; taps = taps }) rest ≡ sheet s → Good s
    last places clips taps n rest p c t q =
        subst Good (at_end_lem n (record { places = places; clips = clips; taps = taps }) s rest q)
        (record { few_places = p.few; few_clips = c.few; few_taps = t.few; places = p.passes; clips = c.passes; taps = t.passes })

    third : (places clips : Lines) (s₂ : List ℕ) → Counted place_rule most_places places → Counted (clip_rule (length places)) (length places) clips → (k : Section)
        → let m = length places + length clips in counted tap_rule most_taps (3 + m) s₂ ≡ k
        → then_read k (λ taps s₃. at_end (4 + m + length taps) (record { places = places; clips = clips; taps = taps }) s₃) ≡ sheet s → Good s
    third places clips s₂ p c (stopped r n) w q = never_sheet q
    third places clips s₂ p c (ended taps s₃) w q =
        let m = length places + length clips in
        last places clips taps (4 + m + length taps) s₃ p c (counted_rows tap_rule most_taps (3 + m) s₂ taps s₃ w) q

    second : (places : Lines) (s₁ : List ℕ) → Counted place_rule most_places places → (k : Section)
        → let n = length places in counted (clip_rule n) n (2 + n) s₁ ≡ k
        → then_read k (λ clips s₂. let m = n + length clips in then_read (counted tap_rule most_taps (3 + m) s₂) (λ taps s₃. at_end (4 + m + length taps) (record { places = places; clips = clips; taps = taps }) s₃)) ≡ sheet s → Good s
    second places s₁ p (stopped r n) w q = never_sheet q
    second places s₁ p (ended clips s₂) w q =
        let n = length places in
        third places clips s₂ p (counted_rows (clip_rule n) n (2 + n) s₁ clips s₂ w) (counted tap_rule most_taps (3 + (n + length clips)) s₂) refl q

    first : (k : Section) → counted place_rule most_places 1 b ≡ k
        → then_read k (λ places s₁. let n = length places in then_read (counted (clip_rule n) n (2 + n) s₁) (λ clips s₂. let m = n + length clips in then_read (counted tap_rule most_taps (3 + m) s₂) (λ taps s₃. at_end (4 + m + length taps) (record { places = places; clips = clips; taps = taps }) s₃))) ≡ sheet s → Good s
    first (stopped r n) w q = never_sheet q
    first (ended places s₁) w q =
        let n = length places in
        second places s₁ (counted_rows place_rule most_places 1 b places s₁ w) (counted (clip_rule n) n (2 + n) s₁) refl q

    short : (k : Bool) → cond k (refused 20 0) (then_read (counted place_rule most_places 1 b) (λ places s₁. let n = length places in then_read (counted (clip_rule n) n (2 + n) s₁) (λ clips s₂. let m = n + length clips in then_read (counted tap_rule most_taps (3 + m) s₂) (λ taps s₃. at_end (4 + m + length taps) (record { places = places; clips = clips; taps = taps }) s₃)))) ≡ sheet s → Good s
    short true q = never_sheet q
    short false q = first (counted place_rule most_places 1 b) refl q
