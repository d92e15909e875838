-- A line's words, space by space, and the row that is made of their numbers. Assumes nothing.
use mathlib.Core.Path.{◌≡◌, refl, sym, ap, ◌∙◌}
use mathlib.Core.Bool.{Bool, true, false, not, cond}
use mathlib.Core.List.{List, [], ◌∷◌, ◌++◌, append-nil, append_assoc}
use Prim.Native.Nat.{ℕ, suc, ◌+◌, ◌-◌, ◌≤◌, ◌<◌}
use native.Mathlib.Numerals.{add-one}
use native.Mathlib.Omega.{arith}
use borrow.Author.Tests.{le-leb, lt-leb, leb-true, leb-false, ne_eqb, eq-eqb, not-true, not-false}
use lib.Dec.{leb, eqb, leb-suc-suc, leb-zero}
use lib.IntN.{ℤ}
use lib.ListN.{length, take, drop, set, length-drop, length-append, length-map, length-set}
use lib.Seq.{take-length, drop-drop, take-suc-set, length-take-le}
use Rattle.byte_search.specs.Bytes.{slice, index_of, index_after}
use Rattle.sheet_lines.specs.Lines.{Decimal, line_width, Numbers, malformed, whole, numbers, decimal, on_first, words_of, with_first, numbers_of, of_width, fields}
use Rattle.sheet_lines.specs.Saturated.{saturated, saturated_decimal, saturated_numbers}

-- the words from a position on; none behind the end
abbrev pub words_from : ℕ → List ℕ → List (List ℕ)
words_from at line = cond (leb at (length line)) (words_of (drop at line)) []

split : (e : Bool) (b : ℕ) (s : List ℕ) → words_of s ≡ take (index_of 32 s) s ∷ words_from (suc (index_of 32 s)) s
    → cond e ([] ∷ words_of s) (on_first b (words_of s)) ≡ take (index_after e (index_of 32 s)) (b ∷ s) ∷ words_from (suc (index_after e (index_of 32 s))) (b ∷ s)
unfolding index_after
split true b s ih = rw (le-leb 1 (suc (length s)) (omega arith))
split false b s ih = rw (leb-suc-suc (suc (index_of 32 s)) (length s)) (ap (on_first b) ih)

first_word : (s : List ℕ) → words_of s ≡ take (index_of 32 s) s ∷ words_from (suc (index_of 32 s)) s
unfolding words_of index_of
first_word [] = refl
first_word (b ∷ s) = split (eqb b 32) b s (first_word s)

shift : (b : Bool) (k at n : ℕ) → at ≤ n → leb (at + k) n ≡ b → leb k (n - at) ≡ leb (at + k) n
shift true k at n h e = let m : k ≤ n - at = omega (arith, leb-true (at + k) n e) in le-leb k (n - at) m ∙ sym e
shift false k at n h e = let m : n - at < k = omega (arith, leb-false (at + k) n e) in lt-leb k (n - at) m ∙ sym e

shifted : (k at : ℕ) (line : List ℕ) → at ≤ length line → words_from k (drop at line) ≡ words_from (at + k) line
shifted k at line h = rw (length-drop at line, shift (leb (at + k) (length line)) k at (length line) h refl, drop-drop k at line)

-- ---- numbers behind numbers that are read

abbrev pub onto : List ℤ → Numbers → Numbers
onto zs malformed = malformed
onto zs (numbers ys) = numbers (zs ++ ys)

-- what a line has from a position on
abbrev pub rest : ℕ → List ℕ → Numbers
rest at line = saturated_numbers (numbers_of (words_from at line))

sat_first : (d : Decimal) (ns : Numbers) → saturated_numbers (with_first d ns) ≡ with_first (saturated_decimal d) (saturated_numbers ns)
unfolding saturated_numbers saturated_decimal
sat_first malformed ns = refl
sat_first (whole z) malformed = refl
sat_first (whole z) (numbers zs) = refl

sat_cond : (b : Bool) (ns : Numbers) → saturated_numbers (cond b ns malformed) ≡ cond b (saturated_numbers ns) malformed
unfolding saturated_numbers
sat_cond true ns = refl
sat_cond false ns = refl

sat_of_width : (n : ℕ) (ns : Numbers) → saturated_numbers (of_width n ns) ≡ of_width n (saturated_numbers ns)
unfolding saturated_numbers
sat_of_width n malformed = refl
sat_of_width n (numbers zs) = rw (length-map zs saturated) (sat_cond (eqb (length zs) n) (numbers zs))

-- the line's numbers are what is read of it from the start
by_width : (width : ℕ) (line : List ℕ) → of_width width (rest 0 line) ≡ saturated_numbers (fields width line)
unfolding fields
by_width width line = rw (leb-zero (length line)) (sym (sat_of_width width (numbers_of (words_of line))))

onto_none : (ns : Numbers) → ns ≡ onto [] ns
onto_none malformed = refl
onto_none (numbers zs) = refl

onto_next : (zs : List ℤ) (z : ℤ) (ns : Numbers) → onto zs (with_first (whole z) ns) ≡ onto (zs ++ z ∷ []) ns
onto_next zs z malformed = refl
onto_next zs z (numbers ys) = ap numbers (sym (append_assoc zs (z ∷ []) ys))

too_many : (zs : List ℤ) (d : Decimal) (ns : Numbers) → of_width (length zs) (onto zs (with_first d ns)) ≡ malformed
too_many zs malformed ns = refl
too_many zs (whole z) malformed = refl
too_many zs (whole z) (numbers ys) =
    let a : length (zs ++ z ∷ ys) ≡ length zs + suc (length ys) = length-append zs (z ∷ ys) in
    let n : length (zs ++ z ∷ ys) ≡ length zs → ⊥ = λ e. omega arith in
    rw (ne_eqb (length (zs ++ z ∷ ys)) (length zs) n)

-- ---- the loop over a line's words

-- j numbers are read, and the line goes on at a position
pub record Inv (line : List ℕ) (width : ℕ) (row : List ℤ) (at j : ℕ) : Type 0 where
  pub within : at ≤ length line + 1
  pub few : j ≤ width
  pub long : length row ≡ line_width
  pub read : rest 0 line ≡ onto (take j row) (rest at line)

pub begin : (line : List ℕ) (width : ℕ) (row : List ℤ) → length row ≡ line_width → Inv line width row 0 0
begin line width row l = record { within = omega arith; few = omega arith; long = l; read = onto_none (rest 0 line) }

module _ (line : List ℕ) (width : ℕ) (row : List ℤ) (at j : ℕ) (narrow : width ≤ line_width) (I : Inv line width row at j) where
  behind : length line < at → rest at line ≡ numbers []
  unfolding numbers_of saturated_numbers
  behind h = rw (lt-leb at (length line) h)

  taken : length (take j row) ≡ j
  taken = let l : j ≤ length row = omega (arith, I.few, I.long) in length-take-le j row l

  -- no word is left, and numbers are wanting
  pub short : j < width → length line < at → malformed ≡ saturated_numbers (fields width line)
  short h b =
      let n : length (take j row ++ []) ≡ width → ⊥ = λ e. omega (arith, taken, ap length (append-nil (take j row))) in
      let e : of_width width (onto (take j row) (numbers [])) ≡ malformed = rw (ne_eqb (length (take j row ++ [])) width n) in
      sym (sym (by_width width line) ∙ ap (of_width width) (I.read ∙ ap (onto (take j row)) (behind b)) ∙ e)

  -- as many numbers as there are to be, and no word is left
  pub done : width ≤ j → length line < at → numbers (take width row) ≡ saturated_numbers (fields width line)
  done h b =
      let e : j ≡ width = omega (arith, I.few) in
      let t : length (take width row) ≡ width = ap (λ n. length (take n row)) (sym e) ∙ taken ∙ e in
      let f : of_width width (numbers (take width row)) ≡ numbers (take width row) = rw (eq-eqb (length (take width row)) width t) in
      sym (sym (by_width width line) ∙ ap (of_width width) (I.read ∙ ap (onto (take j row)) (behind b) ∙ ap numbers (append-nil (take j row)) ∙ ap (λ n. numbers (take n row)) e) ∙ f)

  module _ (h : at ≤ length line) where
    -- the words from here on, the first of them with an end
    module _ (e : ℕ) (q : e ≡ at + index_of 32 (slice at (length line) line)) where
      words_at : words_from at line ≡ take (e - at) (drop at line) ∷ words_from (e + 1) line
      unfolding slice
      words_at =
          let i = index_of 32 (drop at line) in
          let q' : e ≡ at + i = rw take-length at q in
          let a : e - at ≡ i = omega arith in
          let b : e + 1 ≡ at + suc i = omega arith in
          rw (a, b, ← shifted (suc i) at line h, le-leb at (length line) h) (first_word (drop at line))

      rest_at : rest at line ≡ with_first (saturated_decimal (decimal (take (e - at) (drop at line)))) (rest (e + 1) line)
      unfolding numbers_of
      rest_at = ap (λ ws. saturated_numbers (numbers_of ws)) words_at ∙ sat_first _ _

      -- a word that is no number
      pub bad_word : malformed ≡ saturated_decimal (decimal (take (e - at) (drop at line))) → malformed ≡ saturated_numbers (fields width line)
      bad_word m =
          sym (sym (by_width width line) ∙ ap (of_width width) (I.read ∙ ap (onto (take j row)) (rest_at ∙ ap (λ d. with_first d (rest (e + 1) line)) (sym m))))

      -- a number more
      pub next : (z : ℤ) → j < width → e ≤ length line → whole z ≡ saturated_decimal (decimal (take (e - at) (drop at line))) → Inv line width (set row j z) (e + 1) (j + 1)
      next z k l m =
          let r : j < length row = omega (arith, I.long) in
          record {
            within = omega arith;
            few = omega arith;
            long = length-set row j z ∙ I.long;
            read =
                I.read
                ∙ ap (onto (take j row)) (rest_at ∙ ap (λ d. with_first d (rest (e + 1) line)) (sym m))
                ∙ onto_next (take j row) z (rest (e + 1) line)
                ∙ ap (λ t. onto t (rest (e + 1) line)) (sym (rw add-one (take-suc-set row j z r)));
          }

    -- a word too many
    pub more : width ≤ j → malformed ≡ saturated_numbers (fields width line)
    more k =
        let i = at + index_of 32 (slice at (length line) line) in
        let d = saturated_decimal (decimal (take (i - at) (drop at line))) in
        let ns = rest (i + 1) line in
        let e : j ≡ width = omega (arith, I.few) in
        let t : length (take j row) ≡ width = taken ∙ e in
        sym (sym (by_width width line)
        ∙ ap (of_width width) (I.read ∙ ap (onto (take j row)) (rest_at i refl))
        ∙ ap (λ n. of_width n (onto (take j row) (with_first d ns))) (sym t)
        ∙ too_many (take j row) d ns)

-- what a word that is read or not stands for
pub not_read : (g : Bool) (d : Decimal) (z : ℤ) → not g ≡ true → cond g (whole z) malformed ≡ d → malformed ≡ d
not_read g d z n e = rw (not-true g n) at e

pub is_read : (g : Bool) (d : Decimal) (z : ℤ) → not g ≡ false → cond g (whole z) malformed ≡ d → whole z ≡ d
is_read g d z n e = rw (not-false g n) at e
