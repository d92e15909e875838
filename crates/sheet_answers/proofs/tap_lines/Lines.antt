-- The lines of taps one behind another. Assumes nothing.
use Prim.Native.Nat.{ℕ, suc, ◌+◌, ◌*◌, ◌≤◌, ◌<◌}
use mathlib.Core.Path.{◌≡◌, sym, refl, ap, ◌∙◌, subst}
use mathlib.Core.List.{List, [], ◌∷◌, ◌++◌, append_assoc, append-nil}
use native.Mathlib.Omega.{arith}
use native.Mathlib.Numerals.{add-one}
use lib.ListN.{length, take, get_or, length-append}
use lib.Seq.{take-suc, length-take-le}
use Rattle.tree_state.specs.declared.Tree.{Tree}
use Rattle.sheet_format.specs.declared.TapLine.{TapLine}
use Rattle.sheet_calls.specs.Answers.{line_of}
use Rattle.sheet_answers.specs.declared.taps.Answered.{Answered}
use Rattle.sheet_answers.specs.taps.Taps.{answered}
use Rattle.sheet_answers.specs.text.Text.{Stored}
use Rattle.sheet_answers.specs.tap_lines.Lines.{found, tap_line, tap_text}
use Rattle.sheet_answers.proofs.text.Digits.{then_stored}

text_more : (t : Tree) (k : ℕ) (taps : List TapLine) (p : TapLine) → tap_text t k (taps ++ p ∷ []) ≡ tap_text t k taps ++ tap_line t (k + length taps) p
unfolding tap_text
text_more t k [] p = append-nil (tap_line t k p) ∙ ap (λ (n : ℕ). tap_line t n p) (let e : k ≡ k + 0 = omega arith in e)
text_more t k (q ∷ taps) p =
    let e : suc k + length taps ≡ k + suc (length taps) = omega arith in
    ap (λ (l : List ℕ). tap_line t k q ++ l) (text_more t (suc k) taps p ∙ ap (λ (n : ℕ). tap_text t (suc k) taps ++ tap_line t n p) e)
    ∙ sym (append_assoc (tap_line t k q) (tap_text t (suc k) taps) (tap_line t (k + suc (length taps)) p))

-- of the first i taps, and one more
pub next_text : (t : Tree) (taps : List TapLine) (i : ℕ) (d : TapLine) → i < length taps
    → tap_text t 1 (take (i + 1) taps) ≡ tap_text t 1 (take i taps) ++ tap_line t (i + 1) (get_or taps i d)
next_text t taps i d h =
    let e : 1 + length (take i taps) ≡ i + 1 = omega (arith, length-take-le i taps (omega arith)) in
    ap (λ (k : ℕ). tap_text t 1 (take k taps)) (add-one i)
    ∙ ap (tap_text t 1) (take-suc taps i d h)
    ∙ text_more t 1 (take i taps) (get_or taps i d)
    ∙ ap (λ (k : ℕ). tap_text t 1 (take i taps) ++ tap_line t k (get_or taps i d)) e

pub no_text : (t : Tree) (taps : List TapLine) → tap_text t 1 (take 0 taps) ≡ []
unfolding tap_text
no_text t taps = refl

-- a line more is stored
module _ (t : Tree) (taps : List TapLine) (i : ℕ) (d : TapLine) (h : i < length taps) where
  abbrev before : List ℕ
  before = tap_text t 1 (take i taps)

  abbrev after : List ℕ
  after = tap_text t 1 (take (i + 1) taps)

  pub one_more : (old room new : List ℕ) (at next end : ℕ) (a : Answered) → a ≡ answered (found t (get_or taps i d)) → length before ≤ 15 * i
      → Stored old room at next before → length (line_of ((i + 1) ∷ a.place ∷ a.depth ∷ [])) ≤ 15 → Stored room new next end (line_of ((i + 1) ∷ a.place ∷ a.depth ∷ []))
      → (length after ≤ 15 * (i + 1)) × Stored old new at end after
  one_more old room new at next end a e short S brief T =
      let said = λ (x : Answered). line_of ((i + 1) ∷ x.place ∷ x.depth ∷ []) in
      let line = tap_line t (i + 1) (get_or taps i d) in
      let same : said a ≡ line = ap said e in
      let all : after ≡ before ++ line = next_text t taps i d h in
      let b : length (before ++ line) ≡ length before + length line = length-append before line in (
        omega (arith, ap length all, b, ap length same, brief, short),
        subst (Stored old new at end) (sym all)
            (then_stored old room new at next end before line S (subst (Stored room new next end) same T)),
      )
