-- A good sheet's taps, by the tree as by the plan; the text of what the bytes yield, and how long it is. Assumes nothing.
use Rattle.std.specs.Prelude.{All}
use Prim.Native.Nat.{ℕ, suc, ◌+◌, ◌*◌, ◌≤◌, ◌<◌}
use mathlib.Core.Path.{◌≡◌, refl, sym, ap, ◌∙◌, subst}
use mathlib.Core.Bool.{true, false}
use mathlib.Core.List.{List, [], ◌∷◌, ◌++◌, map}
use native.Mathlib.Omega.{arith}
use lib.IntN.{ℤ}
use lib.ListN.{length, get_or, drop, length-append}
use lib.Seq.{sets-eq}
use Rattle.std.proofs.lemmas.List.{get_or-map, length-map}
use Rattle.plan.specs.Afresh.{Tap}
use Rattle.tree_types.specs.declared.NodeFlags.{NodeFlags}
use Rattle.tree_types.specs.Local.{known}
use Rattle.tree_state.specs.declared.Tree.{Tree}
use Rattle.tree_state.specs.Tree.{number_in, number_of}
use Rattle.tree_verdicts.specs.Held.{Asked}
use Rattle.tree_verdicts.proofs.requests.Accepted.{accepted}
use Rattle.sheet_format.specs.Lines.{items}
use Rattle.sheet_format.specs.declared.TapLine.{TapLine}
use Rattle.sheet_format.specs.Sheet.{Sheet, Read, refused, sheet, read_sheet, tap_of, tap_in_range, tap_rule}
use Rattle.sheet_format.specs.Told.{tap_numbers}
use Rattle.sheet_calls.specs.Answers.{plan_of, tap_on, asked_of, point_of, place_hit, depth_hit, line_of, tap_lines, sheet_text, read_text, bytes, output}
use Rattle.sheet_calls.specs.Good.{Good, Passes}
use Rattle.sheet_calls.proofs.Finite.{tap_ranges, asked_known}
use Rattle.sheet_calls.proofs.Inserts.{passes_at}
use Rattle.sheet_calls.proofs.Accepted.{good_sheet}
use Rattle.sheet_calls.proofs.Bounds.{tap_short, refusal_small}
use Rattle.sheet_laws.specs.Built.{tree_of}
use Rattle.sheet_laws.proofs.Tree.{tap_accepted, tap_found}
use Rattle.sheet_tree.specs.Trees as trees
use Rattle.sheet_tree.specs.Trees.{Yield, tree_on}
use Rattle.sheet_tree.specs.declared.SheetTree.{SheetTree}
use Rattle.sheet_tree.proofs.Trees.{whole_tree}
use Rattle.sheet_answers.specs.text.Text.{Stored}
use Rattle.sheet_answers.proofs.text.Digits.{short_line, short_count, pair_short}
use Rattle.sheet_answers.specs.tap_lines.Lines.{found, tap_text, Ready}
use Rattle.sheet_answers.specs.Answers.{taps_text, written_if, roomy}

-- ---- a good sheet's taps

found_same : (s : Sheet) (p : TapLine) → tap_in_range p ≡ true → found (tree_of s) p ≡ tap_on (plan_of s) p
unfolding tap_on
found_same s p h = tap_found s (asked_of p) (asked_known p (tap_ranges p h)) (point_of p)

text_same : (s : Sheet) (k : ℕ) (before : List (List ℤ)) (taps : List TapLine) → Passes tap_rule before (map tap_numbers taps)
    → tap_text (tree_of s) k taps ≡ tap_lines (plan_of s) k (map tap_numbers taps)
unfolding tap_text tap_lines Passes tap_of
text_same s k before [] P = refl
text_same s k before (p ∷ taps) P =
    ap (λ (h : Tap). line_of (k ∷ place_hit h ∷ depth_hit h ∷ []) ++ tap_text (tree_of s) (suc k) taps) (found_same s p P.0.ranged)
    ∙ ap (λ (l : List ℕ). line_of (k ∷ place_hit (tap_on (plan_of s) p) ∷ depth_hit (tap_on (plan_of s) p) ∷ []) ++ l) (text_same s (suc k) (before ++ tap_numbers p ∷ []) taps P.1)

asked_after : (s : Sheet) (asked : NodeFlags) → known asked ≡ true → Asked (tree_of s)
asked_after s asked h =
    let a = accepted (tree_of s) (whole_tree s) asked 512 (tap_accepted s asked h) in
    record { held = a.held; no_need = a.no_need }

taps_ready : (s : Sheet) → Good s → (taps : List TapLine) → map tap_numbers taps ≡ s.taps → All (Ready (tree_of s)) taps
unfolding tap_of
taps_ready s g taps e i d h =
    let p = get_or taps i d in
    let f = passes_at tap_rule [] s.taps g.taps i (omega (arith, h, ap (length {A = List ℤ}) e, length-map taps tap_numbers)) in
    let row : get_or s.taps i [] ≡ tap_numbers p = ap (λ (l : List (List ℤ)). get_or l i []) (sym e) ∙ get_or-map tap_numbers taps i d [] h in
    let r : tap_in_range p ≡ true = subst (λ (z : List ℤ). tap_in_range (tap_of z) ≡ true) row f.ranged in
    let b = tap_short s g p in
    let q = found_same s p r in
    record {
      ranged = r;
      asked = asked_after s (asked_of p) (asked_known p (tap_ranges p r));
      place = subst (λ (a : Tap). place_hit a ≤ 256) (sym q) b.0;
      depth = subst (λ (a : Tap). depth_hit a ≤ 256) (sym q) b.1;
    }

-- ---- what the bytes yield

sheet_said : (s : Sheet) → Good s → (t : SheetTree) → t.tree ≡ tree_of s → map tap_numbers (items t.taps) ≡ s.taps
    → All (Ready t.tree) (items t.taps) × (taps_text t ≡ sheet_text s)
unfolding sheet_text
sheet_said s g t e f =
    let taps = items t.taps in
    let P : Passes tap_rule [] (map tap_numbers taps) = subst (Passes tap_rule []) (sym f) g.taps in
    let n : length taps ≡ length s.taps = sym (length-map taps tap_numbers) ∙ ap (length {A = List ℤ}) f in (
      subst (λ (u : Tree). All (Ready u) taps) (sym e) (taps_ready s g taps f),
      ap (λ (u : Tree). line_of (length taps ∷ []) ++ tap_text u 1 taps) e
          ∙ ap (λ (l : List ℕ). line_of (length taps ∷ []) ++ l) (text_same s 1 [] taps P)
          ∙ ap (λ (k : ℕ). line_of (k ∷ []) ++ tap_lines (plan_of s) 1 (map tap_numbers taps)) n
          ∙ ap (λ (rows : List (List ℤ)). line_of (length s.taps ∷ []) ++ tap_lines (plan_of s) 1 rows) f,
    )

abbrev built_tree : Yield → Tree → Tree
built_tree (trees.refused n l) d = d
built_tree (trees.built t taps) d = t

abbrev built_taps : Yield → List (List ℤ)
built_taps (trees.refused n l) = []
built_taps (trees.built t taps) = taps

abbrev is_refused : Yield → ℕ
is_refused (trees.refused n l) = 1
is_refused (trees.built t taps) = 0

abbrev refused_as : Yield → ℕ × ℕ
refused_as (trees.refused n l) = (n, l)
refused_as (trees.built t taps) = (0, 0)

module _ (b : List ℕ) where
  -- the sheet's tree, with its taps
  pub sheet_answered : (t : SheetTree) → trees.built t.tree (map tap_numbers (items t.taps)) ≡ tree_on (read_sheet b) → All (Ready t.tree) (items t.taps) × (taps_text t ≡ output b)
  unfolding output
  sheet_answered t e = go (read_sheet b) refl
    where
      go : (r : Read) → read_sheet b ≡ r → All (Ready t.tree) (items t.taps) × (taps_text t ≡ read_text (read_sheet b))
      go (refused n l) f = let z : 0 ≡ 1 = ap is_refused (e ∙ ap tree_on f) in absurd (omega (arith, z))
      go (sheet s) f =
          let h = e ∙ ap tree_on f in
          let a = sheet_said s (good_sheet b s f) t (ap (λ (y : Yield). built_tree y t.tree) h) (ap built_taps h) in
          (a.0, a.1 ∙ ap read_text (sym f))

  -- a refusal's line
  pub refusal_answered : (n l : ℕ) → trees.refused n l ≡ tree_on (read_sheet b) → (l < 10000) × (read_text (refused n l) ≡ output b)
  unfolding output
  refusal_answered n l e = go (read_sheet b) refl
    where
      go : (r : Read) → read_sheet b ≡ r → (l < 10000) × (read_text (refused n l) ≡ read_text (read_sheet b))
      go (sheet s) f = let z : 1 ≡ 0 = ap is_refused (e ∙ ap tree_on f) in absurd (omega (arith, z))
      go (refused m k) f =
          let h = e ∙ ap tree_on f in
          let p : n ≡ m = ap (λ (y : Yield). (refused_as y).0) h in
          let q : l ≡ k = ap (λ (y : Yield). (refused_as y).1) h in
          (omega (arith, q, (refusal_small b m k f).line), rw (p, q) (ap read_text (sym f)))

-- ---- the whole text stands in front of the room

pub in_front_lem : (old new : List ℕ) (r : ℕ) (text : List ℕ) → Stored old new 0 r text → length text ≤ length old → new ≡ text ++ drop (length text) old
in_front_lem old new r text S h = S.room ∙ sets-eq text old 0 (omega arith) ∙ ap (λ (n : ℕ). text ++ drop n old) (let e : 0 + length text ≡ length text = omega arith in e)

-- ---- the text is at most 16,384 bytes long

tap_lines_short : (s : Sheet) → Good s → (k : ℕ) (rows : List (List ℤ)) → k + length rows ≤ 9999 → length (tap_lines (plan_of s) k rows) ≤ 15 * length rows
unfolding tap_lines
tap_lines_short s g k [] h = omega arith
tap_lines_short s g k (zs ∷ rows) h =
    let hit = tap_on (plan_of s) (tap_of zs) in
    let b = tap_short s g (tap_of zs) in
    let line = line_of (k ∷ place_hit hit ∷ depth_hit hit ∷ []) in
    let rest = tap_lines (plan_of s) (suc k) rows in
    let e : length (line ++ rest) ≡ length line + length rest = length-append line rest in
    omega (arith, e, short_line k (place_hit hit) (depth_hit hit) (omega arith) (omega (arith, b.0)) (omega (arith, b.1)), tap_lines_short s g (suc k) rows (omega arith))

sheet_short : (s : Sheet) → Good s → length (sheet_text s) ≤ 16384
unfolding sheet_text
sheet_short s g =
    let first = line_of (length s.taps ∷ []) in
    let rest = tap_lines (plan_of s) 1 s.taps in
    let e : length (first ++ rest) ≡ length first + length rest = length-append first rest in
    omega (arith, e, g.few_taps, short_count (length s.taps) (omega (arith, g.few_taps)), tap_lines_short s g 1 s.taps (omega (arith, g.few_taps)))

pub output_short : (b : List ℕ) → length (output b) ≤ 16384
unfolding output
output_short b = go (read_sheet b) refl
  where
    go : (r : Read) → read_sheet b ≡ r → length (read_text r) ≤ 16384
    go (sheet s) e = sheet_short s (good_sheet b s e)
    go (refused n l) e =
        let z = refusal_small b n l e in
        let f : length (bytes "refused " ++ line_of (n ∷ l ∷ [])) ≡ 8 + length (line_of (n ∷ l ∷ [])) = length-append (bytes "refused ") (line_of (n ∷ l ∷ [])) in
        omega (arith, f, pair_short n l (omega (arith, z.number)) (omega (arith, z.line)))

-- room that is too short is 8
pub short_8 : (room : List ℕ) (n : ℕ) → roomy room ≡ false → number_in (written_if (roomy room) n) ≡ 8
unfolding number_in number_of
short_8 room n e = rw e
