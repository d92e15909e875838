-- A turn of each loop of `link_table::segments`, as a law of lists.
use mathlib.Core.Path.{◌≡◌, refl, sym, ap, ◌∙◌}
use mathlib.Core.Bool.{Bool, true, false}
use mathlib.Core.List.{List, [], ◌∷◌, ◌++◌, append_assoc, append-nil}
use Prim.Native.Nat.{ℕ, zero, suc, ◌+◌, ◌-◌, ◌≤◌, ◌<◌}
use native.Mathlib.Numerals.{add-one}
use native.Mathlib.Nat.{le_of_suc-le-suc, not-suc-le-zero, suc-sub-suc, sub-zero}
use native.Mathlib.Omega.{arith}
use lib.Dec.{ltb}
use lib.ListN.{length, take, drop, get_or, set, length-append, length-drop, take-append-drop}
use lib.Seq.{drop-append-le, drop-append-add, take-nil, take-suc-set, drop-set-lt, drop-cons, drop-drop, take_at, take-append-le, length-take-le, get_or-take}
use Rattle.link_forest.specs.Table.{run_length, seg_end, at_depth, post_of, insert_all}
use Rattle.link_forest.proofs.Lists.{at_yes, at_no}
use Rattle.link_table.specs.Links.{between, in_front}

-- ---- parts of an array
pub drop_take : (e n : ℕ) (a : List ℕ) → e ≤ n → drop e (take n a) ≡ between e n a
drop_take zero n a h = rw sub-zero
drop_take (suc e) zero a h = absurd (not-suc-le-zero h)
drop_take (suc e) (suc n) [] h = sym (take-nil (suc n - suc e))
drop_take (suc e) (suc n) (x ∷ a) h = rw suc-sub-suc (drop_take e n a (le_of_suc-le-suc h))

pub length_part : (i j : ℕ) (a : List ℕ) → i ≤ j → j ≤ length a → length (between i j a) ≡ j - i
length_part i j a h k = length-take-le (j - i) (drop i a) (rw length-drop (omega arith))

pub part_none : (e : ℕ) (a : List ℕ) → between e e a ≡ []
part_none e a = let z : e - e ≡ 0 = omega arith in rw z

pub part_cons : (i e : ℕ) (a : List ℕ) → i < e → e ≤ length a → between i e a ≡ get_or a i 0 ∷ between (i + 1) e a
part_cons i e a h k =
    let lt : i < length a = omega arith in
    let s : e - i ≡ suc (e - suc i) = omega arith in
    rw (drop-cons a i 0 lt, s, add-one)

-- ---- children
module _ (k i e : ℕ) (xs ds : List ℕ) (lx : e ≤ length xs) (ld : e ≤ length ds) (h : i < e) where
  open_level : at_depth k (between i e xs) (between i e ds) ≡ at_depth k (get_or xs i 0 ∷ between (i + 1) e xs) (get_or ds i 0 ∷ between (i + 1) e ds)
  open_level = rw (part_cons i e xs h lx, part_cons i e ds h ld)

  -- the slot goes behind those that are there
  pub level_put : (out g : List ℕ) (m : ℕ) → m < length out → get_or ds i 0 ≡ k → take m out ++ at_depth k (between i e xs) (between i e ds) ≡ g
      → take (m + 1) (set out m (get_or xs i 0)) ++ at_depth k (between (i + 1) e xs) (between (i + 1) e ds) ≡ g
  level_put out g m l q inv =
      let w = open_level ∙ at_yes k (get_or xs i 0) (get_or ds i 0) (between (i + 1) e xs) (between (i + 1) e ds) q in
      rw (add-one m, take-suc-set out m (get_or xs i 0) l) (append_assoc (take m out) (get_or xs i 0 ∷ []) (at_depth k (between (i + 1) e xs) (between (i + 1) e ds)) ∙ rw w at inv)

  pub level_pass : (get_or ds i 0 ≡ k → ⊥) → at_depth k (between i e xs) (between i e ds) ≡ at_depth k (between (i + 1) e xs) (between (i + 1) e ds)
  level_pass q = open_level ∙ at_no k (get_or xs i 0) (get_or ds i 0) (between (i + 1) e xs) (between (i + 1) e ds) q

pub level_rest : (m x : ℕ) (out out₀ : List ℕ) → drop m out ≡ drop m out₀ → drop (m + 1) (set out m x) ≡ drop (m + 1) out₀
level_rest m x out out₀ inv =
    let lt : m < m + 1 = omega arith in
    rw (drop-set-lt (m + 1) out m x lt, ← drop-drop 1 m out, ← drop-drop 1 m out₀, inv)

pub level_end : (k e m : ℕ) (xs ds out out₀ g : List ℕ) → m ≤ length out → take m out ++ at_depth k (between e e xs) (between e e ds) ≡ g → drop m out ≡ drop m out₀
    → (out ≡ in_front g out₀) × (m ≡ length g)
unfolding at_depth
level_end k e m xs ds out out₀ g h is rest =
    let w : take m out ≡ g = simp (part_none e xs, append-nil) at is in
    let l : length g ≡ m = rw (← w) (length-take-le m out h) in
    (sym (take-append-drop m out) ∙ rw (w, rest, l), sym l)

-- ---- post_order
pub run_short : (d : ℕ) (ds : List ℕ) → run_length d ds ≤ length ds
unfolding run_length
run_short d [] = omega arith
run_short d (x ∷ ds) = go (ltb d x) (run_short d ds)
  where
    go : (b : Bool) → run_length d ds ≤ length ds → elim b [ true ↦ suc (run_length d ds) | false ↦ 0 ] ≤ suc (length ds)
    go true h = omega arith
    go false h = omega arith

pub length_post : (xs ds : List ℕ) → length xs ≡ length ds → length (post_of xs ds) ≡ length xs
unfolding post_of
length_post [] ds h = refl
length_post (x ∷ xs) [] h = absurd (omega arith)
length_post (x ∷ xs) (d ∷ ds) h =
    let l = length_post xs ds (omega arith) in
    let r : run_length d ds ≤ length (post_of xs ds) = omega (arith, run_short d ds) in
    length-append (take (run_length d ds) (post_of xs ds)) (x ∷ drop (run_length d ds) (post_of xs ds))
    ∙ omega (arith, length-take-le (run_length d ds) (post_of xs ds) r, length-drop (run_length d ds) (post_of xs ds))

inserted_front : (p out : List ℕ) (m r x : ℕ) → length p ≡ m → r ≤ m → insert_all m r (x ∷ []) (in_front p out) ≡ in_front (take r p ++ (x ∷ drop r p)) out
inserted_front p out m r x l h =
    let rl : r ≤ length p = omega arith in
    let t1 : take r (in_front p out) ≡ take r p = take-append-le r p (drop (length p) out) rl in
    let t2 : take (m - r) (drop r (in_front p out)) ≡ drop r p =
    rw (drop-append-le r p (drop (length p) out) rl) (take_at (drop r p) (drop (length p) out) (m - r) (rw length-drop (omega arith))) in
    let w : m + 1 ≡ length p + 1 = omega arith in
    let t3 : drop (m + 1) (in_front p out) ≡ drop (m + 1) out =
    ap (λ (k : ℕ). drop k (in_front p out)) w ∙ drop-append-add p (drop (length p) out) 1 ∙ drop-drop 1 (length p) out ∙ ap (λ (k : ℕ). drop k out) (sym w) in
    let ln : length (take r p ++ (x ∷ drop r p)) ≡ m + 1 =
    length-append (take r p) (x ∷ drop r p) ∙ omega (arith, length-take-le r p rl, length-drop r p) in
    rw (t1, t2, t3, ln) (simp append_assoc)

module _ (e i q : ℕ) (xs ds out : List ℕ) (pos : 0 < i) (le : i ≤ e) (lx : e ≤ length xs) (ld : e ≤ length ds)
    (is : q ≡ seg_end (take e ds) (i - 1)) (within : q ≤ e) where
  pub post_turn : insert_all (e - i) (q - (i - 1) - 1) (get_or xs (i - 1) 0 ∷ []) (in_front (post_of (between i e xs) (between i e ds)) out)
      ≡ in_front (post_of (between (i - 1) e xs) (between (i - 1) e ds)) out
  unfolding post_of seg_end
  post_turn =
      let v : i - 1 + 1 ≡ i = omega arith in
      let lt : i - 1 < e = omega arith in
      let r = run_length (get_or ds (i - 1) 0) (between i e ds) in
      let w : q - (i - 1) - 1 ≡ run_length (get_or ds (i - 1) 0) (between i e ds) =
      ap (λ (k : ℕ). k - (i - 1) - 1) is ∙ rw (get_or-take e ds (i - 1) 0 lt, v, drop_take i e ds le) (omega arith) in
      let lp : length (post_of (between i e xs) (between i e ds)) ≡ e - i =
      length_post (between i e xs) (between i e ds) (length_part i e xs le lx ∙ sym (length_part i e ds le ld)) ∙ length_part i e xs le lx in
      rw (part_cons (i - 1) e xs lt lx, part_cons (i - 1) e ds lt ld, v, w)
      (inserted_front (post_of (between i e xs) (between i e ds)) out (e - i) (run_length (get_or ds (i - 1) 0) (between i e ds)) (get_or xs (i - 1) 0) lp (omega (arith, w)))

pub post_none : (e : ℕ) (xs ds out : List ℕ) → out ≡ in_front (post_of (between e e xs) (between e e ds)) out
unfolding post_of
post_none e xs ds out = rw (part_none e xs)
