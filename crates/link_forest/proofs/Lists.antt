-- The table's functions on lists: their clauses as equations, and on one list behind another.
use mathlib.Core.Path.{◌≡◌, refl, sym, ◌∙◌}
use mathlib.Core.Bool.{true, false}
use mathlib.Core.List.{List, [], ◌∷◌, ◌++◌, append_assoc, reverse_aux}
use Prim.Native.Nat.{ℕ, zero, suc, ◌+◌, ◌-◌, ◌≤◌, ◌<◌}
use native.Mathlib.Nat.{le_of_suc-le-suc, not-suc-le-zero, suc-sub-suc, sub-zero}
use native.Mathlib.Omega.{arith}
use native.Mathlib.Decide.{dec_le, ℕ_discrete}
use borrow.Author.Tests.{lt-ltb, le-ltb, eq-eqb, ne_eqb}
use lib.Dec.{ltb, eqb}
use lib.ListN.{length, take, drop, length-append}
use lib.Seq.{append_snoc, take_at, drop_at, take-nil, take-take}
use Rattle.counting.specs.Times.{tally, times}
use Rattle.counting.proofs.Counting.{hit, miss}
use Rattle.link_forest.specs.Table.{run_length, index_of, last_above, less_deep, at_depth}

-- ---- run
pub run_more : (d x : ℕ) (xs : List ℕ) → d < x → run_length d (x ∷ xs) ≡ suc (run_length d xs)
unfolding run_length
run_more d x xs h = rw (run_length, lt-ltb d x h)

pub run_none : (d x : ℕ) (xs : List ℕ) → x ≤ d → run_length d (x ∷ xs) ≡ 0
unfolding run_length
run_none d x xs h = rw (run_length, le-ltb d x h)

pub run_append : (d : ℕ) (xs ys : List ℕ) → run_length d xs ≡ 0 → run_length d ys ≡ 0 → run_length d (xs ++ ys) ≡ 0
unfolding run_length
run_append d [] ys p q = q
run_append d (x ∷ xs) ys p q =
    elim (dec_le x d) [
      | yes l ↦ run_none d x (xs ++ ys) l
      | no n ↦ let z : suc (run_length d xs) ≡ 0 = sym (run_more d x xs (omega arith)) ∙ p in absurd (omega arith)
    ]

-- what is not deeper than d is not deeper than more
pub run_higher : (d e : ℕ) (xs : List ℕ) → d ≤ e → run_length d xs ≡ 0 → run_length e xs ≡ 0
unfolding run_length
run_higher d e [] h z = refl
run_higher d e (x ∷ xs) h z =
    elim (dec_le x d) [
      | yes l ↦ run_none e x xs (omega arith)
      | no n ↦ let z : suc (run_length d xs) ≡ 0 = sym (run_more d x xs (omega arith)) ∙ z in absurd (omega arith)
    ]

-- ---- index_of
pub index_here : (x : ℕ) (ys : List ℕ) → index_of x (x ∷ ys) ≡ 0
unfolding index_of
index_here x ys = rw (index_of, eq-eqb x x refl)

pub index_there : (x y : ℕ) (ys : List ℕ) → (y ≡ x → ⊥) → index_of x (y ∷ ys) ≡ suc (index_of x ys)
unfolding index_of
index_there x y ys n = rw (index_of, ne_eqb y x n)

-- x is not in the list
pub not_there : (x y : ℕ) (ys : List ℕ) → times x (y ∷ ys) ≡ 0 → (y ≡ x → ⊥) × (times x ys ≡ 0)
unfolding times
not_there x y ys z = (λ e. let k : tally (eqb x y) ≡ 1 = rw e (hit x) in omega arith, omega arith)

-- x is not in the first list, or it is
pub index_past : (x : ℕ) (xs ys : List ℕ) → times x xs ≡ 0 → index_of x (xs ++ ys) ≡ length xs + index_of x ys
index_past x [] ys z = omega arith
index_past x (y ∷ xs) ys z = let n = not_there x y xs z in rw (index_there x y (xs ++ ys) n.0, index_past x xs ys n.1) (omega arith)

pub index_within : (x : ℕ) (xs ys : List ℕ) → 1 ≤ times x xs → index_of x (xs ++ ys) < length xs
unfolding times
index_within x [] ys m = absurd (omega arith)
index_within x (y ∷ xs) ys m =
    elim (ℕ_discrete y x) [
      | yes e ↦ rw (e, index_here x (xs ++ ys)) (omega arith)
      | no n ↦ rw (index_there x y (xs ++ ys) n) (omega (arith, index_within x xs ys (omega (arith, miss x y (λ e. n (sym e))))))
    ]

-- ---- last_above
pub last_less : (k a x d : ℕ) (xs ds : List ℕ) → d < k → last_above k a (x ∷ xs) (d ∷ ds) ≡ last_above k x xs ds
unfolding last_above
last_less k a x d xs ds h = rw (last_above, lt-ltb d k h)

pub last_more : (k a x d : ℕ) (xs ds : List ℕ) → k ≤ d → last_above k a (x ∷ xs) (d ∷ ds) ≡ last_above k a xs ds
unfolding last_above
last_more k a x d xs ds h = rw (last_above, le-ltb d k h)

pub less_deep_lem : (d x e : ℕ) (xs es : List ℕ) → e < d → less_deep d (x ∷ xs) (e ∷ es) ≡ x ∷ less_deep e xs es
unfolding less_deep
less_deep_lem d x e xs es h = rw (less_deep, lt-ltb e d h)

pub not_less_deep : (d x e : ℕ) (xs es : List ℕ) → d ≤ e → less_deep d (x ∷ xs) (e ∷ es) ≡ less_deep d xs es
unfolding less_deep
not_less_deep d x e xs es h = rw (less_deep, le-ltb e d h)

pub nothing_above : (d : ℕ) → less_deep d [] [] ≡ []
unfolding less_deep
nothing_above d = refl

-- turned round, behind what stood before
pub turned_append : (xs ys zs : List ℕ) → reverse_aux (xs ++ ys) zs ≡ reverse_aux ys (reverse_aux xs zs)
turned_append [] ys zs = refl
turned_append (x ∷ xs) ys zs = turned_append xs ys (x ∷ zs)

pub last_append : (k a : ℕ) (xs ds ys es : List ℕ) → length xs ≡ length ds → last_above k a (xs ++ ys) (ds ++ es) ≡ last_above k (last_above k a xs ds) ys es
unfolding last_above
last_append k a [] [] ys es l = refl
last_append k a [] (d ∷ ds) ys es l = absurd (omega arith)
last_append k a (x ∷ xs) [] ys es l = absurd (omega arith)
last_append k a (x ∷ xs) (d ∷ ds) ys es l = last_append k (elim (ltb d k) [ true ↦ x | false ↦ a ]) xs ds ys es (omega arith)

-- ---- at_depth
pub at_yes : (k x d : ℕ) (xs ds : List ℕ) → d ≡ k → at_depth k (x ∷ xs) (d ∷ ds) ≡ x ∷ at_depth k xs ds
unfolding at_depth
at_yes k x d xs ds e = rw (at_depth, eq-eqb d k e)

pub at_no : (k x d : ℕ) (xs ds : List ℕ) → (d ≡ k → ⊥) → at_depth k (x ∷ xs) (d ∷ ds) ≡ at_depth k xs ds
unfolding at_depth
at_no k x d xs ds e = rw (at_depth, ne_eqb d k e)

-- ---- parts of a list
pub drop_take : (e n : ℕ) (a : List ℕ) → e ≤ n → drop e (take n a) ≡ take (n - e) (drop e a)
drop_take zero n a h = rw sub-zero
drop_take (suc e) zero a h = absurd (not-suc-le-zero h)
drop_take (suc e) (suc n) [] h = sym (take-nil (suc n - suc e))
drop_take (suc e) (suc n) (x ∷ a) h = rw suc-sub-suc (drop_take e n a (le_of_suc-le-suc h))

-- a part that lies within the first n
pub middle_take : (i e n : ℕ) (a : List ℕ) → i ≤ e → e ≤ n → take (e - i) (drop i (take n a)) ≡ take (e - i) (drop i a)
middle_take i e n a h k = let w : e - i ≤ n - i = omega arith in rw (drop_take i n a (omega arith)) (take-take (e - i) (n - i) (drop i a) w)

pub drop_past : (b : List ℕ) (x : ℕ) (r : List ℕ) (i : ℕ) → i ≡ length b → drop (i + 1) (b ++ (x ∷ r)) ≡ r
drop_past b x r i e = rw (← append_snoc b x r) (drop_at (b ++ (x ∷ [])) r (i + 1) (rw (length-append, e)))

-- a list in three parts, the second from i up to e
pub record Three (xs b m a : List ℕ) (i e : ℕ) : Type 0 where
  pub is : xs ≡ b ++ (m ++ a)
  pub from : i ≡ length b
  pub to : e ≡ length b + length m

module _ {xs b m a : List ℕ} {i e : ℕ} (T : Three xs b m a i e) where
  two : length (b ++ m) ≡ e
  two = simp length-append (sym T.to)

  pub three_insert : (ys : List ℕ) → take e xs ++ (ys ++ drop e xs) ≡ b ++ (m ++ (ys ++ a))
  three_insert ys = rw (T.is, ← append_assoc b m a, take_at (b ++ m) a e two, drop_at (b ++ m) a e two) (append_assoc b m (ys ++ a))

  pub three_before : take i xs ≡ b
  three_before = rw T.is (take_at b (m ++ a) i (sym T.from))

  pub three_after : drop e xs ≡ a
  three_after = rw (T.is, ← append_assoc b m a) (drop_at (b ++ m) a e two)

  pub three_cut : take i xs ++ drop e xs ≡ b ++ a
  three_cut = rw (three_before, three_after)

  pub three_part : take (e - i) (drop i xs) ≡ m
  three_part =
      let l : length m ≡ e - i = omega (arith, T.from, T.to) in
      rw (T.is, drop_at b (m ++ a) i (sym T.from)) (take_at m a (e - i) l)

  -- x is found in the second part
  pub three_within : (x : ℕ) → i ≤ index_of x xs → index_of x xs < e → 1 ≤ times x m
  three_within x low high =
      elim (dec_le 1 (times x b)) [
        | yes n ↦ let w : index_of x xs < length b = rw T.is (index_within x b (m ++ a) n) in absurd (omega (arith, T.from))
        | no n ↦
            elim (dec_le 1 (times x m)) [
              | yes k ↦ k
              | no k ↦
                  let w : index_of x xs ≡ length b + (length m + index_of x a) =
                  rw (T.is, index_past x b (m ++ a) (omega arith), index_past x m a (omega arith)) in
                  absurd (omega (arith, T.to))
            ]
      ]

  pub three_found : (x : ℕ) → times x b ≡ 0 → 1 ≤ times x m → (i ≤ index_of x xs) × (index_of x xs < e)
  three_found x z n =
      let w : index_of x xs ≡ length b + index_of x (m ++ a) = rw T.is (index_past x b (m ++ a) z) in
      let k = index_within x m a n in
      (omega (arith, T.from), omega (arith, T.to))
