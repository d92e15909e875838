-- Whole arrays of which the first n places are a table: what a change leaves in front, and how long the array stays.
use mathlib.Core.Path.{◌≡◌}
use mathlib.Core.List.{List, ◌++◌, append_assoc}
use Prim.Native.Nat.{ℕ, ◌+◌, ◌-◌, ◌≤◌}
use native.Mathlib.Omega.{arith}
use lib.ListN.{length, take, drop, length-append, length-drop}
use lib.Seq.{take_at, take-take, length-take-le}
use Rattle.link_forest.specs.Table.{insert_all, cut_out}
use Rattle.link_forest.proofs.Lists.{drop_take}

length_middle : (k j : ℕ) (a : List ℕ) → j + k ≤ length a → length (take k (drop j a)) ≡ k
length_middle k j a h = length-take-le k (drop j a) (rw length-drop (omega arith))

module _ (n e : ℕ) (ys a : List ℕ) (within : e ≤ n) (fits : n ≤ length a) where
  inserted : length (take e a ++ (ys ++ take (n - e) (drop e a))) ≡ n + length ys
  inserted =
      rw (length-append (take e a) (ys ++ take (n - e) (drop e a)), length-append ys (take (n - e) (drop e a)))
      (omega (arith, length-take-le e a (omega arith), length_middle (n - e) e a (omega arith)))

  regroup : insert_all n e ys a ≡ (take e a ++ (ys ++ take (n - e) (drop e a))) ++ drop (n + length ys) a
  regroup = simp append_assoc

  pub take_insert_all : take (n + length ys) (insert_all n e ys a) ≡ take e (take n a) ++ (ys ++ drop e (take n a))
  take_insert_all =
      rw (regroup, take-take e n a within, drop_take e n a within)
      (take_at (take e a ++ (ys ++ take (n - e) (drop e a))) (drop (n + length ys) a) (n + length ys) inserted)

  pub length_insert_all : n + length ys ≤ length a → length (insert_all n e ys a) ≡ length a
  length_insert_all room =
      rw (regroup, length-append (take e a ++ (ys ++ take (n - e) (drop e a))) (drop (n + length ys) a))
      (omega (arith, inserted, length-drop (n + length ys) a))

module _ (n i j : ℕ) (a : List ℕ) (order : i ≤ j) (within : j ≤ n) (fits : n ≤ length a) where
  cut : length (take i a ++ take (n - j) (drop j a)) ≡ i + (n - j)
  cut =
      rw (length-append (take i a) (take (n - j) (drop j a)))
      (omega (arith, length-take-le i a (omega arith), length_middle (n - j) j a (omega arith)))

  regroup_cut : cut_out n i j a ≡ (take i a ++ take (n - j) (drop j a)) ++ drop (i + (n - j)) a
  regroup_cut = simp append_assoc

  pub take_cut_out : take (i + (n - j)) (cut_out n i j a) ≡ take i (take n a) ++ drop j (take n a)
  take_cut_out =
      let w : i ≤ n = omega arith in
      rw (regroup_cut, take-take i n a w, drop_take j n a within) (take_at (take i a ++ take (n - j) (drop j a)) (drop (i + (n - j)) a) (i + (n - j)) cut)

  pub length_cut_out : length (cut_out n i j a) ≡ length a
  length_cut_out =
      rw (regroup_cut, length-append (take i a ++ take (n - j) (drop j a)) (drop (i + (n - j)) a))
      (omega (arith, cut, length-drop (i + (n - j)) a))
