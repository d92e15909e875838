-- A turn of each loop, as a law of lists.
use mathlib.Core.Path.{◌≡◌}
use mathlib.Core.List.{List}
use Prim.Native.Nat.{ℕ, ◌+◌, ◌≤◌}
use native.Mathlib.Omega.{arith}
use borrow.Author.Tests.{lt-ltb, le-ltb}
use lib.ListN.{length}
use Rattle.std.proofs.Common.{ap, refl, not, sym, ◌∙◌, Bool, true, false, cond, ltb, eqb, suc, Some, None}
use native.Mathlib.Decide.{dec_lt}
use Rattle.std.specs.Option.{unwrap_or}
use Rattle.std.specs.List.{position, position_or_len}
use Rattle.std.proofs.lemmas.List.Recursion.{is_position_or_len}
use Rattle.std.proofs.lemmas.List.Sums.{prefix_len-le-length}
use Rattle.link_forest.specs.Table.{index_of}

-- ---- the first position, or the length
or_length : (p n : ℕ) → p ≤ n → unwrap_or (cond (ltb p n) (Some p) None) n ≡ p
or_length p n h = elim (dec_lt p n) [ yes l ↦ rw (lt-ltb p n l) refl | no g ↦ let e : n ≡ p = omega arith in rw (le-ltb p n (omega arith)) e ]

index_is : (x : ℕ) (xs : List ℕ) → index_of x xs ≡ position_or_len (λ y. eqb y x) xs
unfolding index_of
index_is x xs = is_position_or_len (index_of x) (λ y. eqb y x) refl (λ y ys. branch (eqb y x) (index_of x ys)) xs
  where
    branch : (b : Bool) (n : ℕ) → elim b [ true ↦ 0 | false ↦ suc n ] ≡ cond b 0 (1 + n)
    branch true n = refl
    branch false n = omega arith

pub index_from_position : (x n : ℕ) (xs : List ℕ) → length xs ≡ n → unwrap_or (position (λ y. eqb y x) xs) n ≡ index_of x xs
index_from_position x n xs h =
    ap (λ m. unwrap_or (position (λ y. eqb y x) xs) m) (sym h)
    ∙ or_length (position_or_len (λ y. eqb y x) xs) (length xs) (prefix_len-le-length (λ y. not (eqb y x)) xs)
    ∙ sym (index_is x xs)

pub index_within : (x : ℕ) (xs : List ℕ) → index_of x xs ≤ length xs
index_within x xs = omega (arith, index_is x xs, prefix_len-le-length (λ y. not (eqb y x)) xs)
