-- Tests of every number below a bound.
use native.Mathlib.Omega.{arith}
use mathlib.Core.Path.{◌≡◌, refl, ap, ◌∙◌}
use mathlib.Core.List.{[], ◌∷◌, ◌++◌}
use Rattle.std.specs.List.{list_all, range_with_len}
use Rattle.std.proofs.lemmas.List.Folds.{list_all-append}
use mathlib.Core.Bool.{Bool, true, false, ◌&&◌}
use Prim.Native.Nat.{ℕ, zero, suc, ◌+◌}
use Rattle.counting.specs.Times.{every}

-- tests that agree everywhere
pub every_same : (n : ℕ) (p q : ℕ → Bool) → ((x : ℕ) → p x ≡ q x) → every n p ≡ every n q
unfolding every
every_same zero p q h = refl
every_same (suc n) p q h = rw (every_same n p q h, h n)

-- the test of each number of a list: that of the numbers below a bound
pub every_in_range : (n : ℕ) (p : ℕ → Bool) → list_all p (range_with_len 0 n) ≡ every n p
unfolding every
every_in_range zero p = refl
every_in_range (suc n) p =
    ap (list_all p) (range_next 0 n n (omega arith)) ∙ list_all-append p (range_with_len 0 n) (n ∷ []) ∙ rw (every_in_range n p) (ap (λ b. every n p && b) (and_true (p n)))
  where
    and_true : (b : Bool) → b && true ≡ b
    and_true true = refl
    and_true false = refl

    range_next : (a n b : ℕ) → b ≡ a + n → range_with_len a (suc n) ≡ range_with_len a n ++ b ∷ []
    range_next a zero b e = let f : b ≡ a = omega arith in rw f refl
    range_next a (suc n) b e = ap (λ l. a ∷ l) (range_next (a + 1) n b (omega arith))
