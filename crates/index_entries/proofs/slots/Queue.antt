-- The queue of dirty slots: a search through it finds what stands there.
use Rattle.std.proofs.Common.{◌≡◌, ℕ, ◌+◌, eqb, ltb, List, [], ◌∷◌, refl, sym, arith, lt-ltb, eq-eqb, ne_eqb}
use native.Mathlib.Decide.{ℕ_discrete}
use Rattle.std.specs.List.{list_any}
use Rattle.counting.specs.Times.{times}
use Rattle.counting.proofs.Counting.{miss}

pub search_finds : (x : ℕ) (l : List ℕ) → list_any (λ y. eqb y x) l ≡ ltb 0 (times x l)
unfolding times
search_finds x [] = refl
search_finds x (y ∷ ys) =
    elim (ℕ_discrete y x) [
      | yes e ↦ rw (e, eq-eqb x x refl) (sym (lt-ltb 0 (1 + times x ys) (omega arith)))
      | no n ↦ rw (ne_eqb y x n, search_finds x ys, miss x y (λ e. n (sym e))) (rw (zero_plus (times x ys)) refl)
    ]
  where
    zero_plus : (n : ℕ) → 0 + n ≡ n
    zero_plus n = omega arith
