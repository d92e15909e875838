-- How often a number stands in a list, and a test of every number below a bound.
use Rattle.std.specs.Prelude.{ℕ, zero, suc, ◌+◌, Bool, true, false, ◌&&◌, List, [], ◌∷◌, eqb}

-- 1 for true
abbrev pub tally : Bool → ℕ
tally true = 1
tally false = 0

unfoldable pub times : ℕ → List ℕ → ℕ
times x [] = 0
times x (y ∷ ys) = tally (eqb x y) + times x ys

unfoldable pub every : ℕ → (ℕ → Bool) → Bool
every zero p = true
every (suc n) p = every n p && p n
