-- The first n of a table as a list without repeats.
use Rattle.std.specs.Prelude.{ℕ, ◌<◌, ◌≡◌, Bool, true, ◌&&◌, List, ltb, leb, eqb, take, get_or}
use Rattle.counting.specs.Times.{times, every}

-- a test's answer, both ways
abbrev pub Tells : Bool → Type 0 → Type 0
Tells r P = (r ≡ true → P) × (P → r ≡ true)

-- x stands among the first n
abbrev pub Listed : List ℕ → ℕ → ℕ → Type 0
Listed l n x = (k : ℕ) × (k < n) × (get_or l k 0 ≡ x)

-- no two of the first n are the same
abbrev pub Once : List ℕ → ℕ → Type 0
Once l n = (j k : ℕ) → j < n → k < n → get_or l j 0 ≡ get_or l k 0 → j ≡ k

-- the same as a test: n is at most the bound, and each of the first n is below the bound and stands there one time
unfoldable pub once_below : ℕ → List ℕ → ℕ → Bool
once_below m l n = leb n m && every n (λ k. ltb (get_or l k 0) m && eqb (times (get_or l k 0) (take n l)) 1)
