-- The place of a byte in a list of bytes.
use Rattle.std.specs.Prelude.{ℕ, suc, Bool, true, false, List, [], ◌∷◌, take, drop, ◌==◌}

-- from ≤ index < to
unfoldable pub slice : ℕ → ℕ → List ℕ → List ℕ
slice from to s = drop from (take to s)

unfoldable pub index_after : Bool → ℕ → ℕ
index_after true n = 0
index_after false n = suc n

-- the first place of a byte, or how many bytes there are
unfoldable pub index_of : ℕ → List ℕ → ℕ
index_of b [] = 0
index_of b (x ∷ s) = index_after (x == b) (index_of b s)
