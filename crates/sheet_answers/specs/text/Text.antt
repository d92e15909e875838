-- Text stored in a room of bytes, piece by piece.
use Rattle.std.specs.Prelude.{ℕ, ◌+◌, ◌≡◌, List, [], ◌∷◌, ◌++◌, length}
use Rattle.std.proofs.lemmas.List.Edits.{sets}
use Rattle.sheet_calls.specs.Answers.{decimal}

-- the room after a text stored at a position, and the position behind it
pub record Stored (old new : List ℕ) (at next : ℕ) (text : List ℕ) : Type 0 where
  pub room : new ≡ sets old at text
  pub behind : next ≡ at + length text

-- a number and the byte behind it
abbrev pub marked : ℕ → ℕ → List ℕ
marked n b = decimal n ++ b ∷ []

-- numbers, a space behind each
unfoldable pub spaced : List ℕ → List ℕ
spaced [] = []
spaced (n ∷ ns) = marked n 32 ++ spaced ns
