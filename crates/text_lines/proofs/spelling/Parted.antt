-- The names of a text are the parts that `split` gives, but for an empty one behind a last space and of an empty text. Assumes nothing.
use Rattle.std.proofs.Common.{◌≡◌, ℕ, eqb, List, [], ◌∷◌, ◌++◌, length, arith, refl, ne_eqb}
use Rattle.std.specs.List.{slice_split}
use Rattle.text_lines.specs.spelling.Words.{parted}

pub none : (s : List ℕ) → length s ≡ 0 → parted s ≡ []
unfolding parted
none [] h = refl
none (b ∷ s) h = absurd (omega arith)

-- a space behind the last part
ended : (s : List ℕ) → parted (s ++ 32 ∷ []) ≡ slice_split (λ b. eqb b 32) s
unfolding parted
ended [] = refl
ended (b ∷ s) = rw (ended s)

-- none behind it
open_ended : (s : List ℕ) (x : ℕ) → (x ≡ 32 → ⊥) → parted (s ++ x ∷ []) ≡ slice_split (λ b. eqb b 32) (s ++ x ∷ [])
unfolding parted
open_ended [] x n = rw (ne_eqb x 32 n)
open_ended (b ∷ s) x n = rw (open_ended s x n)

module _ (s front : List ℕ) (x : ℕ) (e : s ≡ front ++ x ∷ []) where
  pub at_space : x ≡ 32 → parted s ≡ slice_split (λ b. eqb b 32) front
  at_space h = rw (e, h) (ended front)

  pub at_another : (x ≡ 32 → ⊥) → parted s ≡ slice_split (λ b. eqb b 32) s
  at_another n = rw e (open_ended front x n)
