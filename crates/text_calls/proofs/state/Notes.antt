-- A line without a call, told by its length and its first byte. Assumes nothing.
use Rattle.std.proofs.Common.{◌≡◌, ℕ, true, eqb, List, [], ◌∷◌, length, get_or, refl, arith}
use Rattle.text_calls.specs.state.Lists.{is_note}

pub empty_note : (s : List ℕ) → length s ≡ 0 → true ≡ is_note s
unfolding is_note
empty_note [] e = refl
empty_note (b ∷ s) e = absurd (omega arith)

pub first_note : (s : List ℕ) → (length s ≡ 0 → ⊥) → eqb (get_or s 0 0) 35 ≡ is_note s
unfolding is_note
first_note [] n = absurd (n refl)
first_note (b ∷ s) n = refl
