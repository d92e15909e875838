-- Document 01's refusals: "The lowest number that applies is given. A refusal returns its number alone and changes nothing."
use Rattle.std.specs.Prelude.{ℕ, zero, suc, ◌≤◌, ◌≡◌, Bool, true, false, ◌&&◌, cond, ltb}

-- conditions in a row, each with its refusal's number
infixr 20 ◌else◌then◌
pub data Conditions : Type 0 where
  accept : Conditions
  ◌else◌then◌ : Bool → ℕ → Conditions → Conditions

-- the number of the first that fails, or 0
unfoldable pub lowest : Conditions → ℕ
lowest accept = 0
lowest (holds else n then rest) = cond holds (lowest rest) n

-- the numbers rise, from above m; from above 0
unfoldable pub rising_from : ℕ → Conditions → Bool
rising_from m accept = true
rising_from m (holds else n then rest) = ltb m n && rising_from n rest

abbrev pub rising : Conditions → Bool
rising cs = rising_from 0 cs

-- the number k applies: it is that of a condition that fails
pub data Applies (k : ℕ) : Conditions → Type 0 where
  here : (rest : Conditions) → Applies k (false else k then rest)
  further : (holds : Bool) (n : ℕ) (rest : Conditions) → Applies k rest → Applies k (holds else n then rest)

-- "The lowest number that applies is given": so it is of every row that rises
pub record Least (cs : Conditions) : Type 0 where
  pub none : lowest cs ≡ 0 → (k : ℕ) → Applies k cs → ⊥  -- 0 is given where none applies
  pub applies : (lowest cs ≡ 0 → ⊥) → Applies (lowest cs) cs
  pub least : (k : ℕ) → Applies k cs → lowest cs ≤ k

-- what a caller is told: a refusal's number alone, or what an accepted call gives
pub data Told (A : Type 0) : Type 0 where
  refused : ℕ → Told A
  gives : A → Told A

module _ {A : Type 0} where
  unfoldable pub told_if : ℕ → A → Told A
  told_if zero value = gives value
  told_if (suc n) value = refused (suc n)

  -- what a call leaves of what was before it: a refused one everything
  unfoldable pub left_if : ℕ → A → A → A
  left_if zero before after = after
  left_if (suc n) before after = before
