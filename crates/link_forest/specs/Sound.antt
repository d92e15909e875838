-- Two arrays and a count as the table of a forest, and a table of slots below 256, none twice.
use Rattle.std.specs.Prelude.{ℕ, ◌≤◌, ◌≡◌, List, length, take}
use Rattle.link_forest.specs.Forest.{Forest, pre, dep, count, Distinct}

-- the first n of the two arrays are the slots and the depths of f
pub record Rep (slots depths : List ℕ) (n : ℕ) (f : Forest) : Type 0 where
  pub counted : n ≡ length (pre f)
  pub order : take n slots ≡ pre f
  pub depth : take n depths ≡ dep 1 f
  pub small : n ≤ 256
  pub sizes : (length slots ≡ 256) × (length depths ≡ 256)

pub record Sound (slots depths : List ℕ) (n : ℕ) (f : Forest) : Type 0 where
  pub rep : Rep slots depths n f
  pub once : Distinct f
  pub low : (x : ℕ) → 256 ≤ x → count x f ≡ 0
