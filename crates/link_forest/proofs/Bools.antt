-- Tests taken apart.
use Prim.Native.Nat.{ℕ, ◌≤◌}
use mathlib.Core.Path.{◌≡◌, refl}
use mathlib.Core.Bool.{Bool, true, false}
use native.Mathlib.Omega.{arith}
use lib.Dec.{eqb}
use borrow.Author.Tests.{eq-eqb}
use Rattle.counting.proofs.Kit.{contra}
use Rattle.counting.specs.Times.{tally}
use Rattle.link_forest.specs.Forest.{either}

pub never : {A : Type 0} {b : Bool} → b ≡ true → b ≡ false → A
never p q = absurd (contra p q)

pub neither : (a b : Bool) → either a b ≡ false → (a ≡ false) × (b ≡ false)
neither true b e = never refl e
neither false b e = (refl, e)

pub other : (a b : Bool) → either a b ≡ true → a ≡ false → b ≡ true
other true b e n = never refl n
other false b e n = e

pub either_left : (a b : Bool) → a ≡ true → either a b ≡ true
either_left a b e = rw e

pub either_right : (a b : Bool) → b ≡ true → either a b ≡ true
either_right true b e = refl
either_right false b e = e

pub no_tally : (b : Bool) → tally b ≤ 0 → b ≡ false
no_tally true h = absurd (omega arith)
no_tally false h = refl

pub same_slot : (x : ℕ) → eqb x x ≡ true
same_slot x = eq-eqb x x refl
