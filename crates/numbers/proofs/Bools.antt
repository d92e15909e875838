-- Tests: a test split with its equation, and four tests joined as the definitions join them.
use mathlib.Core.Path.{◌≡◌, refl, sym}
use mathlib.Core.Bool.{Bool, true, false, ◌&&◌, ◌||◌}
use Prim.Native.Nat.{ℕ}
use native.Mathlib.Omega.{arith}

pub clash : {A : Type 0} → true ≡ false → A
clash h = let z : ◌≡◌ {A = ℕ} 0 1 = cc in absurd (omega arith)

pub split : {A : Type 0} (b : Bool) → (b ≡ true → A) → (b ≡ false → A) → A
split true f g = f refl
split false f g = g refl

pub and_left : (a b : Bool) → a && b ≡ true → a ≡ true
and_left true b h = refl
and_left false b h = clash (sym h)

pub and_right : (a b : Bool) → a && b ≡ true → b ≡ true
and_right true b h = h
and_right false b h = clash (sym h)

pub or_true : (b : Bool) → b || true ≡ true
or_true true = refl
or_true false = refl

-- all four of a rectangle's edges, of insets or of radii
pub record Four (a b c d : Bool) : Type 0 where
  pub first : a ≡ true
  pub second : b ≡ true
  pub third : c ≡ true
  pub fourth : d ≡ true

pub four : (a b c d : Bool) → a && b && (c && d) ≡ true → Four a b c d
four true true true true h = record { first = refl; second = refl; third = refl; fourth = refl }
four true true true false h = clash (sym h)
four true true false d h = clash (sym h)
four true false c d h = clash (sym h)
four false b c d h = clash (sym h)

pub all_four : {a b c d : Bool} → Four a b c d → a && b && (c && d) ≡ true
all_four F = rw (F.first, F.second, F.third, F.fourth)

-- the same of tests in a chain, as a derived equality joins them
pub four_chained : (a b c d : Bool) → a && (b && (c && d)) ≡ true → Four a b c d
four_chained true true true true h = record { first = refl; second = refl; third = refl; fourth = refl }
four_chained true true true false h = clash (sym h)
four_chained true true false d h = clash (sym h)
four_chained true false c d h = clash (sym h)
four_chained false b c d h = clash (sym h)

pub all_chained : {a b c d : Bool} → Four a b c d → a && (b && (c && d)) ≡ true
all_chained F = rw (F.first, F.second, F.third, F.fourth)
