-- A saturated number compared with a bound below 10^15 answers as the number itself does, and between two such bounds it is the number itself.
-- Assumes nothing.
use mathlib.Core.Path.{◌≡◌, refl, ap}
use mathlib.Core.Bool.{Bool, true, false}
use Prim.Native.Nat.{ℕ, ◌≤◌, ◌<◌, min}
use native.Mathlib.Omega.{arith}
use borrow.Author.Tests.{le-leb, lt-leb, leb-true, leb-false}
use lib.Dec.{leb}
use lib.IntN.{ℤ, pos, negsuc}
use lib.Signed.{le_z, mag}
use Rattle.sheet_lines.specs.Saturated.{saturated}

pub clash : {A : Type 0} → false ≡ true → A
clash h = let z : ◌≡◌ {A = ℕ} 0 1 = cc in absurd (omega arith)

above : (t : Bool) (n b c : ℕ) → b < c → leb n b ≡ t → leb (min n c) b ≡ t
above true n b c h e = le-leb (min n c) b (omega (arith, leb-true n b e))
above false n b c h e = lt-leb (min n c) b (omega (arith, leb-false n b e))

below : (t : Bool) (n b c : ℕ) → b ≤ c → leb b n ≡ t → leb b (min n c) ≡ t
below true n b c h e = le-leb b (min n c) (omega (arith, leb-true b n e))
below false n b c h e = lt-leb b (min n c) (omega (arith, leb-false b n e))

pub under : (z b : ℤ) → mag b < 999999999999999 → le_z (saturated z) b ≡ le_z z b
unfolding saturated
under (pos n) (pos b) h = above (leb n b) n b 1000000000000000 (omega arith) refl
under (pos n) (negsuc b) h = refl
under (negsuc n) (pos b) h = refl
under (negsuc n) (negsuc b) h = below (leb b n) n b 999999999999999 (omega arith) refl

pub over : (z b : ℤ) → mag b < 999999999999999 → le_z b (saturated z) ≡ le_z b z
unfolding saturated
over (pos n) (pos b) h = below (leb b n) n b 1000000000000000 (omega arith) refl
over (pos n) (negsuc b) h = refl
over (negsuc n) (pos b) h = refl
over (negsuc n) (negsuc b) h = above (leb n b) n b 999999999999999 (omega arith) refl

-- within two bounds nothing is cut off
pub itself : (z low high : ℤ) → mag low < 999999999999999 → mag high < 999999999999999 → le_z low z ≡ true → le_z z high ≡ true → saturated z ≡ z
unfolding saturated
itself (pos n) low (pos b) l h p q = ap pos (omega (arith, leb-true n b q))
itself (pos n) low (negsuc b) l h p q = clash q
itself (negsuc n) (pos a) high l h p q = clash p
itself (negsuc n) (negsuc a) high l h p q = ap negsuc (omega (arith, leb-true n a p))
