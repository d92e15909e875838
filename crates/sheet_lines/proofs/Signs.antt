-- A magnitude with its sign, in 64 bits. Assumes nothing.
use mathlib.Core.Path.{◌≡◌}
use Prim.Native.Nat.{ℕ, zero, suc, ◌^◌, ◌≤◌, ◌<◌}
use native.Mathlib.Omega.{arith}
use lib.Dec.{lit<}
use lib.IntN.{pos, ◌+ℤ◌, neg_ℤ, +ℤ_idl}
use mir.Syntax.{w64}
use mir.Val.{SFits, to_z, of_z, hbits}
use mir.ValLaws.{to_z_pos, to_z-of_z}

below : (n : ℕ) → n ≤ 1000000000000000 → n < 2 ^ hbits w64
below n h = omega arith

pub plus_back : (n : ℕ) → n ≤ 1000000000000000 → to_z w64 (of_z w64 (pos n)) ≡ pos n
plus_back n h = to_z_pos w64 n (below n h)

fits : (n : ℕ) → n ≤ 1000000000000000 → SFits w64 (neg_ℤ (pos n))
fits zero h = record { sfits = lit< tt }
fits (suc n) h = record { sfits = omega arith }

pub minus_back : (n : ℕ) → n ≤ 1000000000000000 → to_z w64 (of_z w64 (pos 0 +ℤ neg_ℤ (pos n))) ≡ neg_ℤ (pos n)
minus_back n h = rw (+ℤ_idl (neg_ℤ (pos n)), to_z-of_z w64 (neg_ℤ (pos n)) (fits n h))
