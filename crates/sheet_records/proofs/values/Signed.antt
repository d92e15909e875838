-- Small signed numbers: what a local holds of one reads back as it is.
use Rattle.std.proofs.Common.{◌≡◌, ℕ, ◌≤◌, T, ℤ, pos, negsuc, nat_abs, sym, subst, arith, to_z-of_z, w32, w64, Fits, SFits, to_z, of_z}
use lib.Signed.{mag, non_neg}

mag_abs : (z : ℤ) → mag z ≤ nat_abs z
mag_abs (pos n) = omega arith
mag_abs (negsuc n) = omega arith

pub fits_small : (z : ℤ) → nat_abs z ≤ 9007199254740992 → SFits w64 z
fits_small z h = record { sfits = omega (arith, mag_abs z) }

pub back : (z : ℤ) → nat_abs z ≤ 9007199254740992 → to_z w64 (of_z w64 z) ≡ z
back z h = to_z-of_z (fits_small z h)

pub near : (z : ℤ) (n : ℕ) → nat_abs z ≤ n → n ≤ 9007199254740992 → nat_abs (to_z w64 (of_z w64 z)) ≤ n
near z n h k = rw (back z (omega arith)) h

-- ---- casts

pub to_word : (z : ℤ) → z ≡ pos (nat_abs z) → nat_abs z ≤ 256 → T (non_neg (to_z w64 (of_z w64 z))) × Fits w32 (nat_abs (to_z w64 (of_z w64 z)))
to_word z p h = rw (back z (omega arith)) (subst (λ (y : ℤ). T (non_neg y)) (sym p) tt, record { fits = omega arith })

mag_fits : (z : ℤ) → mag z ≤ 2147483647 → SFits w64 z
mag_fits z h = record { sfits = omega arith }

pub level_near : (z : ℤ) → mag z ≤ 2147483647 → mag (to_z w64 (of_z w64 z)) ≤ 2147483647
level_near z h = rw (to_z-of_z (mag_fits z h)) h

pub level_same : (z : ℤ) → mag z ≤ 2147483647 → to_z w64 (of_z w64 z) ≡ z
level_same z h = to_z-of_z (mag_fits z h)

pub word_near : (z : ℤ) → z ≡ pos (nat_abs z) → nat_abs z ≤ 256 → (to_z w64 (of_z w64 z) ≡ pos (nat_abs (to_z w64 (of_z w64 z)))) × (nat_abs (to_z w64 (of_z w64 z)) ≤ 256)
word_near z p h = (rw (back z (omega arith)) p, near z 256 h (omega arith))

pub byte_near : (z : ℤ) → z ≡ pos (nat_abs z) → nat_abs z ≤ 7 → (to_z w64 (of_z w64 z) ≡ pos (nat_abs (to_z w64 (of_z w64 z)))) × (nat_abs (to_z w64 (of_z w64 z)) ≤ 7)
byte_near z p h = (rw (back z (omega arith)) p, near z 7 h (omega arith))

pub word_same : (z : ℤ) → mag z ≤ 2147483647 → to_z w32 (of_z w32 z) ≡ z
word_same z h = to_z-of_z {w = w32} {z = z} (record { sfits = omega arith })
