-- Equality to the bit: the test is exact on all floats, and on those of the format it is that of the bits.
use mathlib.Core.Path.{◌≡◌, refl, sym, ap, ◌∙◌}
use mathlib.Core.Bool.{Bool, true, false, ◌&&◌, beq}
use native.Mathlib.Omega.{arith}
use borrow.Author.Tests.{eq-eqb, eqb-true, leb-true, le-leb}
use lib.Dec.{T, eqb}
use lib.IntN.{ℤ, pos, negsuc}
use lib.Signed.{le_z}
use lib.Ieee.{Float, nan, inf, fin, binary64, is_nan, fits, of_bits, to_bits}
use lib.Ieee.Bits.{of_bits-to_bits}
use Rattle.numbers.specs.Number.{same}
use Rattle.numbers.proofs.Bools.{clash, and_left, and_right, split}

beq_tells : (s t : Bool) → (beq s t ≡ true → s ≡ t) × (s ≡ t → beq s t ≡ true)
beq_tells true true = ((λ _. refl), (λ _. refl))
beq_tells true false = ((λ h. clash (sym h)), (λ h. clash h))
beq_tells false true = ((λ h. clash (sym h)), (λ h. clash (sym h)))
beq_tells false false = ((λ _. refl), (λ _. refl))

le_self : (e : ℤ) → le_z e e ≡ true
le_self (pos a) = le-leb a a (omega arith)
le_self (negsuc a) = le-leb a a (omega arith)

le_both : (e d : ℤ) → le_z e d ≡ true → le_z d e ≡ true → e ≡ d
le_both (pos a) (pos b) p q = ap pos (omega (arith, leb-true a b p, leb-true b a q))
le_both (pos a) (negsuc b) p q = clash (sym p)
le_both (negsuc a) (pos b) p q = clash (sym q)
le_both (negsuc a) (negsuc b) p q = ap negsuc (omega (arith, leb-true b a p, leb-true a b q))

pub same_self : (a : Float) → same a a ≡ true
unfolding same
same_self nan = refl
same_self (inf s) = (beq_tells s s).1 refl
same_self (fin s m e) = rw ((beq_tells s s).1 refl, eq-eqb m m refl, le_self e)

pub same_eq : (a b : Float) → same a b ≡ true → a ≡ b
unfolding same
same_eq nan nan h = refl
same_eq nan (inf t) h = clash (sym h)
same_eq nan (fin t n d) h = clash (sym h)
same_eq (inf s) nan h = clash (sym h)
same_eq (inf s) (inf t) h = ap inf ((beq_tells s t).0 h)
same_eq (inf s) (fin t n d) h = clash (sym h)
same_eq (fin s m e) nan h = clash (sym h)
same_eq (fin s m e) (inf t) h = clash (sym h)
same_eq (fin s m e) (fin t n d) h =
    let p : s ≡ t = (beq_tells s t).0 (and_left (beq s t) (eqb m n && (le_z e d && le_z d e)) h) in
    let r = and_right (beq s t) (eqb m n && (le_z e d && le_z d e)) h in
    let q : m ≡ n = eqb-true m n (and_left (eqb m n) (le_z e d && le_z d e) r) in
    let z = and_right (eqb m n) (le_z e d && le_z d e) r in
    let u : e ≡ d = le_both e d (and_left (le_z e d) (le_z d e) z) (and_right (le_z e d) (le_z d e) z) in
    cc

-- the test tells equality, both ways
pub same_tells : (a b : Float) → (same a b ≡ true → a ≡ b) × (a ≡ b → same a b ≡ true)
same_tells a b = (same_eq a b, λ e. rw e (same_self b))

-- ---- by the tests of the code

pub same_nan : (a b : Float) → is_nan a ≡ true → is_nan b ≡ same a b
unfolding same is_nan
same_nan nan nan h = refl
same_nan nan (inf t) h = refl
same_nan nan (fin t n d) h = refl
same_nan (inf s) b h = clash (sym h)
same_nan (fin s m e) b h = clash (sym h)

pub same_other : (a b : Float) → is_nan a ≡ false → is_nan b ≡ true → false ≡ same a b
unfolding same is_nan
same_other nan b g h = clash g
same_other (inf s) nan g h = refl
same_other (inf s) (inf t) g h = clash (sym h)
same_other (inf s) (fin t n d) g h = clash (sym h)
same_other (fin s m e) nan g h = refl
same_other (fin s m e) (inf t) g h = clash (sym h)
same_other (fin s m e) (fin t n d) g h = clash (sym h)

true_t : {b : Bool} → b ≡ true → T b
true_t e = rw e tt

pub same_bits : (a b : Float) → fits binary64 a ≡ true → fits binary64 b ≡ true → eqb (to_bits binary64 a) (to_bits binary64 b) ≡ same a b
same_bits a b f g = split (eqb (to_bits binary64 a) (to_bits binary64 b)) same_there other
  where
    same_there : eqb (to_bits binary64 a) (to_bits binary64 b) ≡ true → eqb (to_bits binary64 a) (to_bits binary64 b) ≡ same a b
    same_there h =
        let e : a ≡ b = sym (of_bits-to_bits binary64 a (true_t f)) ∙ ap (of_bits binary64) (eqb-true (to_bits binary64 a) (to_bits binary64 b) h) ∙ of_bits-to_bits binary64 b (true_t g) in
        h ∙ sym ((same_tells a b).1 e)

    other : eqb (to_bits binary64 a) (to_bits binary64 b) ≡ false → eqb (to_bits binary64 a) (to_bits binary64 b) ≡ same a b
    other h =
        split (same a b)
        (λ (s : same a b ≡ true). clash (sym (eq-eqb (to_bits binary64 a) (to_bits binary64 b) (ap (to_bits binary64) (same_eq a b s))) ∙ h))
        (λ (s : same a b ≡ false). h ∙ sym s)
