-- Tests that tell a fact both ways: a kit to make the exactness of a test one expression in the test's own shape.
use mathlib.Core.Path.{◌≡◌, refl, sym}
use mathlib.Core.Bool.{Bool, true, false, ◌&&◌, ◌||◌}
use Prim.Native.Nat.{ℕ, zero, suc, ◌≤◌, ◌<◌}
use native.Mathlib.Omega.{arith}
use native.Mathlib.Decide.{ℕ_discrete}
use borrow.Author.Tests.{eq-eqb, eqb-true, lt-ltb, ltb-true, leb-true, le-leb}
use lib.Dec.{eqb, ltb, leb}
use Rattle.counting.specs.Times.{every}
use Rattle.counting.specs.Lists.{Tells}

pub contra : {b : Bool} → b ≡ true → b ≡ false → ⊥
contra p q = let z : ◌≡◌ {A = ℕ} 0 1 = cc in omega arith

pub refuse : {P : Type 0} → (P → ⊥) → Tells false P
refuse n = ((λ e. let z : ◌≡◌ {A = ℕ} 0 1 = cc in absurd (omega arith)), (λ p. absurd (n p)))

pub accept : {P : Type 0} → P → Tells true P
accept p = ((λ _. p), (λ _. refl))

pub both : {P Q : Type 0} (a b : Bool) → Tells a P → Tells b Q → Tells (a && b) (P × Q)
both true b s t = ((λ e. (s.0 refl, t.0 e)), (λ p. t.1 p.1))
both false b s t = ((λ e. absurd (contra e refl)), (λ p. s.1 p.0))

pub at_most : (m n : ℕ) → Tells (leb m n) (m ≤ n)
at_most m n = (leb-true m n, le-leb m n)

pub less : (m n : ℕ) → Tells (ltb m n) (m < n)
less m n = (ltb-true m n, lt-ltb m n)

pub equal : (m n : ℕ) → Tells (eqb m n) (m ≡ n)
equal m n = (eqb-true m n, eq-eqb m n)

pub every_tells : (n : ℕ) (p : ℕ → Bool) (P : ℕ → Type 0) → ((k : ℕ) → Tells (p k) (P k)) → Tells (every n p) ((k : ℕ) → k < n → P k)
unfolding every
every_tells zero p P t = ((λ e k l. absurd (omega arith)), (λ h. refl))
every_tells (suc n) p P t =
    let u = both (every n p) (p n) (every_tells n p P t) (t n) in (
      (λ e k l. elim (ℕ_discrete k n) [ yes q ↦ rw q (u.0 e).1 | no m ↦ (u.0 e).0 k (omega arith) ]),
      (λ h. u.1 ((λ k l. h k (omega arith)), h n (omega arith))),
    )

pub through : {P Q : Type 0} {a : Bool} → (P → Q) → (Q → P) → Tells a P → Tells a Q
through f g t = ((λ e. f (t.0 e)), (λ q. t.1 (g q)))

-- two tests that tell the same are equal
pub same : {P : Type 0} (a b : Bool) → Tells a P → Tells b P → a ≡ b
same true true s t = refl
same false false s t = refl
same true false s t = sym (t.1 (s.0 refl))
same false true s t = s.1 (t.0 refl)

-- a || b, as: where the first fails, the second holds
pub unless : {P Q : Type 0} (a b : Bool) → Tells a P → Tells b Q → Tells (a || b) ((P → ⊥) → Q)
unless true b s t = ((λ e n. absurd (n (s.0 refl))), (λ h. refl))
unless false b s t = ((λ e n. t.0 e), (λ h. t.1 (h (λ p. contra (s.1 p) refl))))
