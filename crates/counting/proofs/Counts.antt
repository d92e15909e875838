-- The loop that counts the first n of a list, each number below b, in a table of b: a law for each of its steps. The list is as long as the table.
use mathlib.Core.Path.{◌≡◌, refl, sym, ◌∙◌}
use mathlib.Core.Bool.{Bool, true, false}
use mathlib.Core.List.{List}
use Prim.Native.Nat.{ℕ, zero, suc, ◌+◌, ◌≤◌, ◌<◌}
use native.Mathlib.Omega.{arith}
use native.Mathlib.Decide.{ℕ_discrete}
use lib.ListN.{length, take, get_or, set, replicate, length-replicate, length-set, get_or-eq_default}
use lib.Seq.{get_or-set_same, get_or-set_other}
use Rattle.counting.specs.Times.{times}
use Rattle.counting.specs.Lists.{once_below}
use Rattle.counting.proofs.Counting.{hit, miss, times_next, times_at}
use Rattle.counting.proofs.Kit.{contra, refuse, accept, same}
use Rattle.counting.proofs.Words.{OnceBelow, once_below_tells}

-- at the start nothing has stood
abbrev pub zeros : ℕ → List ℕ
zeros n = replicate n 0

pub zero_at : (n x : ℕ) → get_or (zeros n) x 0 ≡ 0
zero_at zero x = refl
zero_at (suc n) zero = refl
zero_at (suc n) (suc x) = zero_at n x

-- what the table m holds once the first i are counted
pub record Counts (b : ℕ) (l : List ℕ) (n : ℕ) (m : List ℕ) (i : ℕ) : Type 0 where
  pub within : i ≤ n
  pub fits : n ≤ b
  pub long : length m ≡ b
  pub at : (x : ℕ) → get_or m x 0 ≡ times x (take i l)
  pub bit : (x : ℕ) → get_or m x 0 ≤ 1

-- what the loop answers
abbrev pub Answer : ℕ → List ℕ → ℕ → Bool → List ℕ → Type 0
Answer b l n ok m = (ok ≡ once_below b l n) × (ok ≡ true → (x : ℕ) → get_or m x 0 ≡ times x (take n l))

module _ (b : ℕ) (l : List ℕ) (n : ℕ) (whole : length l ≡ b) where
  refused : (m : List ℕ) → (OnceBelow b l n → ⊥) → Answer b l n false m
  refused m f = (same false (once_below b l n) (refuse f) (once_below_tells b l n (omega arith)), λ e. absurd (contra e refl))

  pub too_many : (m : List ℕ) → b < n → Answer b l n false m
  too_many m h = refused m (λ O. omega (arith, O.fits))

  pub none : n ≤ b → Counts b l n (zeros b) 0
  unfolding times
  none f = record { within = omega arith; fits = f; long = length-replicate b 0; at = λ x. zero_at b x; bit = λ x. rw (zero_at b x) (omega arith) }

  module _ (m : List ℕ) (i : ℕ) (C : Counts b l n m i) (h : i < n) where
    -- a number past the bound is refused, and one that stood before
    pub outside : b ≤ get_or l i 0 → Answer b l n false m
    outside g = refused m (λ O. omega (arith, O.low (get_or l i 0) g, times_at l i n h (omega (arith, C.fits))))

    pub twice : (get_or m (get_or l i 0) 0 ≡ 0 → ⊥) → Answer b l n false m
    twice g = refused m (λ O. omega (arith, C.at (get_or l i 0), O.once (get_or l i 0), times_at l i n h (omega (arith, C.fits))))

    -- one more is counted
    pub next : get_or l i 0 < b → get_or m (get_or l i 0) 0 ≡ 0 → Counts b l n (set m (get_or l i 0) 1) (i + 1)
    next k z =
        let y = get_or l i 0 in
        let low : y < length m = omega (arith, C.long) in
        record {
          within = omega arith;
          fits = C.fits;
          long = simp length-set C.long;
          at = λ x. rw (times_next x l i (omega (arith, C.fits)), ← C.at x)
              (elim (ℕ_discrete x y) [
                | yes e ↦ rw e (get_or-set_same m y 1 0 low ∙ omega (arith, hit y))
                | no d ↦ get_or-set_other m y x 1 0 d ∙ omega (arith, miss x y d)
              ]);
          bit = λ x. elim (ℕ_discrete x y) [
            | yes e ↦ rw (e, get_or-set_same m y 1 0 low) (omega arith)
            | no d ↦ rw (get_or-set_other m y x 1 0 d) (C.bit x)
          ];
        }

  -- all of them are counted
  pub ends : (m : List ℕ) (i : ℕ) → Counts b l n m i → n ≤ i → Answer b l n true m
  ends m i C h =
      let e : i ≡ n = omega (arith, C.within) in
      let at : (x : ℕ) → get_or m x 0 ≡ times x (take n l) = λ x. rw (← e) (C.at x) in
      let O : OnceBelow b l n =
      record { fits = C.fits; low = λ x g. sym (at x) ∙ get_or-eq_default m 0 (omega (arith, C.long)); once = λ x. rw (← at x) (C.bit x) } in
      (same true (once_below b l n) (accept O) (once_below_tells b l n (omega arith)), λ _. at)
