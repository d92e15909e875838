-- Lists in words and by counting.
use mathlib.Core.Path.{◌≡◌, refl, sym, ◌∙◌}
use mathlib.Core.Bool.{◌&&◌}
use mathlib.Core.List.{List}
use Prim.Native.Nat.{ℕ, zero, suc, ◌+◌, ◌≤◌, ◌<◌}
use native.Mathlib.Numerals.{add-one}
use native.Mathlib.Omega.{arith}
use native.Mathlib.Decide.{dec_lt, ℕ_discrete}
use lib.Dec.{eqb, ltb, leb}
use lib.ListN.{length, take, get_or}
use Rattle.counting.specs.Times.{times}
use Rattle.counting.specs.Lists.{Tells, Listed, Once, once_below}
use Rattle.counting.proofs.Counting.{tally_small, miss, times_next, times_at}
use Rattle.counting.proofs.Kit.{both, at_most, less, equal, every_tells, through}

module _ (l : List ℕ) where
  -- what is counted is listed
  pub find : (n : ℕ) → n ≤ length l → (x : ℕ) → 1 ≤ times x (take n l) → Listed l n x
  unfolding times
  find zero f x h = absurd (omega arith)
  find (suc n) f x h =
      elim (ℕ_discrete (get_or l n 0) x) [
        | yes e ↦ (n, omega arith, e)
        | no m ↦
            let w = find n (omega arith) x (omega (arith, rw (add-one n) at (times_next x l n (omega arith)), miss x (get_or l n 0) (λ e. m (sym e)))) in
            (w.0, omega (arith, w.1), w.2)
      ]

  -- once each: counted at most once
  pub small : (n : ℕ) → n ≤ length l → Once l n → (x : ℕ) → times x (take n l) ≤ 1
  unfolding times
  small zero f once x = omega arith
  small (suc n) f once x =
      let before = small n (omega arith) (λ j k p q. once j k (omega arith) (omega arith)) x in
      let next = rw (add-one n) at (times_next x l n (omega arith)) in
      elim (ℕ_discrete x (get_or l n 0)) [
        | yes e ↦
            elim (dec_lt (times x (take n l)) 1) [
              | yes z ↦ omega (arith, tally_small (eqb x (get_or l n 0)))
              | no g ↦
                  let w = find n (omega arith) x (omega arith) in
                  absurd (omega (arith, w.1, once w.0 n (omega (arith, w.1)) (omega arith) (w.2 ∙ e)))
            ]
        | no m ↦ omega (arith, miss x (get_or l n 0) m)
      ]

  -- counted at most once: once each
  apart : (n : ℕ) → n ≤ length l → ((x : ℕ) → times x (take n l) ≤ 1) → (j k : ℕ) → j < k → k < n → get_or l j 0 ≡ get_or l k 0 → ⊥
  apart n f s j k p q e =
      let a = get_or l k 0 in
      let first : times a (take j l) + 1 ≤ times a (take k l) = rw e at (times_at l j k p (omega arith)) in
      omega (arith, times_at l k n q f, s a)

  pub once_of : (n : ℕ) → n ≤ length l → ((x : ℕ) → times x (take n l) ≤ 1) → Once l n
  once_of n f s j k p q e =
      elim (dec_lt j k) [
        | yes a ↦ absurd (apart n f s j k a q e)
        | no b ↦ elim (dec_lt k j) [ yes a ↦ absurd (apart n f s k j a p (sym e)) | no d ↦ omega arith ]
      ]

  -- what is listed is counted
  pub seen : (n : ℕ) → n ≤ length l → (x : ℕ) → Listed l n x → 1 ≤ times x (take n l)
  seen n f x w = rw (← w.2) (omega (arith, times_at l w.0 n w.1 f))

  -- numbers that are not in the list
  pub none_above : (m n : ℕ) → n ≤ length l → ((k : ℕ) → k < n → get_or l k 0 < m) → (x : ℕ) → m ≤ x → times x (take n l) ≡ 0
  unfolding times
  none_above m zero f h x g = refl
  none_above m (suc n) f h x g =
      rw (← add-one n) (omega (arith, times_next x l n (omega arith), none_above m n (omega arith) (λ k p. h k (omega arith)) x g, miss x (get_or l n 0) (λ e. absurd (omega (arith, h n (omega arith))))))

-- the test `once_below` by counting: each number below the bound at most one time, any other no time
pub record OnceBelow (m : ℕ) (l : List ℕ) (n : ℕ) : Type 0 where
  pub fits : n ≤ m
  pub low : (x : ℕ) → m ≤ x → times x (take n l) ≡ 0
  pub once : (x : ℕ) → times x (take n l) ≤ 1

module _ (m : ℕ) (l : List ℕ) (n : ℕ) (whole : m ≤ length l) where
  abbrev Each : ℕ → Type 0
  Each k = (get_or l k 0 < m) × (times (get_or l k 0) (take n l) ≡ 1)

  counted : (n ≤ m) × ((k : ℕ) → k < n → Each k) → OnceBelow m l n
  counted p = record { fits = p.0; low = none_above l m n (omega (arith, p.0)) (λ k h. (p.1 k h).0); once = at }
    where
      at : (x : ℕ) → times x (take n l) ≤ 1
      at x =
          elim (dec_lt (times x (take n l)) 1) [
            | yes z ↦ omega arith
            | no g ↦
                let w = find l n (omega (arith, p.0)) x (omega arith) in
                rw (← w.2) (omega (arith, (p.1 w.0 w.1).1))
          ]

  eached : OnceBelow m l n → (n ≤ m) × ((k : ℕ) → k < n → Each k)
  eached O = (O.fits, λ k h. at k h)
    where
      at : (k : ℕ) → k < n → Each k
      at k h =
          let f = O.fits in
          let a = get_or l k 0 in
          let t = times_at l k n h (omega arith) in
          elim (dec_lt a m) [ yes z ↦ (z, omega (arith, O.once a)) | no g ↦ absurd (omega (arith, O.low a (omega arith))) ]

  pub once_below_tells : Tells (once_below m l n) (OnceBelow m l n)
  unfolding once_below
  once_below_tells =
      through counted eached
      (both (leb n m) _ (at_most n m)
      (every_tells n (λ k. ltb (get_or l k 0) m && eqb (times (get_or l k 0) (take n l)) 1) Each
      (λ k. both (ltb (get_or l k 0) m) _ (less (get_or l k 0) m) (equal (times (get_or l k 0) (take n l)) 1))))
