-- How often a number stands in a list: laws.
use mathlib.Core.Path.{◌≡◌, refl, sym}
use mathlib.Core.Bool.{Bool, true, false}
use mathlib.Core.List.{List, [], ◌∷◌, ◌++◌}
use Prim.Native.Nat.{ℕ, zero, suc, ◌+◌, ◌-◌, ◌≤◌, ◌<◌}
use native.Mathlib.Numerals.{add-one}
use native.Mathlib.Omega.{arith}
use native.Mathlib.Decide.{dec_lt, ℕ_discrete}
use borrow.Author.Tests.{eq-eqb, ne_eqb}
use lib.Dec.{eqb}
use lib.ListN.{length, take, drop, get_or, set}
use lib.Seq.{take-suc, take-add, take-suc-set}
use Rattle.counting.specs.Times.{tally, times}

pub tally_small : (b : Bool) → tally b ≤ 1
tally_small true = omega arith
tally_small false = omega arith

pub hit : (a : ℕ) → tally (eqb a a) ≡ 1
hit a = rw (eq-eqb a a refl)

pub miss : (x a : ℕ) → (x ≡ a → ⊥) → tally (eqb x a) ≡ 0
miss x a n = rw (ne_eqb x a n)

pub times_append : (x : ℕ) (a b : List ℕ) → times x (a ++ b) ≡ times x a + times x b
unfolding times
times_append x [] b = omega arith
times_append x (y ∷ a) b = rw (times_append x a b) (omega arith)

pub times_snoc : (x : ℕ) (a : List ℕ) (y : ℕ) → times x (a ++ (y ∷ [])) ≡ times x a + tally (eqb x y)
unfolding times
times_snoc x a y = rw (times_append x a (y ∷ [])) (omega arith)

-- one more of a list; and with what is put there
pub times_next : (x : ℕ) (l : List ℕ) (i : ℕ) → i < length l → times x (take (i + 1) l) ≡ times x (take i l) + tally (eqb x (get_or l i 0))
times_next x l i h = rw (add-one i, take-suc l i 0 h) (times_snoc x (take i l) (get_or l i 0))

pub times_put : (x : ℕ) (l : List ℕ) (i a : ℕ) → i < length l → times x (take (i + 1) (set l i a)) ≡ times x (take i l) + tally (eqb x a)
times_put x l i a h = rw (add-one i, take-suc-set l i a h) (times_snoc x (take i l) a)

pub times_more : (x : ℕ) (l : List ℕ) (i n : ℕ) → i ≤ n → times x (take i l) ≤ times x (take n l)
times_more x l i n h =
    let e : n ≡ i + (n - i) = omega arith in
    rw (e, take-add i (n - i) l, times_append x (take i l) (take (n - i) (drop i l))) (omega arith)

-- an entry is counted
pub times_at : (l : List ℕ) (i n : ℕ) → i < n → n ≤ length l → times (get_or l i 0) (take i l) + 1 ≤ times (get_or l i 0) (take n l)
times_at l i n h k =
    let a = get_or l i 0 in
    omega (arith, times_more a l (i + 1) n (omega arith), times_next a l i (omega arith), hit a)

-- ---- pigeonholes: the length of a list is the sum of how often each number stands in it

abbrev sum_to : ℕ → (ℕ → ℕ) → ℕ
sum_to zero f = 0
sum_to (suc n) f = sum_to n f + f n

sum_add : (n : ℕ) (f g : ℕ → ℕ) → sum_to n (λ x. f x + g x) ≡ sum_to n f + sum_to n g
sum_add zero f g = omega arith
sum_add (suc n) f g = rw (sum_add n f g) (omega arith)

sum_zero : (n : ℕ) → sum_to n (λ _. 0) ≡ 0
sum_zero zero = refl
sum_zero (suc n) = rw (sum_zero n) (omega arith)

sum_none : (n y : ℕ) → n ≤ y → sum_to n (λ x. tally (eqb x y)) ≡ 0
sum_none zero y h = refl
sum_none (suc n) y h = omega (arith, sum_none n y (omega arith), miss n y (λ e. omega arith))

sum_one : (n y : ℕ) → y < n → sum_to n (λ x. tally (eqb x y)) ≡ 1
sum_one zero y h = absurd (omega arith)
sum_one (suc n) y h =
    elim (ℕ_discrete n y) [
      | yes e ↦ rw (e) (omega (arith, sum_none y y (omega arith), hit y))
      | no m ↦ omega (arith, sum_one n y (omega arith), miss n y m)
    ]

sum_below : (n a : ℕ) (f : ℕ → ℕ) → ((x : ℕ) → f x ≤ 1) → sum_to n f ≤ n
sum_below zero a f h = omega arith
sum_below (suc n) a f h = omega (arith, sum_below n a f h, h n)

sum_less : (n a : ℕ) (f : ℕ → ℕ) → ((x : ℕ) → f x ≤ 1) → f a ≡ 0 → a < n → sum_to n f < n
sum_less zero a f h z l = absurd (omega arith)
sum_less (suc n) a f h z l =
    elim (ℕ_discrete n a) [
      | yes e ↦ let w : f n ≡ 0 = rw e z in omega (arith, sum_below n a f h)
      | no m ↦ omega (arith, sum_less n a f h z (omega arith), h n)
    ]

length_sum : (n : ℕ) (l : List ℕ) → ((x : ℕ) → n ≤ x → times x l ≡ 0) → length l ≡ sum_to n (λ x. times x l)
unfolding times
length_sum n [] h = sym (sum_zero n)
length_sum n (y ∷ l) h =
    let le : y < n = elim (dec_lt y n) [ yes l ↦ l | no m ↦ absurd (omega (arith, h y (omega arith), hit y)) ] in
    omega (arith, sum_add n (λ x. tally (eqb x y)) (λ x. times x l), sum_one n y le, length_sum n l (λ x g. omega (arith, h x g)))

-- a list whose numbers lie below n, none twice, and one of them not in it, is shorter than n
pub shorter : (n a : ℕ) (l : List ℕ) → ((x : ℕ) → times x l ≤ 1) → ((x : ℕ) → n ≤ x → times x l ≡ 0) → a < n → times a l ≡ 0 → length l < n
shorter n a l h z lt e = rw (length_sum n l z) (sum_less n a (λ x. times x l) h e lt)
