-- Sums over the numbers below a bound: a list that has every one of them is as long as the bound, and how many of a list pass a test is settled
-- by how often each number stands in it.
use mathlib.Core.Path.{◌≡◌, refl, sym, ap, ◌∙◌}
use mathlib.Core.Bool.{Bool, true, false}
use mathlib.Core.List.{List, [], ◌∷◌}
use Prim.Native.Nat.{ℕ, zero, suc, ◌+◌, ◌≤◌, ◌<◌}
use native.Mathlib.Omega.{arith}
use native.Mathlib.Decide.{dec_lt, ℕ_discrete}
use lib.Dec.{eqb}
use lib.ListN.{length}
use Rattle.counting.specs.Times.{tally, times}
use Rattle.counting.proofs.Counting.{hit, miss}
use Rattle.tree_state.specs.Sound.{count_of}

abbrev sum_to : ℕ → (ℕ → ℕ) → ℕ
sum_to zero f = 0
sum_to (suc n) f = sum_to n f + f n

sum_alike : (n : ℕ) (f g : ℕ → ℕ) → ((y : ℕ) → y < n → f y ≡ g y) → sum_to n f ≡ sum_to n g
sum_alike zero f g h = refl
sum_alike (suc n) f g h = rw (sum_alike n f g (λ y l. h y (omega arith)), h n (omega arith))

sum_add : (n : ℕ) (f g : ℕ → ℕ) → sum_to n (λ y. f y + g y) ≡ sum_to n f + sum_to n g
sum_add zero f g = omega arith
sum_add (suc n) f g = rw (sum_add n f g) (omega arith)

sum_zero : (n : ℕ) (f : ℕ → ℕ) → ((y : ℕ) → y < n → f y ≡ 0) → sum_to n f ≡ 0
sum_zero zero f h = refl
sum_zero (suc n) f h = omega (arith, sum_zero n f (λ y l. h y (omega arith)), h n (omega arith))

-- one of them counts alone
sum_at : (n z : ℕ) (f : ℕ → ℕ) → z < n → ((y : ℕ) → (y ≡ z → ⊥) → f y ≡ 0) → sum_to n f ≡ f z
sum_at zero z f l h = absurd (omega arith)
sum_at (suc n) z f l h =
    elim (ℕ_discrete n z) [
      | yes e ↦ let w : f n ≡ f z = ap f e in omega (arith, sum_zero n f (λ y k. h y (λ q. omega arith)))
      | no m ↦ omega (arith, sum_at n z f (omega arith) h, h n m)
    ]

sum_low : (n z : ℕ) → sum_to n (λ y. tally (eqb y z)) ≤ 1
sum_low n z =
    elim (dec_lt z n) [
      | yes l ↦ omega (arith, sum_at n z (λ y. tally (eqb y z)) l (λ y m. miss y z m), hit z)
      | no g ↦ omega (arith, sum_zero n (λ y. tally (eqb y z)) (λ y l. miss y z (λ e. omega arith)))
    ]

-- ---- a list that has every number below n
sum_length : (n : ℕ) (l : List ℕ) → sum_to n (λ y. times y l) ≤ length l
unfolding times
sum_length n [] = omega (arith, sum_zero n (λ y. 0) (λ y k. refl))
sum_length n (z ∷ l) = omega (arith, sum_add n (λ y. tally (eqb y z)) (λ y. times y l), sum_low n z, sum_length n l)

sum_full : (n : ℕ) (f : ℕ → ℕ) → ((y : ℕ) → y < n → 1 ≤ f y) → n ≤ sum_to n f
sum_full zero f h = omega arith
sum_full (suc n) f h = omega (arith, sum_full n f (λ y l. h y (omega arith)), h n (omega arith))

pub long : (n : ℕ) (l : List ℕ) → ((y : ℕ) → y < n → 1 ≤ times y l) → n ≤ length l
long n l h = omega (arith, sum_full n (λ y. times y l) h, sum_length n l)

-- ---- how many pass a test
abbrev pub weight : Bool → ℕ → ℕ
weight true n = n
weight false n = 0

pub weight_none : (b : Bool) → weight b 0 ≡ 0
weight_none true = refl
weight_none false = refl

weight_add : (b : Bool) (m n : ℕ) → weight b (m + n) ≡ weight b m + weight b n
weight_add true m n = refl
weight_add false m n = omega arith

weight_one : (b : Bool) → weight b 1 ≡ tally b
weight_one true = refl
weight_one false = refl

count_sum : (n : ℕ) (p : ℕ → Bool) (l : List ℕ) → ((y : ℕ) → n ≤ y → times y l ≡ 0) → count_of p l ≡ sum_to n (λ y. weight (p y) (times y l))
unfolding count_of times
count_sum n p [] h = sym (sum_zero n (λ y. weight (p y) 0) (λ y k. weight_none (p y)))
count_sum n p (z ∷ l) h =
    let low : z < n = elim (dec_lt z n) [ yes k ↦ k | no m ↦ absurd (omega (arith, h z (omega arith), hit z)) ] in
    let first : sum_to n (λ y. weight (p y) (tally (eqb y z))) ≡ tally (p z) =
    sum_at n z (λ y. weight (p y) (tally (eqb y z))) low (λ y m. rw (miss y z m) (weight_none (p y))) ∙ rw (hit z) (weight_one (p z)) in
    omega (
      arith,
      sum_alike n (λ y. weight (p y) (tally (eqb y z) + times y l)) (λ y. weight (p y) (tally (eqb y z)) + weight (p y) (times y l)) (λ y k. weight_add (p y) (tally (eqb y z)) (times y l)),
      sum_add n (λ y. weight (p y) (tally (eqb y z))) (λ y. weight (p y) (times y l)),
      count_sum n p l (λ y g. omega (arith, h y g)),
      first,
    )

-- two lists and two tests, of which each number has the same share
pub count_same : (n : ℕ) (p q : ℕ → Bool) (l m : List ℕ) → ((y : ℕ) → n ≤ y → times y l ≡ 0) → ((y : ℕ) → n ≤ y → times y m ≡ 0)
    → ((y : ℕ) → y < n → weight (p y) (times y l) ≡ weight (q y) (times y m)) → count_of p l ≡ count_of q m
count_same n p q l m hl hm h =
    count_sum n p l hl ∙ sum_alike n (λ y. weight (p y) (times y l)) (λ y. weight (q y) (times y m)) h ∙ sym (count_sum n q m hm)
