-- Counting over lists, over the numbers below a bound, and over a forest's lists; what each of a list gives, one behind the other.
use mathlib.Core.Path.{◌≡◌, refl, sym, ◌∙◌}
use mathlib.Core.Bool.{Bool, true, false}
use mathlib.Core.List.{List, [], ◌∷◌, ◌++◌, append-nil, append_assoc, reverse, reverse_aux}
use Prim.Native.Nat.{ℕ, zero, suc, ◌+◌, ◌≤◌, ◌<◌}
use native.Mathlib.Omega.{arith}
use native.Mathlib.Decide.{ℕ_discrete}
use lib.Dec.{eqb}
use lib.ListN.{length, take, drop, length-append}
use lib.Seq.{sets, sets-eq, take_at, length-take-le}
use Rattle.counting.specs.Times.{tally, times}
use Rattle.counting.proofs.Counting.{hit, miss, times_append, tally_small}
use Rattle.link_forest.specs.Forest.{Forest, none, tree, pre, post, has, remove, spot, part, kids}
use Rattle.link_forest.proofs.Clauses.{Stands, here, down, right, stands, remove_here, remove_down, remove_right, spot_here, spot_down, spot_right}
use Rattle.tree_state.specs.Sound.{count_of, count_below}
use Rattle.plan.specs.Plan.{numbers}
use Rattle.plan.specs.Lists.{joined}
use Rattle.agreement.specs.Read.{entry_if}
use Rattle.tree_invariant.specs.remove.Removals.{keys_of}

-- ---- how many of a list pass a test

module _ (p : ℕ → Bool) where
  pub count_append : (a b : List ℕ) → count_of p (a ++ b) ≡ count_of p a + count_of p b
  unfolding count_of
  count_append [] b = omega arith
  count_append (x ∷ a) b = rw (count_append a b) (omega arith)

  pub post_pre : (f : Forest) → count_of p (post f) ≡ count_of p (pre f)
  unfolding count_of pre post
  post_pre none = refl
  post_pre (tree x c s) = rw (count_append (post c) (x ∷ post s), count_append (pre c) (pre s), post_pre c, post_pre s) (omega arith)

  rest_stands : (x : ℕ) (l : List ℕ) {f : Forest} → Stands x f → count_of p (pre (remove x f)) + (tally (p x) + count_of p (pre (spot x l f).kids)) ≡ count_of p (pre f)
  unfolding count_of pre
  rest_stands x l (here {c = c} {s = s}) = rw (remove_here x c s, spot_here x l c s, count_append (pre c) (pre s)) (omega arith)
  rest_stands x l (down {y = y} {c = c} {s = s} e h S) =
      rw (remove_down x y c s e h, spot_down x l y c s e h, count_append (pre c) (pre s), count_append (pre (remove x c)) (pre s)) (omega (arith, rest_stands x (y ∷ l) S))
  rest_stands x l (right {y = y} {c = c} {s = s} e h S) =
      rw (remove_right x y c s e h, spot_right x l y c s e h, count_append (pre c) (pre s), count_append (pre c) (pre (remove x s))) (omega (arith, rest_stands x l S))

  -- of what stays and of what goes, together of all
  pub count_rest : (x : ℕ) (f : Forest) → has x f ≡ true → count_of p (pre (remove x f)) + count_of p (post (part x f)) ≡ count_of p (pre f)
  unfolding count_of pre
  count_rest x f h =
      let e : count_of p (pre (part x f)) ≡ tally (p x) + count_of p (pre (kids x f)) = rw (append-nil (pre (kids x f))) in
      omega (arith, post_pre (part x f), rest_stands x [] (stands x f h))

-- one test passes only where another does
pub count_fewer : (p q : ℕ → Bool) (l : List ℕ) → ((y : ℕ) → 1 ≤ times y l → p y ≡ true → q y ≡ true) → count_of p l ≤ count_of q l
unfolding count_of times
count_fewer p q [] h = omega arith
count_fewer p q (x ∷ l) h = omega (arith, count_fewer p q l (λ y n. h y (omega arith)), at (p x) (q x) (h x (omega (arith, hit x))))
  where
    at : (a b : Bool) → (a ≡ true → b ≡ true) → tally a ≤ tally b
    at true b g = rw (g refl) (omega arith)
    at false b g = omega arith

-- ---- how many numbers below a bound pass a test, with one more that passes

module _ (p q : ℕ → Bool) (k : ℕ) (other : (j : ℕ) → (j ≡ k → ⊥) → q j ≡ p j) where
  below_same : (n : ℕ) → n ≤ k → count_below n q ≡ count_below n p
  unfolding count_below
  below_same zero h = refl
  below_same (suc n) h = rw (below_same n (omega arith), other n (λ e. omega arith))

  pub below_more : p k ≡ false → q k ≡ true → (n : ℕ) → k < n → count_below n q ≡ count_below n p + 1
  unfolding count_below
  below_more a b zero h = absurd (omega arith)
  below_more a b (suc n) h =
      elim (ℕ_discrete n k) [
        | yes e ↦ rw (e, a, b, below_same k (omega arith)) (omega arith)
        | no m ↦ rw (below_more a b n (omega arith), other n m) (omega arith)
      ]

-- ---- what each gives

pub joined_same : {A : Type 0} (g h : ℕ → List A) (l : List ℕ) → ((y : ℕ) → 1 ≤ times y l → g y ≡ h y) → joined g l ≡ joined h l
unfolding joined times
joined_same g h [] e = refl
joined_same g h (x ∷ l) e = rw (e x (omega (arith, hit x)), joined_same g h l (λ y n. e y (omega arith)))

-- the entry numbers of those that have one: a test and a number for each
module _ (c : ℕ → Bool) (s : ℕ → ℕ) where
  pub keys_length : (l : List ℕ) → length (keys_of c s l) ≡ count_of c l
  unfolding joined count_of
  keys_length [] = refl
  keys_length (x ∷ l) = rw (length-append (numbers (entry_if (c x) (s x))) (keys_of c s l), keys_length l) (at (c x))
    where
      at : (b : Bool) → length (numbers (entry_if b (s x))) + count_of c l ≡ tally b + count_of c l
      at true = refl
      at false = refl

  -- a number given stands among them
  pub keys_has : (l : List ℕ) (y : ℕ) → c y ≡ true → 1 ≤ times y l → 1 ≤ times (s y) (keys_of c s l)
  unfolding joined times
  keys_has [] y h n = absurd (omega arith)
  keys_has (x ∷ l) y h n =
      rw (times_append (s y) (numbers (entry_if (c x) (s x))) (keys_of c s l))
      (elim (ℕ_discrete y x) [
        | yes e ↦ rw (← e, h) (omega (arith, hit (s y)))
        | no m ↦ omega (arith, keys_has l y h (omega (arith, miss y x m)))
      ])

  -- where the number tells whose it is, it stands no oftener than that one
  pub keys_times : (o : ℕ → ℕ) (k : ℕ) (l : List ℕ) → ((y : ℕ) → 1 ≤ times y l → c y ≡ true → o (s y) ≡ y) → times k (keys_of c s l) ≤ times (o k) l
  unfolding joined times
  keys_times o k [] h = omega arith
  keys_times o k (x ∷ l) h =
      rw (times_append k (numbers (entry_if (c x) (s x))) (keys_of c s l))
      (omega (arith, at (c x) (h x (omega (arith, hit x))), keys_times o k l (λ y n. h y (omega arith))))
    where
      at : (b : Bool) → (b ≡ true → o (s x) ≡ x) → times k (numbers (entry_if b (s x))) ≤ tally (eqb (o k) x)
      at true g =
          elim (ℕ_discrete k (s x)) [
            | yes e ↦ rw (e, g refl) (omega (arith, hit x, tally_small (eqb (s x) (s x))))
            | no m ↦ omega (arith, miss k (s x) m)
          ]
      at false g = omega arith

  -- each of them is somebody's
  abbrev pub Owner : ℕ → List ℕ → Type 0
  Owner k l = (y : ℕ) × (1 ≤ times y l) × (c y ≡ true) × (s y ≡ k)

  pub keys_owner : (k : ℕ) (l : List ℕ) → 1 ≤ times k (keys_of c s l) → Owner k l
  unfolding joined times
  keys_owner k [] h = absurd (omega arith)
  keys_owner k (x ∷ l) h =
      at (c x) refl (λ n. let w = keys_owner k l n in (w.0, omega (arith, w.1), w.2, w.3)) (rw (times_append k (numbers (entry_if (c x) (s x))) (keys_of c s l)) at h)
    where
      at : (b : Bool) → c x ≡ b → (1 ≤ times k (keys_of c s l) → Owner k (x ∷ l)) → 1 ≤ times k (numbers (entry_if b (s x))) + times k (keys_of c s l) → Owner k (x ∷ l)
      at true e later n =
          elim (ℕ_discrete k (s x)) [
            | yes q ↦ (x, omega (arith, hit x), e, sym q)
            | no m ↦ later (omega (arith, miss k (s x) m))
          ]
      at false e later n = later (omega arith)

-- ---- a list put behind the first n of a table

pub take_sets : (l : List ℕ) (n : ℕ) (vs : List ℕ) → n + length vs ≤ length l → take (n + length vs) (sets l n vs) ≡ take n l ++ vs
take_sets l n vs h =
    let e : length (take n l ++ vs) ≡ n + length vs = rw (length-append (take n l) vs, length-take-le n l (omega arith)) in
    rw (sets-eq vs l n h) (take_at (take n l ++ vs) (drop (n + length vs) l) (n + length vs) e)

turn_append : (a b c : List ℕ) → reverse_aux (a ++ b) c ≡ reverse_aux b (reverse_aux a c)
turn_append [] b c = refl
turn_append (x ∷ a) b c = turn_append a b (x ∷ c)

turn_onto : (a c : List ℕ) → reverse_aux a c ≡ reverse a ++ c
turn_onto [] c = refl
turn_onto (x ∷ a) c = rw (turn_onto a (x ∷ c), turn_onto a (x ∷ [])) (sym (append_assoc (reverse a) (x ∷ []) c))

pub reverse_append : (a b : List ℕ) → reverse (a ++ b) ≡ reverse b ++ reverse a
reverse_append a b = turn_append a b [] ∙ turn_onto b (reverse a)
