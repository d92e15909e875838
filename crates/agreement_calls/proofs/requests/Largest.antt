-- The largest of a list by a strict order does not hang on the list's order.
use mathlib.Core.Path.{◌≡◌, refl, sym, ap, ◌∙◌}
use mathlib.Core.Bool.{Bool, true, false, ◌&&◌, ◌||◌, cond}
use mathlib.Core.List.{List, ◌∷◌}
use Prim.Native.Nat.{ℕ, ◌≤◌, ◌<◌}
use native.Mathlib.Omega.{arith}
use native.Mathlib.Decide.{dec_lt, ℕ_discrete}
use borrow.Author.Tests.{lt-ltb, le-ltb, le-leb, lt-leb, eq-eqb, ne_eqb, ltb-true, ltb-false, leb-true, eqb-true}
use lib.Dec.{eqb, ltb, leb}
use lib.IntN.{ℤ, pos, negsuc}
use lib.Signed.{lt_z, le_z}
use Rattle.counting.specs.Times.{times}
use Rattle.counting.proofs.Counting.{hit, miss}
use Rattle.numbers.proofs.Bools.{and_left, and_right}
use Rattle.counting.proofs.Kit.{contra}
use Rattle.plan.specs.Afresh.{same_level, Hit, nothing, node}
use Rattle.plan.proofs.Sorting.{Strict}
use Rattle.agreement_calls.proofs.requests.Lists.{In}

-- ---- one place of the order: larger, or the same and the rest decides

module _ (more same : ℕ → ℕ → Bool) where
  pub data Placed (x y : ℕ) : Type 0 where
    higher : more x y ≡ true → more y x ≡ false → same y x ≡ false → Placed x y
    level : more x y ≡ false → more y x ≡ false → same x y ≡ true → same y x ≡ true → Placed x y
    lower : more y x ≡ true → more x y ≡ false → same x y ≡ false → Placed x y

  pub record Ranks : Type 0 where
    pub compare : (x y : ℕ) → Placed x y
    pub up_up : (x y z : ℕ) → more x y ≡ true → more y z ≡ true → more x z ≡ true
    pub up_level : (x y z : ℕ) → more x y ≡ true → same y z ≡ true → more x z ≡ true
    pub level_up : (x y z : ℕ) → same x y ≡ true → more y z ≡ true → more x z ≡ true
    pub level_level : (x y z : ℕ) → same x y ≡ true → same y z ≡ true → same x z ≡ true

  module _ (R : Ranks) (rest : ℕ → ℕ → Bool) (S : Strict rest) where
    abbrev larger : ℕ → ℕ → Bool
    larger x y = more x y || (same x y && rest x y)

    is_higher : (x y : ℕ) → more x y ≡ true → larger x y ≡ true
    is_higher x y h = rw h

    is_level : (x y : ℕ) → same x y ≡ true → rest x y ≡ true → larger x y ≡ true
    is_level x y h r = go (more x y)
      where
        go : (b : Bool) → b || (same x y && rest x y) ≡ true
        go true = refl
        go false = rw (h, r)

    -- a place that decides against x, or leaves it to the rest
    not_lower : (x y : ℕ) → more x y ≡ false → same x y ≡ false → larger x y ≡ true → ⊥
    not_lower x y m s e = contra e (rw (m, s))

    by_rest : (x y : ℕ) → more x y ≡ false → same x y ≡ true → larger x y ≡ rest x y
    by_rest x y m s = rw (m, s)

    asym : (x y : ℕ) → larger x y ≡ true → larger y x ≡ true → ⊥
    asym x y p q = go (R.compare x y)
      where
        go : Placed x y → ⊥
        go (higher a b c) = not_lower y x b c q
        go (level a b c d) = S.asym x y (sym (by_rest x y a c) ∙ p) (sym (by_rest y x b d) ∙ q)
        go (lower a b c) = not_lower x y b c p

    trans : (x y z : ℕ) → larger x y ≡ true → larger y z ≡ true → larger x z ≡ true
    trans x y z p q = go (R.compare x y) (R.compare y z)
      where
        go : Placed x y → Placed y z → larger x z ≡ true
        go (lower a b c) w = absurd (not_lower x y b c p)
        go (higher a b c) (lower d e f) = absurd (not_lower y z e f q)
        go (higher a b c) (higher d e f) = is_higher x z (R.up_up x y z a d)
        go (higher a b c) (level d e f g) = is_higher x z (R.up_level x y z a f)
        go (level a b c d) (lower e f g) = absurd (not_lower y z f g q)
        go (level a b c d) (higher e f g) = is_higher x z (R.level_up x y z c e)
        go (level a b c d) (level e f g h) = is_level x z (R.level_level x y z c g) (S.trans x y z (sym (by_rest x y a c) ∙ p) (sym (by_rest y z e g) ∙ q))

    total : (x y : ℕ) → (x ≡ y → ⊥) → larger x y ≡ false → larger y x ≡ true
    total x y n e = go (R.compare x y)
      where
        go : Placed x y → larger y x ≡ true
        go (higher a b c) = absurd (contra (is_higher x y a) e)
        go (level a b c d) = is_level y x d (S.total x y n (sym (by_rest x y a c) ∙ e))
        go (lower a b c) = is_higher y x a

    pub first_place : Strict larger
    first_place = record { asym = asym; trans = trans; total = total }

-- ---- the places: numbers, levels, and last the slot itself

pub strict_slots : Strict (λ x y. ltb y x)
strict_slots =
    record {
      asym = λ x y p q. omega (arith, ltb-true y x p, ltb-true x y q);
      trans = λ x y z p q. lt-ltb z x (omega (arith, ltb-true y x p, ltb-true z y q));
      total = λ x y n e. lt-ltb x y (below x y n (ltb-false y x e));
    }
  where
    below : (x y : ℕ) → (x ≡ y → ⊥) → x ≤ y → x < y
    below x y n l = elim (dec_lt x y) [ yes h ↦ h | no m ↦ absurd (n (omega arith)) ]

-- two numbers, each way
pub data Cmp (a b : ℕ) : Type 0 where
  less : a < b → Cmp a b
  equal : a ≡ b → Cmp a b
  more : b < a → Cmp a b

cmp : (a b : ℕ) → Cmp a b
cmp a b = elim (dec_lt a b) [ yes l ↦ less l | no n ↦ elim (dec_lt b a) [ yes l ↦ more l | no m ↦ equal (omega arith) ] ]

-- a place that is a key of each slot, compared by an order
module _ {A : Type 0} (lt same : A → A → Bool) where
  pub data Between (a b : A) : Type 0 where
    over : lt b a ≡ true → lt a b ≡ false → same b a ≡ false → Between a b
    even : lt b a ≡ false → lt a b ≡ false → same a b ≡ true → same b a ≡ true → Between a b
    under : lt a b ≡ true → lt b a ≡ false → same a b ≡ false → Between a b

  pub ranks : ((a b : A) → Between a b) → ((a b c : A) → lt a b ≡ true → lt b c ≡ true → lt a c ≡ true) → ((a b : A) → same a b ≡ true → a ≡ b)
      → (key : ℕ → A) → Ranks (λ x y. lt (key y) (key x)) (λ x y. same (key x) (key y))
  ranks compare through alike key =
      record {
        compare = λ x y. at x y (compare (key x) (key y));
        up_up = λ x y z p q. through (key z) (key y) (key x) q p;
        up_level = λ x y z p q. rw (← alike (key y) (key z) q) p;
        level_up = λ x y z p q. rw (alike (key x) (key y) p) q;
        level_level = λ x y z p q. rw (alike (key x) (key y) p) q;
      }
    where
      at : (x y : ℕ) → Between (key x) (key y) → Placed (λ x y. lt (key y) (key x)) (λ x y. same (key x) (key y)) x y
      at x y (over a b c) = higher a b c
      at x y (even a b c d) = level a b c d
      at x y (under a b c) = lower a b c

between_numbers : (a b : ℕ) → Between ltb eqb a b
between_numbers a b = go (cmp a b)
  where
    go : Cmp a b → Between ltb eqb a b
    go (less l) = under (lt-ltb a b l) (le-ltb b a (omega arith)) (ne_eqb a b (λ e. omega arith))
    go (equal e) = even (le-ltb b a (omega arith)) (le-ltb a b (omega arith)) (eq-eqb a b e) (eq-eqb b a (sym e))
    go (more l) = over (lt-ltb b a l) (le-ltb a b (omega arith)) (ne_eqb b a (λ e. omega arith))

pub ranks_numbers : (key : ℕ → ℕ) → Ranks (λ x y. ltb (key y) (key x)) (λ x y. eqb (key x) (key y))
ranks_numbers key = ranks ltb eqb between_numbers (λ a b c p q. lt-ltb a c (omega (arith, ltb-true a b p, ltb-true b c q))) eqb-true key

between_levels : (a b : ℤ) → Between lt_z same_level a b
between_levels (pos a) (pos b) = go (cmp a b)
  where
    go : Cmp a b → Between lt_z same_level (pos a) (pos b)
    go (less l) = under (lt-ltb a b l) (le-ltb b a (omega arith)) (rw (le-leb a b (omega arith), lt-leb b a l))
    go (equal e) = even (le-ltb b a (omega arith)) (le-ltb a b (omega arith)) (rw (le-leb a b (omega arith), le-leb b a (omega arith))) (rw (le-leb b a (omega arith), le-leb a b (omega arith)))
    go (more l) = over (lt-ltb b a l) (le-ltb a b (omega arith)) (rw (le-leb b a (omega arith), lt-leb a b l))
between_levels (pos a) (negsuc b) = over refl refl refl
between_levels (negsuc a) (pos b) = under refl refl refl
between_levels (negsuc a) (negsuc b) = go (cmp b a)
  where
    go : Cmp b a → Between lt_z same_level (negsuc a) (negsuc b)
    go (less l) = under (lt-ltb b a l) (le-ltb a b (omega arith)) (rw (le-leb b a (omega arith), lt-leb a b l))
    go (equal e) = even (le-ltb a b (omega arith)) (le-ltb b a (omega arith)) (rw (le-leb b a (omega arith), le-leb a b (omega arith))) (rw (le-leb a b (omega arith), le-leb b a (omega arith)))
    go (more l) = over (lt-ltb a b l) (le-ltb b a (omega arith)) (rw (le-leb a b (omega arith), lt-leb b a l))

levels_through : (a b c : ℤ) → lt_z a b ≡ true → lt_z b c ≡ true → lt_z a c ≡ true
levels_through (pos a) (pos b) (pos c) p q = lt-ltb a c (omega (arith, ltb-true a b p, ltb-true b c q))
levels_through (pos a) (pos b) (negsuc c) p q = q
levels_through (pos a) (negsuc b) c p q = absurd (contra refl (sym p))
levels_through (negsuc a) (pos b) (pos c) p q = refl
levels_through (negsuc a) (pos b) (negsuc c) p q = absurd (contra refl (sym q))
levels_through (negsuc a) (negsuc b) (pos c) p q = refl
levels_through (negsuc a) (negsuc b) (negsuc c) p q = lt-ltb c a (omega (arith, ltb-true b a p, ltb-true c b q))

one_number : (a b : ℕ) → leb a b && leb b a ≡ true → a ≡ b
one_number a b e = omega (arith, leb-true a b (and_left (leb a b) (leb b a) e), leb-true b a (and_right (leb a b) (leb b a) e))

same_equal : (a b : ℤ) → same_level a b ≡ true → a ≡ b
same_equal (pos a) (pos b) e = ap pos (one_number a b e)
same_equal (pos a) (negsuc b) e = absurd (contra refl (sym e))
same_equal (negsuc a) (pos b) e = absurd (contra refl (sym e))
same_equal (negsuc a) (negsuc b) e = ap negsuc (sym (one_number b a e))

pub ranks_levels : (key : ℕ → ℤ) → Ranks (λ x y. lt_z (key y) (key x)) (λ x y. same_level (key x) (key y))
ranks_levels key = ranks lt_z same_level between_levels levels_through same_equal key

-- where the first is not below, "not above" is "the same"
pub or_same : (a b : ℤ) (r : Bool) → lt_z b a || (le_z b a && r) ≡ lt_z b a || (same_level a b && r)
or_same (pos a) (pos b) r = go (ltb b a) refl
  where
    go : (c : Bool) → ltb b a ≡ c → c || (leb b a && r) ≡ c || (leb a b && leb b a && r)
    go true e = refl
    go false e = rw (le-leb a b (ltb-false b a e))
or_same (pos a) (negsuc b) r = refl
or_same (negsuc a) (pos b) r = refl
or_same (negsuc a) (negsuc b) r = go (ltb a b) refl
  where
    go : (c : Bool) → ltb a b ≡ c → c || (leb a b && r) ≡ c || (leb b a && leb a b && r)
    go true e = refl
    go false e = rw (le-leb b a (ltb-false a b e))

-- ---- the largest

module _ (larger : ℕ → ℕ → Bool) (S : Strict larger) where
  abbrev pub Top : List ℕ → Hit → Type 0
  Top xs nothing = (y : ℕ) → In y xs → ⊥
  Top xs (node x) = In x xs × ((y : ℕ) → In y xs → (y ≡ x → ⊥) → larger x y ≡ true)

  -- the better of x and the largest so far
  abbrev pub with_one : ℕ → Hit → Hit
  with_one x nothing = node x
  with_one x (node y) = node (cond (larger x y) x y)

  in_head : (x : ℕ) (xs : List ℕ) → In x (x ∷ xs)
  unfolding times
  in_head x xs = omega (arith, hit x)

  in_later : (x y : ℕ) (xs : List ℕ) → In y xs → In y (x ∷ xs)
  unfolding times
  in_later x y xs h = omega arith

  in_rest : (x y : ℕ) (xs : List ℕ) → In y (x ∷ xs) → (y ≡ x → ⊥) → In y xs
  unfolding times
  in_rest x y xs h n = omega (arith, miss y x n)

  pub top_one : (x : ℕ) (xs : List ℕ) (h : Hit) → Top xs h → Top (x ∷ xs) (with_one x h)
  top_one x xs nothing T = (in_head x xs, λ y i n. absurd (T y (in_rest x y xs i n)))
  top_one x xs (node z) T = win (larger x z) refl
    where
      win : (b : Bool) → larger x z ≡ b → Top (x ∷ xs) (node (cond b x z))
      win true e = (
        in_head x xs,
        λ y i n. elim (ℕ_discrete y z) [ yes d ↦ rw d e | no m ↦ S.trans x z y e (T.1 y (in_rest x y xs i n) m) ],
      )
      win false e = (
        in_later x z xs T.0,
        λ y i n. elim (ℕ_discrete y x) [ yes d ↦ rw d (S.total x z (λ q. n (d ∙ q)) e) | no m ↦ T.1 y (in_rest x y xs i m) n ],
      )

  pub top_same : (xs ys : List ℕ) → ((y : ℕ) → In y xs → In y ys) → ((y : ℕ) → In y ys → In y xs) → (h g : Hit) → Top xs h → Top ys g → h ≡ g
  top_same xs ys f b nothing nothing T U = refl
  top_same xs ys f b nothing (node y) T U = absurd (T y (b y U.0))
  top_same xs ys f b (node x) nothing T U = absurd (U x (f x T.0))
  top_same xs ys f b (node x) (node y) T U =
      elim (ℕ_discrete x y) [
        | yes e ↦ ap node e
        | no n ↦ absurd (S.asym x y (T.1 y (b y U.0) (λ e. n (sym e))) (U.1 x (f x T.0) n))
      ]

  pub top_of : (xs ys : List ℕ) → ((y : ℕ) → In y xs → In y ys) → ((y : ℕ) → In y ys → In y xs) → (h : Hit) → Top xs h → Top ys h
  top_of xs ys f b nothing T = λ y i. T y (b y i)
  top_of xs ys f b (node x) T = (f x T.0, λ y i n. T.1 y (b y i) n)
