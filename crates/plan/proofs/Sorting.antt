-- A list sorted by a strict order is settled by its members, so any two ways to sort agree.
use Prim.Native.Nat.{ℕ, ◌+◌, ◌≤◌, ◌<◌}
use mathlib.Core.Path.{◌≡◌, refl, sym, ap, ◌∙◌}
use mathlib.Core.Bool.{Bool, true, false}
use mathlib.Core.List.{List, [], ◌∷◌}
use native.Mathlib.Omega.{arith}
use mathlib.Core.Bool.{◌&&◌, ◌||◌}
use mathlib.Core.Logic.{◌⊎◌, inl, inr, ⊎_elim}
use native.Mathlib.Decide.{dec_lt}
use borrow.Author.Tests.{eqb-true, eqb-false, eq-eqb, ltb-true, lt-ltb}
use lib.Dec.{eqb, ltb}
use Rattle.counting.specs.Times.{tally, times}
use Rattle.counting.proofs.Counting.{hit, miss}
use Rattle.plan.specs.Lists.{insert_sorted, sorted, First, Rising}

never : true ≡ false → ⊥
never p = let z : ◌≡◌ {A = ℕ} 0 1 = cc in absurd (omega arith)

-- a strict order on the numbers that differ
pub record Strict (before : ℕ → ℕ → Bool) : Type 0 where
  pub asym : (x y : ℕ) → before x y ≡ true → before y x ≡ true → ⊥
  pub trans : (x y z : ℕ) → before x y ≡ true → before y z ≡ true → before x z ≡ true
  pub total : (x y : ℕ) → (x ≡ y → ⊥) → before x y ≡ false → before y x ≡ true

module _ (before : ℕ → ℕ → Bool) where
  module _ (S : Strict before) where
    pub settled : (xs ys : List ℕ) → Rising before xs → Rising before ys → ((x : ℕ) → times x xs ≡ times x ys) → xs ≡ ys
    unfolding times
    settled [] [] r s e = refl
    settled [] (y ∷ ys) r s e = absurd (omega (arith, e y, hit y))
    settled (x ∷ xs) [] r s e = absurd (omega (arith, e x, hit x))
    settled (x ∷ xs) (y ∷ ys) r s e = go (eqb x y) refl (settled xs ys r.1 s.1)
      where
        go : (b : Bool) → eqb x y ≡ b → (((z : ℕ) → times z xs ≡ times z ys) → xs ≡ ys) → x ∷ xs ≡ y ∷ ys
        go true d ih =
            let q = eqb-true x y d in
            rw q (ap (λ (m : List ℕ). y ∷ m) (ih (λ z. omega (arith, rw q at (e z)))))
        go false d ih =
            let n = eqb-false x y d in
            let there : 1 ≤ times x ys = omega (arith, e x, hit x, miss x y n) in
            let here : 1 ≤ times y xs = omega (arith, e y, hit y, miss y x (λ q. n (sym q))) in
            absurd (S.asym x y (r.0 y here) (s.0 x there))

    -- ---- what insertion leaves

    pub times_inserted : (z x : ℕ) (ys : List ℕ) → times z (insert_sorted before x ys) ≡ tally (eqb z x) + times z ys
    unfolding times insert_sorted
    times_inserted z x [] = refl
    times_inserted z x (y ∷ ys) = go (before x y) refl (times_inserted z x ys)
      where
        go : (b : Bool) → before x y ≡ b → times z (insert_sorted before x ys) ≡ tally (eqb z x) + times z ys → times z (insert_sorted before x (y ∷ ys)) ≡ tally (eqb z x) + times z (y ∷ ys)
        go true d ih = rw d
        go false d ih = rw (d, ih) (omega arith)

    pub times_sorted : (z : ℕ) (xs : List ℕ) → times z (sorted before xs) ≡ times z xs
    unfolding times sorted
    times_sorted z [] = refl
    times_sorted z (x ∷ xs) = rw (times_inserted z x (sorted before xs), times_sorted z xs)

    rising_inserted : (x : ℕ) (ys : List ℕ) → times x ys ≡ 0 → Rising before ys → Rising before (insert_sorted before x ys)
    unfolding times insert_sorted
    rising_inserted x [] n r = ((λ y h. absurd (omega arith)), tt)
    rising_inserted x (y ∷ ys) n r = go (before x y) refl (rising_inserted x ys)
      where
        other : x ≡ y → ⊥
        other q = let h : tally (eqb x y) ≡ 1 = rw q (hit y) in absurd (omega (arith, n))

        go : (b : Bool) → before x y ≡ b → (times x ys ≡ 0 → Rising before ys → Rising before (insert_sorted before x ys)) → Rising before (insert_sorted before x (y ∷ ys))
        go true d ih = rw d (first, r)
          where
            first : First before x (y ∷ ys)
            first z h = at (eqb z y) refl
              where
                at : (c : Bool) → eqb z y ≡ c → before x z ≡ true
                at true e = rw (eqb-true z y e) d
                at false e = S.trans x y z d (r.0 z (omega (arith, h, miss z y (eqb-false z y e))))
        go false d ih = rw d (first, ih (omega (arith, n)) r.1)
          where
            first : First before y (insert_sorted before x ys)
            first z h = at (eqb z x) refl
              where
                at : (c : Bool) → eqb z x ≡ c → before y z ≡ true
                at true e = rw (eqb-true z x e) (S.total x y other d)
                at false e = r.0 z (omega (arith, h, times_inserted z x ys, miss z x (eqb-false z x e)))

    pub rising_sorted : (xs : List ℕ) → ((x : ℕ) → times x xs ≤ 1) → Rising before (sorted before xs)
    unfolding times sorted
    rising_sorted [] o = tt
    rising_sorted (x ∷ xs) o =
        rising_inserted x (sorted before xs) (rw (times_sorted x xs) (omega (arith, o x, hit x))) (rising_sorted xs (λ z. omega (arith, o z)))

-- ---- by generation, then index

module _ (g : ℕ → ℕ) where
  abbrev pub by_generation : ℕ → ℕ → Bool
  by_generation x y = ltb (g x) (g y) || (eqb (g x) (g y) && ltb x y)

  told : (x y : ℕ) → by_generation x y ≡ true → (g x < g y) ⊎ ((g x ≡ g y) × (x < y))
  told x y e = go (ltb (g x) (g y)) refl (eqb (g x) (g y)) refl (ltb x y) refl
    where
      go : (a : Bool) → ltb (g x) (g y) ≡ a → (b : Bool) → eqb (g x) (g y) ≡ b → (c : Bool) → ltb x y ≡ c → (g x < g y) ⊎ ((g x ≡ g y) × (x < y))
      go true p b q c r = inl (ltb-true (g x) (g y) p)
      go false p true q true r = inr (eqb-true (g x) (g y) q, ltb-true x y r)
      go false p true q false r = let z : true ≡ false = sym e ∙ rw (p, q, r) in absurd (never z)
      go false p false q c r = let z : true ≡ false = sym e ∙ rw (p, q) in absurd (never z)

  lower : (x y : ℕ) → g x < g y → by_generation x y ≡ true
  lower x y h = rw (lt-ltb (g x) (g y) h)

  level : (x y : ℕ) → g x ≡ g y → x < y → by_generation x y ≡ true
  level x y e h = go (ltb (g x) (g y)) refl
    where
      go : (a : Bool) → ltb (g x) (g y) ≡ a → by_generation x y ≡ true
      go true p = rw p
      go false p = rw (p, eq-eqb (g x) (g y) e, lt-ltb x y h)

  pub strict : Strict by_generation
  strict =
      record {
        asym = λ x y p q. ⊎_elim (λ h. ⊎_elim (λ k. absurd (omega arith)) (λ k. absurd (omega (arith, k.0))) (told y x q)) (λ h. ⊎_elim (λ k. absurd (omega (arith, h.0))) (λ k. absurd (omega (arith, h.1, k.1))) (told y x q)) (told x y p);
        trans =
            λ x y z p q.
            ⊎_elim
            (λ h. ⊎_elim (λ k. lower x z (omega arith)) (λ k. lower x z (omega (arith, k.0))) (told y z q))
            (λ h. ⊎_elim (λ k. lower x z (omega (arith, h.0))) (λ k. level x z (h.0 ∙ k.0) (omega (arith, h.1, k.1))) (told y z q))
            (told x y p);
        total = total;
      }
    where
      total : (x y : ℕ) → (x ≡ y → ⊥) → by_generation x y ≡ false → by_generation y x ≡ true
      total x y n e = elim (dec_lt (g y) (g x)) [ yes h ↦ lower y x h | no m ↦ elim (dec_lt (g x) (g y)) [ yes h ↦ absurd (never (sym (lower x y h) ∙ e)) | no k ↦ elim (dec_lt x y) [ yes h ↦ absurd (never (sym (level x y (omega arith) h) ∙ e)) | no j ↦ level y x (omega arith) (less j) ] ] ]
        where
          less : (x < y → ⊥) → y < x
          less j = elim (dec_lt y x) [ yes h ↦ h | no i ↦ absurd (n (omega arith)) ]
