-- What is kept of a list, joined lists, and facts of every one of a list.
use mathlib.Core.Path.{◌≡◌, refl, sym, ◌∙◌}
use mathlib.Core.Bool.{Bool, true, false, ◌&&◌, ◌||◌, cond}
use mathlib.Core.List.{List, [], ◌∷◌, ◌++◌, map, append_assoc, append-nil}
use Prim.Native.Nat.{ℕ, zero, suc, ◌≤◌, ◌<◌}
use native.Mathlib.Omega.{arith}
use native.Mathlib.Decide.{dec_lt, ℕ_discrete}
use lib.Dec.{eqb}
use Rattle.counting.specs.Times.{tally, times}
use Rattle.counting.proofs.Counting.{hit, miss, times_append}
use Rattle.counting.proofs.Kit.{contra}
use Rattle.plan.specs.Lists.{keep, any, joined, up_to}
use Rattle.tree_steps.specs.Requests.{keep_of}

-- ---- members

abbrev pub In : ℕ → List ℕ → Type 0
In x xs = 1 ≤ times x xs

abbrev pub Every : (ℕ → Type 0) → List ℕ → Type 0
Every P [] = Unit {0}
Every P (x ∷ xs) = P x × Every P xs

module _ (P : ℕ → Type 0) where
  pub every_in : (xs : List ℕ) → ((x : ℕ) → In x xs → P x) → Every P xs
  unfolding times
  every_in [] h = tt
  every_in (x ∷ xs) h = (h x (omega (arith, hit x)), every_in xs (λ y n. h y (omega arith)))

  pub in_every : (xs : List ℕ) → Every P xs → (x : ℕ) → In x xs → P x
  unfolding times
  in_every [] e x n = absurd (omega arith)
  in_every (y ∷ xs) e x n = elim (ℕ_discrete x y) [ yes q ↦ rw q e.0 | no m ↦ in_every xs e.1 x (omega (arith, miss x y m)) ]

  pub every_append : (a b : List ℕ) → Every P a → Every P b → Every P (a ++ b)
  every_append [] b e d = d
  every_append (x ∷ a) b e d = (e.0, every_append a b e.1 d)

  pub every_keep : (q : ℕ → Bool) (xs : List ℕ) → Every P xs → Every P (keep q xs)
  unfolding keep
  every_keep q [] e = tt
  every_keep q (x ∷ xs) e = go (q x) (every_keep q xs e.1)
    where
      go : (b : Bool) → Every P (keep q xs) → Every P (cond b (x ∷ keep q xs) (keep q xs))
      go true r = (e.0, r)
      go false r = r

  pub every_joined : (g : ℕ → List ℕ) → ((k : ℕ) → Every P (g k)) → (ks : List ℕ) → Every P (joined g ks)
  unfolding joined
  every_joined g e [] = tt
  every_joined g e (k ∷ ks) = every_append (g k) (joined g ks) (e k) (every_joined g e ks)

pub every_map : (P Q : ℕ → Type 0) → ((x : ℕ) → P x → Q x) → (xs : List ℕ) → Every P xs → Every Q xs
every_map P Q g [] e = tt
every_map P Q g (x ∷ xs) e = (g x e.0, every_map P Q g xs e.1)

-- ---- tests of a list

module _ (q : ℕ → Bool) where
  pub any_false : (xs : List ℕ) → any q xs ≡ false → (x : ℕ) → In x xs → q x ≡ false
  unfolding any times
  any_false [] e x n = absurd (omega arith)
  any_false (y ∷ xs) e x n =
      let h = neither (q y) (any q xs) e in
      elim (ℕ_discrete x y) [ yes d ↦ rw d h.0 | no m ↦ any_false xs h.1 x (omega (arith, miss x y m)) ]
    where
      neither : (a b : Bool) → a || b ≡ false → (a ≡ false) × (b ≡ false)
      neither true b e = absurd (contra refl e)
      neither false b e = (refl, e)

  pub any_none : (xs : List ℕ) → Every (λ x. q x ≡ false) xs → any q xs ≡ false
  unfolding any
  any_none [] e = refl
  any_none (x ∷ xs) e = rw (e.0, any_none xs e.1)

  pub keep_none : (xs : List ℕ) → Every (λ x. q x ≡ false) xs → keep q xs ≡ []
  unfolding keep
  keep_none [] e = refl
  keep_none (x ∷ xs) e = rw (e.0, keep_none xs e.1)

  pub keep_append : (a b : List ℕ) → keep q (a ++ b) ≡ keep q a ++ keep q b
  unfolding keep
  keep_append [] b = refl
  keep_append (x ∷ a) b = rw (keep_append a b) (go (q x))
    where
      go : (c : Bool) → cond c (x ∷ (keep q a ++ keep q b)) (keep q a ++ keep q b) ≡ cond c (x ∷ keep q a) (keep q a) ++ keep q b
      go true = refl
      go false = refl

  pub kept_in : (xs : List ℕ) (x : ℕ) → In x xs → q x ≡ true → In x (keep q xs)
  unfolding keep times
  kept_in [] x n e = absurd (omega arith)
  kept_in (y ∷ xs) x n e =
      elim (ℕ_discrete x y) [
        | yes d ↦
            let w : q y ≡ true = rw (← d) e in
            rw (w, d) (omega (arith, hit y))
        | no m ↦ later (q y) (kept_in xs x (omega (arith, miss x y m)) e)
      ]
    where
      later : (c : Bool) → In x (keep q xs) → In x (cond c (y ∷ keep q xs) (keep q xs))
      later true h = omega arith
      later false h = h

  pub kept_out : (xs : List ℕ) (x : ℕ) → In x (keep q xs) → In x xs × (q x ≡ true)
  unfolding keep times
  kept_out [] x n = absurd (omega arith)
  kept_out (y ∷ xs) x n = go (q y) refl n (kept_out xs x)
    where
      go : (c : Bool) → q y ≡ c → In x (cond c (y ∷ keep q xs) (keep q xs)) → (In x (keep q xs) → In x xs × (q x ≡ true)) → In x (y ∷ xs) × (q x ≡ true)
      go true d h ih =
          elim (ℕ_discrete x y) [
            | yes e ↦ (rw e (omega (arith, hit y)), rw e d)
            | no m ↦
                let r = ih (omega (arith, miss x y m)) in
                (omega (arith, r.0), r.1)
          ]
      go false d h ih = let r = ih h in (omega (arith, r.0), r.1)

  -- the one that passes
  pub keep_one : (x : ℕ) → q x ≡ true → (xs : List ℕ) → times x xs ≡ 1 → ((y : ℕ) → In y xs → q y ≡ true → y ≡ x) → keep q xs ≡ x ∷ []
  unfolding keep times
  keep_one x e [] n o = absurd (omega arith)
  keep_one x e (y ∷ xs) n o =
      elim (ℕ_discrete x y) [
        | yes d ↦
            let w : q y ≡ true = rw (← d) e in
            let here : tally (eqb x y) ≡ 1 = rw d (hit y) in
            let gone : times x xs ≡ 0 = omega arith in
            rw (w, keep_none xs (every_in (λ z. q z ≡ false) xs (λ z i. others gone z i (q z) refl)), d)
        | no m ↦
            let w : q y ≡ false = fails m (q y) refl in
            rw w (keep_one x e xs (omega (arith, miss x y m)) (λ z i. o z (omega arith)))
      ]
    where
      fails : (x ≡ y → ⊥) → (b : Bool) → q y ≡ b → b ≡ false
      fails m true d = absurd (m (sym (o y (omega (arith, hit y)) d)))
      fails m false d = refl

      others : times x xs ≡ 0 → (z : ℕ) → In z xs → (b : Bool) → q z ≡ b → b ≡ false
      others g z i true d = let w : z ≡ x = o z (omega arith) d in absurd (omega (arith, rw w at i))
      others g z i false d = refl

-- two tests after each other, where each of the list passes both exactly where it passes a third
pub keep_twice : (h g m : ℕ → Bool) (xs : List ℕ) → Every (λ x. h x && g x ≡ m x) xs → keep_of g (keep h xs) ≡ keep m xs
unfolding keep keep_of
keep_twice h g m [] e = refl
keep_twice h g m (x ∷ xs) e = go (h x) refl (keep_twice h g m xs e.1)
  where
    go : (b : Bool) → h x ≡ b → keep_of g (keep h xs) ≡ keep m xs → keep_of g (cond b (x ∷ keep h xs) (keep h xs)) ≡ cond (m x) (x ∷ keep m xs) (keep m xs)
    go true d r = let w : g x ≡ m x = rw d at e.0 in rw (w, r)
    go false d r = let w : false ≡ m x = rw d at e.0 in rw (← w, r)

-- ---- joined lists

pub joined_snoc : (g : ℕ → List ℕ) (ks : List ℕ) (k : ℕ) → joined g (ks ++ (k ∷ [])) ≡ joined g ks ++ g k
unfolding joined
joined_snoc g [] k = append-nil (g k)
joined_snoc g (j ∷ ks) k = rw (joined_snoc g ks k) (sym (append_assoc (g j) (joined g ks) (g k)))

-- over the numbers below n
module _ (g : ℕ → List ℕ) where
  pub joined_next : (n : ℕ) → joined g (up_to (suc n)) ≡ joined g (up_to n) ++ g n
  unfolding up_to
  joined_next n = joined_snoc g (up_to n) n

  -- from where nothing comes, no more comes
  pub joined_more : (m : ℕ) → ((k : ℕ) → m ≤ k → g k ≡ []) → (n : ℕ) → m ≤ n → joined g (up_to n) ≡ joined g (up_to m)
  joined_more m e zero h = let w : m ≡ 0 = omega arith in rw w
  joined_more m e (suc n) h =
      elim (dec_lt m (suc n)) [
        | yes l ↦ joined_next n ∙ rw (e n (omega arith), append-nil (joined g (up_to n))) (joined_more m e n (omega arith))
        | no k ↦ let w : m ≡ suc n = omega arith in rw w
      ]

  pub joined_in : (x k n : ℕ) → k < n → In x (g k) → In x (joined g (up_to n))
  unfolding times
  joined_in x k zero l h = absurd (omega arith)
  joined_in x k (suc n) l h =
      rw (joined_next n, times_append x (joined g (up_to n)) (g n))
      (elim (ℕ_discrete k n) [ yes e ↦ omega (arith, rw e at h) | no m ↦ omega (arith, joined_in x k n (omega arith) h) ])

-- ---- the same of each

pub map_same : {A : Type 0} (f g : ℕ → A) → ((x : ℕ) → f x ≡ g x) → (xs : List ℕ) → map f xs ≡ map g xs
map_same f g e [] = refl
map_same f g e (x ∷ xs) = rw (e x, map_same f g e xs)
