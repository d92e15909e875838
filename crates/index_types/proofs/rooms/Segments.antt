-- The law over the stride: what a store of k elements at k * i does to each segment.
use mathlib.Core.Path.{◌≡◌, refl, ◌∙◌}
use mathlib.Core.Logic.{◌⊎◌, inl, inr, ⊎_elim}
use mathlib.Core.List.{List, [], ◌∷◌, ◌++◌, append_assoc}
use Prim.Native.Nat.{ℕ, suc, ◌+◌, ◌-◌, ◌*◌, ◌≤◌, ◌<◌}
use native.Mathlib.Nat.{mul-le-mul_left, mul-suc}
use native.Mathlib.Omega.{arith}
use native.Mathlib.Decide.{dec_lt}
use mathlib.Core.Bool.{true}
use borrow.Author.Tests.{ltb-true}
use lib.Dec.{ltb}
use lib.ListN.{length, take, drop, get_or, set}
use lib.Seq.{sets, sets-eq, drop-set-lt, drop-set-add, take-set-le, take_at, drop_at, length-take-le, get_or-take, get_or-drop}
use Rattle.index_types.specs.rooms.Stride.{segment, store}

-- the code's p + 3 and the stores' suc (suc (suc p))
pub plus_2 : (p : ℕ) → p + 2 ≡ suc (suc p)
plus_2 p = omega arith

pub plus_3 : (p : ℕ) → p + 3 ≡ suc (suc (suc p))
plus_3 p = omega arith

-- two segments do not meet
step : (k i j : ℕ) → i < j → k * i + k ≤ k * j
step k i j h = rw (← mul-suc k i) (mul-le-mul_left k h)

apart : (k i j : ℕ) → (j ≡ i → ⊥) → (k * i + k ≤ k * j) ⊎ (k * j + k ≤ k * i)
apart k i j n = elim (dec_lt i j) [ yes l ↦ inl (step k i j l) | no m ↦ inr (step k j i (omega arith)) ]

module _ {A : Type 0} (k : ℕ) where
  -- one element of a segment; the premise is an equation, which `simp` shows by computing
  pub cell : (l : List A) (i c : ℕ) (d : A) → ltb c k ≡ true → get_or (segment k l i) c d ≡ get_or l (k * i + c) d
  cell l i c d h = rw (get_or-take k (drop (k * i) l) c d (ltb-true c k h), get_or-drop (k * i) l c d)

  -- a store outside a part leaves it
  part_set : (b p : ℕ) (l : List A) (a : A) → (p < b) ⊎ (b + k ≤ p) → take k (drop b (set l p a)) ≡ take k (drop b l)
  part_set b p l a =
      ⊎_elim
      (λ h. rw (drop-set-lt b l p a h))
      (λ h.
      let e : p ≡ b + (p - b) = omega arith in
      let g : k ≤ p - b = omega arith in
      rw (e, drop-set-add b l (p - b) a) (take-set-le k (drop b l) (p - b) a g))

  part_sets : (b : ℕ) (vs l : List A) (p : ℕ) → (p + length vs ≤ b) ⊎ (b + k ≤ p) → take k (drop b (sets l p vs)) ≡ take k (drop b l)
  part_sets b [] l p h = refl
  part_sets b (v ∷ vs) l p h =
      part_sets b vs (set l p v) (suc p) (⊎_elim (λ g. inl (omega arith)) (λ g. inr (omega arith)) h)
      ∙ part_set b p l v (⊎_elim (λ g. inl (omega arith)) (λ g. inr (omega arith)) h)

  module _ (l : List A) (i : ℕ) (vs : List A) (whole : length vs ≡ k) where
    pub same : k * i + k ≤ length l → segment k (store k l i vs) i ≡ vs
    same fits = rw (sets-eq vs l (k * i) (omega arith), append_assoc (take (k * i) l) vs (drop (k * i + length vs) l), drop_at (take (k * i) l) (vs ++ drop (k * i + length vs) l) (k * i) (length-take-le (k * i) l (omega arith))) (take_at vs (drop (k * i + length vs) l) k whole)

    pub other : (j : ℕ) → (j ≡ i → ⊥) → segment k (store k l i vs) j ≡ segment k l j
    other j n = part_sets (k * j) vs l (k * i) (⊎_elim (λ g. inl (omega arith)) (λ g. inr g) (apart k i j n))
