-- In whose walk a node is visited: of the topmost at or above it that passes the test, else in its own.
use Prim.Native.Nat.{ℕ, ◌≤◌}
use mathlib.Core.Path.{◌≡◌, refl, ap, subst, ◌∙◌}
use mathlib.Core.Bool.{Bool, true, false, ◌||◌, cond}
use mathlib.Core.List.{List, [], ◌∷◌}
use native.Mathlib.Omega.{arith}
use native.Mathlib.Decide.{ℕ_discrete}
use borrow.Author.Tests.{ne_eqb}
use lib.Dec.{eqb}
use Rattle.counting.specs.Times.{times}
use Rattle.counting.proofs.Counting.{hit}
use Rattle.link_forest.specs.Forest.{Forest, none, tree, has, Distinct, kids, above, part}
use Rattle.link_forest.proofs.Bools.{never}
use Rattle.link_forest.proofs.Clauses.{has_top, has_low, has_rest, has_nothing}
use Rattle.link_forest.proofs.Holds.{Found, found, holds_at, holds_part, Parent, Above, parent_above, above_below, Holds}
use Rattle.tree_state.specs.Tree.{any_of}

-- ---- one of two
pub or_left : (a b : Bool) → a ≡ true → a || b ≡ true
or_left a b e = rw e

pub or_right : (a b : Bool) → b ≡ true → a || b ≡ true
or_right true b e = refl
or_right false b e = e

pub or_other : (a b : Bool) → a || b ≡ true → b ≡ false → a ≡ true
or_other true b e n = refl
or_other false b e n = never e n

-- z is s, or below it
pub data Under (s z : ℕ) (f : Forest) : Type 0 where
  itself : s ≡ z → Under s z f
  lower : has z (kids s f) ≡ true → Under s z f

pub under_part : (s z : ℕ) (f : Forest) → has z (part s f) ≡ true → Under s z f
under_part s z f h =
    elim (ℕ_discrete s z) [
      | yes e ↦ itself e
      | no n ↦ go (has z (kids s f)) refl (ne_eqb s z n)
    ]
  where
    go : (b : Bool) → has z (kids s f) ≡ b → eqb s z ≡ false → Under s z f
    go true e n = lower e
    go false e n = has_nothing z (has_rest z s (kids s f) none h n e)

-- ---- a test of slots
module _ (p : ℕ → Bool) where
  pub any_here : (y : ℕ) (l : List ℕ) → p y ≡ true → any_of p (y ∷ l) ≡ true
  unfolding any_of
  any_here y l e = or_left (p y) (any_of p l) e

  pub any_above : (y : ℕ) (l : List ℕ) → any_of p l ≡ true → any_of p (y ∷ l) ≡ true
  unfolding any_of
  any_above y l e = or_right (p y) (any_of p l) e

  pub any_first : (y : ℕ) (l : List ℕ) → any_of p (y ∷ l) ≡ true → any_of p l ≡ false → p y ≡ true
  unfolding any_of
  any_first y l e n = or_other (p y) (any_of p l) e n

  -- y, where l is above it
  unfoldable pub owner : ℕ → List ℕ → ℕ
  owner y [] = y
  owner y (q ∷ qs) = cond (any_of p (q ∷ qs)) (owner q qs) y

  pub owner_self : (y : ℕ) (l : List ℕ) → any_of p l ≡ false → owner y l ≡ y
  unfolding owner
  owner_self y [] e = refl
  owner_self y (q ∷ qs) e = ap (λ (b : Bool). cond b (owner q qs) y) e

  pub owner_up : (y q : ℕ) (qs : List ℕ) → any_of p (q ∷ qs) ≡ true → owner y (q ∷ qs) ≡ owner q qs
  unfolding owner
  owner_up y q qs e = ap (λ (b : Bool). cond b (owner q qs) y) e

  below : (s q : ℕ) (qs : List ℕ) (t : Forest) → any_of p (q ∷ qs) ≡ true → owner q qs ≡ s → Holds (λ y c l. owner y l ≡ s) (q ∷ qs) t
  below s q qs none e o = tt
  below s q qs (tree y c r) e o =
      let u : owner y (q ∷ qs) ≡ s = owner_up y q qs e ∙ o in
      (u, below s y (q ∷ qs) c (any_above y (q ∷ qs) e) u, below s q qs r e o)

  module _ (f : Forest) (once : Distinct f) where
    abbrev pub mine : ℕ → ℕ
    mine z = owner z (above z f)

    -- s's own walk, and all that is below s where s passes the test
    pub mine_self : (s : ℕ) → any_of p (above s f) ≡ false → mine s ≡ s
    mine_self s e = owner_self s (above s f) e

    pub mine_low : (s z : ℕ) → has s f ≡ true → any_of p (above s f) ≡ false → p s ≡ true → has z (kids s f) ≡ true → mine z ≡ s
    mine_low s z h e d g =
        let F = holds_at (Found f) z (s ∷ above s f) (kids s f) g (holds_part (Found f) s [] f h (found f once)).1 in
        let O =
        holds_at (λ y c l. owner y l ≡ s) z (s ∷ above s f) (kids s f) g
        (below s s (above s f) (kids s f) (any_here s (above s f) d) (mine_self s e)) in
        rw F.2 O

    pub mine_part : (s z : ℕ) → has s f ≡ true → any_of p (above s f) ≡ false → p s ≡ true → has z (part s f) ≡ true → mine z ≡ s
    mine_part s z h e d g = go (under_part s z f g)
      where
        go : Under s z f → mine z ≡ s
        go (itself q) = subst (λ (y : ℕ). mine y ≡ s) q (mine_self s e)
        go (lower k) = mine_low s z h e d k

    -- ---- the topmost above z that passes the test
    pub record Top (z s : ℕ) : Type 0 where
      pub live : has s f ≡ true
      pub passes : p s ≡ true
      pub free : any_of p (above s f) ≡ false
      pub lies : has z (part s f) ≡ true

    above_mine : (y : ℕ) (l : List ℕ) → has y f ≡ true → above y f ≡ l → any_of p l ≡ true → (s : ℕ) × (1 ≤ times s l) × (has s f ≡ true) × (p s ≡ true) × (any_of p (above s f) ≡ false)
    unfolding any_of times
    above_mine y [] h u e = never e refl
    above_mine y (q ∷ qs) h u e =
        let P : Parent (Above f) (q ∷ qs) = rw u at (parent_above f once y h) in
        go (any_of p qs) refl P (λ k. above_mine q qs P.0 P.1 k)
      where
        go : (b : Bool) → any_of p qs ≡ b → Parent (Above f) (q ∷ qs)
            → (any_of p qs ≡ true → (s : ℕ) × (1 ≤ times s qs) × (has s f ≡ true) × (p s ≡ true) × (any_of p (above s f) ≡ false))
            → (s : ℕ) × (1 ≤ times s (q ∷ qs)) × (has s f ≡ true) × (p s ≡ true) × (any_of p (above s f) ≡ false)
        go true k P r = let w = r k in (w.0, omega (arith, w.1), w.2, w.3, w.4)
        go false k P r = (q, omega (arith, hit q), P.0, or_other (p q) (any_of p qs) e k, rw P.1 k)

    pub topmost : (z : ℕ) → has z f ≡ true → any_of p (z ∷ above z f) ≡ true → (s : ℕ) × Top z s
    topmost z h e = go (any_of p (above z f)) refl
      where
        go : (b : Bool) → any_of p (above z f) ≡ b → (s : ℕ) × Top z s
        go true k =
            let w = above_mine z (above z f) h refl k in
            (w.0, record { live = w.2; passes = w.3; free = w.4; lies = has_low z w.0 (kids w.0 f) none (above_below f once z w.0 h w.1) })
        go false k = (z, record { live = h; passes = any_first z (above z f) e k; free = k; lies = has_top z (kids z f) none })
