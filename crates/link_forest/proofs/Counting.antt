-- How often a slot stands in a forest, in what the changes leave, and in a forest's lists.
use Prim.Native.Nat.{ℕ, ◌+◌, ◌≤◌}
use mathlib.Core.Path.{◌≡◌, refl, sym, ◌∙◌}
use mathlib.Core.Bool.{Bool, true, false}
use mathlib.Core.List.{List, [], ◌∷◌, reverse, reverse_aux}
use native.Mathlib.Omega.{arith}
use native.Mathlib.Decide.{ℕ_discrete}
use lib.Dec.{eqb}
use lib.ListN.{length, length-append}
use borrow.Author.Tests.{eq-eqb, ne_eqb}
use Rattle.counting.specs.Times.{tally, times}
use Rattle.counting.proofs.Counting.{times_append}
use Rattle.link_forest.specs.Forest.{Forest, none, tree, pre, post, cat, either, has, count, Distinct, under, remove, spot, part, above}
use Rattle.link_forest.proofs.Bools.{no_tally, same_slot}
use Rattle.link_forest.proofs.Clauses.{lacks, Stands, here, down, right, stands, under_here, under_down, under_right, remove_here, remove_down, remove_right, spot_here, spot_down, spot_right}

-- ---- has and count: there exactly where it stands at least once
tally_same : (x : ℕ) → tally (eqb x x) ≡ 1
tally_same x = rw (same_slot x)

count_stands : (x : ℕ) {f : Forest} → Stands x f → 1 ≤ count x f
unfolding count
count_stands x here = omega (arith, tally_same x)
count_stands x (down e h S) = omega (arith, count_stands x S)
count_stands x (right e h S) = omega (arith, count_stands x S)

pub has_count : (x : ℕ) (f : Forest) → has x f ≡ true → 1 ≤ count x f
has_count x f h = count_stands x (stands x f h)

pub lacks_count : (x : ℕ) (f : Forest) → has x f ≡ false → count x f ≡ 0
unfolding count
lacks_count x none h = refl
lacks_count x (tree y c s) h = let n = lacks x y c s h in rw (n.0, lacks_count x c n.1, lacks_count x s n.2)

pub count_lacks : (x : ℕ) (f : Forest) → count x f ≤ 0 → has x f ≡ false
count_lacks x f h = go (has x f) refl
  where
    go : (b : Bool) → has x f ≡ b → b ≡ false
    go true e = absurd (omega (arith, has_count x f e))
    go false e = refl

pub count_has : (x : ℕ) (f : Forest) → 1 ≤ count x f → has x f ≡ true
count_has x f h = go (has x f) refl
  where
    go : (b : Bool) → has x f ≡ b → b ≡ true
    go true e = refl
    go false e = absurd (omega (arith, lacks_count x f e))

-- `times` compares the other way round
pub tally_sym : (x y : ℕ) → tally (eqb x y) ≡ tally (eqb y x)
tally_sym x y =
    elim (ℕ_discrete x y) [
      | yes e ↦ rw (eq-eqb x y e, eq-eqb y x (sym e))
      | no n ↦ rw (ne_eqb x y n, ne_eqb y x (λ e. n (sym e)))
    ]

-- ---- what stands once stands apart
module _ (y : ℕ) (c s : Forest) (o : Distinct (tree y c s)) where
  parts : (x : ℕ) → tally (eqb y x) + (count x c + count x s) ≤ 1
  unfolding count
  parts x = o x

  pub once_below : Distinct c
  once_below x = omega (arith, parts x)

  pub once_beside : Distinct s
  once_beside x = omega (arith, parts x)

  pub not_below : (x : ℕ) → has x c ≡ true → eqb y x ≡ false
  not_below x h = no_tally (eqb y x) (omega (arith, parts x, has_count x c h))

  pub not_beside : (x : ℕ) → has x s ≡ true → eqb y x ≡ false
  not_beside x h = no_tally (eqb y x) (omega (arith, parts x, has_count x s h))

  pub beside_not_below : (x : ℕ) → has x s ≡ true → has x c ≡ false
  beside_not_below x h = count_lacks x c (omega (arith, parts x, has_count x s h))

-- ---- changes
pub count_cat : (x : ℕ) (f t : Forest) → count x (cat f t) ≡ count x f + count x t
unfolding cat count
count_cat x none t = omega arith
count_cat x (tree y c s) t = rw (count_cat x s t) (omega arith)

module _ (x p : ℕ) where
  under_stands : (t : Forest) {f : Forest} → Stands p f → count x (under p t f) ≡ count x f + count x t
  unfolding count
  under_stands t (here {c = c} {s = s}) = rw (under_here p t c s, count_cat x c t) (omega arith)
  under_stands t (down {y = y} {c = c} {s = s} e h S) = rw (under_down p t y c s e h, under_stands t S) (omega arith)
  under_stands t (right {y = y} {c = c} {s = s} e h S) = rw (under_right p t y c s e h, under_stands t S) (omega arith)

  pub count_under : (t f : Forest) → has p f ≡ true → count x (under p t f) ≡ count x f + count x t
  count_under t f h = under_stands t (stands p f h)

  parts_stands : (l : List ℕ) {f : Forest} → Stands p f → count x (remove p f) + (tally (eqb p x) + count x (spot p l f).kids) ≡ count x f
  unfolding count
  parts_stands l (here {c = c} {s = s}) = rw (remove_here p c s, spot_here p l c s) (omega arith)
  parts_stands l (down {y = y} {c = c} {s = s} e h S) = rw (remove_down p y c s e h, spot_down p l y c s e h) (omega (arith, parts_stands (y ∷ l) S))
  parts_stands l (right {y = y} {c = c} {s = s} e h S) = rw (remove_right p y c s e h, spot_right p l y c s e h) (omega (arith, parts_stands l S))

  -- a node with what is below it, and the rest
  pub count_parts : (f : Forest) → has p f ≡ true → count x (remove p f) + count x (part p f) ≡ count x f
  unfolding count
  count_parts f h = omega (arith, parts_stands [] (stands p f h))

  above_stands : (l : List ℕ) {f : Forest} → Stands p f → times x (spot p l f).above + (tally (eqb p x) + count x (spot p l f).kids) ≤ times x l + count x f
  unfolding count times
  above_stands l (here {c = c} {s = s}) = rw (spot_here p l c s) (omega arith)
  above_stands l (down {y = y} {c = c} {s = s} e h S) = rw (spot_down p l y c s e h) (omega (arith, above_stands (y ∷ l) S, tally_sym x y))
  above_stands l (right {y = y} {c = c} {s = s} e h S) = rw (spot_right p l y c s e h) (omega (arith, above_stands l S))

  -- what is above a node, with the node and what is below it, is of the forest
  pub count_above : (f : Forest) → has p f ≡ true → times x (above p f) + count x (part p f) ≤ count x f
  unfolding count times
  count_above f h = omega (arith, above_stands [] (stands p f h))

-- ---- what is in the forest after a change
has_sum : (x : ℕ) (f g h : Forest) → count x h ≡ count x f + count x g → has x h ≡ either (has x f) (has x g)
has_sum x f g h e = go (has x f) refl (has x g) refl
  where
    go : (a : Bool) → has x f ≡ a → (b : Bool) → has x g ≡ b → has x h ≡ either a b
    go true u b v = count_has x h (omega (arith, has_count x f u))
    go false u true v = count_has x h (omega (arith, has_count x g v))
    go false u false v = count_lacks x h (omega (arith, lacks_count x f u, lacks_count x g v))

pub has_cat : (x : ℕ) (f t : Forest) → has x (cat f t) ≡ either (has x f) (has x t)
has_cat x f t = has_sum x f t (cat f t) (count_cat x f t)

pub has_under : (x p : ℕ) (t f : Forest) → has p f ≡ true → has x (under p t f) ≡ either (has x f) (has x t)
has_under x p t f h = has_sum x f t (under p t f) (count_under x p t f h)

pub has_parts : (x p : ℕ) (f : Forest) → has p f ≡ true → has x f ≡ either (has x (remove p f)) (has x (part p f))
has_parts x p f h = has_sum x (remove p f) (part p f) f (sym (count_parts x p f h))

pub once_cat : (f t : Forest) → ((x : ℕ) → count x f + count x t ≤ 1) → Distinct (cat f t)
once_cat f t o x = omega (arith, count_cat x f t, o x)

pub once_under : (p : ℕ) (t f : Forest) → has p f ≡ true → ((x : ℕ) → count x f + count x t ≤ 1) → Distinct (under p t f)
once_under p t f h o x = omega (arith, count_under x p t f h, o x)

pub once_remove : (p : ℕ) (f : Forest) → has p f ≡ true → Distinct f → Distinct (remove p f)
once_remove p f h o x = omega (arith, count_parts x p f h, o x)

pub once_part : (p : ℕ) (f : Forest) → has p f ≡ true → Distinct f → Distinct (part p f)
once_part p f h o x = omega (arith, count_parts x p f h, o x)

-- a node moved with what is below it
pub once_moved : (p q : ℕ) (f : Forest) → has p f ≡ true → has q (remove p f) ≡ true → Distinct f → Distinct (under q (part p f) (remove p f))
once_moved p q f h g o = once_under q (part p f) (remove p f) g (λ x. omega (arith, count_parts x p f h, o x))

pub once_moved_root : (p : ℕ) (f : Forest) → has p f ≡ true → Distinct f → Distinct (cat (remove p f) (part p f))
once_moved_root p f h o = once_cat (remove p f) (part p f) (λ x. omega (arith, count_parts x p f h, o x))

-- what is above a node is in the forest, and is not the node, and not below it
pub above_has : (x p : ℕ) (f : Forest) → has p f ≡ true → 1 ≤ times x (above p f) → has x f ≡ true
above_has x p f h n = count_has x f (omega (arith, count_above x p f h))

pub above_apart : (x p : ℕ) (f : Forest) → Distinct f → has p f ≡ true → 1 ≤ times x (above p f) → has x (part p f) ≡ false
above_apart x p f o h n = count_lacks x (part p f) (omega (arith, count_above x p f h, o x))

-- what is not removed stays
pub remove_has : (x p : ℕ) (f : Forest) → has p f ≡ true → has x f ≡ true → has x (part p f) ≡ false → has x (remove p f) ≡ true
remove_has x p f h g n = count_has x (remove p f) (omega (arith, count_parts x p f h, has_count x f g, lacks_count x (part p f) n))

pub remove_lacks : (x p : ℕ) (f : Forest) → Distinct f → has p f ≡ true → has x (part p f) ≡ true → has x (remove p f) ≡ false
remove_lacks x p f o h g = count_lacks x (remove p f) (omega (arith, count_parts x p f h, has_count x (part p f) g, o x))

-- what is below a node is in the forest
pub part_has : (x p : ℕ) (f : Forest) → has p f ≡ true → has x (part p f) ≡ true → has x f ≡ true
part_has x p f h g = count_has x f (omega (arith, count_parts x p f h, has_count x (part p f) g))

-- ---- lists
pub count_pre : (x : ℕ) (f : Forest) → times x (pre f) ≡ count x f
unfolding times count pre
count_pre x none = refl
count_pre x (tree y c s) = rw (times_append x (pre c) (pre s), count_pre x c, count_pre x s, tally_sym x y)

pub count_post : (x : ℕ) (f : Forest) → times x (post f) ≡ count x f
unfolding times count post
count_post x none = refl
count_post x (tree y c s) = rw (times_append x (post c) (y ∷ post s), count_post x c, count_post x s) (omega (arith, tally_sym x y))

times_onto : (x : ℕ) (a b : List ℕ) → times x (reverse_aux a b) ≡ times x a + times x b
unfolding times
times_onto x [] b = omega arith
times_onto x (y ∷ a) b = rw (times_onto x a (y ∷ b)) (omega arith)

pub times_reverse : (x : ℕ) (a : List ℕ) → times x (reverse a) ≡ times x a
unfolding times
times_reverse x a = times_onto x a [] ∙ omega arith

pub length_post : (f : Forest) → length (post f) ≡ length (pre f)
unfolding pre post
length_post none = refl
length_post (tree x c s) = simp (length-append, length_post c, length_post s) (omega arith)
