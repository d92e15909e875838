-- The neighbours of a node in the walk are its neighbours in the table, unless they are roots.
use mathlib.Core.Path.{◌≡◌, refl, sym, ap, ap₂, subst, ◌∙◌}
use mathlib.Core.Bool.{true, false}
use mathlib.Core.List.{List, [], ◌∷◌, ◌++◌, append_assoc, append-nil}
use Prim.Native.Nat.{ℕ, suc, ◌+◌, ◌-◌, ◌≤◌, ◌<◌}
use native.Mathlib.Omega.{arith}
use borrow.Author.Tests.{ne_eqb}
use lib.Dec.{eqb}
use lib.ListN.{length, take, drop, get_or, length-append, drop_of_length-le}
use lib.Seq.{append_snoc, get_or_at, get_or-take, drop-cons, length-take-le}
use Rattle.counting.specs.Times.{times}
use Rattle.counting.proofs.Counting.{hit, times_append}
use Rattle.link_forest.specs.Forest.{Forest, none, tree, pre, dep, roots, has, Distinct, kids, above, children, part, depth}
use Rattle.link_forest.specs.Walk.{behind, next_up, next, last_in, ahead, prev_up, prev}
use Rattle.link_forest.proofs.Bools.{same_slot}
use Rattle.link_forest.proofs.Counting.{count_pre}
use Rattle.link_forest.proofs.Holds.{Found, found, Each, holds_at, Holds}
use Rattle.link_forest.proofs.Lists.{not_there, index_here, index_past, Three, three_before, three_after}
use Rattle.link_forest.proofs.Whole.{length_dep}
use Rattle.link_forest.proofs.Laws.{place, end, end_at, rest_at, rest_depths_at, place_there}

-- ---- lists of siblings
behind_past : (a x : ℕ) (ps ys : List ℕ) → times x ps ≡ 0 → behind a x (ps ++ (x ∷ ys)) ≡ get_or ys 0 a
unfolding behind
behind_past a x [] ys z = rw (behind, same_slot x)
behind_past a x (p ∷ ps) ys z = let n = not_there x p ps z in rw (behind, ne_eqb p x n.0) (behind_past a x ps ys n.1)

-- what stands before the siblings that come behind ps
abbrev pick : Forest → ℕ → List ℕ → ℕ
pick f q [] = q
pick f q (p ∷ ps) = pick f (last_in p (kids p f)) ps

pick_snoc : (f : Forest) (q : ℕ) (ps : List ℕ) (y : ℕ) → pick f q (ps ++ (y ∷ [])) ≡ last_in y (kids y f)
pick_snoc f q [] y = refl
pick_snoc f q (p ∷ ps) y = pick_snoc f (last_in p (kids p f)) ps y

ahead_past : (f : Forest) (q x : ℕ) (ps ys : List ℕ) → times x ps ≡ 0 → ahead f q x (ps ++ (x ∷ ys)) ≡ pick f q ps
unfolding ahead
ahead_past f q x [] ys z = rw (ahead, same_slot x)
ahead_past f q x (p ∷ ps) ys z = let n = not_there x p ps z in rw (ahead, ne_eqb p x n.0) (ahead_past f (last_in p (kids p f)) x ps ys n.1)

-- the first of a table's rest, unless it is a root
abbrev first_low : ℕ → List ℕ → List ℕ → ℕ
first_low a [] ds = a
first_low a (x ∷ xs) [] = a
first_low a (x ∷ xs) (d ∷ ds) = elim (eqb d 1) [ true ↦ a | false ↦ x ]

first_low_lem : (a x d : ℕ) (xs ds : List ℕ) → (d ≡ 1 → ⊥) → first_low a (x ∷ xs) (d ∷ ds) ≡ x
first_low_lem a x d xs ds n = rw (first_low, ne_eqb d 1 n)

first_tree : (a k y : ℕ) (c s : Forest) (xs ds : List ℕ) → (k ≡ 1 → ⊥) → first_low a (pre (tree y c s) ++ xs) (dep k (tree y c s) ++ ds) ≡ y
unfolding pre dep
first_tree a k y c s xs ds n = first_low_lem a y k ((pre c ++ pre s) ++ xs) ((dep (suc k) c ++ dep k s) ++ ds) n

-- m is the last of a list
abbrev Last : List ℕ → ℕ → Type 0
Last xs m = (b : List ℕ) × (xs ≡ b ++ (m ∷ []))

last_at : (xs : List ℕ) (i : ℕ) {m : ℕ} → i ≤ length xs → Last (take i xs) m → m ≡ get_or xs (i - 1) 0
last_at xs i {m} h L =
    let l : i ≡ length L.0 + 1 = sym (length-take-le i xs h) ∙ ap length L.1 ∙ length-append L.0 (m ∷ []) in
    sym (sym (get_or-take i xs (i - 1) 0 (omega arith)) ∙ rw L.1 (get_or_at L.0 m [] 0 (i - 1) (omega arith)))

last_behind : (a : List ℕ) {xs : List ℕ} {m : ℕ} → Last xs m → Last (a ++ xs) m
last_behind a {m = m} L = (a ++ L.0, rw L.1 (sym (append_assoc a L.0 (m ∷ []))))

last_in_pre : (a : ℕ) (c : Forest) → Last (a ∷ pre c) (last_in a c)
unfolding pre last_in
last_in_pre a none = ([], refl)
last_in_pre a (tree y c s) =
    let I = last_in_pre y c in
    let w : y ∷ (pre c ++ pre s) ≡ I.0 ++ (last_in y c ∷ pre s) = ap (λ (r : List ℕ). r ++ pre s) I.1 ∙ append_assoc I.0 (last_in y c ∷ []) (pre s) in
    let J = last_behind (a ∷ I.0) (last_in_pre (last_in y c) s) in
    (J.0, ap (λ (r : List ℕ). a ∷ r) w ∙ J.1)

-- ---- a part g of the forest at the list l: what stands before and after it in the table, and its earlier siblings
module _ (f : Forest) where
  abbrev Kin : List ℕ → List ℕ → Type 0
  Kin [] r = Unit {0}
  Kin (q ∷ qs) r = children q f ≡ r

  record Around (l : List ℕ) (g : Forest) (b db a da ps : List ℕ) : Type 0 where
    slots : pre f ≡ b ++ (pre g ++ a)
    depths : dep 1 f ≡ db ++ (dep (suc (length l)) g ++ da)
    even : length db ≡ length b
    kin : Kin l (ps ++ roots g)
    seen : (x : ℕ) → times x ps ≤ times x b
    spots : Holds (Found f) l g

  module _ (o : Distinct f) {l : List ℕ} {y : ℕ} {c s : Forest} {b db a da ps : List ℕ} (C : Around l (tree y c s) b db a da ps) where
    new : times y b ≡ 0
    unfolding pre times
    new =
        let w : times y (pre f) ≡ times y b + times y (y ∷ ((pre c ++ pre s) ++ a)) = rw C.slots (times_append y b (y ∷ ((pre c ++ pre s) ++ a))) in
        omega (arith, count_pre y f, o y, hit y)

    new_kin : times y ps ≡ 0
    new_kin = omega (arith, C.seen y, new)

    at_place : place y f ≡ length b
    unfolding pre
    at_place = rw (C.slots, index_past y b (y ∷ ((pre c ++ pre s) ++ a)) new, index_here y ((pre c ++ pre s) ++ a)) (omega arith)

    at_end_lem : end y f ≡ length b + length (y ∷ pre c)
    unfolding pre
    at_end_lem =
        let w : pre (part y f) ≡ y ∷ pre c = rw C.spots.0.1 (simp append-nil) in
        end_at y f C.spots.0.0 ∙ ap₂ (λ (i j : ℕ). i + j) at_place (ap length w)

    slots_three : Three (pre f) b (y ∷ pre c) (pre s ++ a) (place y f) (end y f)
    unfolding pre
    slots_three = record { is = C.slots ∙ simp append_assoc; from = at_place; to = at_end_lem }

    depths_three : Three (dep 1 f) db (suc (length l) ∷ dep (suc (suc (length l))) c) (dep (suc (length l)) s ++ da) (place y f) (end y f)
    unfolding dep
    depths_three =
        record {
          is = C.depths ∙ simp append_assoc;
          from = at_place ∙ sym C.even;
          to = at_end_lem ∙ rw (C.even, length_dep);
        }

    down_around : Around (y ∷ l) c (b ++ (y ∷ [])) (db ++ (suc (length l) ∷ [])) (pre s ++ a) (dep (suc (length l)) s ++ da) []
    unfolding times
    down_around =
        record {
          slots = slots_three.is ∙ sym (append_snoc b y (pre c ++ (pre s ++ a)));
          depths = depths_three.is ∙ sym (append_snoc db (suc (length l)) (dep (suc (suc (length l))) c ++ (dep (suc (length l)) s ++ da)));
          even = simp (length-append, C.even);
          kin = ap roots C.spots.0.1;
          seen = λ x. omega arith;
          spots = C.spots.1;
        }

    right_around : Around l s (b ++ (y ∷ pre c)) (db ++ (suc (length l) ∷ dep (suc (suc (length l))) c)) a da (ps ++ (y ∷ []))
    unfolding times roots
    right_around =
        record {
          slots = slots_three.is ∙ sym (append_assoc b (y ∷ pre c) (pre s ++ a));
          depths = depths_three.is ∙ sym (append_assoc db (suc (length l) ∷ dep (suc (suc (length l))) c) (dep (suc (length l)) s ++ da));
          even = simp (length-append, C.even, length_dep);
          kin = subst (Kin l) (sym (append_snoc ps y (roots s))) C.kin;
          seen = λ x. omega (arith, C.seen x, times_append x ps (y ∷ []), times_append x b (y ∷ pre c));
          spots = C.spots.2;
        }

  -- ---- the next
  module _ (a : ℕ) where
    up : List ℕ → ℕ
    up [] = a
    up (q ∷ qs) = next_up a f q qs

    next_beside : (l : List ℕ) (y : ℕ) (s : Forest) (ps r dr : List ℕ) → Kin l (ps ++ (y ∷ roots s)) → times y ps ≡ 0 → up l ≡ first_low a r dr
        → next_up a f y l ≡ first_low a (pre s ++ r) (dep (suc (length l)) s ++ dr)
    unfolding pre dep roots next_up up
    next_beside [] y none ps r dr K z U = U
    next_beside [] y (tree x c s) ps r dr K z U = refl
    next_beside (q ∷ qs) y none ps r dr K z U = rw K (behind_past (next_up a f q qs) y ps [] z) ∙ U
    next_beside (q ∷ qs) y (tree x c s) ps r dr K z U =
        rw K (behind_past (next_up a f q qs) y ps (x ∷ roots s) z) ∙ sym (first_tree a (suc (length (q ∷ qs))) x c s r dr (λ e. omega arith))

    abbrev Next : ℕ → List ℕ → Type 0
    Next y l = next_up a f y l ≡ first_low a (drop (end y f) (pre f)) (drop (end y f) (dep 1 f))

    each_next : Distinct f → (l : List ℕ) (g : Forest) {b db r dr ps : List ℕ} → Around l g b db r dr ps → up l ≡ first_low a r dr → Each Next l g
    unfolding roots up
    each_next o l none C U = tt
    each_next o l (tree y c s) {r = r} {dr = dr} {ps = ps} C U =
        let N = next_beside l y s ps r dr C.kin (new_kin o C) U in (
          rw (three_after (slots_three o C), three_after (depths_three o C)) N,
          each_next o (y ∷ l) c (down_around o C) N,
          each_next o l s (right_around o C) U,
        )

  -- ---- the previous
  abbrev Ahead : List ℕ → List ℕ → List ℕ → Type 0
  Ahead [] b ps = Unit {0}
  Ahead (q ∷ qs) b ps = Last b (pick f q ps)

  abbrev Prev : ℕ → ℕ → List ℕ → Type 0
  Prev a y [] = Unit {0}
  Prev a y (q ∷ qs) = Last (take (place y f) (pre f)) (prev_up a f y (q ∷ qs))

  prev_beside : (a : ℕ) (l : List ℕ) (y : ℕ) (b ps ys : List ℕ) → take (place y f) (pre f) ≡ b → Kin l (ps ++ (y ∷ ys)) → times y ps ≡ 0 → Ahead l b ps → Prev a y l
  unfolding prev_up
  prev_beside a [] y b ps ys t K z W = tt
  prev_beside a (q ∷ qs) y b ps ys t K z W = rw (t, K, ahead_past f q y ps ys z) W

  ahead_right : (l : List ℕ) (y : ℕ) (c : Forest) (b ps : List ℕ) → kids y f ≡ c → Ahead l (b ++ (y ∷ pre c)) (ps ++ (y ∷ []))
  ahead_right [] y c b ps e = tt
  ahead_right (q ∷ qs) y c b ps e = rw (pick_snoc f q ps y, e) (last_behind b (last_in_pre y c))

  each_prev : (a : ℕ) → Distinct f → (l : List ℕ) (g : Forest) {b db r dr ps : List ℕ} → Around l g b db r dr ps → Ahead l b ps → Each (Prev a) l g
  unfolding roots
  each_prev a o l none C W = tt
  each_prev a o l (tree y c s) {b = b} {ps = ps} C W = (
    prev_beside a l y b ps (roots s) (three_before (slots_three o C)) C.kin (new_kin o C) W,
    each_prev a o (y ∷ l) c (down_around o C) (b, refl),
    each_prev a o l s (right_around o C) (ahead_right l y c b ps C.spots.0.1),
  )

  -- ---- of the whole forest
  around : Distinct f → Around [] f [] [] [] [] []
  unfolding times
  around o = record { slots = sym (append-nil (pre f)); depths = sym (append-nil (dep 1 f)); even = refl; kin = tt; seen = λ x. omega arith; spots = found f o }

  module _ (a : ℕ) (o : Distinct f) (x : ℕ) (h : has x f ≡ true) where
    next_up_lem : next_up a f x (above x f) ≡ first_low a (drop (end x f) (pre f)) (drop (end x f) (dep 1 f))
    unfolding up
    next_up_lem = holds_at (λ y c k. Next a y k) x [] f h (each_next a o [] f (around o) refl)

    next_is : next a f x ≡ first_low a (drop (place x f + 1) (pre f)) (drop (place x f + 1) (dep 1 f))
    unfolding pre dep roots
    next_is = rw (rest_at x f h, rest_depths_at x f h) (go (kids x f))
      where
        go : (k : Forest) → get_or (roots k) 0 (next_up a f x (above x f)) ≡ first_low a (pre k ++ drop (end x f) (pre f)) (dep (suc (depth x f)) k ++ drop (end x f) (dep 1 f))
        go none = next_up_lem
        go (tree y c s) = sym (first_tree a (suc (depth x f)) y c s (drop (end x f) (pre f)) (drop (end x f) (dep 1 f)) (λ e. omega arith))

    -- it stands behind x in the table
    pub next_low : place x f + 1 < length (pre f) → (get_or (dep 1 f) (place x f + 1) 0 ≡ 1 → ⊥) → next a f x ≡ get_or (pre f) (place x f + 1) 0
    next_low l n =
        let j = place x f + 1 in
        let m : j < length (dep 1 f) = rw length_dep l in
        next_is ∙ rw (drop-cons (pre f) j 0 l, drop-cons (dep 1 f) j 0 m) (first_low_lem a (get_or (pre f) j 0) (get_or (dep 1 f) j 0) (drop (suc j) (pre f)) (drop (suc j) (dep 1 f)) n)

    -- or a root stands there, or nothing
    pub next_root : place x f + 1 < length (pre f) → get_or (dep 1 f) (place x f + 1) 0 ≡ 1 → next a f x ≡ a
    next_root l e =
        let j = place x f + 1 in
        let m : j < length (dep 1 f) = rw length_dep l in
        next_is ∙ rw (drop-cons (pre f) j 0 l, drop-cons (dep 1 f) j 0 m, e)

    pub next_last : length (pre f) ≤ place x f + 1 → next a f x ≡ a
    next_last l = next_is ∙ rw (drop_of_length-le (pre f) l)

    prev_is : Prev a x (above x f)
    prev_is = holds_at (λ y c k. Prev a y k) x [] f h (each_prev a o [] f (around o) tt)

    -- it stands before x in the table
    pub prev_low : (depth x f ≡ 1 → ⊥) → prev a f x ≡ get_or (pre f) (place x f - 1) 0
    prev_low n = go (above x f) n prev_is
      where
        go : (l : List ℕ) → (suc (length l) ≡ 1 → ⊥) → Prev a x l → prev_up a f x l ≡ get_or (pre f) (place x f - 1) 0
        go [] m P = absurd (m refl)
        go (q ∷ qs) m P = last_at (pre f) (place x f) (omega (arith, place_there x f h)) P

    -- or x is a root
    pub prev_root : depth x f ≡ 1 → prev a f x ≡ a
    unfolding prev_up
    prev_root e = go (above x f) e
      where
        go : (l : List ℕ) → suc (length l) ≡ 1 → prev_up a f x l ≡ a
        go [] k = refl
        go (q ∷ qs) k = absurd (omega arith)
