-- A whole forest's table: the slots in pre-order and their depths.
use mathlib.Core.Path.{◌≡◌, refl, sym, ap, ◌∙◌}
use mathlib.Core.List.{List, [], ◌∷◌, ◌++◌, map, map-append, append_assoc, append-nil, reverse_aux}
use Prim.Native.Nat.{ℕ, zero, suc, ◌+◌, ◌≤◌, ◌<◌}
use native.Mathlib.Nat.{suc-add, zero-add}
use native.Mathlib.Omega.{arith}
use lib.ListN.{length, get_or, length-append}
use lib.Seq.{take_at, drop_at}
use Rattle.link_forest.specs.Forest.{Forest, none, tree, pre, post, dep, roots, cat, kids, part, children}
use Rattle.link_forest.specs.Table.{run_length, last_above, less_deep, at_depth, post_of, rebased}
use Rattle.link_forest.proofs.Counting.{length_post}
use Rattle.link_forest.proofs.Lists.{run_more, run_none, run_append, run_higher, last_more, last_append, not_less_deep, turned_append, at_yes, at_no}

-- ---- lengths, and one forest behind another
pub length_dep : (d : ℕ) (f : Forest) → length (dep d f) ≡ length (pre f)
unfolding pre dep
length_dep d none = refl
length_dep d (tree x c s) = simp (length-append, length_dep (suc d) c, length_dep d s)

pub pre_cat : (f t : Forest) → pre (cat f t) ≡ pre f ++ pre t
unfolding pre cat
pre_cat none t = refl
pre_cat (tree x c s) t = simp (pre_cat s t, append_assoc)

pub dep_cat : (d : ℕ) (f t : Forest) → dep d (cat f t) ≡ dep d f ++ dep d t
unfolding dep cat
dep_cat d none t = refl
dep_cat d (tree x c s) t = simp (dep_cat d s t, append_assoc)

-- ---- what is below a node is deeper than it; what comes behind is not
pub run_deep : (d k : ℕ) (f : Forest) (ys : List ℕ) → d < k → run_length d (dep k f ++ ys) ≡ length (pre f) + run_length d ys
unfolding pre dep
run_deep d k none ys h = omega arith
run_deep d k (tree x c s) ys h =
    rw (run_more, append_assoc, run_deep d (suc k) c (dep k s ++ ys) (omega arith), run_deep d k s ys h, length-append) (omega arith)

pub run_sibling : (d k : ℕ) (f : Forest) → k ≤ d → run_length d (dep k f) ≡ 0
unfolding dep run_length
run_sibling d k none h = refl
run_sibling d k (tree x c s) h = run_none d k (dep (suc k) c ++ dep k s) h

pub last_skip : (k a d : ℕ) (f : Forest) → k ≤ d → last_above k a (pre f) (dep d f) ≡ a
unfolding pre dep last_above
last_skip k a d none h = refl
last_skip k a d (tree x c s) h =
    last_more k a x d (pre c ++ pre s) (dep (suc d) c ++ dep d s) h
    ∙ last_append k a (pre c) (dep (suc d) c) (pre s) (dep d s) (sym (length_dep (suc d) c))
    ∙ ap (λ (b : ℕ). last_above k b (pre s) (dep d s)) (last_skip k a (suc d) c (omega arith))
    ∙ last_skip k a d s h

-- going back over a forest that is not less deep
pub back_skip : (k d : ℕ) (f : Forest) (xs ds : List ℕ) → k ≤ d → less_deep k (reverse_aux (pre f) xs) (reverse_aux (dep d f) ds) ≡ less_deep k xs ds
unfolding pre dep
back_skip k d none xs ds h = refl
back_skip k d (tree x c s) xs ds h =
    rw (turned_append (pre c) (pre s) (x ∷ xs), turned_append (dep (suc d) c) (dep d s) (d ∷ ds))
    (back_skip k d s (reverse_aux (pre c) (x ∷ xs)) (reverse_aux (dep (suc d) c) (d ∷ ds)) h
    ∙ back_skip k (suc d) c (x ∷ xs) (d ∷ ds) (omega arith)
    ∙ not_less_deep k x d xs ds h)

-- ---- the depths are at least the roots', and at most one more for each slot
all_append : (P : ℕ → Type 0) (xs ys : List ℕ) → ((j : ℕ) → j < length xs → P (get_or xs j 0)) → ((j : ℕ) → j < length ys → P (get_or ys j 0))
    → (j : ℕ) → j < length (xs ++ ys) → P (get_or (xs ++ ys) j 0)
all_append P [] ys p q j h = q j h
all_append P (x ∷ xs) ys p q zero h = p zero (omega arith)
all_append P (x ∷ xs) ys p q (suc j) h = all_append P xs ys (λ i k. p (suc i) (omega arith)) q j (omega arith)

dep_between : (d : ℕ) (f : Forest) (j : ℕ) → j < length (dep d f) → (d ≤ get_or (dep d f) j 0) × (get_or (dep d f) j 0 < d + length (pre f))
unfolding pre dep
dep_between d none j h = absurd (omega arith)
dep_between d (tree x c s) zero h = (omega arith, omega arith)
dep_between d (tree x c s) (suc j) h =
    let l = length-append (pre c) (pre s) in
    all_append (λ v. (d ≤ v) × (v < d + length (pre (tree x c s)))) (dep (suc d) c) (dep d s)
    (λ i k. let I = dep_between (suc d) c i k in (omega arith, omega arith))
    (λ i k. let I = dep_between d s i k in (omega arith, omega arith))
    j (omega arith)

pub dep_low : (d : ℕ) (f : Forest) (j : ℕ) → j < length (pre f) → d ≤ get_or (dep d f) j 0
dep_low d f j h = (dep_between d f j (rw (length_dep d f) h)).0

pub dep_high : (d : ℕ) (f : Forest) (j : ℕ) → j < length (pre f) → get_or (dep d f) j 0 < d + length (pre f)
dep_high d f j h = (dep_between d f j (rw (length_dep d f) h)).1

-- ---- depths counted from another place
rebased_from : (d e : ℕ) (f : Forest) (k : ℕ) → map (rebased d e) (dep (k + d) f) ≡ dep (k + e) f
unfolding dep
rebased_from d e none k = refl
rebased_from d e (tree x c s) k =
    let w : rebased d e (k + d) ≡ k + e = omega arith in
    let u : map (rebased d e) (dep (suc (k + d)) c) ≡ dep (suc (k + e)) c = rw (← suc-add k d, ← suc-add k e) (rebased_from d e c (suc k)) in
    rw (w, map-append (rebased d e) (dep (suc (k + d)) c) (dep (k + d) s), u, rebased_from d e s k)

pub rebased_dep : (d e : ℕ) (f : Forest) → map (rebased d e) (dep d f) ≡ dep e f
rebased_dep d e f = simp zero-add at (rebased_from d e f 0)

-- ---- post-order
post_append : (d : ℕ) (f : Forest) (xs ds : List ℕ) → run_length d ds ≡ 0 → post_of (pre f ++ xs) (dep d f ++ ds) ≡ post f ++ post_of xs ds
unfolding pre dep post post_of
post_append d none xs ds z = refl
post_append d (tree x c s) xs ds z =
    let z' : run_length d (dep d s ++ ds) ≡ 0 = run_append d (dep d s) ds (run_sibling d d s (omega arith)) z in
    let e : run_length d (dep (suc d) c ++ (dep d s ++ ds)) ≡ length (pre c) = run_deep d (suc d) c (dep d s ++ ds) (omega arith) ∙ rw z' (omega arith) in
    let u : post_of (pre c ++ (pre s ++ xs)) (dep (suc d) c ++ (dep d s ++ ds)) ≡ post c ++ (post s ++ post_of xs ds) =
    post_append (suc d) c (pre s ++ xs) (dep d s ++ ds) (run_higher d (suc d) (dep d s ++ ds) (omega arith) z') ∙ ap (λ (r : List ℕ). post c ++ r) (post_append d s xs ds z) in
    rw (
      append_assoc (pre c) (pre s) xs,
      append_assoc (dep (suc d) c) (dep d s) ds,
      e,
      u,
      take_at (post c) (post s ++ post_of xs ds) (length (pre c)) (length_post c),
      drop_at (post c) (post s ++ post_of xs ds) (length (pre c)) (length_post c),
      append_assoc (post c) (x ∷ post s) (post_of xs ds),
    )

pub post_law : (d : ℕ) (f : Forest) → post_of (pre f) (dep d f) ≡ post f
unfolding run_length post_of
post_law d f = simp append-nil at (post_append d f [] [] refl)

-- ---- the slots at one depth: none where the roots are deeper
at_deep : (k d : ℕ) (f : Forest) (xs ds : List ℕ) → k < d → at_depth k (pre f ++ xs) (dep d f ++ ds) ≡ at_depth k xs ds
unfolding pre dep
at_deep k d none xs ds h = refl
at_deep k d (tree x c s) xs ds h =
    at_no k x d (pre c ++ pre s ++ xs) (dep (suc d) c ++ dep d s ++ ds) (λ e. omega arith)
    ∙ rw (append_assoc (pre c) (pre s) xs, append_assoc (dep (suc d) c) (dep d s) ds) (at_deep k (suc d) c (pre s ++ xs) (dep d s ++ ds) (omega arith) ∙ at_deep k d s xs ds h)

pub roots_law : (d : ℕ) (f : Forest) → at_depth d (pre f) (dep d f) ≡ roots f
unfolding pre dep roots at_depth
roots_law d none = refl
roots_law d (tree x c s) =
    at_yes d x d (pre c ++ pre s) (dep (suc d) c ++ dep d s) refl
    ∙ ap (λ (r : List ℕ). x ∷ r) (at_deep d (suc d) c (pre s) (dep d s) (omega arith) ∙ roots_law d s)

-- a node's children lie one deeper
pub children_law : (d p : ℕ) (f : Forest) → at_depth (suc d) (pre (part p f)) (dep d (part p f)) ≡ children p f
unfolding pre dep
children_law d p f =
    rw (append-nil (pre (kids p f)), append-nil (dep (suc d) (kids p f)))
    (at_no (suc d) p d (pre (kids p f)) (dep (suc d) (kids p f)) (λ e. omega arith) ∙ roots_law (suc d) (kids p f))
