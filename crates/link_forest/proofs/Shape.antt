-- Two lists are the table of a forest exactly where the depths pass the test; and of one forest only.
use mathlib.Core.Path.{◌≡◌, refl, sym, ap, subst, ◌∙◌}
use mathlib.Core.Bool.{Bool, true, false, ◌&&◌}
use mathlib.Core.List.{List, [], ◌∷◌, ◌++◌, append_assoc, append-nil}
use Prim.Native.Nat.{ℕ, zero, suc, ◌+◌, ◌-◌, ◌≤◌}
use native.Mathlib.Nat.{zero-add, suc-add}
use native.Mathlib.Omega.{arith}
use borrow.Author.Tests.{le-leb, leb-true}
use lib.Dec.{leb}
use lib.ListN.{length}
use Rattle.counting.specs.Lists.{Tells}
use Rattle.link_forest.specs.Forest.{Forest, none, tree, pre, dep}
use Rattle.link_forest.specs.Table.{run_length, depths_from}
use Rattle.link_forest.proofs.Bools.{never}
use Rattle.link_forest.proofs.Lists.{run_more, run_append, run_higher}
use Rattle.link_forest.proofs.Whole.{run_sibling}

-- ---- the test's clause, both ways
record Next (b d : ℕ) (ds : List ℕ) : Type 0 where
  low : 1 ≤ d
  high : d ≤ suc b
  rest : depths_from d ds ≡ true

next_holds : (b d : ℕ) (ds : List ℕ) → Next b d ds → depths_from b (d ∷ ds) ≡ true
unfolding depths_from
next_holds b d ds N = rw (le-leb 1 d N.low, le-leb d (suc b) N.high, N.rest)

holds_next : (b d : ℕ) (ds : List ℕ) → depths_from b (d ∷ ds) ≡ true → Next b d ds
unfolding depths_from
holds_next b d ds h = go (leb 1 d) refl (leb d (suc b)) refl (depths_from d ds) refl h
  where
    go : (u : Bool) → leb 1 d ≡ u → (v : Bool) → leb d (suc b) ≡ v → (w : Bool) → depths_from d ds ≡ w → u && v && w ≡ true → Next b d ds
    go true e true g true k h = record { low = leb-true 1 d e; high = leb-true d (suc b) g; rest = k }
    go true e true g false k h = never h refl
    go true e false g w k h = never h refl
    go false e v g w k h = never h refl

-- ---- a forest's depths pass
passes : (b k : ℕ) (f : Forest) (ds : List ℕ) → 1 ≤ k → k ≤ suc b → ((c : ℕ) → k ≤ suc c → depths_from c ds ≡ true) → depths_from b (dep k f ++ ds) ≡ true
unfolding dep
passes b k none ds low high rest = rest b high
passes b k (tree x c s) ds low high rest =
    next_holds b k ((dep (suc k) c ++ dep k s) ++ ds)
    record {
      low = low;
      high = high;
      rest =
          rw (append_assoc (dep (suc k) c) (dep k s) ds)
          (passes k (suc k) c (dep k s ++ ds) (omega arith) (omega arith) (λ b' h. passes b' k s ds low (omega arith) rest));
    }

pub forest_shape : (f : Forest) → depths_from 0 (dep 1 f) ≡ true
unfolding depths_from
forest_shape f = simp append-nil at (passes 0 1 f [] (omega arith) (omega arith) (λ c h. refl))

-- ---- lists that pass, read from the right: behind a place of the depth b come a forest at b + 1, one at b, .. and one at 1
data Read : ℕ → List ℕ → List ℕ → Type 0 where
  last : (f : Forest) → Read 0 (pre f) (dep 1 f)
  then : {b : ℕ} {xs ds : List ℕ} (f : Forest) → Read b xs ds → Read (suc b) (pre f ++ xs) (dep (suc (suc b)) f ++ ds)

nothing : (b : ℕ) → Read b [] []
unfolding pre dep
nothing zero = last none
nothing (suc b) = then none (nothing b)

-- nothing at the deeper places
deeper : (k : ℕ) {b : ℕ} {xs ds : List ℕ} → Read b xs ds → Read (k + b) xs ds
unfolding pre dep
deeper zero r = rw zero-add r
deeper (suc k) r = rw suc-add (then none (deeper k r))

-- a slot takes the first forest as its children and the second as its siblings
node : (x : ℕ) {b : ℕ} {xs ds : List ℕ} → Read (suc b) xs ds → Read b (x ∷ xs) (suc b ∷ ds)
unfolding pre dep
node x (then f (last g)) = last (tree x f g)
node x (then f (then {b = b} {xs = xs} {ds = ds} g r)) =
    rw (← append_assoc (pre f) (pre g) xs, ← append_assoc (dep (suc (suc (suc b))) f) (dep (suc (suc b)) g) ds) (then (tree x f g) r)

placed : (x b d : ℕ) {xs ds : List ℕ} → 1 ≤ d → d ≤ suc b → Read d xs ds → Read b (x ∷ xs) (d ∷ ds)
placed x b zero low high r = absurd (omega arith)
placed x b (suc k) {xs} {ds} low high r =
    let v : b - k + k ≡ b = omega arith in
    subst (λ (c : ℕ). Read c (x ∷ xs) (suc k ∷ ds)) v (deeper (b - k) (node x r))

reads : (b : ℕ) (xs ds : List ℕ) → length xs ≡ length ds → depths_from b ds ≡ true → Read b xs ds
reads b [] [] l h = nothing b
reads b [] (d ∷ ds) l h = absurd (omega arith)
reads b (x ∷ xs) [] l h = absurd (omega arith)
reads b (x ∷ xs) (d ∷ ds) l h = let N = holds_next b d ds h in placed x b d N.low N.high (reads d xs ds (omega arith) N.rest)

whole : {xs ds : List ℕ} → Read 0 xs ds → (f : Forest) × (pre f ≡ xs) × (dep 1 f ≡ ds)
whole (last f) = (f, refl, refl)

-- the test tells whether the two lists are a forest's
pub shape_exact : (xs ds : List ℕ) → length xs ≡ length ds → Tells (depths_from 0 ds) ((f : Forest) × (pre f ≡ xs) × (dep 1 f ≡ ds))
shape_exact xs ds l = (λ h. whole (reads 0 xs ds l h), λ F. rw (← F.2) (forest_shape F.0))

-- ---- of one forest only
head_of : {x y : ℕ} {xs ys : List ℕ} → ◌≡◌ {A = List ℕ} (x ∷ xs) (y ∷ ys) → x ≡ y
head_of e = cc

tail_of : {x y : ℕ} {xs ys : List ℕ} → ◌≡◌ {A = List ℕ} (x ∷ xs) (y ∷ ys) → xs ≡ ys
tail_of e = cc

clash : {A : Type 0} (k : ℕ) (ds es : List ℕ) → run_length k ds ≡ 0 → ds ≡ suc k ∷ es → A
clash k ds es z q = let w : suc (run_length k es) ≡ 0 = sym (run_more k (suc k) es (omega arith)) ∙ ap (run_length k) (sym q) ∙ z in absurd (omega arith)

-- the roots lie at k + 1, and behind each forest comes nothing, or a depth of at most k
same_from : (k : ℕ) (f g : Forest) (xs ys ds es : List ℕ) → run_length k ds ≡ 0 → run_length k es ≡ 0 → pre f ++ xs ≡ pre g ++ ys → dep (suc k) f ++ ds ≡ dep (suc k) g ++ es
    → (f ≡ g) × (xs ≡ ys) × (ds ≡ es)
unfolding pre dep
same_from k none none xs ys ds es z w p q = (refl, p, q)
same_from k none (tree y b t) xs ys ds es z w p q = clash k ds ((dep (suc (suc k)) b ++ dep (suc k) t) ++ es) z q
same_from k (tree x c s) none xs ys ds es z w p q = clash k es ((dep (suc (suc k)) c ++ dep (suc k) s) ++ ds) w (sym q)
same_from k (tree x c s) (tree y b t) xs ys ds es z w p q =
    let up : (f : Forest) (cs : List ℕ) → run_length k cs ≡ 0 → run_length (suc k) (dep (suc k) f ++ cs) ≡ 0 =
    λ f cs o. run_append (suc k) (dep (suc k) f) cs (run_sibling (suc k) (suc k) f (omega arith)) (run_higher k (suc k) cs (omega arith) o) in
    let I =
    same_from (suc k) c b (pre s ++ xs) (pre t ++ ys) (dep (suc k) s ++ ds) (dep (suc k) t ++ es) (up s ds z) (up t es w)
    (sym (append_assoc (pre c) (pre s) xs) ∙ tail_of p ∙ append_assoc (pre b) (pre t) ys)
    (sym (append_assoc (dep (suc (suc k)) c) (dep (suc k) s) ds) ∙ tail_of q ∙ append_assoc (dep (suc (suc k)) b) (dep (suc k) t) es) in
    let J = same_from k s t xs ys ds es z w I.1 I.2 in
    let e : x ≡ y = head_of p in
    (rw (e, I.0, J.0), J.1, J.2)

pub same_forest : (f g : Forest) → pre f ≡ pre g → dep 1 f ≡ dep 1 g → f ≡ g
unfolding run_length
same_forest f g p q =
    (same_from 0 f g [] [] [] [] refl refl (append-nil (pre f) ∙ p ∙ sym (append-nil (pre g))) (append-nil (dep 1 f) ∙ q ∙ sym (append-nil (dep 1 g)))).0
