-- The walks in the words of the library: over the live slots, and over the numbers below a bound; and which slots are live, by counting.
use mathlib.Core.Path.{◌≡◌, refl, sym, ◌∙◌, ap}
use mathlib.Core.Bool.{Bool, true, false, ◌&&◌, cond}
use mathlib.Core.List.{List, [], ◌∷◌}
use Prim.Native.Nat.{ℕ, zero, suc, ◌+◌, ◌≤◌, ◌<◌}
use native.Mathlib.Numerals.{add-one}
use native.Mathlib.Nat.{zero-add}
use native.Mathlib.Omega.{arith}
use native.Mathlib.Decide.{ℕ_discrete}
use borrow.Author.Tests.{lt-ltb}
use lib.Dec.{eqb, ltb, leb-suc-suc}
use lib.ListN.{length, take, get_or, length-take}
use Rattle.std.specs.List.{list_all, filter}
use Rattle.std.proofs.lemmas.List.{get_or-take, get_or_default, length-take-le}
use Rattle.std.proofs.lemmas.List.Filters.{length-filter_more}
use Rattle.counting.specs.Times.{tally, times}
use Rattle.counting.specs.Lists.{once_below}
use Rattle.counting.proofs.Counting.{hit, miss, tally_small}
use Rattle.link_forest.specs.Table.{index_of}
use Rattle.link_forest.proofs.Lists.{index_here, index_there}
use Rattle.tree_state.specs.declared.Tree.{Tree}
use Rattle.tree_state.specs.Tree.{live_slots, is_live}
use Rattle.tree_state.specs.Sound.{every_of, count_of, count_below}
use Rattle.tree_sound.specs.Parts.{Listed, Counted}
use Rattle.tree_sound.proofs.Whole.{list_fit, list_low}

pub every_listed : (p : ℕ → Bool) (l : List ℕ) → list_all p l ≡ every_of p l
unfolding every_of
every_listed p [] = refl
every_listed p (x ∷ l) = ap (λ b. p x && b) (every_listed p l)

counted : {A : Type 0} (b : Bool) (x : A) (l : List A) → length (cond b (x ∷ l) l) ≡ tally b + length l
counted true x l = omega arith
counted false x l = omega arith

as_number : (b : Bool) → cond b 1 0 ≡ tally b
as_number true = refl
as_number false = refl

pub count_listed : (p : ℕ → Bool) (l : List ℕ) → length (filter p l) ≡ count_of p l
unfolding count_of
count_listed p [] = refl
count_listed p (x ∷ l) = rw (counted (p x) x (filter p l), count_listed p l)

pub filter_small : {A : Type 0} (p : A → Bool) (l : List A) → length (filter p l) ≤ length l
filter_small p [] = omega arith
filter_small p (x ∷ l) = rw (counted (p x) x (filter p l)) (omega (arith, filter_small p l, tally_small (p x)))

pub count_used : {A : Type 0} (d : A) (p : A → Bool) (l : List A) (n : ℕ) → n ≤ length l → length (filter p (take n l)) ≡ count_below n (λ k. p (get_or l k d))
unfolding count_below
count_used d p l zero h = refl
count_used d p l (suc n) h = rw (← add-one n, length-filter_more p l n d (omega arith), count_used d p l n (omega arith), as_number (p (get_or l n d)))

-- ---- found in a list, by counting

found : (x : ℕ) (l : List ℕ) → ltb (index_of x l) (length l) ≡ ltb 0 (times x l)
unfolding index_of times
found x [] = refl
found x (y ∷ l) =
    elim (ℕ_discrete y x) [
      | yes e ↦ rw (e, index_here x l, lt-ltb 0 (suc (length l)) (omega arith), lt-ltb 0 (tally (eqb x x) + times x l) (omega (arith, hit x)))
      | no n ↦ rw (index_there x y l n, miss x y (λ e. n (sym e)), zero-add (times x l)) (leb-suc-suc (suc (index_of x l)) (length l) ∙ found x l)
    ]

pub live_by : (x : ℕ) (l : List ℕ) (n : ℕ) → n ≤ length l → ltb (index_of x (take n l)) n ≡ ltb 0 (times x (take n l))
live_by x l n h =
    let e : length (take n l) ≡ n = simp length-take (omega arith) in
    rw e at (found x (take n l))

-- ---- a live slot is one of the tables'

pub low_at : (t : Tree) → Listed t → (k x : ℕ) → k < length (live_slots t) → x ≡ get_or (live_slots t) k x → x < 256
low_at t L k x h e =
    let f = L.fits in
    let i : k < t.links.count = omega (arith, length-take-le t.links.count t.links.order (omega (arith, L.long))) in
    omega (arith, e, get_or-take t.links.count t.links.order k x i, get_or_default t.links.order k x 0 (omega (arith, L.long)), L.low k i)

pub live_counted : (t : Tree) → Listed t → (counts : List ℕ) → Counted t counts → (x : ℕ) → is_live t x ≡ ltb 0 (get_or counts x 0)
live_counted t L counts C x =
    let f = L.fits in
    live_by x t.links.order t.links.count (omega (arith, L.long)) ∙ ap (λ n. ltb 0 n) (sym (C x))

pub listed_by : (t : Tree) → length t.links.order ≡ 256 → true ≡ once_below 256 t.links.order t.links.count → Listed t
listed_by t lo e =
    record { long = lo; fits = list_fit t.links.order t.links.count lo (sym e); low = list_low t.links.order t.links.count lo (sym e) }
