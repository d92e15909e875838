-- One of a list, and of the numbers below a bound: one more at a time. What soundness tells of the first places of the table.
use mathlib.Core.Path.{◌≡◌, refl, sym, ◌∙◌}
use mathlib.Core.Bool.{Bool, true, false, ◌&&◌, ◌||◌}
use mathlib.Core.List.{List, [], ◌∷◌, ◌++◌}
use Prim.Native.Nat.{ℕ, zero, suc, ◌+◌, ◌≤◌, ◌<◌}
use native.Mathlib.Omega.{arith}
use native.Mathlib.Decide.{dec_lt}
use native.Mathlib.Numerals.{add-one}
use lib.ListN.{length, take, get_or}
use lib.Seq.{take-suc}
use Rattle.numbers.proofs.Bools.{and_left, and_right}
use Rattle.counting.specs.Lists.{once_below}
use Rattle.counting.specs.Times.{every, times, tally}
use lib.Dec.{eqb, ltb, leb}
use Rattle.link_forest.specs.Table.{depths_from}
use Rattle.index_sound.specs.Sound.{sound_of}
use Rattle.tree_state.specs.declared.Tree.{Tree}
use Rattle.tree_state.specs.Tree.{any_of, some, live_slots}
use Rattle.tree_state.specs.Sound.{every_of, slots_right, node_right, entry_right, counts_right, sound_tree}
use Rattle.tree_sound.specs.Parts.{Low, Sized}
use Rattle.tree_sound.proofs.Lists.{listed_by}

or_next : (a b c : Bool) → a || (b || c) ≡ a || b || c
or_next true b c = refl
or_next false b c = refl

or_false : (a : Bool) → a || false ≡ a
or_false true = refl
or_false false = refl

or_true : (a : Bool) → a || true ≡ true
or_true true = refl
or_true false = refl

any_snoc : (p : ℕ → Bool) (l : List ℕ) (y : ℕ) → any_of p (l ++ (y ∷ [])) ≡ any_of p l || p y
unfolding any_of
any_snoc p [] y = or_false (p y)
any_snoc p (x ∷ l) y = rw (any_snoc p l y) (or_next (p x) (any_of p l) (p y))

pub any_more : (p : ℕ → Bool) (l : List ℕ) (i : ℕ) → i < length l → any_of p (take (i + 1) l) ≡ any_of p (take i l) || p (get_or l i 0)
any_more p l i h = rw (add-one i, take-suc l i 0 h) (any_snoc p (take i l) (get_or l i 0))

-- one that stands among the first n
pub any_hit : (p : ℕ → Bool) (l : List ℕ) (n i : ℕ) → i < n → i < length l → p (get_or l i 0) ≡ true → any_of p (take n l) ≡ true
unfolding any_of
any_hit p [] n i h k e = absurd (omega arith)
any_hit p (x ∷ l) zero i h k e = absurd (omega arith)
any_hit p (x ∷ l) (suc n) zero h k e = rw e
any_hit p (x ∷ l) (suc n) (suc i) h k e = rw (any_hit p l n i (omega arith) (omega arith) e) (or_true (p x))

pub some_hit : (p : ℕ → Bool) (n i : ℕ) → i < n → p i ≡ true → some n p ≡ true
unfolding some
some_hit p zero i h e = absurd (omega arith)
some_hit p (suc n) i h e =
    elim (dec_lt i n) [
      | yes l ↦ rw (some_hit p n i l e)
      | no g ↦ (let f : i ≡ n = omega arith in rw (← f, e) (or_true (some i p)))
    ]

pub some_more : (p : ℕ → Bool) (k : ℕ) → some (k + 1) p ≡ some k p || p k
unfolding some
some_more p k = rw (add-one k)

-- the test fails from u on
pub some_used : (p : ℕ → Bool) (u n : ℕ) → u ≤ n → ((k : ℕ) → u ≤ k → p k ≡ false) → some u p ≡ some n p
unfolding some
some_used p u zero h f = let e : u ≡ 0 = omega arith in rw e
some_used p u (suc n) h f =
    elim (dec_lt n u) [
      | yes l ↦ (let e : u ≡ suc n = omega arith in rw e)
      | no g ↦ some_used p u n (omega arith) f ∙ sym (rw (f n (omega arith)) (or_false (some n p)))
    ]

-- ---- a sound tree's table

sound_slots : (t : Tree) → sound_tree t ≡ true → slots_right t.links.order t.links.count t.slots.free t.slots.frees t.slots.used ≡ true
unfolding sound_tree
sound_slots t h =
    let X = t.index in
    and_left (slots_right t.links.order t.links.count t.slots.free t.slots.frees t.slots.used)
    (depths_from 0 (take t.links.count t.links.depth)
    && (sound_of X.entries X.free X.frees X.dirty X.queued X.used
    && (every_of (node_right t) (live_slots t) && (every 512 (entry_right t) && counts_right t))))
    h

-- its places hold slots of the tables
pub sound_places : (t : Tree) → Sized t → sound_tree t ≡ true → (t.links.count ≤ 256) × (length t.links.order ≡ 256) × Low t.links.order t.links.count
unfolding slots_right
sound_places t s h =
    let L = t.links in
    let S = t.slots in
    let rest = once_below 256 S.free S.frees && every 256 (λ (x : ℕ). eqb (times x (take L.count L.order) + times x (take S.frees S.free)) (tally (ltb x S.used))) in
    let r = and_right (leb S.used 256) (once_below 256 L.order L.count && rest) (sound_slots t h) in
    let G = listed_by t s.order (sym (and_left (once_below 256 L.order L.count) rest r)) in
    (G.fits, G.long, G.low)
