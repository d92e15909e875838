-- The room for entries: those that a sound tree has are at most 256, and a commit adds at most one for each of at most 256 visits, so that
-- each turn of it finds a slot among the 512.
use mathlib.Core.Path.{◌≡◌, refl, sym, ap, ◌∙◌}
use mathlib.Core.Bool.{Bool, true, false, ◌&&◌, cond}
use mathlib.Core.List.{List, [], ◌∷◌}
use Prim.Native.Nat.{ℕ, zero, suc, ◌+◌, ◌≤◌, ◌<◌}
use native.Mathlib.Omega.{arith}
use native.Mathlib.Decide.{dec_lt, ℕ_discrete}
use borrow.Author.Tests.{lt-ltb}
use lib.Dec.{eqb, ltb}
use lib.ListN.{length, take}
use lib.Seq.{length-take-le}
use Rattle.counting.specs.Times.{tally, times}
use Rattle.counting.proofs.Counting.{tally_small, hit, miss, shorter}
use Rattle.index_types.specs.declared.Aabb2D.{Aabb2D}
use Rattle.link_forest.specs.Forest.{Forest}
use Rattle.link_forest.proofs.Counting.{has_count}
use Rattle.link_forest.proofs.Rep.{rep_times}
use Rattle.index_entries.proofs.Finding.{used_unused, used_last}
use Rattle.index_entries.proofs.Keep.{slot_fits}
use Rattle.index_sound.proofs.Exact.{counted}
use Rattle.index_sound.specs.Sound.{CountOf}
use Rattle.link_table.specs.declared.Links.{Links}
use Rattle.index_state.specs.Index.{slot_of}
use Rattle.tree_state.specs.declared.Tree.{Tree}
use Rattle.tree_state.specs.Tree.{is_live, live_slots, committed_at, key_at, entry_mark, is_removed, stored_hit_bounds}
use Rattle.tree_state.specs.Sound.{SoundTree, count_of, count_below}
use Rattle.tree_state.specs.Whole.{Whole}
use Rattle.tree_laws.proofs.Ground.{Linked, live_has, slot_live}
use Rattle.tree_steps.specs.Commit.{Work, enter_index, new_place, new_hit_bounds, rework}
use Rattle.geometry.specs.Rectangle.{rect_eq}
use Rattle.tree_types.specs.Local.{rect_to_aabb}
use Rattle.agreement.proofs.worlds.Visits.{slot_at}
use Rattle.agreement.proofs.worlds.Keyed.{KeyedTree}
use Rattle.agreement.proofs.worlds.Entries.{Fitting, Inside, turn_keyed}

-- ---- sums
unfoldable sum_to : ℕ → (ℕ → ℕ) → ℕ
sum_to zero g = 0
sum_to (suc n) g = sum_to n g + g n

sum_add : (n : ℕ) (a b : ℕ → ℕ) → sum_to n (λ k. a k + b k) ≡ sum_to n a + sum_to n b
unfolding sum_to
sum_add zero a b = omega arith
sum_add (suc n) a b = rw (sum_add n a b) (omega arith)

sum_more : (n : ℕ) (a b : ℕ → ℕ) → ((k : ℕ) → k < n → a k ≤ b k) → sum_to n a ≤ sum_to n b
unfolding sum_to
sum_more zero a b h = omega arith
sum_more (suc n) a b h = omega (arith, sum_more n a b (λ k l. h k (omega arith)), h n (omega arith))

sum_zero : (n : ℕ) → sum_to n (λ k. 0) ≡ 0
unfolding sum_to
sum_zero zero = refl
sum_zero (suc n) = rw (sum_zero n) (omega arith)

sum_past : (n y : ℕ) → n ≤ y → sum_to n (λ k. tally (eqb k y)) ≡ 0
unfolding sum_to
sum_past zero y h = refl
sum_past (suc n) y h = omega (arith, sum_past n y (omega arith), miss n y (λ e. omega arith))

sum_hit : (n y : ℕ) → sum_to n (λ k. tally (eqb k y)) ≤ 1
unfolding sum_to
sum_hit zero y = omega arith
sum_hit (suc n) y =
    elim (ℕ_discrete n y) [
      | yes e ↦ omega (arith, sum_past n y (omega arith), tally_small (eqb n y))
      | no m ↦ omega (arith, sum_hit n y, miss n y m)
    ]

-- how often each number below n stands in a list, together at most its length
sum_times : (n : ℕ) (l : List ℕ) → sum_to n (λ k. times k l) ≤ length l
unfolding times
sum_times n [] = omega (arith, sum_zero n)
sum_times n (y ∷ l) = omega (arith, sum_add n (λ k. tally (eqb k y)) (λ k. times k l), sum_hit n y, sum_times n l)

sum_count : (n : ℕ) (p : ℕ → Bool) → sum_to n (λ k. tally (p k)) ≡ count_below n p
unfolding count_below sum_to
sum_count zero p = refl
sum_count (suc n) p = rw (sum_count n p)

sum_used : (n u : ℕ) → u ≤ n → u ≤ sum_to n (λ k. tally (ltb k u))
unfolding sum_to
sum_used zero u h = omega arith
sum_used (suc n) u h =
    elim (dec_lt n u) [
      | yes l ↦ omega (arith, all n u (omega arith), ap tally (lt-ltb n u l))
      | no m ↦ omega (arith, sum_used n u (omega arith))
    ]
  where
    all : (m u : ℕ) → m ≤ u → m ≤ sum_to m (λ k. tally (ltb k u))
    all zero u h = omega arith
    all (suc m) u h = omega (arith, all m u (omega arith), ap tally (lt-ltb m u (omega arith)))

-- ---- the keys of the committed of some slots
unfoldable keys_of : Tree → List ℕ → List ℕ
keys_of t [] = []
keys_of t (x ∷ xs) = cond (committed_at t x) ((key_at t x).0 ∷ keys_of t xs) (keys_of t xs)

length_keys : (t : Tree) (l : List ℕ) → length (keys_of t l) ≡ count_of (committed_at t) l
unfolding keys_of count_of
length_keys t [] = refl
length_keys t (x ∷ l) = go (committed_at t x) (length_keys t l)
  where
    go : (b : Bool) → length (keys_of t l) ≡ count_of (committed_at t) l → length (cond b ((key_at t x).0 ∷ keys_of t l) (keys_of t l)) ≡ tally b + count_of (committed_at t) l
    go true e = omega arith
    go false e = omega arith

in_keys : (t : Tree) (l : List ℕ) (x : ℕ) → 1 ≤ times x l → committed_at t x ≡ true → 1 ≤ times (key_at t x).0 (keys_of t l)
unfolding keys_of times
in_keys t [] x h c = absurd (omega arith)
in_keys t (y ∷ l) x h c =
    elim (ℕ_discrete x y) [
      | yes e ↦ rw (← e, c) (omega (arith, hit (key_at t x).0))
      | no n ↦ go (committed_at t y) (in_keys t l x (omega (arith, miss x y n)) c)
    ]
  where
    go : (b : Bool) → 1 ≤ times (key_at t x).0 (keys_of t l) → 1 ≤ times (key_at t x).0 (cond b ((key_at t y).0 ∷ keys_of t l) (keys_of t l))
    go true e = omega arith
    go false e = e

-- ---- a sound tree has at most 256 entries
module _ (t : Tree) (f : Forest) (W : Whole t) (S : SoundTree t) (L : Linked t f) where
  C : CountOf t.index.entries t.index.free t.index.frees t.index.dirty t.index.queued t.index.used
  C = counted t.index.entries t.index.free t.index.frees t.index.dirty t.index.queued t.index.used W.index.entries W.index.free W.index.dirty S.index

  listed : (x : ℕ) → is_live t x ≡ true → 1 ≤ times x (live_slots t)
  listed x h = omega (arith, rep_times L.rep x, has_count x f (sym (live_has t f L x) ∙ h))

  -- an entry is free, removed, or a committed node's
  each : (k : ℕ) → k < 512
      → tally (ltb k t.index.used)
      ≤ times k (take t.index.frees t.index.free) + (tally (is_removed (entry_mark t k)) + times k (keys_of t (live_slots t)))
  each k l =
      elim (ℕ_discrete (entry_mark t k) 0) [
        | yes z ↦ let e : times k (take t.index.frees t.index.free) ≡ tally (ltb k t.index.used) = (C.slot k).counted ∙ rw z (ap tally (plain (ltb k t.index.used))) in omega arith
        | no n ↦ go (is_removed (entry_mark t k)) refl n
      ]
    where
      plain : (b : Bool) → b && true ≡ b
      plain true = refl
      plain false = refl

      go : (b : Bool) → is_removed (entry_mark t k) ≡ b → (entry_mark t k ≡ 0 → ⊥)
          → tally (ltb k t.index.used) ≤ times k (take t.index.frees t.index.free) + (tally b + times k (keys_of t (live_slots t)))
      go true e n = omega (arith, tally_small (ltb k t.index.used))
      go false e n =
          let w = S.owned k l n e in
          let i : 1 ≤ times k (keys_of t (live_slots t)) = rw w.3.slot at (in_keys t (live_slots t) w.0 (listed w.0 w.1) w.2) in
          omega (arith, tally_small (ltb k t.index.used))

  pub few_entries : t.index.used ≤ t.index.frees + 256
  few_entries =
      let a : ℕ → ℕ = λ k. times k (take t.index.frees t.index.free) in
      let b : ℕ → ℕ = λ k. tally (is_removed (entry_mark t k)) in
      let d : ℕ → ℕ = λ k. times k (keys_of t (live_slots t)) in
      omega (
        arith,
        sum_used 512 t.index.used C.used_fits,
        sum_more 512 (λ k. tally (ltb k t.index.used)) (λ k. a k + (b k + d k)) each,
        sum_add 512 a (λ k. b k + d k),
        sum_add 512 b d,
        sum_times 512 (take t.index.frees t.index.free),
        length-take-le t.index.frees t.index.free (omega (arith, C.free_fits, W.index.free)),
        sum_count 512 (λ k. is_removed (entry_mark t k)),
        sum_times 512 (keys_of t (live_slots t)),
        length_keys t (live_slots t),
        S.few,
      )

-- ---- a turn takes at most one slot
module _ (t : Tree) (x n : ℕ) (h : t.index.used + suc n ≤ t.index.frees + 512) where
  left : (b c : Bool) (r : Aabb2D) → (enter_index b c t x r).used + n ≤ (enter_index b c t x r).frees + 512
  left true true r = omega arith
  left true false r = omega arith
  left false c r =
      let ix = t.index in
      elim (ℕ_discrete ix.frees 0) [
        | yes e ↦ omega (arith, used_unused ix.entries ix.free ix.frees ix.used e)
        | no m ↦ omega (arith, used_last ix.entries ix.free ix.frees ix.used m)
      ]

  slot_left : (f : Forest) → KeyedTree t f → slot_of t.index < 512
  slot_left f K =
      let ix = t.index in
      slot_fits ix.entries ix.free ix.frees ix.dirty ix.queued ix.used K.counts K.index.entries K.index.free K.index.dirty (λ e. omega arith)

fitting : (f : Forest) (is : List ℕ) (k : Work) → Linked k.tree f → KeyedTree k.tree f → Inside k.tree.links is → k.tree.index.used + length is ≤ k.tree.index.frees + 512
    → Fitting k is
unfolding rework
fitting f [] k L K I h = tt
fitting f (i ∷ is) k L K I h =
    let t = k.tree in
    let x = slot_at t.links i in
    let s = slot_left t x (length is) h f K in
    let b = new_hit_bounds t x (new_place t i x) in (
      λ c. s,
      fitting f is (rework k i) L (turn_keyed t f L K i x (slot_live t f L i I.0) (λ c. s)) I.1
          (left t x (length is) h (committed_at t x) (rect_eq (stored_hit_bounds t x) b) (rect_to_aabb b)),
    )

-- ---- visits of places, none twice
inside_low : (l : Links) (is : List ℕ) → Inside l is → (i : ℕ) → l.count ≤ i → times i is ≡ 0
unfolding times
inside_low l [] I i h = refl
inside_low l (j ∷ is) I i h = omega (arith, I.0, miss i j (λ e. omega (arith, I.0)), inside_low l is I.1 i h)

-- each turn over such visits, from a sound tree, finds a slot for an entry
pub sound_fitting : (f : Forest) (is : List ℕ) (k : Work) → Whole k.tree → SoundTree k.tree → Linked k.tree f → KeyedTree k.tree f → Inside k.tree.links is
    → ((i : ℕ) → times i is ≤ 1) → Fitting k is
sound_fitting f is k W S L K I once =
    let none = inside_low k.tree.links is I in
    let c = S.count_fits in
    let few : length is < 257 = shorter 257 256 is once (λ i h. none i (omega arith)) (omega arith) (none 256 (omega arith)) in
    fitting f is k L K I (omega (arith, few_entries k.tree f W S L))
