-- What the index holds when entries without a mark, none of them twice, are removed one after the other.
use mathlib.Core.Path.{◌≡◌, refl, sym, ap, ◌∙◌}
use mathlib.Core.Bool.{true, false, cond}
use mathlib.Core.List.{List, [], ◌∷◌, ◌++◌, append-nil}
use Prim.Native.Nat.{ℕ, ◌+◌, ◌≤◌, ◌<◌}
use native.Mathlib.Numerals.{add-one}
use native.Mathlib.Omega.{arith}
use native.Mathlib.Decide.{ℕ_discrete}
use borrow.Author.Tests.{le-ltb}
use lib.Dec.{eqb}
use lib.ListN.{length, take, set, length-set}
use lib.Seq.{get_or-set_same, get_or-set_other, take-suc-set, append_snoc}
use Rattle.index_types.specs.declared.Slot.{Slot}
use Rattle.index_types.specs.Slots.{no_entry, entry_in}
use Rattle.index_types.proofs.Slots.{part_stays}
use Rattle.numbers.proofs.Bools.{split}
use Rattle.counting.specs.Times.{tally, times}
use Rattle.counting.proofs.Counting.{hit, miss, times_put}
use Rattle.index_sound.specs.Sound.{CountOf}
use Rattle.index_entries.specs.declared.reads.Mark.{Mark}
use Rattle.index_entries.specs.declared.reads.Mark.TheVariants as is
use Rattle.index_entries.specs.Entries.{stands, queue_with, length_with, mark_of, unmarked, added, removed_mark}
use Rattle.index_entries.proofs.Keep as keep
use Rattle.index_entries.proofs.Keep.{queue_stays, queue_grows, queue_room, queue_of}
use Rattle.index_types.specs.declared.Index.{Index}
use Rattle.index_state.specs.Index.{remove_of}
use Rattle.tree_state.specs.Tree.{is_removed}
use Rattle.tree_state.specs.Sound.{count_below}
use Rattle.tree_invariant.specs.remove.Removals.{Plain, gone_entry, marks_all, queue_all, length_all}
use Rattle.tree_invariant.proofs.remove.Counts.{below_more}

-- ---- the tables after it

abbrev pub remove_keys : Index → List ℕ → Index
remove_keys ix [] = ix
remove_keys ix (k ∷ ks) = remove_keys (remove_of ix k) ks

abbrev pub without_keys : Index → List ℕ → Index
without_keys ix ks =
    record ix { entries = marks_all ix.entries ks; dirty = queue_all ix.dirty ix.queued ks; queued = length_all ix.dirty ix.queued ks }

-- ---- each is an entry without a mark, none twice

module _ (entries : List Slot) (k : ℕ) (ks : List ℕ) (P : Plain entries (k ∷ ks)) where
  pub first_low_lem : k < 512
  unfolding times
  first_low_lem = P.low k (omega (arith, hit k))

  pub first_unmarked : (entry_in entries k).mark ≡ 1
  unfolding times
  first_unmarked = P.unmarked k (omega (arith, hit k))

  pub not_later : times k ks ≡ 0
  unfolding times
  not_later = omega (arith, P.once k, hit k)

  pub later_other : (j : ℕ) → 1 ≤ times j ks → j ≡ k → ⊥
  later_other j n e = let z : times j ks ≡ 0 = rw e not_later in omega arith

  pub plain_next : Plain (set entries k (gone_entry (entry_in entries k))) ks
  unfolding times
  plain_next =
      record {
        low = λ j n. P.low j (omega arith);
        unmarked = λ j n. rw (get_or-set_other entries k j (gone_entry (entry_in entries k)) no_entry (later_other j n)) (P.unmarked j (omega arith));
        once = λ j. omega (arith, P.once j);
      }

-- ---- the record

is_unmarked : (m : ℕ) → m ≡ 1 → mark_of m ≡ is.Unmarked
unfolding mark_of
is_unmarked m e = rw e

pub remove_one : (ix : Index) (k : ℕ) → (entry_in ix.entries k).mark ≡ 1 → remove_of ix k ≡ without_keys ix (k ∷ [])
remove_one ix k e =
    ap
    (λ (m : Mark). record ix {
      entries = set ix.entries k (record (entry_in ix.entries k) { mark = removed_mark m });
      free = cond (added m) (set ix.free ix.frees k) ix.free;
      frees = cond (added m) (ix.frees + 1) ix.frees;
      dirty = cond (unmarked m) (queue_with ix.dirty ix.queued k) ix.dirty;
      queued = cond (unmarked m) (length_with ix.dirty ix.queued k) ix.queued;
    })
    (is_unmarked (entry_in ix.entries k).mark e)

pub remove_keys_lem : (ix : Index) (ks : List ℕ) → Plain ix.entries ks → remove_keys ix ks ≡ without_keys ix ks
remove_keys_lem ix [] P = refl
remove_keys_lem ix (k ∷ ks) P =
    ap (λ (w : Index). remove_keys w ks) (remove_one ix k (first_unmarked ix.entries k ks P))
    ∙ remove_keys_lem (without_keys ix (k ∷ [])) ks (plain_next ix.entries k ks P)

-- ---- marks

pub marks_length : (entries : List Slot) (ks : List ℕ) → length (marks_all entries ks) ≡ length entries
marks_length entries [] = refl
marks_length entries (k ∷ ks) = marks_length (set entries k (gone_entry (entry_in entries k))) ks ∙ length-set entries k _

-- all else of an entry stays
abbrev pub but_mark : Slot → Slot
but_mark e = record e { mark = 0 }

pub rest_stays : (entries : List Slot) (ks : List ℕ) (j : ℕ) → but_mark (entry_in (marks_all entries ks) j) ≡ but_mark (entry_in entries j)
rest_stays entries [] j = refl
rest_stays entries (k ∷ ks) j =
    rest_stays (set entries k (gone_entry (entry_in entries k))) ks j ∙ part_stays no_entry but_mark entries k (gone_entry (entry_in entries k)) refl j

pub mark_stays : (entries : List Slot) (ks : List ℕ) (j : ℕ) → times j ks ≡ 0 → (entry_in (marks_all entries ks) j).mark ≡ (entry_in entries j).mark
unfolding times
mark_stays entries [] j z = refl
mark_stays entries (k ∷ ks) j z =
    let other : j ≡ k → ⊥ = λ e. let n : tally (eqb j k) ≡ 1 = rw e (hit k) in omega arith in
    mark_stays (set entries k (gone_entry (entry_in entries k))) ks j (omega arith)
    ∙ ap (λ (e : Slot). e.mark) (get_or-set_other entries k j (gone_entry (entry_in entries k)) no_entry other)

pub mark_removed : (entries : List Slot) (ks : List ℕ) → length entries ≡ 512 → Plain entries ks → (j : ℕ) → 1 ≤ times j ks → (entry_in (marks_all entries ks) j).mark ≡ 4
unfolding times
mark_removed entries [] l P j n = absurd (omega arith)
mark_removed entries (k ∷ ks) l P j n =
    let low = first_low_lem entries k ks P in
    let u = gone_entry (entry_in entries k) in
    elim (ℕ_discrete j k) [
      | yes e ↦ rw e (mark_stays (set entries k u) ks k (not_later entries k ks P) ∙ ap (λ (e : Slot). e.mark) (get_or-set_same entries k u no_entry (omega arith)))
      | no m ↦ mark_removed (set entries k u) ks (length-set entries k u ∙ l) (plain_next entries k ks P) j (omega (arith, miss j k m))
    ]

-- as many more entries are marked removed
abbrev pub removed_in : List Slot → ℕ
removed_in entries = count_below 512 (λ k. is_removed (entry_in entries k).mark)

pub removed_more : (entries : List Slot) (ks : List ℕ) → length entries ≡ 512 → Plain entries ks → removed_in (marks_all entries ks) ≡ removed_in entries + length ks
removed_more entries [] l P = omega arith
removed_more entries (k ∷ ks) l P =
    let low = first_low_lem entries k ks P in
    let is_one = first_unmarked entries k ks P in
    let u = gone_entry (entry_in entries k) in
    let here : entry_in (set entries k u) k ≡ u = get_or-set_same entries k u no_entry (omega arith) in
    let one_more : removed_in (set entries k u) ≡ removed_in entries + 1 =
    below_more (λ j. is_removed (entry_in entries j).mark) (λ j. is_removed (entry_in (set entries k u) j).mark) k (λ j m. rw (get_or-set_other entries k j u no_entry m)) (rw is_one) (rw here) 512 low in
    omega (arith, removed_more (set entries k u) ks (length-set entries k u ∙ l) (plain_next entries k ks P), one_more)

-- ---- the queue

queue_with_length : (dirty : List ℕ) (n k : ℕ) → length (queue_with dirty n k) ≡ length dirty
queue_with_length dirty n k =
    split (stands k dirty n)
    (λ (s : stands k dirty n ≡ true). rw (queue_stays dirty n k s).0)
    (λ (s : stands k dirty n ≡ false). rw (queue_grows dirty n k s).0 (length-set dirty n k))

pub queue_length : (dirty : List ℕ) (n : ℕ) (ks : List ℕ) → length (queue_all dirty n ks) ≡ length dirty
queue_length dirty n [] = refl
queue_length dirty n (k ∷ ks) = queue_length (queue_with dirty n k) (length_with dirty n k) ks ∙ queue_with_length dirty n k

-- ---- soundness, and what is queued

module _ (free : List ℕ) (frees used : ℕ) (lf : length free ≡ 512) where
  next : (entries : List Slot) (dirty : List ℕ) (n k : ℕ) → length entries ≡ 512 → length dirty ≡ 512 → k < 512 → (entry_in entries k).mark ≡ 1
      → CountOf entries free frees dirty n used → CountOf (set entries k (gone_entry (entry_in entries k))) free frees (queue_with dirty n k) (length_with dirty n k) used
  next entries dirty n k lm lq low e C =
      let m = is_unmarked (entry_in entries k).mark e in
      rw m at (keep.keep_remove entries free frees dirty n used C lm lf lq k low (λ z. omega arith) (gone_entry (entry_in entries k)) (sym (ap removed_mark m)))

  pub keep_keys : (entries : List Slot) (dirty : List ℕ) (n : ℕ) (ks : List ℕ) → length entries ≡ 512 → length dirty ≡ 512 → Plain entries ks
      → CountOf entries free frees dirty n used → CountOf (marks_all entries ks) free frees (queue_all dirty n ks) (length_all dirty n ks) used
  keep_keys entries dirty n [] lm lq P C = C
  keep_keys entries dirty n (k ∷ ks) lm lq P C =
      keep_keys (set entries k (gone_entry (entry_in entries k))) (queue_with dirty n k) (length_with dirty n k) ks (length-set entries k _ ∙ lm) (queue_with_length dirty n k ∙ lq)
      (plain_next entries k ks P)
      (next entries dirty n k lm lq (first_low_lem entries k ks P) (first_unmarked entries k ks P) C)

  -- keys that the queue has none of come behind it, in their order
  pub queued_keys : (entries : List Slot) (dirty : List ℕ) (n : ℕ) (ks : List ℕ) → length entries ≡ 512 → length dirty ≡ 512 → Plain entries ks
      → CountOf entries free frees dirty n used → ((k : ℕ) → 1 ≤ times k ks → times k (take n dirty) ≡ 0)
      → take (length_all dirty n ks) (queue_all dirty n ks) ≡ take n dirty ++ ks
  unfolding times
  queued_keys entries dirty n [] lm lq P C out = sym (append-nil (take n dirty))
  queued_keys entries dirty n (k ∷ ks) lm lq P C out =
      let low = first_low_lem entries k ks P in
      let is_one = first_unmarked entries k ks P in
      let z : times k (take n dirty) ≡ 0 = out k (omega (arith, hit k)) in
      let s : stands k dirty n ≡ false = le-ltb 0 (times k (take n dirty)) (omega arith) in
      let room = queue_room dirty n (queue_of entries free frees dirty n used C lm) lq k low s in
      let g = queue_grows dirty n k s in
      let rest = queued_keys (set entries k (gone_entry (entry_in entries k))) (queue_with dirty n k) (length_with dirty n k) ks (length-set entries k _ ∙ lm) (queue_with_length dirty n k ∙ lq) (plain_next entries k ks P) (next entries dirty n k lm lq low is_one C) (λ j m. rw (g.0, g.1) (omega (arith, times_put j dirty n k (omega arith), miss j k (later_other entries k ks P j m), out j (omega arith)))) in
      rest ∙ rw (g.0, g.1, add-one n, take-suc-set dirty n k (omega arith)) (append_snoc (take n dirty) k ks)
