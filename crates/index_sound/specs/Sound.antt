-- Document 01's "Sound index": the slots with their entries, the free list and the queue of dirty slots with their lengths, and how many
-- slots are used. A mark is a number: 0 for an empty slot, 1 for an entry without a mark, 2 added, 3 updated, from 4 on removed.
use Rattle.std.specs.Prelude.{ℕ, ◌≤◌, ◌<◌, ◌≡◌, Bool, ◌&&◌, ◌||◌, List, ltb, leb, eqb, length, take, get_or}
use Rattle.counting.specs.Times.{tally, times, every}
use Rattle.counting.specs.Lists.{Listed, Once, once_below}
use Rattle.index_types.specs.declared.Slot.{Slot}
use Rattle.index_types.specs.declared.Index.{Index}
use Rattle.index_types.specs.Slots.{entry_in}

-- a used empty slot
abbrev pub Empty : List Slot → ℕ → ℕ → Type 0
Empty entries used x = (x < used) × ((entry_in entries x).mark ≡ 0)

-- an entry with a mark
abbrev pub Marked : List Slot → ℕ → Type 0
Marked entries x = 2 ≤ (entry_in entries x).mark

pub record SoundOf (entries : List Slot) (free : List ℕ) (frees : ℕ) (dirty : List ℕ) (queued used : ℕ) : Type 0 where
  -- the shape of the tables: what is used, freed and queued fits, a slot beyond what is used is empty, and what is queued is a slot
  pub used_fits : used ≤ 512
  pub free_fits : frees ≤ 512
  pub queue_fits : queued ≤ 512
  pub beyond : (x : ℕ) → used ≤ x → (entry_in entries x).mark ≡ 0
  pub slots : (k : ℕ) → k < queued → get_or dirty k 0 < 512
  -- "the free list is exactly the used empty slots, each once"
  pub free_empty : (x : ℕ) → Listed free frees x → Empty entries used x
  pub empty_free : (x : ℕ) → Empty entries used x → Listed free frees x
  pub free_once : Once free frees
  -- "every marked entry is queued"
  pub marked_queued : (x : ℕ) → Marked entries x → Listed dirty queued x
  -- "the queue has no repeats"
  pub queue_once : Once dirty queued

-- ---- the same as a test that computes

abbrev pub empty : List Slot → ℕ → ℕ → Bool
empty entries used x = ltb x used && eqb (entry_in entries x).mark 0

-- one slot, from its mark and how often it stands in the free list and in the queue
abbrev pub slot_right : ℕ → ℕ → ℕ → ℕ → ℕ → Bool
slot_right x used mark free queue = (ltb x used || eqb mark 0) && (eqb free (tally (ltb x used && eqb mark 0)) && (ltb mark 2 || eqb queue 1))

unfoldable pub sound_of : List Slot → List ℕ → ℕ → List ℕ → ℕ → ℕ → Bool
sound_of entries free frees dirty queued used =
    leb used 512
    && (once_below 512 free frees
    && (once_below 512 dirty queued
    && every 512 (λ x. slot_right x used (entry_in entries x).mark (times x (take frees free)) (times x (take queued dirty)))))

-- the lengths of the tables, as every value of the type has them
pub record Shaped (ix : Index) : Type 0 where
  pub entries_whole : length ix.entries ≡ 512
  pub free_whole : length ix.free ≡ 512
  pub dirty_whole : length ix.dirty ≡ 512

-- 1: the index is unsound
abbrev pub sound_index : Index → Bool
sound_index ix = sound_of ix.entries ix.free ix.frees ix.dirty ix.queued ix.used

-- ---- the same by counting: how often a slot stands in the free list and in the queue

pub record SlotOf (x used mark free queue : ℕ) : Type 0 where
  pub past : used ≤ x → mark ≡ 0
  pub counted : free ≡ tally (ltb x used && eqb mark 0)
  pub waits : 2 ≤ mark → queue ≡ 1

pub record CountOf (entries : List Slot) (free : List ℕ) (frees : ℕ) (dirty : List ℕ) (queued used : ℕ) : Type 0 where
  pub used_fits : used ≤ 512
  pub free_fits : frees ≤ 512
  pub queue_fits : queued ≤ 512
  pub slot : (x : ℕ) → SlotOf x used (entry_in entries x).mark (times x (take frees free)) (times x (take queued dirty))
  pub low : (x : ℕ) → 512 ≤ x → times x (take queued dirty) ≡ 0
  pub once : (x : ℕ) → times x (take queued dirty) ≤ 1
