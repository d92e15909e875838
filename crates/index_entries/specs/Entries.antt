-- The inner steps of the index (document 01, module 5): insert, update and removal. Slots, queue, look-up and marks are passed on.
use Rattle.std.specs.Prelude.{ℕ, ◌+◌, ◌-◌, ◌<◌, ◌≤◌, ◌≡◌, true, false, cond, set}
use Rattle.index_types.specs.declared.Aabb2D.{Aabb2D}
use Rattle.index_types.specs.declared.NodeId.{NodeId}
use Rattle.index_types.specs.declared.Key.{Key}
use Rattle.index_types.specs.declared.Slot.{Slot}
use Rattle.index_types.specs.declared.Index.{Index}
use Rattle.index_types.specs.Slots.{entry}
pub use Rattle.index_entries.specs.slots.Slots.{stands}
unfoldable pub use Rattle.index_entries.specs.slots.Slots.{next_generation, queue_with, length_with, slot_for, used_for, generation_for}
pub use Rattle.index_entries.specs.reads.Reads.{live}
unfoldable pub use Rattle.index_entries.specs.reads.Reads.{mark_of, previous_box, look_up}
pub use Rattle.index_entries.specs.remove.Marks.{unmarked, added, removed_mark}
use Rattle.index_entries.specs.declared.reads.Mark.{Mark}
use Rattle.index_entries.specs.declared.reads.Mark.TheVariants as is

-- the mark's number after an update: an added entry stays added, and a removed one lives again
abbrev pub updated_mark : Mark → ℕ
updated_mark is.Unmarked = 3
updated_mark is.Added = 2
updated_mark is.Updated = 3
updated_mark is.Removed = 3

-- ---- insert: the entry is stored at its slot, marked added, and queued

abbrev pub slot_of : Index → ℕ
slot_of ix = slot_for ix.free ix.frees ix.used

abbrev pub generation_of : Index → ℕ
generation_of ix = generation_for ix.entries ix.free ix.frees ix.used

-- the previous box stays, without being one
abbrev pub inserted_entry : Slot → ℕ → Aabb2D → NodeId → Slot
inserted_entry e g b p = record e { generation = g; mark = 2; payload = p; aabb = b; kept = 0 }

abbrev pub insert_of : Index → Aabb2D → NodeId → Index
insert_of ix b p =
    record ix {
      entries = set ix.entries (slot_of ix) (inserted_entry (entry ix (slot_of ix)) (generation_of ix) b p);
      used = used_for ix.frees ix.used;
      frees = ix.frees - 1;
      dirty = queue_with ix.dirty ix.queued (slot_of ix);
      queued = length_with ix.dirty ix.queued (slot_of ix);
    }

abbrev pub key_of : ℕ → ℕ → Key
key_of x g = record { 0 = x; 1 = g }

-- the slot taken, and nothing stored there yet
abbrev pub taken_of : Index → Index
taken_of ix = record ix { used = used_for ix.frees ix.used; frees = ix.frees - 1 }

-- the slot in the queue
abbrev pub queued_of : Index → ℕ → Index
queued_of ix x = record ix { dirty = queue_with ix.dirty ix.queued x; queued = length_with ix.dirty ix.queued x }

-- ---- update and remove. A key that is marked removed and not yet committed is not dead

abbrev pub mark_at : Index → ℕ → Mark
mark_at ix x = mark_of (entry ix x).mark

-- the box is replaced; an entry without a mark keeps the box it had
abbrev pub updated_entry : Slot → Aabb2D → Slot
updated_entry e b =
    record e {
      mark = updated_mark (mark_of e.mark);
      aabb = b;
      kept = cond (unmarked (mark_of e.mark)) 1 e.kept;
      prev = cond (unmarked (mark_of e.mark)) e.aabb e.prev;
    }

-- one without a mark is queued
abbrev pub update_of : Index → ℕ → Aabb2D → Index
update_of ix x b =
    record ix {
      entries = set ix.entries x (updated_entry (entry ix x) b);
      dirty = cond (unmarked (mark_at ix x)) (queue_with ix.dirty ix.queued x) ix.dirty;
      queued = cond (unmarked (mark_at ix x)) (length_with ix.dirty ix.queued x) ix.queued;
    }

-- the entry is marked removed, and queued if it had no mark; an added one goes at once, and its slot is freed
abbrev pub remove_of : Index → ℕ → Index
remove_of ix x =
    record ix {
      entries = set ix.entries x (record (entry ix x) { mark = removed_mark (mark_at ix x) });
      free = cond (added (mark_at ix x)) (set ix.free ix.frees x) ix.free;
      frees = cond (added (mark_at ix x)) (ix.frees + 1) ix.frees;
      dirty = cond (unmarked (mark_at ix x)) (queue_with ix.dirty ix.queued x) ix.dirty;
      queued = cond (unmarked (mark_at ix x)) (length_with ix.dirty ix.queued x) ix.queued;  -- an emptied slot keeps its place
    }

-- ---- what each of them needs of the index, as a sound one has it

-- a slot, and a place in the queue where it does not stand there already
pub record Queues (ix : Index) (x : ℕ) : Type 0 where
  pub low : x < 512
  pub queue_fits : ix.queued ≤ 512
  pub queue_room : stands x ix.dirty ix.queued ≡ false → ix.queued < 512

-- a slot that is free
pub record Takes (ix : Index) : Type 0 where
  pub used_fits : ix.used ≤ 512
  pub frees_fit : ix.frees ≤ 512
  pub slot_fits : slot_of ix < 512

pub record Inserts (ix : Index) : Type 0 where
  pub takes : Takes ix
  pub queues : Queues ix (slot_of ix)

-- a place in the free list where the entry goes at once
pub record Removes (ix : Index) (x : ℕ) : Type 0 where
  pub queues : Queues ix x
  pub free_room : added (mark_at ix x) ≡ true → ix.frees < 512
