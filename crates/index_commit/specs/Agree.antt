-- When the backend and the entries agree: it has no box for an empty slot and for an entry that is only added, and one for every other
-- entry; an entry without a mark has its own box there.
use Rattle.std.specs.Prelude.{ℕ, ◌≡◌, Bool, ◌||◌, List, eqb, length}
use Rattle.index_types.specs.declared.Slot.{Slot}
use Rattle.index_types.specs.declared.Stored.{Stored}
use Rattle.index_types.specs.Slots.{entry_in, stored_in}

-- the backend has a box for the slot, and it is the entry's
abbrev pub Has : List Slot → List Stored → ℕ → Type 0
Has entries stored x = ((stored_in stored x).present ≡ 0 → ⊥) × ((stored_in stored x).aabb ≡ (entry_in entries x).aabb)

-- the mark of an empty slot, or of an entry that is only added
abbrev pub unseen : ℕ → Bool
unseen m = eqb m 0 || eqb m 2

pub record Agree (entries : List Slot) (stored : List Stored) : Type 0 where
  pub entries_whole : length entries ≡ 512
  pub stored_whole : length stored ≡ 512
  pub own : (x : ℕ) → (entry_in entries x).mark ≡ 1 → Has entries stored x
  pub none : (x : ℕ) → eqb (stored_in stored x).present 0 ≡ unseen (entry_in entries x).mark
