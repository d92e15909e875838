-- The slots of the index: generations, the queue of dirty slots, and the slot that an insert takes (document 01, module 5).
use Rattle.std.specs.Prelude.{ℕ, ◌+◌, ◌-◌, Bool, cond, List, take, ◌==◌, nat_lt, slice_index, slice_set}
use Rattle.counting.specs.Times.{times}
use Rattle.index_types.specs.declared.Slot.{Slot}
use Rattle.index_types.specs.Slots.{entry_in}

-- "Its generation goes up by one past 4,294,967,295 to 1, never 0."
unfoldable pub next_generation : ℕ → ℕ
next_generation g = cond (g == 4294967295) 1 (g + 1)

-- x stands among the first n
abbrev pub stands : ℕ → List ℕ → ℕ → Bool
stands x l n = nat_lt 0 (times x (take n l))

-- "Repeats in the dirty queue do nothing, so first occurrences suffice": x put last, unless it stands there already
unfoldable pub queue_with : List ℕ → ℕ → ℕ → List ℕ
queue_with dirty n x = cond (stands x dirty n) dirty (slice_set dirty n x)

unfoldable pub length_with : List ℕ → ℕ → ℕ → ℕ
length_with dirty n x = cond (stands x dirty n) n (n + 1)

-- ---- insert: "A freed slot is used again, last freed first", else the next unused one

unfoldable pub slot_for : List ℕ → ℕ → ℕ → ℕ
slot_for free frees used = cond (frees == 0) used (slice_index free (frees - 1))

unfoldable pub used_for : ℕ → ℕ → ℕ
used_for frees used = cond (frees == 0) (used + 1) used

unfoldable pub generation_for : List Slot → List ℕ → ℕ → ℕ → ℕ
generation_for entries free frees used = cond (frees == 0) 1 (next_generation (entry_in entries (slot_for free frees used)).generation)
