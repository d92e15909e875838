-- The slots of the index, and what its backend has stored of each. Past the last there is an empty slot, of which nothing is stored.
use Rattle.std.specs.Prelude.{ℕ, List, get_or}
use Rattle.std.specs.Float.{nan}
use Rattle.index_types.specs.declared.Aabb2D.{Aabb2D}
use Rattle.index_types.specs.declared.Slot.{Slot}
use Rattle.index_types.specs.declared.Stored.{Stored}
use Rattle.index_types.specs.declared.Index.{Index}
use Rattle.index_types.specs.Boxes.{aabb}

abbrev pub no_box : Aabb2D
no_box = aabb nan nan nan nan

abbrev pub no_entry : Slot
no_entry = record { generation = 0; mark = 0; payload = record { 0 = 0; 1 = 0 }; aabb = no_box; kept = 0; prev = no_box }

abbrev pub none_stored : Stored
none_stored = record { present = 0; aabb = no_box }

abbrev pub entry_in : List Slot → ℕ → Slot
entry_in entries x = get_or entries x no_entry

abbrev pub stored_in : List Stored → ℕ → Stored
stored_in stored x = get_or stored x none_stored

-- the slot x of an index, and what is stored of it
abbrev pub entry : Index → ℕ → Slot
entry ix x = entry_in ix.entries x

abbrev pub stored : Index → ℕ → Stored
stored ix x = stored_in ix.backend.entries x
