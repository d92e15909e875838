-- The index's record: when it is sound, full, and a key live; and what each accepted call leaves of it. `Calls.antt` has when a call is refused.
use Rattle.std.specs.Prelude.{ℕ, ◌<◌, ◌≡◌, ◌&&◌, Bool, List, eqb, leb, replicate, Float}
use Rattle.numbers.specs.Rounded.{zero}
use Rattle.index_types.specs.declared.Aabb2D.{Aabb2D}
use Rattle.index_types.specs.declared.Slot.{Slot}
use Rattle.index_types.specs.declared.Index.{Index}
use Rattle.index_types.specs.Boxes.{aabb}
use Rattle.index_types.specs.Slots.{entry}
pub use Rattle.index_sound.specs.Sound.{sound_index}
pub use Rattle.index_entries.specs.Entries.{slot_of, generation_of, insert_of, key_of, live, mark_at, update_of, remove_of}
pub use Rattle.index_commit.specs.Commit.{commit_of}
unfoldable pub use Rattle.index_commit.specs.Commit.{work_of}
use Rattle.index_query.specs.Query as query

-- 11: 512 slots have been used, and none of them is free
abbrev pub full : Index → Bool
full ix = eqb ix.frees 0 && leb 512 ix.used

-- all 512 slots hold an entry, marked removed or not (`full_exactly`: so it is in a sound index that is full, and in no other sound one)
abbrev pub AllHeld : Index → Type 0
AllHeld ix = (x : ℕ) → x < 512 → (entry ix x).mark ≡ 0 → ⊥

abbrev pub fresh_box : Aabb2D
fresh_box = aabb zero zero zero zero

abbrev pub fresh_entry : Slot
fresh_entry = record { generation = 0; mark = 0; payload = record { 0 = 0; 1 = 0 }; aabb = fresh_box; kept = 0; prev = fresh_box }

unfoldable pub fresh_index : Index
fresh_index =
    record {
      entries = replicate 512 fresh_entry;
      used = 0;
      free = replicate 512 0;
      frees = 0;
      dirty = replicate 512 0;
      queued = 0;
      backend = record { entries = replicate 512 (record { present = 0; aabb = fresh_box }) };
    }

-- ---- queries: the slots that are visited, rising

unfoldable pub rect_slots : Index → Aabb2D → List ℕ
rect_slots ix rect = query.slots 512 (query.visits ix rect)

unfoldable pub point_slots : Index → Float → Float → List ℕ
point_slots ix x y = query.slots 512 (query.visits_point ix x y)
