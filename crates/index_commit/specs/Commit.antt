-- The index's commit (index.rs, commit and commit_slot): what each queued slot does to the index and adds to the damage.
use Rattle.std.specs.Prelude.{ℕ, ◌+◌, ◌*◌, ◌<◌, ◌≡◌, cond, List, [], ◌∷◌, ◌++◌, ltb, eqb, length, take, drop, set, Float}
use Rattle.index_types.specs.declared.Aabb2D.{Aabb2D}
use Rattle.index_types.specs.Boxes.{aabb_eq}
use Rattle.index_types.specs.Slots.{entry_in, stored_in, entry}
use Rattle.index_types.specs.rooms.Tables.{put_box, of_box}
use Rattle.std.specs.Prelude.{Option, Some, None}
use Rattle.index_entries.specs.Entries.{previous_box}
use Rattle.index_commit.specs.declared.Change.{Change}
use Rattle.index_types.specs.declared.Damage.{Damage}
use Rattle.index_types.specs.declared.Slot.{Slot}
use Rattle.index_types.specs.declared.Stored.{Stored}
use Rattle.index_types.specs.declared.Index.{Index}

-- what a queued slot does, by its mark's number: an empty or unmarked one nothing
pub data Act : Type 0 where
  rests adds moves drops : Act

unfoldable pub act_of : ℕ → Act
act_of m = cond (ltb m 2) rests (cond (eqb m 2) adds (cond (eqb m 3) moves drops))

-- the box that a removal shows: the previous one where there is one, else the entry's own
unfoldable pub box_before : Option Aabb2D → Aabb2D → Aabb2D
box_before None b = b
box_before (Some a) b = a

-- a move is damage only where the boxes differ as numbers
unfoldable pub moved_from : Option Aabb2D → Aabb2D → Option Aabb2D
moved_from None b = None
moved_from (Some a) b = cond (aabb_eq a b) None (Some a)

unfoldable pub moved_to : Option Aabb2D → Aabb2D → Option Aabb2D
moved_to None b = None
moved_to (Some a) b = Some b

-- ---- one slot: its entry, what is stored of it, and the free list

abbrev pub committed_entry : Act → Slot → Slot
committed_entry rests e = e
committed_entry adds e = record e { mark = 1 }
committed_entry moves e = record e { mark = 1; kept = 0 }
committed_entry drops e = record e { mark = 0 }

abbrev pub stored_entry : Act → Aabb2D → Stored → Stored
stored_entry rests b s = s
stored_entry adds b s = record { present = 1; aabb = b }
stored_entry moves b s = record { present = 1; aabb = b }
stored_entry drops b s = record s { present = 0 }

abbrev pub entries_step : Act → List Slot → ℕ → List Slot
entries_step a entries x = set entries x (committed_entry a (entry_in entries x))

abbrev pub stored_step : Act → List Stored → ℕ → Aabb2D → List Stored
stored_step a stored x b = set stored x (stored_entry a b (stored_in stored x))

abbrev pub free_step : Act → List ℕ → ℕ → ℕ → List ℕ
free_step rests free frees x = free
free_step adds free frees x = free
free_step moves free frees x = free
free_step drops free frees x = set free frees x

abbrev pub frees_step : Act → ℕ → ℕ
frees_step rests frees = frees
frees_step adds frees = frees
frees_step moves frees = frees
frees_step drops frees = frees + 1

-- the damage
abbrev pub change : Option Aabb2D → Option Aabb2D → Option Aabb2D → Option Aabb2D → Change
change added removed old new = record { added = added; removed = removed; old = old; new = new }

abbrev pub change_of : Act → Aabb2D → Option Aabb2D → Change
change_of rests b p = change None None None None
change_of adds b p = change (Some b) None None None
change_of moves b p = change None None (moved_from p b) (moved_to (moved_from p b) b)
change_of drops b p = change None (Some (box_before p b)) None None

-- ---- one slot, over the whole index

abbrev pub act_at : Index → ℕ → Act
act_at ix x = act_of (entry ix x).mark

abbrev pub committed_by : Act → Index → ℕ → Index
committed_by a ix x =
    record ix {
      entries = entries_step a ix.entries x;
      free = free_step a ix.free ix.frees x;
      frees = frees_step a ix.frees;
      backend = record { entries = stored_step a ix.backend.entries x (entry ix x).aabb };
    }

abbrev pub slot_committed : Index → ℕ → Index
slot_committed ix x = committed_by (act_at ix x) ix x

abbrev pub slot_change : Index → ℕ → Change
slot_change ix x = change_of (act_at ix x) (entry ix x).aabb (previous_box (entry ix x))

-- what that needs: a slot, and a place in the free list where its entry is removed
pub record Commits (ix : Index) (x : ℕ) : Type 0 where
  pub low : x < 512
  pub free_room : act_at ix x ≡ drops → ix.frees < 512

-- ---- lent room: the boxes stand in front, four numbers each; what is behind them is as it was

unfoldable pub flat : List Aabb2D → List Float
flat [] = []
flat (b ∷ bs) = of_box b ++ flat bs

unfoldable pub boxes_in_front : List Aabb2D → List Float → List Float
boxes_in_front bs room = flat bs ++ drop (4 * length bs) room

-- one more box, or none
abbrev pub boxes_with : List Aabb2D → Option Aabb2D → List Aabb2D
boxes_with bs None = bs
boxes_with bs (Some b) = bs ++ (b ∷ [])

-- the same done to the room, after n boxes
abbrev pub room_with : List Float → ℕ → Option Aabb2D → List Float
room_with room n None = room
room_with room n (Some b) = put_box room n b

abbrev pub count_with : ℕ → Option Aabb2D → ℕ
count_with n None = n
count_with n (Some b) = n + 1

-- ---- the queued slots, one after the other

-- the index as far as a commit changes it, and the damage so far
pub record Work : Type 0 where
  pub entries : List Slot
  pub free : List ℕ
  pub frees : ℕ
  pub stored : List Stored
  pub added : List Aabb2D
  pub removed : List Aabb2D
  pub old : List Aabb2D
  pub new : List Aabb2D

abbrev pub work_by : Act → Change → Aabb2D → Work → ℕ → Work
work_by a c b w x =
    record {
      entries = entries_step a w.entries x;
      free = free_step a w.free w.frees x;
      frees = frees_step a w.frees;
      stored = stored_step a w.stored x b;
      added = boxes_with w.added c.added;
      removed = boxes_with w.removed c.removed;
      old = boxes_with w.old c.old;
      new = boxes_with w.new c.new;
    }

-- what a slot does, and the change that it makes
abbrev pub work_act : Work → ℕ → Act
work_act w x = act_of (entry_in w.entries x).mark

abbrev pub work_change : Work → ℕ → Change
work_change w x = change_of (work_act w x) (entry_in w.entries x).aabb (previous_box (entry_in w.entries x))

-- one slot
unfoldable pub work_step : Work → ℕ → Work
work_step w x = work_by (work_act w x) (work_change w x) (entry_in w.entries x).aabb w x

unfoldable pub work : Work → List ℕ → Work
work w [] = w
work w (x ∷ xs) = work (work_step w x) xs

abbrev pub start : Index → Work
start ix =
    record { entries = ix.entries; free = ix.free; frees = ix.frees; stored = ix.backend.entries; added = []; removed = []; old = []; new = [] }

-- the queued slots of an index, one after the other
unfoldable pub work_of : Index → Work
work_of ix = work (start ix) (take ix.queued ix.dirty)

-- what the work leaves of an index, whose queue is then so long
abbrev pub worked : Index → Work → ℕ → Index
worked ix w queued = record ix { entries = w.entries; free = w.free; frees = w.frees; queued = queued; backend = record { entries = w.stored } }

abbrev pub commit_of : Index → Work → Index
commit_of ix w = worked ix w 0

-- how many boxes of each kind the work has found; a move is a pair
pub record Counts (w : Work) (d : Damage) : Type 0 where
  pub added_is : d.added ≡ length w.added
  pub removed_is : d.removed ≡ length w.removed
  pub old_is : d.moved ≡ length w.old
  pub new_is : d.moved ≡ length w.new

-- what it leaves in the rooms
pub record Lays (w : Work) (added removed old new added' removed' old' new' : List Float) : Type 0 where
  pub added_lies : added' ≡ boxes_in_front w.added added
  pub removed_lies : removed' ≡ boxes_in_front w.removed removed
  pub old_lies : old' ≡ boxes_in_front w.old old
  pub new_lies : new' ≡ boxes_in_front w.new new
