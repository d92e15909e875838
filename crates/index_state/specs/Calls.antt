-- Every call of the index, by its name and arguments: what refuses it, by number; what it leaves of the index and of lent room; and
-- what it tells. Of lent room a refusal hears the length alone.
use Rattle.std.specs.Prelude.{ℕ, ◌≡◌, Bool, not, ◌||◌, List, ltb, length, Float, Result, Ok, Err}
use Rattle.counting.specs.Conditions.{Conditions, accept, ◌else◌then◌, lowest, Told, refused, gives, told_if, left_if}
use Rattle.index_types.specs.declared.Aabb2D.{Aabb2D}
use Rattle.index_types.specs.declared.NodeId.{NodeId}
use Rattle.index_types.specs.declared.Key.{Key}
use Rattle.index_commit.specs.Commit.{boxes_in_front}
use Rattle.index_query.specs.Query as query
use Rattle.index_types.specs.declared.Index.{Index}
use Rattle.index_types.specs.declared.Refusal.{Refusal}
use Rattle.index_types.specs.declared.Damage.{Damage}
pub use Rattle.index_types.specs.Refusals.{number_of}
use Rattle.index_state.specs.Index.{sound_index, full, fresh_index, slot_of, generation_of, insert_of, key_of, live, update_of, remove_of, work_of, commit_of, rect_slots, point_slots}

pub data Call : Type 0 where
  insert : Aabb2D → NodeId → Call
  update : Key → Aabb2D → Call
  remove : Key → Call
  clear : Call
  commit : ℕ → ℕ → ℕ → ℕ → Call  -- with the lengths of its rooms: added, removed, old, new
  query_rect : Aabb2D → ℕ → Call  -- with the length of its room
  query_point : Float → Float → ℕ → Call

-- ---- what refuses a call

-- 8, by a room's length in numbers: under 512 boxes of some kind, or under 512 entries, of four numbers each
abbrev pub short : ℕ → ℕ → ℕ → ℕ → Bool
short a r o n = ltb a 2048 || ltb r 2048 || (ltb o 2048 || ltb n 2048)

abbrev pub room_for_entries : ℕ → Bool
room_for_entries len = not (ltb len 2048)

abbrev pub conditions_of_query : Index → ℕ → Conditions
conditions_of_query ix len = sound_index ix else 1 then room_for_entries len else 8 then accept

abbrev pub conditions : Index → Call → Conditions
conditions ix (insert b p) = sound_index ix else 1 then not (full ix) else 11 then accept
conditions ix (update k b) = sound_index ix else 1 then live ix k else 10 then accept
conditions ix (remove k) = sound_index ix else 1 then live ix k else 10 then accept
conditions ix clear = sound_index ix else 1 then accept
conditions ix (commit a r o n) = sound_index ix else 1 then not (short a r o n) else 8 then accept
conditions ix (query_rect rect len) = conditions_of_query ix len
conditions ix (query_point x y len) = conditions_of_query ix len

unfoldable pub refusal : Index → Call → ℕ
refusal ix c = lowest (conditions ix c)

-- ---- what an accepted call leaves: clear an index as it is fresh, generations too; a query changes nothing

unfoldable pub accepted : Index → Call → Index
accepted ix (insert b p) = insert_of ix b p
accepted ix (update k b) = update_of ix k.0 b
accepted ix (remove k) = remove_of ix k.0
accepted ix clear = fresh_index
accepted ix (commit a r o n) = commit_of ix (work_of ix)
accepted ix (query_rect rect len) = ix
accepted ix (query_point x y len) = ix

unfoldable pub after : Index → Call → Index
after ix c = left_if (refusal ix c) ix (accepted ix c)

-- ---- what a call tells

-- what an accepted call gives: the entry's key; how many boxes or entries stand in the rooms, a move being an old and a new box
pub data Given : Type 0 where
  nothing : Given
  key : Key → Given
  damage : ℕ → ℕ → ℕ → Given  -- added, removed, moved
  entries : ℕ → Given

unfoldable pub given : Index → Call → Given
given ix (insert b p) = key (key_of (slot_of ix) (generation_of ix))
given ix (update k b) = nothing
given ix (remove k) = nothing
given ix clear = nothing
given ix (commit a r o n) = damage (length (work_of ix).added) (length (work_of ix).removed) (length (work_of ix).old)
given ix (query_rect rect len) = entries (length (rect_slots ix rect))
given ix (query_point x y len) = entries (length (point_slots ix x y))

unfoldable pub told : Index → Call → Told Given
told ix c = told_if (refusal ix c) (given ix c)

-- ---- each answer in these words

abbrev pub inserted_told : Result Key Refusal → Told Given
inserted_told (Ok k) = gives (key k)
inserted_told (Err r) = refused (number_of r)

abbrev pub answer_told : Result Unit Refusal → Told Given
answer_told (Ok u) = gives nothing
answer_told (Err r) = refused (number_of r)

abbrev pub committed_told : Result Damage Refusal → Told Given
committed_told (Ok d) = gives (damage d.added d.removed d.moved)
committed_told (Err r) = refused (number_of r)

abbrev pub queried_told : Result ℕ Refusal → Told Given
queried_told (Ok n) = gives (entries n)
queried_told (Err r) = refused (number_of r)

-- ---- lent room after a call: the results in front, and nothing touched where it is refused

abbrev pub commit_refusal : Index → List Float → List Float → List Float → List Float → ℕ
commit_refusal ix added removed old new = refusal ix (commit (length added) (length removed) (length old) (length new))

pub record CommitRooms (ix : Index) (added removed old new added' removed' old' new' : List Float) : Type 0 where
  pub added_room : added' ≡ left_if (commit_refusal ix added removed old new) added (boxes_in_front (work_of ix).added added)
  pub removed_room : removed' ≡ left_if (commit_refusal ix added removed old new) removed (boxes_in_front (work_of ix).removed removed)
  pub old_room : old' ≡ left_if (commit_refusal ix added removed old new) old (boxes_in_front (work_of ix).old old)
  pub new_room : new' ≡ left_if (commit_refusal ix added removed old new) new (boxes_in_front (work_of ix).new new)

-- of a query that visits these slots
unfoldable pub query_room : Index → List ℕ → List ℕ → List ℕ
query_room ix xs room = left_if (lowest (conditions_of_query ix (length room))) room (query.entries_in_front (query.entries ix xs) room)

-- all that an answer of a call is made of: unfolding this unfolds each of them
unfoldable pub answered : Unit {0}
unfolding told after refusal given accepted query_room rect_slots lowest told_if left_if
answered = tt
