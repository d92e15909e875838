-- Worked rows of the definitions, each by computation: document 01's examples P11 and P12, and where a careless port goes wrong.
use mathlib.Core.Path.{◌≡◌, refl}
use mathlib.Core.Bool.{true, false}
use mathlib.Core.List.{List, [], ◌∷◌}
use Prim.Native.Nat.{ℕ, ◌+◌}
use lib.IntN.{pos}
use lib.ListN.{replicate, set}
use lib.Ieee.{Float, nan, fin, binary64, round, units, odd, size, span, climb, eq, le, lt}
use Rattle.numbers.specs.Rounded.{zero}
use Rattle.index_types.specs.declared.Aabb2D.{Aabb2D}
use Rattle.index_types.specs.declared.NodeId.{NodeId}
use Rattle.index_types.specs.declared.Key.{Key}
use Rattle.index_types.specs.Boxes.{aabb, aabb_eq, contains_point, overlaps}
use Rattle.index_types.specs.declared.Slot.{Slot}
use Rattle.index_types.specs.Slots.{entry_in, stored}
use Rattle.counting.specs.Times.{times, every}
use Rattle.counting.specs.Lists.{once_below}
use Rattle.counting.specs.Conditions.{lowest, Told, refused, gives, told_if, left_if}
use Rattle.index_sound.specs.Sound.{sound_of}
use Rattle.index_entries.specs.Entries.{next_generation, queue_with, length_with, mark_of, previous_box, slot_for, used_for, generation_for}
use Rattle.index_commit.specs.Commit.{act_of, box_before, moved_from, moved_to, work_step, work}
use Rattle.index_query.specs.Query as query
use Rattle.index_query.specs.Query.{slots}
use Rattle.index_types.specs.declared.Index.{Index}
use Rattle.index_types.specs.declared.Refusal.TheVariants as no
use Rattle.index_state.specs.Index.{sound_index, key_of, live, fresh_box, fresh_index, work_of, rect_slots, point_slots}
use Rattle.index_state.specs.Calls.{Call, insert, update, remove, clear, commit, query_rect, query_point, refusal, accepted, after, Given, nothing, key, damage, entries, given, told, number_of}
use Rattle.index_state.specs.Run.{run}

-- the whole number k, and a box from k to k + 1 both ways
pub num : ℕ → Float
num k = round binary64 false k 1

pub box : ℕ → Aabb2D
box k = aabb (num k) (num k) (num (k + 1)) (num (k + 1))

pub node : ℕ → NodeId
node k = record { 0 = k; 1 = 1 }

pub add : ℕ → Call
add k = insert (box k) (node k)

pub settle : Call
settle = commit 2048 2048 2048 2048

pub first : Key
first = key_of 0 1

pub done : List Call → Index
done cs = run fresh_index cs

-- the damage that a commit finds: added, removed, moved from, moved to
pub waiting : Index → List (List Aabb2D)
waiting ix = let w = work_of ix in w.added ∷ w.removed ∷ w.old ∷ w.new ∷ []

-- after these calls
pub found : List Call → List (List Aabb2D)
found cs = waiting (done cs)

-- what an insert after these calls tells
pub next : List Call → Told Given
next cs = told (done cs) (insert (box 9) (node 9))

-- what the rows compute through
computed : Unit {0}
unfolding num box node add settle first done waiting found next query.entries fresh_index run after lowest told_if left_if refusal accepted given told
    work_of rect_slots slots sound_of once_below every times next_generation queue_with length_with mark_of previous_box slot_for used_for
    generation_for act_of box_before moved_from moved_to work_step work aabb_eq overlaps round units odd size span climb eq le lt
computed = tt

-- P11: a committed entry removed, then updated, commit: it lives with the new box and no damage.
-- P12: updated, then removed: the damage shows the box before the update.
pub p11_p12 : (found (add 10 ∷ settle ∷ remove first ∷ update first (box 20) ∷ []) ≡ [] ∷ [] ∷ [] ∷ [] ∷ [])
    × (live (done (add 10 ∷ settle ∷ remove first ∷ update first (box 20) ∷ settle ∷ [])) first ≡ true)
    × (rect_slots (done (add 10 ∷ settle ∷ remove first ∷ update first (box 20) ∷ settle ∷ [])) (box 20) ≡ 0 ∷ [])
    × (rect_slots (done (add 10 ∷ settle ∷ remove first ∷ update first (box 20) ∷ settle ∷ [])) (box 10) ≡ [])
    × (found (add 10 ∷ settle ∷ update first (box 20) ∷ remove first ∷ []) ≡ [] ∷ (box 10 ∷ []) ∷ [] ∷ [] ∷ [])
unfolding computed
p11_p12 = (refl, refl, refl, refl, refl)

pub rows : (found (add 10 ∷ add 20 ∷ remove first ∷ add 30 ∷ []) ≡ (box 30 ∷ box 20 ∷ []) ∷ [] ∷ [] ∷ [] ∷ [])  -- an emptied slot keeps its place in the queue
    × (found (add 10 ∷ update first (box 20) ∷ []) ≡ (box 20 ∷ []) ∷ [] ∷ [] ∷ [] ∷ [])  -- added, then updated: stays added
    × (found (add 10 ∷ remove first ∷ []) ≡ [] ∷ [] ∷ [] ∷ [] ∷ [])  -- added, then removed: no damage
    × (next (add 10 ∷ remove first ∷ []) ≡ gives (key (key_of 0 2)))  -- and the slot is free at once
    × (found (add 40 ∷ settle ∷ remove first ∷ update first (box 50) ∷ remove first ∷ []) ≡ [] ∷ (box 50 ∷ []) ∷ [] ∷ [] ∷ [])  -- removed, updated, removed: the updated box
    × (found (add 10 ∷ settle ∷ update first (box 20) ∷ remove first ∷ update first (box 30) ∷ []) ≡ [] ∷ [] ∷ (box 10 ∷ []) ∷ (box 30 ∷ []) ∷ [])  -- updated, removed, updated: a move
    × (found (add 10 ∷ settle ∷ update first (box 20) ∷ update first (box 10) ∷ []) ≡ [] ∷ [] ∷ [] ∷ [] ∷ [])  -- updated and set back: nothing
    × (live (done (add 10 ∷ settle ∷ remove first ∷ [])) first ≡ true)  -- a removed key lives until the commit
    × (live (done (add 10 ∷ settle ∷ remove first ∷ settle ∷ [])) first ≡ false)
    × (next (add 0 ∷ add 1 ∷ add 2 ∷ add 3 ∷ settle ∷ remove (key_of 2 1) ∷ remove first ∷ remove (key_of 3 1) ∷ settle ∷ []) ≡ gives (key (key_of 3 2)))  -- last freed first
    × (next (add 10 ∷ settle ∷ clear ∷ []) ≡ gives (key first))  -- clear forgets generations
    × (rect_slots (done (add 10 ∷ [])) (box 10) ≡ [])  -- added is not visited before the commit
    × (rect_slots (done (add 10 ∷ settle ∷ update first (box 20) ∷ [])) (box 10) ≡ 0 ∷ [])  -- updated is visited at its old box
    × (rect_slots (done (add 10 ∷ settle ∷ [])) (box 11) ≡ 0 ∷ [])  -- boxes that share a corner meet
    × (next_generation 4294967295 ≡ 1)
    × (live (done (add 10 ∷ remove first ∷ [])) first ≡ false)  -- added, then removed: the key is dead at once
    × ((done (add 10 ∷ remove first ∷ add 20 ∷ remove (key_of 0 2) ∷ [])).queued ≡ 1)  -- and the slot stands in the queue once
    × (told (done (add 10 ∷ settle ∷ remove first ∷ [])) (remove first) ≡ gives nothing)  -- a second removal is accepted
    × ((done (add 10 ∷ settle ∷ remove first ∷ remove first ∷ [])).queued ≡ 1)
    × (found (add 0 ∷ add 1 ∷ add 2 ∷ add 3 ∷ settle ∷ remove (key_of 2 1) ∷ remove first ∷ remove (key_of 3 1) ∷ []) ≡ [] ∷ (box 2 ∷ box 0 ∷ box 3 ∷ []) ∷ [] ∷ [] ∷ [])  -- in the queue's order
    × (next (add 0 ∷ add 1 ∷ add 2 ∷ add 3 ∷ settle ∷ remove (key_of 2 1) ∷ remove first ∷ remove (key_of 3 1) ∷ settle ∷ add 4 ∷ []) ≡ gives (key (key_of 0 2)))
    × (next (add 0 ∷ add 1 ∷ add 2 ∷ add 3 ∷ settle ∷ remove (key_of 2 1) ∷ remove first ∷ remove (key_of 3 1) ∷ settle ∷ add 4 ∷ add 5 ∷ add 6 ∷ []) ≡ gives (key (key_of 4 1)))
    × (rect_slots (done (add 10 ∷ settle ∷ update first (box 20) ∷ [])) (box 20) ≡ [])  -- updated is not visited at its new box
    × (rect_slots (done (add 10 ∷ settle ∷ remove first ∷ [])) (box 10) ≡ 0 ∷ [])  -- removed is visited until the commit
    × (let ix = done (add 10 ∷ settle ∷ remove first ∷ []) in query.entries ix (rect_slots ix (box 10)) ≡ 0 ∷ 1 ∷ 10 ∷ 1 ∷ [])  -- with its key and payload
    × (rect_slots (done (add 10 ∷ settle ∷ remove first ∷ settle ∷ [])) (box 10) ≡ [])
    × (rect_slots (done (add 10 ∷ remove first ∷ settle ∷ [])) (box 10) ≡ [])
    × (live (done (add 10 ∷ settle ∷ clear ∷ add 20 ∷ [])) first ≡ true)  -- after clear an old key lives again
unfolding computed
rows = (refl, refl, refl, refl, refl, refl, refl, refl, refl, refl, refl, refl, refl, refl, refl, refl, refl, refl, refl, refl, refl, refl, refl, refl, refl, refl, refl, refl)

-- boxes that are no boxes of numbers in order: all NaN, all +0, all −0, and corners the wrong way round
pub flat : Float → Aabb2D
flat x = aabb x x x x

pub minus_zero : Float
minus_zero = fin true 0 (pos 0)

pub none : NodeId
none = node 0

pub odd_boxes : (found (insert (flat nan) none ∷ settle ∷ update first (flat nan) ∷ []) ≡ [] ∷ [] ∷ (flat nan ∷ []) ∷ (flat nan ∷ []) ∷ [])  -- a NaN is no NaN's equal: a move
    × (found (insert (flat zero) none ∷ settle ∷ update first (flat minus_zero) ∷ []) ≡ [] ∷ [] ∷ [] ∷ [] ∷ [])  -- −0 equals +0: no move
    × ((stored (done (insert (flat zero) none ∷ settle ∷ update first (flat minus_zero) ∷ settle ∷ [])) 0).aabb ≡ flat minus_zero)  -- yet the backend gets it
    × (rect_slots (done (insert (aabb (num 10) (num 10) zero zero) none ∷ settle ∷ [])) (aabb (num 0) (num 0) (num 11) (num 11)) ≡ 0 ∷ [])  -- boxes as given: it meets the rectangle
    × (point_slots (done (insert (aabb (num 10) (num 10) zero zero) none ∷ settle ∷ [])) (num 5) (num 5) ≡ [])  -- and contains no point
    × (rect_slots (done (add 10 ∷ settle ∷ [])) (aabb (num 20) (num 20) (num 5) (num 5)) ≡ [])  -- a rectangle as given
    × (point_slots (done (add 10 ∷ settle ∷ [])) (num 11) (num 10) ≡ 0 ∷ [])  -- a high and a low edge are in
    × (point_slots (done (add 10 ∷ settle ∷ [])) (num 10) (num 11) ≡ 0 ∷ [])  -- and the other two
    × (point_slots (done (add 10 ∷ settle ∷ [])) nan (num 10) ≡ [])
unfolding computed flat minus_zero none point_slots contains_point
odd_boxes = (refl, refl, refl, refl, refl, refl, refl, refl, refl)

-- Hand-made indexes. Of slot 0 its own box is 10, its previous box 20, and the box in the backend 30: soundness says nothing of boxes. It is
-- the only one that is queued, if any is.
pub blank : ℕ → Slot
blank mark = record { generation = 1; mark = mark; payload = record { 0 = 0; 1 = 0 }; aabb = fresh_box; kept = 0; prev = fresh_box }

pub hand : List Slot → ℕ → ℕ → ℕ → Index
hand slots kept used queued =
    record fresh_index {
      entries = set slots 0 (record (entry_in slots 0) { aabb = box 10; kept = kept; prev = box 20 });
      used = used;
      queued = queued;
      backend = record { entries = set fresh_index.backend.entries 0 (record { present = 1; aabb = box 30 }) };
    }

-- an empty slot; an entry without a mark; with a previous box; 512 entries, the first of them marked removed
pub vacant : ℕ → Index
vacant queued = hand (replicate 512 (blank 0)) 0 0 queued

pub plain : ℕ → Index
plain queued = hand (set (replicate 512 (blank 0)) 0 (blank 1)) 0 1 queued

pub past : ℕ → Index
past queued = hand (set (replicate 512 (blank 0)) 0 (blank 1)) 1 1 queued

pub brim : Index
brim = hand (set (replicate 512 (blank 1)) 0 (blank 4)) 0 512 1

-- sound by the definition, although no call makes these very values: document 01's "Sound index" lets an empty and an unmarked slot stand in
-- the queue
pub hand_sound : (sound_index (vacant 1) ≡ true) × (sound_index (plain 1) ≡ true) × (sound_index (past 0) ≡ true) × (sound_index (past 1) ≡ true) × (sound_index brim ≡ true)
unfolding num box blank hand vacant plain past brim fresh_index sound_of once_below every times round units odd size span climb
hand_sound = (refl, refl, refl, refl, refl)

pub hand_made : (waiting (vacant 1) ≡ [] ∷ [] ∷ [] ∷ [] ∷ [])  -- a queued slot that is empty does nothing
    × (told (vacant 1) settle ≡ gives (damage 0 0 0))
    × (after (vacant 1) settle ≡ vacant 0)
    × (rect_slots (vacant 1) (box 30) ≡ [])  -- nor is it visited, whatever the backend has
    × (told (vacant 1) (insert (box 40) none) ≡ gives (key first))
    × ((after (vacant 1) (insert (box 40) none)).queued ≡ 1)  -- an insert finds it in the queue
    × (waiting (plain 1) ≡ [] ∷ [] ∷ [] ∷ [] ∷ [])  -- a queued entry without a mark does nothing
    × (told (plain 1) settle ≡ gives (damage 0 0 0))
    × (after (plain 1) settle ≡ plain 0)  -- its box does not reach the backend
    × ((after (plain 1) (update first (box 40))).queued ≡ 1)
    × (waiting (after (plain 1) (update first (box 40))) ≡ [] ∷ [] ∷ (box 10 ∷ []) ∷ (box 40 ∷ []) ∷ [])
    × ((after (plain 1) (remove first)).queued ≡ 1)
    × (waiting (after (plain 1) (remove first)) ≡ [] ∷ (box 10 ∷ []) ∷ [] ∷ [] ∷ [])
    × (told (past 1) settle ≡ gives (damage 0 0 0))
    × (after (past 1) settle ≡ past 0)  -- a previous box stays on an entry without a mark
    × (waiting (after (past 0) (update first (box 40))) ≡ [] ∷ [] ∷ (box 10 ∷ []) ∷ (box 40 ∷ []) ∷ [])  -- an update replaces it
    × (waiting (after (past 0) (remove first)) ≡ [] ∷ (box 20 ∷ []) ∷ [] ∷ [] ∷ [])  -- a removal shows it
    × (told (past 0) (update first (box 40)) ≡ gives nothing)
    × (told (past 0) (remove first) ≡ gives nothing)
    × (told (vacant 1) (remove first) ≡ refused 10)
    × (told brim (insert (box 40) none) ≡ refused 11)  -- a removed entry takes its slot until the commit
    × (told (after brim settle) (insert (box 40) none) ≡ gives (key (key_of 0 2)))
unfolding computed none blank hand vacant plain past brim
hand_made = (refl, refl, refl, refl, refl, refl, refl, refl, refl, refl, refl, refl, refl, refl, refl, refl, refl, refl, refl, refl, refl, refl)

-- what the rows above leave open: removed twice, a previous box after its commit, slots in order, keys of a slot that is used again
pub further : (found (add 40 ∷ settle ∷ remove first ∷ remove first ∷ []) ≡ [] ∷ (box 40 ∷ []) ∷ [] ∷ [] ∷ [])  -- removed twice is removed
    × (live (done (add 40 ∷ settle ∷ remove first ∷ remove first ∷ settle ∷ [])) first ≡ false)
    × (found (add 10 ∷ settle ∷ update first (box 20) ∷ settle ∷ remove first ∷ []) ≡ [] ∷ (box 20 ∷ []) ∷ [] ∷ [] ∷ [])  -- a commit forgets the previous box
    × (found (add 10 ∷ settle ∷ update first (box 20) ∷ remove first ∷ settle ∷ add 30 ∷ settle ∷ remove (key_of 0 2) ∷ []) ≡ [] ∷ (box 30 ∷ []) ∷ [] ∷ [] ∷ [])  -- and so does an insert
    × (rect_slots (done (add 10 ∷ add 11 ∷ add 30 ∷ settle ∷ [])) (aabb (num 9) (num 9) (num 12) (num 12)) ≡ 0 ∷ 1 ∷ [])  -- slots rising
    × (rect_slots (done (add 10 ∷ settle ∷ [])) (box 9) ≡ 0 ∷ [])  -- low edges meet too
    × (live (done (add 10 ∷ remove first ∷ add 20 ∷ [])) first ≡ false)  -- a stale key
    × (told (done (add 10 ∷ remove first ∷ add 20 ∷ [])) (update first (box 30)) ≡ refused 10)
    × (next (add 0 ∷ add 1 ∷ add 2 ∷ add 3 ∷ settle ∷ remove (key_of 2 1) ∷ remove first ∷ remove (key_of 3 1) ∷ settle ∷ add 4 ∷ add 5 ∷ []) ≡ gives (key (key_of 2 2)))  -- first freed, last used
unfolding computed
further = (refl, refl, refl, refl, refl, refl, refl, refl, refl)

-- slots above 256, and a payload whose generation is not its key's
pub wide : (told (hand (set (replicate 512 (blank 1)) 511 (blank 0)) 0 511 0) (insert (box 40) none) ≡ gives (key (key_of 511 1)))
    × (live (hand (set (replicate 512 (blank 1)) 511 (blank 0)) 0 511 0) (key_of 300 1) ≡ true)
    × (query.entries (done (insert (box 10) (record { 0 = 10; 1 = 7 }) ∷ settle ∷ [])) (0 ∷ []) ≡ 0 ∷ 1 ∷ 10 ∷ 7 ∷ [])
unfolding computed blank hand
wide = (refl, refl, refl)

-- unsound indexes, each by one condition of document 01 or of the tables' shape; every call answers 1
pub broken : ℕ → ℕ → List ℕ → ℕ → List ℕ → ℕ → Index
broken used frees free queued dirty mark =
    record fresh_index {
      entries = set (replicate 512 (blank 0)) 0 (blank mark);
      used = used;
      free = free;
      frees = frees;
      dirty = dirty;
      queued = queued;
    }

pub unsound : (sound_index (broken 1 0 (replicate 512 0) 1 (replicate 512 0) 2) ≡ true)  -- one added entry, queued: sound
    × (sound_index (broken 1 0 (replicate 512 0) 0 (replicate 512 0) 2) ≡ false)  -- a marked entry that is not queued
    × (sound_index (broken 1 0 (replicate 512 0) 2 (replicate 512 0) 2) ≡ false)  -- a repeat in the queue
    × (sound_index (broken 1 1 (replicate 512 0) 1 (replicate 512 0) 2) ≡ false)  -- a used slot on the free list
    × (sound_index (broken 1 0 (replicate 512 0) 0 (replicate 512 0) 0) ≡ false)  -- a used empty slot that is not on it
    × (sound_index (broken 1 2 (replicate 512 0) 0 (replicate 512 0) 0) ≡ false)  -- on it twice
    × (sound_index (broken 0 1 (replicate 512 0) 0 (replicate 512 0) 0) ≡ false)  -- an unused slot on it
    × (sound_index (broken 0 0 (replicate 512 0) 0 (replicate 512 0) 1) ≡ false)  -- an entry beyond what is used
    × (sound_index (broken 0 0 (replicate 512 0) 1 (replicate 512 600) 0) ≡ false)  -- no slot in the queue
    × (sound_index (broken 513 0 (replicate 512 0) 0 (replicate 512 0) 0) ≡ false)
    × (told (broken 0 1 (replicate 512 0) 0 (replicate 512 0) 0) (insert (box 10) none) ≡ refused 1)
    × (told (broken 0 1 (replicate 512 0) 0 (replicate 512 0) 0) (update first (box 10)) ≡ refused 1)
    × (told (broken 0 1 (replicate 512 0) 0 (replicate 512 0) 0) (remove first) ≡ refused 1)
    × (told (broken 0 1 (replicate 512 0) 0 (replicate 512 0) 0) clear ≡ refused 1)
    × (told (broken 0 1 (replicate 512 0) 0 (replicate 512 0) 0) (commit 0 0 0 0) ≡ refused 1)
    × (told (broken 0 1 (replicate 512 0) 0 (replicate 512 0) 0) (query_rect (box 10) 0) ≡ refused 1)
    × (told (broken 0 1 (replicate 512 0) 0 (replicate 512 0) 0) (query_point zero zero 0) ≡ refused 1)
unfolding computed none blank broken point_slots
unsound = (refl, refl, refl, refl, refl, refl, refl, refl, refl, refl, refl, refl, refl, refl, refl, refl, refl)

-- 8, for each of the four rooms and for a query's
pub short_rooms : (told fresh_index (commit 2047 2048 2048 2048) ≡ refused 8)
    × (told fresh_index (commit 2048 2047 2048 2048) ≡ refused 8)
    × (told fresh_index (commit 2048 2048 2047 2048) ≡ refused 8)
    × (told fresh_index (commit 2048 2048 2048 2047) ≡ refused 8)
    × (told fresh_index (commit 2048 2048 2048 2048) ≡ gives (damage 0 0 0))
    × (told fresh_index (query_rect (box 10) 2047) ≡ refused 8)
    × (told fresh_index (query_point zero zero 2047) ≡ refused 8)
    × (told fresh_index (query_rect (box 10) 2048) ≡ gives (entries 0))
unfolding computed point_slots
short_rooms = (refl, refl, refl, refl, refl, refl, refl, refl)

-- document 01's number of each refusal
pub numbers : (number_of no.Unsound ≡ 1) × (number_of no.ShortRoom ≡ 8) × (number_of no.DeadKey ≡ 10) × (number_of no.Full ≡ 11)
numbers = (refl, refl, refl, refl)
