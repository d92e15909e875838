-- Any list of calls on one tree, read off the contracts: a call has the name of its function, and its clause
-- names what that function's `ensures` cites, of lent room what it cites of the room after the call. Demand 3 is proved of these (demand3, Theorem).
use Rattle.std.specs.Prelude.{ℕ, List, length}
use Rattle.tree_types.specs.declared.NodeFlags.{NodeFlags}
use Rattle.tree_state.specs.declared.Tree.{Tree}
use Rattle.tree_state.specs.Tree.{number_in}
use Rattle.tree_steps.specs.Setters.{transform_call, clip_call, bounds_call, slop_call, level_call, flags_call}
use Rattle.tree_steps.specs.Structure.{remove_call, reparent_call}
use Rattle.tree_insert.specs.Insert.{insert_call}
use Rattle.tree_commit.specs.Commit.{commit_call}
use Rattle.tree_readings.specs.Answers as reads
use Rattle.tree_listings.specs.Listings.{intersect_call, intersect_room, containing_call, containing_room}
use Rattle.tree_taps.specs.Taps.{tap_call, tap_room}
use Rattle.plan.specs.Calls as call
use Rattle.plan.specs.Calls.{Call, Reading, Request, Outcome}
use Rattle.plan.specs.Demand.{Answer}
use Rattle.tree_run.specs.Told.{number_told, insert_told, listing_told, tap_told, answer_number}

-- ---- the tree after a call; readings and requests give none back

unfoldable pub step : Tree → Call → Tree
step t (call.insert parent v) = (insert_call t parent v).tree
step t (call.remove i) = (remove_call t i).tree
step t (call.reparent i parent) = (reparent_call t i parent).tree
step t (call.set_local_transform i a) = (transform_call t i a).tree
step t (call.set_local_clip i c) = (clip_call t i c).tree
step t (call.set_local_bounds i r) = (bounds_call t i r).tree
step t (call.set_hit_slop i s) = (slop_call t i s).tree
step t (call.set_z_index i z) = (level_call t i z).tree
step t (call.set_flags i f) = (flags_call t i f).tree
step t (call.commit room) = (commit_call t (length room)).tree
step t (call.read r) = t
step t (call.request q asked room) = t

-- ---- what a request answers, of its answer and the room after it

unfoldable pub answer : Tree → NodeFlags → List ℕ → Request → Answer
answer t asked room (call.hit_test_point pt) = tap_told (tap_call t asked pt (length room)) (tap_room t asked pt room)
answer t asked room (call.intersect_rect r) = listing_told (intersect_call t asked r (length room)) (intersect_room t asked r room)
answer t asked room (call.containing_point pt) = listing_told (containing_call t asked pt (length room)) (containing_room t asked pt room)

-- ---- the number of a reading's answer

unfoldable pub reading_number : Tree → Reading → ℕ
reading_number t call.needs_commit = number_in (reads.needs_commit_call t)
reading_number t (call.is_alive i) = number_in (reads.is_alive_call t i)
reading_number t (call.local_transform i) = number_in (reads.local_transform_call t i)
reading_number t (call.local_clip i) = number_in (reads.local_clip_call t i)
reading_number t (call.local_bounds i) = number_in (reads.local_bounds_call t i)
reading_number t (call.hit_slop i) = number_in (reads.hit_slop_call t i)
reading_number t (call.z_index i) = number_in (reads.z_index_call t i)
reading_number t (call.flags i) = number_in (reads.flags_call t i)
reading_number t (call.parent_of i) = number_in (reads.parent_call t i)
reading_number t (call.children_of i room) = number_in (reads.children_call t i (length room))
reading_number t (call.next_depth_first i) = number_in (reads.next_call t i)
reading_number t (call.prev_depth_first i) = number_in (reads.prev_call t i)
reading_number t (call.world_transform i) = number_in (reads.world_transform_call t i)
reading_number t (call.world_bounds i) = number_in (reads.world_bounds_call t i)
reading_number t (call.world_hit_bounds i) = number_in (reads.world_hit_bounds_call t i)

-- ---- a call's outcome: the number of its answer, and what it tells

unfoldable pub outcome : Tree → Call → Outcome
outcome t (call.insert parent v) = insert_told (insert_call t parent v).answer
outcome t (call.remove i) = number_told (number_in (remove_call t i).answer)
outcome t (call.reparent i parent) = number_told (number_in (reparent_call t i parent).answer)
outcome t (call.set_local_transform i a) = number_told (number_in (transform_call t i a).answer)
outcome t (call.set_local_clip i c) = number_told (number_in (clip_call t i c).answer)
outcome t (call.set_local_bounds i r) = number_told (number_in (bounds_call t i r).answer)
outcome t (call.set_hit_slop i s) = number_told (number_in (slop_call t i s).answer)
outcome t (call.set_z_index i z) = number_told (number_in (level_call t i z).answer)
outcome t (call.set_flags i f) = number_told (number_in (flags_call t i f).answer)
outcome t (call.commit room) = number_told (number_in (commit_call t (length room)).answer)
outcome t (call.read r) = number_told (reading_number t r)
outcome t (call.request q asked room) = number_told (answer_number (answer t asked room q))
