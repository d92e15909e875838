-- Every call of the run in one form: its verdict, and what an accepted one leaves and tells; a refused one leaves the tree and the lent room, and
-- gives its number alone.
use Rattle.std.specs.Prelude.{Ok, Err}
use mathlib.Core.Path.{◌≡◌, refl, ap, ◌∙◌}
use mathlib.Core.List.{List, [], ◌∷◌, ◌++◌}
use Prim.Native.Nat.{ℕ}
use lib.Ieee.{Float}
use lib.ListN.{length, drop}
use Rattle.geometry.specs.declared.rect.Rect.{Rect}
use Rattle.index_types.specs.declared.NodeId.{NodeId}
use Rattle.tree_types.specs.declared.NodeFlags.{NodeFlags}
use Rattle.tree_state.specs.declared.Tree.{Tree}
use Rattle.tree_state.specs.declared.Refusal.{Refusal}
use Rattle.tree_state.specs.Tree.{number_of, number_in, position_of, id_at, live, local_at, needs_commit, stored_place, stored_bounds, stored_hit_bounds, Verdict, value_if}
use Rattle.tree_steps.specs.Setters as set
use Rattle.tree_steps.specs.Structure as structure
use Rattle.tree_steps.specs.Commit as steps
use Rattle.tree_steps.specs.Requests as request
use Rattle.tree_steps.specs.Readings.{parent_of, children_of, next_of, prev_of, world_verdict, children_verdict}
use Rattle.tree_insert.specs.Insert as insert
use Rattle.tree_commit.specs.Commit as commit
use Rattle.tree_damage.proofs.Front.{rects_front}
use Rattle.tree_taps.specs.Taps as tap
use Rattle.tree_run.specs.Told.{number_told, insert_told, damage_told, ids_of, listing_told, tap_told, answer_number}
use Rattle.tree_run.specs.Run as run
use Rattle.agreement_calls.proofs.requests.Answers.{answered}
use Rattle.agreement_calls.proofs.requests.Tap.{tap_of}
use Rattle.plan.specs.Afresh.{hit}
use Rattle.plan.specs.Calls as call
use Rattle.plan.specs.Calls.{Call, Reading, Request, Told, Outcome}
use Rattle.plan.specs.Demand.{Answer, refused, listed, tapped}

-- ---- the refusal of each call

abbrev pub reading_verdict : Tree → Reading → Verdict
reading_verdict t call.needs_commit = set.held t
reading_verdict t (call.is_alive i) = set.held t
reading_verdict t (call.local_transform i) = set.of_node t i
reading_verdict t (call.local_clip i) = set.of_node t i
reading_verdict t (call.local_bounds i) = set.of_node t i
reading_verdict t (call.hit_slop i) = set.of_node t i
reading_verdict t (call.z_index i) = set.of_node t i
reading_verdict t (call.flags i) = set.of_node t i
reading_verdict t (call.parent_of i) = set.of_node t i
reading_verdict t (call.children_of i room) = children_verdict t i (length room)
reading_verdict t (call.next_depth_first i) = set.of_node t i
reading_verdict t (call.prev_depth_first i) = set.of_node t i
reading_verdict t (call.world_transform i) = world_verdict t i
reading_verdict t (call.world_bounds i) = world_verdict t i
reading_verdict t (call.world_hit_bounds i) = world_verdict t i

unfoldable pub verdict : Tree → Call → Verdict
verdict t (call.insert parent v) = structure.insert_verdict t parent v
verdict t (call.remove i) = set.of_node t i
verdict t (call.reparent i parent) = structure.reparent_verdict t i parent
verdict t (call.set_local_transform i a) = set.transform_verdict t i a
verdict t (call.set_local_clip i c) = set.clip_verdict t i c
verdict t (call.set_local_bounds i r) = set.bounds_verdict t i r
verdict t (call.set_hit_slop i s) = set.slop_verdict t i s
verdict t (call.set_z_index i z) = set.of_node t i
verdict t (call.set_flags i f) = set.flags_verdict t i f
verdict t (call.commit room) = steps.commit_verdict t (length room)
verdict t (call.read r) = reading_verdict t r
verdict t (call.request q asked room) = request.request_verdict t asked (length room)

-- ---- what an accepted call leaves, and tells

unfoldable pub accepted : Tree → Call → Tree
accepted t (call.insert parent v) = structure.insert_tree t parent v
accepted t (call.remove i) = structure.remove_tree t (position_of t i.0)
accepted t (call.reparent i parent) = structure.reparent_tree t i.0 parent
accepted t (call.set_local_transform i a) = set.set_transform t i.0 a
accepted t (call.set_local_clip i c) = set.set_clip t i.0 c
accepted t (call.set_local_bounds i r) = set.set_bounds t i.0 r
accepted t (call.set_hit_slop i s) = set.set_slop t i.0 s
accepted t (call.set_z_index i z) = set.set_level t i.0 z
accepted t (call.set_flags i f) = set.set_flags t i.0 f
accepted t (call.commit room) = (steps.commit_tree t).tree
accepted t (call.read r) = t
accepted t (call.request q asked room) = t

abbrev pub told : Tree → Call → Told
told t (call.insert parent v) = call.id (structure.new_id t)
told t (call.remove i) = call.nothing
told t (call.reparent i parent) = call.nothing
told t (call.set_local_transform i a) = call.nothing
told t (call.set_local_clip i c) = call.nothing
told t (call.set_local_bounds i r) = call.nothing
told t (call.set_hit_slop i s) = call.nothing
told t (call.set_z_index i z) = call.nothing
told t (call.set_flags i f) = call.nothing
told t (call.commit room) = call.nothing
told t (call.read r) = call.nothing
told t (call.request q asked room) = call.nothing

abbrev pub told_if : Verdict → Told → Told
told_if (Ok tt) x = x
told_if (Err r) x = call.nothing

abbrev pub outcome_if : Verdict → Told → Outcome
outcome_if v x = record { refused = number_in v; told = told_if v x }

-- the refusal of that verdict, or what is found
abbrev pub answer_if : Verdict → Answer → Answer
answer_if (Ok tt) found = found
answer_if (Err r) found = refused (number_of r)

-- ---- the tree after a call

if_same : (v : Verdict) (t : Tree) → t ≡ set.tree_if v t t
if_same (Ok tt) t = refl
if_same (Err r) t = refl

commit_leaves : (v : Verdict) (t : Tree) → (commit.after_work v t (steps.commit_tree t)).tree ≡ set.tree_if v (steps.commit_tree t).tree t
unfolding commit.after_work
commit_leaves (Ok tt) t = refl
commit_leaves (Err r) t = refl

pub step_is : (t : Tree) (c : Call) → run.step t c ≡ set.tree_if (verdict t c) (accepted t c) t
unfolding run.step verdict accepted insert.insert_call commit.commit_call
step_is t (call.insert parent v) = refl
step_is t (call.remove i) = refl
step_is t (call.reparent i parent) = refl
step_is t (call.set_local_transform i a) = refl
step_is t (call.set_local_clip i c) = refl
step_is t (call.set_local_bounds i r) = refl
step_is t (call.set_hit_slop i s) = refl
step_is t (call.set_z_index i z) = refl
step_is t (call.set_flags i f) = refl
step_is t (call.commit room) = commit_leaves (steps.commit_verdict t (length room)) t
step_is t (call.read r) = if_same (reading_verdict t r) t
step_is t (call.request q asked room) = if_same (request.request_verdict t asked (length room)) t

-- ---- readings: the number that each answers is its verdict's

value_number : {A : Type 0} (v : Verdict) (a : A) → number_in (value_if v a) ≡ number_in v
unfolding number_in
value_number (Ok tt) a = refl
value_number (Err q) a = refl

reading_number_lem : (t : Tree) (r : Reading) → run.reading_number t r ≡ number_in (reading_verdict t r)
unfolding run.reading_number
reading_number_lem t call.needs_commit = value_number (set.held t) (needs_commit t)
reading_number_lem t (call.is_alive i) = value_number (set.held t) (live t i)
reading_number_lem t (call.local_transform i) = value_number (set.of_node t i) (local_at t i.0).local_transform
reading_number_lem t (call.local_clip i) = value_number (set.of_node t i) (local_at t i.0).local_clip
reading_number_lem t (call.local_bounds i) = value_number (set.of_node t i) (local_at t i.0).local_bounds
reading_number_lem t (call.hit_slop i) = value_number (set.of_node t i) (local_at t i.0).hit_slop
reading_number_lem t (call.z_index i) = value_number (set.of_node t i) (local_at t i.0).z_index
reading_number_lem t (call.flags i) = value_number (set.of_node t i) (local_at t i.0).flags
reading_number_lem t (call.parent_of i) = value_number (set.of_node t i) (parent_of t i.0)
reading_number_lem t (call.children_of i room) = value_number (children_verdict t i (length room)) (length (children_of t i.0))
reading_number_lem t (call.next_depth_first i) = value_number (set.of_node t i) (next_of t i.0)
reading_number_lem t (call.prev_depth_first i) = value_number (set.of_node t i) (prev_of t i.0)
reading_number_lem t (call.world_transform i) = value_number (world_verdict t i) (stored_place t i.0).transform
reading_number_lem t (call.world_bounds i) = value_number (world_verdict t i) (stored_bounds t i.0)
reading_number_lem t (call.world_hit_bounds i) = value_number (world_verdict t i) (stored_hit_bounds t i.0)

-- ---- ids in lent room are read back

ids_back : (l : List NodeId) (rest : List ℕ) → ids_of (length l) (request.numbers_of l ++ rest) ≡ l
unfolding ids_of
ids_back [] rest = refl
ids_back (i ∷ l) rest = ap (λ (m : List NodeId). i ∷ m) (ids_back l rest)

ids_front : (l : List NodeId) (room : List ℕ) → ids_of (length l) (request.ids_in_front l room) ≡ l
unfolding request.ids_in_front
ids_front l room = ids_back l (drop (length (request.numbers_of l)) room)

pub listing_is : (v : Verdict) (l : List NodeId) (room : List ℕ) → listing_told (value_if v (length l)) (request.room_if v l room) ≡ answer_if v (listed l)
unfolding listing_told request.room_if
listing_is (Ok tt) l room = ap listed (ids_front l room)
listing_is (Err r) l room = refl

tap_is : (t : Tree) (v : Verdict) (b : request.Best) (room : List ℕ) → tap_told (value_if v (tap.hit_of t b)) (request.room_if v (request.path_of t b) room) ≡ answer_if v (tapped (tap_of t b))
unfolding tap_told request.room_if
tap_is t (Ok tt) request.nobody room = refl
tap_is t (Ok tt) (request.best x) room = ap (λ (l : List NodeId). tapped (hit (id_at t x) l)) (ids_front (request.path_to t x) room)
tap_is t (Err r) b room = refl

-- ---- and a commit's rectangles

-- of an accepted commit
abbrev pub damage_if : Verdict → List Rect → List Rect
damage_if (Ok tt) rs = rs
damage_if (Err r) rs = []

damage_with : (v : Verdict) (t : Tree) (w : steps.Work) (room : List Float) → damage_told (commit.after_work v t w).answer (commit.room_after v w.damage room) ≡ damage_if v w.damage
unfolding damage_told commit.after_work commit.room_after
damage_with (Ok tt) t w room = rects_front w.damage room
damage_with (Err r) t w room = refl

pub damage_is : (t : Tree) (room : List Float)
    → damage_told (commit.commit_call t (length room)).answer (commit.commit_room t room) ≡ damage_if (steps.commit_verdict t (length room)) (steps.commit_tree t).damage
unfolding commit.commit_call commit.commit_room
damage_is t room = damage_with (steps.commit_verdict t (length room)) t (steps.commit_tree t) room

-- ---- a refused call leaves its room as it was

pub ids_left : (r : Refusal) (v : Verdict) (l : List NodeId) (room : List ℕ) → v ≡ Err r → request.room_if v l room ≡ room
unfolding request.room_if
ids_left r v l room e = rw e

pub rects_left : (r : Refusal) (t : Tree) (room : List Float) → steps.commit_verdict t (length room) ≡ Err r → commit.commit_room t room ≡ room
unfolding commit.commit_room commit.room_after
rects_left r t room e = rw e

-- ---- a request

pub answer_is : (t : Tree) (asked : NodeFlags) (room : List ℕ) (q : Request)
    → run.answer t asked room q ≡ answer_if (request.request_verdict t asked (length room)) (answered t asked q)
unfolding run.answer
answer_is t asked room (call.hit_test_point pt) = tap_is t (request.request_verdict t asked (length room)) (request.hit_node t asked pt) room
answer_is t asked room (call.intersect_rect r) = listing_is (request.request_verdict t asked (length room)) (request.rect_nodes t asked r) room
answer_is t asked room (call.containing_point pt) = listing_is (request.request_verdict t asked (length room)) (request.point_nodes t asked pt) room

-- ---- a call's outcome

insert_tells : (v : Verdict) (i : NodeId) → insert_told (value_if v i) ≡ outcome_if v (call.id i)
unfolding insert_told number_in
insert_tells (Ok tt) i = refl
insert_tells (Err r) i = refl

-- a call that tells nothing
number_tells : (v : Verdict) → number_told (number_in v) ≡ outcome_if v call.nothing
unfolding number_in
number_tells (Ok tt) = refl
number_tells (Err r) = refl

commit_number : (v : Verdict) (t : Tree) (w : steps.Work) → number_in (commit.after_work v t w).answer ≡ number_in v
unfolding commit.after_work number_in
commit_number (Ok tt) t w = refl
commit_number (Err r) t w = refl

-- what is found is no refusal
answered_number : (t : Tree) (asked : NodeFlags) (q : Request) → answer_number (answered t asked q) ≡ 0
answered_number t asked (call.hit_test_point pt) = refl
answered_number t asked (call.intersect_rect r) = refl
answered_number t asked (call.containing_point pt) = refl

answer_number_lem : (v : Verdict) (found : Answer) → answer_number found ≡ 0 → answer_number (answer_if v found) ≡ number_in v
unfolding number_in
answer_number_lem (Ok tt) found e = e
answer_number_lem (Err r) found e = refl

request_number : (t : Tree) (asked : NodeFlags) (room : List ℕ) (q : Request) → answer_number (run.answer t asked room q) ≡ number_in (request.request_verdict t asked (length room))
request_number t asked room q =
    ap answer_number (answer_is t asked room q) ∙ answer_number_lem (request.request_verdict t asked (length room)) (answered t asked q) (answered_number t asked q)

pub outcome_is : (t : Tree) (c : Call) → run.outcome t c ≡ outcome_if (verdict t c) (told t c)
unfolding run.outcome verdict insert.insert_call commit.commit_call
outcome_is t (call.insert parent v) = insert_tells (structure.insert_verdict t parent v) (structure.new_id t)
outcome_is t (call.remove i) = number_tells (set.of_node t i)
outcome_is t (call.reparent i parent) = number_tells (structure.reparent_verdict t i parent)
outcome_is t (call.set_local_transform i a) = number_tells (set.transform_verdict t i a)
outcome_is t (call.set_local_clip i c) = number_tells (set.clip_verdict t i c)
outcome_is t (call.set_local_bounds i r) = number_tells (set.bounds_verdict t i r)
outcome_is t (call.set_hit_slop i s) = number_tells (set.slop_verdict t i s)
outcome_is t (call.set_z_index i z) = number_tells (set.of_node t i)
outcome_is t (call.set_flags i f) = number_tells (set.flags_verdict t i f)
outcome_is t (call.commit room) =
    let v = steps.commit_verdict t (length room) in
    ap number_told (commit_number v t (steps.commit_tree t)) ∙ number_tells v
outcome_is t (call.read r) = ap number_told (reading_number_lem t r) ∙ number_tells (reading_verdict t r)
outcome_is t (call.request q asked room) =
    ap number_told (request_number t asked room q) ∙ number_tells (request.request_verdict t asked (length room))
