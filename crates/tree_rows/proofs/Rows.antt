-- Worked rows of the tree's definitions, each by computation: the same lists of calls that pin the plan's.
use Rattle.std.specs.Prelude.{Some}
use Prim.Native.Nat.{ℕ}
use mathlib.Core.Path.{◌≡◌, refl}
use mathlib.Core.List.{List, [], ◌∷◌, map}
use Rattle.numbers.specs.Number.{same}
use Rattle.geometry.specs.Rectangle.{has_area}
use Rattle.geometry.specs.Transform.{identity}
use Rattle.geometry_clips.specs.constructed.Constructed.{as_constructed}
use Rattle.index_types.specs.Boxes.{aabb_eq}
use Rattle.counting.specs.Times.{times, every}
use Rattle.counting.specs.Lists.{once_below}
use Rattle.index_sound.specs.Sound.{sound_of}
use Rattle.index_entries.specs.Entries.{next_generation, queue_with, length_with, mark_of, previous_box, slot_for, used_for, generation_for}
use Rattle.index_commit.specs.Commit.{act_of, box_before, moved_from, moved_to, work_step, work}
use Rattle.index_query.specs.Query as query
use Rattle.index_state.specs.Index.{fresh_index, work_of, rect_slots, point_slots}
use Rattle.tree_types.specs.Local.{flags}
use Rattle.tree_types.specs.rooms.Rooms.{rect_at}
use Rattle.link_forest.specs.Table.{less_deep, run_length, seg_end, index_of, post_of, depths_from}
use Rattle.link_table.specs.Links.{after_cut, splice, add_root, add_last, cut_tree, graft, graft_last, move_last, move_root}
use Rattle.tree_state.specs.declared.Tree.{Tree}
use Rattle.tree_state.specs.Locals.{clip_by, kind_of, edges_from}
use Rattle.tree_state.specs.Tree.{number_of, number_in, fresh_tree, live, local_at, some, any_of, needs_commit}
use Rattle.tree_state.specs.Sound.{count_of, count_below, every_of, slots_right, node_right, entry_right, counts_right, sound_tree}
use Rattle.tree_steps.specs.Setters.{set_transform, set_clip, set_bounds, set_slop, set_level, set_flags}
use Rattle.tree_steps.specs.Structure.{insert_tree, remove_all, remove_tree, reparent_tree}
use Rattle.tree_steps.specs.SlotOrder.{put_in, slots_below}
use Rattle.tree_steps.specs.Commit.{ancestors, positions_from, walk_all, handed_down, rework, rework_all, commit_tree}
use Rattle.tree_steps.specs.Requests.{ids_in_front, room_if, keep_of, in_stored_clips, fine, stronger, strongest, hit_node, path_to, rect_nodes, point_nodes}
use Rattle.tree_insert.specs.Insert.{insert_call}
use Rattle.tree_commit.specs.Commit.{after_work, commit_call}
use Rattle.plan.specs.Afresh as afresh
use Rattle.plan.specs.Calls as call
use Rattle.plan.specs.Calls.{Call, Outcome}
use Rattle.plan.specs.Demand as demand
use Rattle.plan.specs.Demand.{Answer, tapped, listed}
use Rattle.plan.proofs.Rows as plan
use Rattle.plan.proofs.Rows.{point, id, shifted, root, child, floats, words, settle, a, b, c, places, half_clip, hidden}
use Rattle.tree_run.specs.Told.{insert_told, ids_of, listing_told, tap_told}
use Rattle.tree_run.specs.Run.{step, reading_number, outcome, answer}

unfoldable pub after : List Call → Tree
after cs = demand.run step fresh_tree cs

pub listing : List Call → Answer
listing cs = answer (after cs) (flags 0) (words 512) (call.containing_point (point 5 5))

pub tap_at : List Call → ℕ → ℕ → Answer
tap_at cs x y = answer (after cs) (flags 3) (words 512) (call.hit_test_point (point x y))

-- the numbers that a list's calls are refused with, or 0
pub refusals : List Call → List ℕ
refusals cs = map (λ (o : Outcome). o.refused) (demand.outcomes step outcome fresh_tree cs)

-- what the rows compute through
unfoldable pub computed : Unit {0}
unfolding plan.computed after listing tap_at refusals places half_clip hidden step reading_number outcome answer insert_told ids_of listing_told tap_told same has_area as_constructed aabb_eq
    times every once_below sound_of next_generation queue_with length_with mark_of previous_box slot_for used_for generation_for act_of
    box_before moved_from moved_to work_step work query.slots fresh_index work_of rect_slots point_slots rect_at
    clip_by kind_of edges_from run_length seg_end index_of post_of depths_from after_cut splice add_root add_last cut_tree
    graft graft_last move_last move_root number_of fresh_tree live local_at some any_of needs_commit count_of count_below every_of slots_right
    node_right entry_right counts_right sound_tree set_transform set_clip set_bounds set_slop set_level set_flags insert_tree remove_all remove_tree reparent_tree
    less_deep ancestors put_in slots_below positions_from walk_all handed_down rework rework_all commit_tree keep_of in_stored_clips fine stronger
    strongest hit_node path_to rect_nodes point_nodes demand.outcomes insert_call commit_call after_work number_in room_if ids_in_front
computed = tt

-- the order of entries: a covered node is entered in its ancestor's walk; new entries are taken before removed ones are freed
pub orders : (listing (root ∷ root ∷ child a ∷ settle ∷ []) ≡ listed (a ∷ c ∷ b ∷ []))
    × (listing (root ∷ root ∷ settle ∷ call.remove a ∷ root ∷ settle ∷ []) ≡ listed (b ∷ id 0 2 ∷ []))
unfolding computed
orders = (refl, refl)

-- a value set and set back still counts
pub set_back : (listing (root ∷ settle ∷ child a ∷ child a ∷ call.reparent b (Some a) ∷ call.set_local_transform a (shifted 1 0) ∷ call.set_local_transform a identity ∷ settle ∷ [])
    ≡ listed (a ∷ c ∷ b ∷ []))
unfolding computed
set_back = refl

-- P6, and a withheld parent whose clip still counts
pub taps : (tap_at places 100 10 ≡ tapped (afresh.hit b (a ∷ b ∷ [])))
    × (tap_at hidden 3 3 ≡ tapped (afresh.hit b (a ∷ b ∷ [])))
    × (tap_at hidden 5 5 ≡ tapped afresh.nothing)
unfolding computed
taps = (refl, refl, refl)

-- refusals, and a box that has moved twice
pub lists : (refusals (child a ∷ root ∷ child a ∷ call.reparent a (Some b) ∷ call.remove c ∷ call.commit (floats 2047) ∷ call.read (call.world_bounds a) ∷ settle ∷ call.read (call.world_bounds a) ∷ [])
    ≡ 3 ∷ 0 ∷ 0 ∷ 4 ∷ 2 ∷ 8 ∷ 7 ∷ 0 ∷ 0 ∷ [])
    × (tap_at (root ∷ settle ∷ call.set_local_transform a (shifted 20 0) ∷ settle ∷ call.set_local_transform a (shifted 40 0) ∷ settle ∷ []) 45 5 ≡ tapped (afresh.hit a (a ∷ [])))
unfolding computed
lists = (refl, refl)
