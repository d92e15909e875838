-- Every call, by its name and arguments, lent room as it stands before the call; its refusal on the plan, what it leaves of the plan, and what it
-- tells. Of lent room the plan hears the length alone.
use Rattle.std.specs.Prelude.{ℕ, zero, suc, Bool, not, List, ltb, Float, ℤ, length, Option}
pub use Rattle.counting.specs.Conditions.{Conditions, accept, ◌else◌then◌}
unfoldable pub use Rattle.counting.specs.Conditions.{lowest}
use Rattle.geometry.specs.declared.point.Point.{Point}
use Rattle.geometry.specs.declared.rect.Rect.{Rect}
use Rattle.geometry.specs.declared.insets.Insets.{Insets}
use Rattle.geometry.specs.Rectangle.{rect_eq, insets_eq, finite_rect, finite_insets}
use Rattle.geometry.specs.declared.affine.Affine.{Affine}
use Rattle.geometry.specs.Transform.{affine_eq, finite_affine}
use Rattle.geometry_clips.specs.declared.clip.Clip.{Clip}
use Rattle.geometry_clips.specs.Clips.{constructed, clip_eq, finite_clip}
use Rattle.index_types.specs.declared.NodeId.{NodeId}
use Rattle.tree_types.specs.declared.NodeFlags.{NodeFlags}
use Rattle.tree_types.specs.declared.LocalNode.{LocalNode}
use Rattle.tree_types.specs.Local.{known, finite_local, with_transform, with_clip, with_bounds, with_slop, with_level, with_flags}
use Rattle.plan.specs.Plan.{Plan, live, parent_live, at_or_below, full, needs_commit as commit_needed, new_id, inserted, removed, moved, set_unless, with_local, mark_alone, mark_transform, mark_clip}
use Rattle.plan.specs.Visits.{committed}

pub data Request : Type 0 where
  hit_test_point : Point → Request
  intersect_rect : Rect → Request
  containing_point : Point → Request

pub data Reading : Type 0 where
  needs_commit : Reading
  is_alive : NodeId → Reading
  local_transform : NodeId → Reading
  local_clip : NodeId → Reading
  local_bounds : NodeId → Reading
  hit_slop : NodeId → Reading
  z_index : NodeId → Reading
  flags : NodeId → Reading
  parent_of : NodeId → Reading
  children_of : NodeId → List ℕ → Reading  -- with its room
  next_depth_first : NodeId → Reading
  prev_depth_first : NodeId → Reading
  world_transform : NodeId → Reading
  world_bounds : NodeId → Reading
  world_hit_bounds : NodeId → Reading

pub data Call : Type 0 where
  insert : Option NodeId → LocalNode → Call
  remove : NodeId → Call
  reparent : NodeId → Option NodeId → Call
  set_local_transform : NodeId → Affine → Call
  set_local_clip : NodeId → Clip → Call
  set_local_bounds : NodeId → Rect → Call
  set_hit_slop : NodeId → Insets → Call
  set_z_index : NodeId → ℤ → Call
  set_flags : NodeId → NodeFlags → Call
  commit : List Float → Call  -- with its room
  read : Reading → Call
  request : Request → NodeFlags → List ℕ → Call  -- with the flags it asks for and its room

-- ---- what refuses a call, by document 01's numbers

-- 8, by a room's length in numbers: under 512 rectangles of four, under 256 ids of two
abbrev pub room_for_rects : ℕ → Bool
room_for_rects len = not (ltb len 2048)

abbrev pub room_for_ids : ℕ → Bool
room_for_ids len = not (ltb len 512)

abbrev pub conditions_of_request : Plan → NodeFlags → ℕ → Conditions
conditions_of_request p asked len = known asked else 6 then not (commit_needed p) else 7 then room_for_ids len else 8 then accept

abbrev pub of_node : Plan → NodeId → Conditions
of_node p i = live p i else 2 then accept

abbrev pub of_world : Plan → NodeId → Conditions
of_world p i = live p i else 2 then not (commit_needed p) else 7 then accept

abbrev pub conditions_of_reading : Plan → Reading → Conditions
conditions_of_reading p needs_commit = accept
conditions_of_reading p (is_alive i) = accept
conditions_of_reading p (local_transform i) = of_node p i
conditions_of_reading p (local_clip i) = of_node p i
conditions_of_reading p (local_bounds i) = of_node p i
conditions_of_reading p (hit_slop i) = of_node p i
conditions_of_reading p (z_index i) = of_node p i
conditions_of_reading p (flags i) = of_node p i
conditions_of_reading p (parent_of i) = of_node p i
conditions_of_reading p (children_of i room) = live p i else 2 then room_for_ids (length room) else 8 then accept
conditions_of_reading p (next_depth_first i) = of_node p i
conditions_of_reading p (prev_depth_first i) = of_node p i
conditions_of_reading p (world_transform i) = of_world p i
conditions_of_reading p (world_bounds i) = of_world p i
conditions_of_reading p (world_hit_bounds i) = of_world p i

abbrev pub conditions : Plan → Call → Conditions
conditions p (insert parent v) =
    parent_live p parent else 3 then finite_local v else 5 then known v.flags else 6 then not (full p) else 9 then accept
conditions p (remove i) = of_node p i
conditions p (reparent i parent) =
    live p i else 2 then parent_live p parent else 3 then not (at_or_below p i.0 parent) else 4 then accept
conditions p (set_local_transform i t) = live p i else 2 then finite_affine t else 5 then accept
conditions p (set_local_clip i c) = live p i else 2 then finite_clip c else 5 then accept
conditions p (set_local_bounds i r) = live p i else 2 then finite_rect r else 5 then accept
conditions p (set_hit_slop i s) = live p i else 2 then finite_insets s else 5 then accept
conditions p (set_z_index i z) = of_node p i
conditions p (set_flags i f) = live p i else 2 then known f else 6 then accept
conditions p (commit room) = room_for_rects (length room) else 8 then accept
conditions p (read r) = conditions_of_reading p r
conditions p (request q asked room) = conditions_of_request p asked (length room)

unfoldable pub refusal : Plan → Call → ℕ
refusal p c = lowest (conditions p c)

-- ---- what an accepted call leaves: readings and requests change nothing

unfoldable pub accepted : Plan → Call → Plan
accepted p (insert parent v) = inserted p parent v
accepted p (remove i) = removed p i.0
accepted p (reparent i parent) = moved p i.0 parent
accepted p (set_local_transform i t) =
    let v = p.local i.0 in
    set_unless (affine_eq v.local_transform t) p i.0 (with_transform t v) mark_transform
accepted p (set_local_clip i c) =
    let v = p.local i.0 in
    set_unless (clip_eq v.local_clip (constructed c)) p i.0 (with_clip (constructed c) v) mark_clip
accepted p (set_local_bounds i r) =
    let v = p.local i.0 in
    set_unless (rect_eq v.local_bounds r) p i.0 (with_bounds r v) mark_alone
accepted p (set_hit_slop i s) =
    let v = p.local i.0 in
    set_unless (insets_eq v.hit_slop s) p i.0 (with_slop s v) mark_alone
accepted p (set_z_index i z) = with_local p i.0 (with_level z (p.local i.0)) (p.mark i.0)
accepted p (set_flags i f) = with_local p i.0 (with_flags f (p.local i.0)) (p.mark i.0)
accepted p (commit room) = committed p
accepted p (read r) = p
accepted p (request q asked room) = p

-- "refused calls .. change nothing"
abbrev pub step_if : ℕ → Plan → Call → Plan
step_if zero p c = accepted p c
step_if (suc n) p c = p

unfoldable pub step : Plan → Call → Plan
step p c = step_if (refusal p c) p c

-- ---- what an accepted call tells: an insert the id that it hands out

pub data Told : Type 0 where
  nothing : Told
  id : NodeId → Told

abbrev pub told : Plan → Call → Told
told p (insert parent v) = id (new_id p)
told p (remove i) = nothing
told p (reparent i parent) = nothing
told p (set_local_transform i t) = nothing
told p (set_local_clip i c) = nothing
told p (set_local_bounds i r) = nothing
told p (set_hit_slop i s) = nothing
told p (set_z_index i z) = nothing
told p (set_flags i f) = nothing
told p (commit room) = nothing
told p (read r) = nothing
told p (request q asked room) = nothing

-- "A refusal returns its number alone"
abbrev pub told_if : ℕ → Plan → Call → Told
told_if zero p c = told p c
told_if (suc n) p c = nothing

-- a call's outcome: its refusal, or 0, and what it tells
pub record Outcome : Type 0 where
  pub refused : ℕ
  pub told : Told

unfoldable pub outcome : Plan → Call → Outcome
outcome p c = record { refused = refusal p c; told = told_if (refusal p c) p c }
