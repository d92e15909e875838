-- The answers of the readings: the value where the call is accepted, else the refusal.
use Rattle.std.specs.Prelude.{ℕ, Bool, List, ℤ, length, Result, Option}
use Rattle.geometry.specs.declared.rect.Rect.{Rect}
use Rattle.geometry.specs.declared.insets.Insets.{Insets}
use Rattle.geometry.specs.declared.affine.Affine.{Affine}
use Rattle.geometry_clips.specs.declared.clip.Clip.{Clip}
use Rattle.index_types.specs.declared.NodeId.{NodeId}
use Rattle.tree_types.specs.declared.NodeFlags.{NodeFlags}
use Rattle.tree_state.specs.declared.Tree.{Tree}
use Rattle.tree_state.specs.declared.Refusal.{Refusal}
use Rattle.tree_state.specs.Tree.{live, local_at, needs_commit, stored_place, stored_bounds, stored_hit_bounds, value_if}
use Rattle.tree_steps.specs.Setters.{held, of_node}
use Rattle.tree_steps.specs.Readings.{parent_of, children_of, next_of, prev_of, world_verdict, children_verdict}
use Rattle.tree_steps.specs.Requests.{room_if}

-- ---- the calls

abbrev pub needs_commit_call : Tree → Result Bool Refusal
needs_commit_call t = value_if (held t) (needs_commit t)

abbrev pub is_alive_call : Tree → NodeId → Result Bool Refusal
is_alive_call t i = value_if (held t) (live t i)

abbrev pub local_transform_call : Tree → NodeId → Result Affine Refusal
local_transform_call t i = value_if (of_node t i) (local_at t i.0).local_transform

abbrev pub local_clip_call : Tree → NodeId → Result Clip Refusal
local_clip_call t i = value_if (of_node t i) (local_at t i.0).local_clip

abbrev pub local_bounds_call : Tree → NodeId → Result Rect Refusal
local_bounds_call t i = value_if (of_node t i) (local_at t i.0).local_bounds

abbrev pub hit_slop_call : Tree → NodeId → Result Insets Refusal
hit_slop_call t i = value_if (of_node t i) (local_at t i.0).hit_slop

abbrev pub z_index_call : Tree → NodeId → Result ℤ Refusal
z_index_call t i = value_if (of_node t i) (local_at t i.0).z_index

abbrev pub flags_call : Tree → NodeId → Result NodeFlags Refusal
flags_call t i = value_if (of_node t i) (local_at t i.0).flags

abbrev pub parent_call : Tree → NodeId → Result (Option NodeId) Refusal
parent_call t i = value_if (of_node t i) (parent_of t i.0)

abbrev pub next_call : Tree → NodeId → Result (Option NodeId) Refusal
next_call t i = value_if (of_node t i) (next_of t i.0)

abbrev pub prev_call : Tree → NodeId → Result (Option NodeId) Refusal
prev_call t i = value_if (of_node t i) (prev_of t i.0)

abbrev pub children_call : Tree → NodeId → ℕ → Result ℕ Refusal
children_call t i len = value_if (children_verdict t i len) (length (children_of t i.0))

abbrev pub children_room : Tree → NodeId → List ℕ → List ℕ
children_room t i room = room_if (children_verdict t i (length room)) (children_of t i.0) room

abbrev pub world_transform_call : Tree → NodeId → Result Affine Refusal
world_transform_call t i = value_if (world_verdict t i) (stored_place t i.0).transform

abbrev pub world_bounds_call : Tree → NodeId → Result Rect Refusal
world_bounds_call t i = value_if (world_verdict t i) (stored_bounds t i.0)

abbrev pub world_hit_bounds_call : Tree → NodeId → Result Rect Refusal
world_hit_bounds_call t i = value_if (world_verdict t i) (stored_hit_bounds t i.0)
