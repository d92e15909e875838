-- What a listing answers and leaves of the lent room, by its verdict.
use Rattle.std.specs.Prelude.{List, ℕ, length, Result}
use Rattle.geometry.specs.declared.point.Point.{Point}
use Rattle.geometry.specs.declared.rect.Rect.{Rect}
use Rattle.tree_types.specs.declared.NodeFlags.{NodeFlags}
use Rattle.tree_state.specs.declared.Tree.{Tree}
use Rattle.tree_state.specs.declared.Refusal.{Refusal}
use Rattle.tree_state.specs.Tree.{value_if}
use Rattle.tree_steps.specs.Requests.{request_verdict, room_if, rect_nodes, point_nodes}

-- ---- the calls: how many ids stand in front of the room, and the room after it

abbrev pub intersect_call : Tree → NodeFlags → Rect → ℕ → Result ℕ Refusal
intersect_call t asked r len = value_if (request_verdict t asked len) (length (rect_nodes t asked r))

abbrev pub intersect_room : Tree → NodeFlags → Rect → List ℕ → List ℕ
intersect_room t asked r room = room_if (request_verdict t asked (length room)) (rect_nodes t asked r) room

abbrev pub containing_call : Tree → NodeFlags → Point → ℕ → Result ℕ Refusal
containing_call t asked pt len = value_if (request_verdict t asked len) (length (point_nodes t asked pt))

abbrev pub containing_room : Tree → NodeFlags → Point → List ℕ → List ℕ
containing_room t asked pt room = room_if (request_verdict t asked (length room)) (point_nodes t asked pt) room
