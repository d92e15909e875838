-- What a tap answers, by its verdict.
use Rattle.std.specs.Prelude.{List, ℕ, length, Result, Option, Some, None}
use Rattle.geometry.specs.declared.point.Point.{Point}
use Rattle.tree_types.specs.declared.NodeFlags.{NodeFlags}
use Rattle.tree_state.specs.declared.Tree.{Tree}
use Rattle.tree_state.specs.declared.Refusal.{Refusal}
use Rattle.tree_state.specs.Tree.{id_at, value_if}
use Rattle.tree_steps.specs.Requests as request
use Rattle.tree_steps.specs.Requests.{Best, nobody, best, path_to}
use Rattle.tree_taps.specs.declared.Hit.{Hit}
pub use Rattle.tree_taps.specs.fine.Fine.{Shown}
pub use Rattle.tree_taps.specs.candidates.Candidates.{best_of}

-- the id, and how many ids stand in front of the room: the path from the root
abbrev pub hit_of : Tree → Best → Option Hit
hit_of t nobody = None
hit_of t (best x) = Some (record { node = id_at t x; depth = length (path_to t x) })

-- ---- the call: what it answers, and the room after it

abbrev pub tap_call : Tree → NodeFlags → Point → ℕ → Result (Option Hit) Refusal
tap_call t asked pt len = value_if (request.request_verdict t asked len) (hit_of t (request.hit_node t asked pt))

abbrev pub tap_room : Tree → NodeFlags → Point → List ℕ → List ℕ
tap_room t asked pt room = request.room_if (request.request_verdict t asked (length room)) (request.path_of t (request.hit_node t asked pt)) room
