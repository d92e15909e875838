-- What the theorems over every list of calls on the tree claim (proofs/Soundness.antt, proofs/Readings.antt, proofs/Rooms.antt).
use Rattle.std.specs.Prelude.{ℕ, ◌*◌, ◌≤◌, ◌≡◌, List, length, drop}
use Rattle.index_types.specs.declared.NodeId.{NodeId}
use Rattle.tree_state.specs.declared.Tree.{Tree}
use Rattle.tree_state.specs.Tree.{fresh_tree}
use Rattle.tree_state.specs.Sound.{SoundTree}
use Rattle.tree_state.specs.Whole.{Whole}
use Rattle.tree_run.specs.Run.{step}
use Rattle.plan.specs.Calls.{Call}
use Rattle.plan.specs.Demand.{run}

-- the tables have their lengths, and the tree is sound
abbrev pub Keeps : Tree → Type 0
Keeps t = Whole t × SoundTree t

-- the tree after a list of calls from fresh
abbrev pub after : List Call → Tree
after calls = run step fresh_tree calls

-- behind the ids, two numbers each, a room is as it was, and it is as long
pub record Behind (ids : List NodeId) (room room' : List ℕ) : Type 0 where
  pub few : length ids ≤ 256
  pub behind : drop (2 * length ids) room' ≡ drop (2 * length ids) room
  pub as_long : length room' ≡ length room
