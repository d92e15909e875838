use Rattle.std.proofs.Common.{◌≡◌, map, take}
use Rattle.tree_state.specs.Tree.{id_at}
use Rattle.tree_steps.specs.Requests.{ids_in_front}
use Rattle.tree_links.proofs.children.put_ids.Given as goal

-- the ids of the slots that are passed
abbrev pub invariant-loop-i : goal.invariant-loop-i
invariant-loop-i l = l.room ≡ ids_in_front (map (id_at l.tree) (take l.i l.slots)) l.initial.room
