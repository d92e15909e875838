use Rattle.std.proofs.Common.{◌≡◌, map, reverse}
use Rattle.tree_state.specs.Tree.{id_at}
use Rattle.tree_steps.specs.Requests.{ids_in_front, path_to}
use Rattle.tree_taps.proofs.paths.Climb.{back}
use Rattle.tree_taps.proofs.paths.write_path.Given as goal

-- with what is still to be written the path stands in front of the room
abbrev pub invariant-loop-above : goal.invariant-loop-above
invariant-loop-above l =
    ids_in_front (map (id_at l.tree) (reverse (back l.depth l.tree.links.order l.tree.links.depth l.above))) l.room ≡ ids_in_front (path_to l.tree l.slot) l.fn.room
