use Rattle.std.proofs.Common.{◌≡◌}
use Rattle.tree_steps.specs.Commit.{ancestors}
use Rattle.tree_steps.specs.Requests.{in_stored_clips}
use Rattle.tree_taps.proofs.fine.Climb.{back}
use Rattle.tree_taps.proofs.fine.in_clips.Given as goal

-- those that are still to be looked at decide
abbrev pub invariant-loop-above : goal.invariant-loop-above
invariant-loop-above l =
    in_stored_clips l.tree (ancestors l.tree l.at) l.point ≡ in_stored_clips l.tree (back l.depth l.tree.links.order l.tree.links.depth l.above) l.point
