use mathlib.Core.Path.{◌≡◌}
use lib.ListN.{take}
use Rattle.tree_steps.specs.Commit.{rects_in_front}
use Rattle.tree_commit.proofs.room.put_pending.Given as goal

abbrev pub invariant-loop-i : goal.invariant-loop-i
invariant-loop-i l = l.room ≡ rects_in_front (take l.i l.pending.rects) l.initial.room
