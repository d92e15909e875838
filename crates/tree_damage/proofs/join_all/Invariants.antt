use Rattle.std.proofs.Common.{◌≡◌}
use Rattle.tree_steps.specs.Commit.{rects_of}
use Rattle.tree_damage.specs.Damage.{joined}
use Rattle.tree_damage.proofs.join_all.Given as goal

abbrev pub invariant-loop-i : goal.invariant-loop-i
invariant-loop-i l = l.united ≡ joined (rects_of l.room l.i)
