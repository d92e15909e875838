use Rattle.std.proofs.Common.{◌≡◌, false, take}
use Rattle.tree_state.specs.Tree as spec
use Rattle.tree_verdicts.proofs.need.any_marked.Given as goal

abbrev pub invariant-loop-i : goal.invariant-loop-i
invariant-loop-i l = spec.any_of (spec.marked_at l.tree) (take l.i l.tree.links.order) ≡ false
