use Rattle.std.proofs.Common.{◌≡◌, drop}
use Rattle.tree_steps.specs.Structure.{remove_all}
use Rattle.tree_remove.specs.Remove.{Removals}
use Rattle.tree_remove.proofs.remove_nodes.Given as goal

-- what is left to go can go, and comes to the same
abbrev pub invariant-loop-slot : goal.invariant-loop-slot
invariant-loop-slot l =
    Removals l.tree (drop l.slot-index l.gone) × (remove_all l.tree (drop l.slot-index l.gone) ≡ remove_all l.fn.tree l.gone)
