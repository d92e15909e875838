use Rattle.std.proofs.Common.{◌≡◌, ◌++◌, map, take, drop}
use Rattle.link_forest.specs.Table.{rebased}
use Rattle.link_table.proofs.arrays.rebase.Given as goal

-- those that are passed, and the rest as they were
abbrev pub invariant-loop-depth : goal.invariant-loop-depth
invariant-loop-depth l = l.depths ≡ map (rebased l.was l.is) (take l.depth-index l.initial.depths) ++ drop l.depth-index l.initial.depths
