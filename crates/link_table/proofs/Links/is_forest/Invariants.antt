use Rattle.std.proofs.Common.{◌≡◌, ◌≤◌, drop}
use Rattle.link_forest.specs.Table.{depths_from}
use Rattle.link_table.proofs.Links.is_forest.Given as goal

-- the depths that are passed belong to some forest, the last of them `above`
abbrev pub invariant-loop-depth : goal.invariant-loop-depth
invariant-loop-depth l = (l.above ≤ l.depth-index) × (depths_from 0 l.depth-items ≡ depths_from l.above (drop l.depth-index l.depth-items))
