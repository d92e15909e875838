use Rattle.std.proofs.Common.{◌≡◌, take, reverse}
use Rattle.link_forest.specs.Table.{less_deep, above_at}
use Rattle.link_table.proofs.Links.parent_at.Given as goal

-- the slots above, of the positions that are left
abbrev pub invariant-loop-j : goal.invariant-loop-j
invariant-loop-j l = above_at l.self.order l.self.depth l.at ≡ less_deep l.depth (reverse (take l.j l.self.order)) (reverse (take l.j l.self.depth))
