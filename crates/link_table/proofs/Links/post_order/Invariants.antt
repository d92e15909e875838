use Rattle.std.proofs.Common.{◌≡◌, ◌≤◌, length}
use Rattle.link_table.specs.Links.{in_front, post_order}
use Rattle.link_table.proofs.Links.post_order.Given as goal

-- the slots of the positions that are passed
abbrev pub invariant-loop-at : goal.invariant-loop-at
invariant-loop-at l = (length l.out ≡ 256) × (l.from ≤ l.at) × (l.out ≡ in_front (post_order l.self l.at l.to) l.initial.out)
