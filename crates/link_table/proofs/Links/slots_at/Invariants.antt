-- What the turns before i have put: those of the positions from `from` to i at that depth.
use Rattle.std.proofs.Common.{◌≡◌, length, ◌-◌, ◌≤◌, ◌++◌, take, drop}
use Rattle.link_table.specs.Links.{slots_at}
use Rattle.link_table.proofs.Links.slots_at.Given as goal

abbrev pub invariant-loop-i : goal.invariant-loop-i
invariant-loop-i l =
    (length l.out ≡ 256)
    × (l.count ≤ l.i - l.from)
    × (take l.count l.out ++ slots_at l.self l.i l.to l.depth ≡ slots_at l.self l.from l.to l.depth)
    × (drop l.count l.out ≡ drop l.count l.initial.out)
