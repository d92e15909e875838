use Rattle.std.proofs.Common.{◌≡◌}
use Rattle.index_damage.specs.Damage.{join_all, boxes_in}
use Rattle.index_damage.proofs.join_all.Given as goal

abbrev pub invariant-loop-i : goal.invariant-loop-i
invariant-loop-i l = l.u ≡ join_all l.fn.start (boxes_in l.room l.i)
