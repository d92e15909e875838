use Rattle.std.proofs.Common.{◌≡◌}
use Rattle.index_damage.specs.Damage.{join_all, moves_in}
use Rattle.index_damage.proofs.join_moves.Given as goal

abbrev pub invariant-loop-i : goal.invariant-loop-i
invariant-loop-i l = l.u ≡ join_all l.fn.start (moves_in l.old l.new l.i)
