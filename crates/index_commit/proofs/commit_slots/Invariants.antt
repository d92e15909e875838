use Rattle.index_commit.proofs.Queue.{Inv}
use Rattle.index_commit.proofs.commit_slots.Given as goal

abbrev pub invariant-loop-i : goal.invariant-loop-i
invariant-loop-i l = Inv l.fn.index l.fn.added l.fn.removed l.fn.old l.fn.new l.index l.added l.removed l.old l.new l.damage l.i
