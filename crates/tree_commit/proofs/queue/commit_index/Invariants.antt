use Rattle.tree_commit.proofs.queue.Queue.{Inv}
use Rattle.tree_commit.proofs.queue.commit_index.Given as goal

abbrev pub invariant-loop-at : goal.invariant-loop-at
invariant-loop-at l = Inv l.initial.index l.index l.at
