use Rattle.index_types.specs.Slots.{entry}
use Rattle.std.proofs.Common.{◌≡◌, false}
use Rattle.tree_state.specs.Tree as spec
use Rattle.tree_verdicts.proofs.need.any_removed.Given as goal

abbrev pub invariant-loop-k : goal.invariant-loop-k
invariant-loop-k l = spec.some l.k (λ k. spec.is_removed (entry l.index k).mark) ≡ false
