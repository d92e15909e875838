use Rattle.std.proofs.Common.{ℕ, refl, sym, ◌∙◌}
use Rattle.std.proofs.lemmas.Bool.{le-leb, lt-leb}
use Rattle.index_types.specs.Slots.{entry}
use Rattle.tree_state.specs.Tree.{some, is_removed}
use Rattle.tree_verdicts.proofs.need.Walks.{some_more, some_hit}
use Rattle.tree_verdicts.proofs.need.any_removed.Goals as goal

pub loop-k-init : goal.loop-k-init
unfolding some
loop-k-init c = refl

pub returns-then-index-k-ge4 : goal.returns-then-index-k-ge4
returns-then-index-k-ge4 c =
    let ix = c.args.index.now in
    sym (some_hit (λ (k : ℕ). is_removed (entry ix k).mark) ix.used c.loop-k.k c.loop-k-test.true (le-leb 4 (entry ix c.loop-k.k).mark c.if-index-k-ge4.true))

pub loop-k-preserved : goal.loop-k-preserved
loop-k-preserved c =
    let ix = c.args.index.now in
    some_more (λ (k : ℕ). is_removed (entry ix k).mark) c.loop-k.k ∙ rw (c.loop-k.invariant) (lt-leb 4 (entry ix c.loop-k.k).mark c.if-index-k-ge4.false)
