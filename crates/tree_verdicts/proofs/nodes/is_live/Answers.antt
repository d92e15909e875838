use Rattle.std.proofs.Common.{sym, ◌∙◌}
use Rattle.tree_state.specs.Tree.{live}
use Rattle.tree_verdicts.proofs.nodes.is_live.Goals as goal

pub contains-requires : goal.contains-requires
contains-requires c = c.requires.count_fits

pub bounds-tree-id : goal.bounds-tree-id
bounds-tree-id c = c.requires.low c.args.id.0 (sym c.contains.ensures ∙ c.if-contains.true)

pub returns-then-contains : goal.returns-then-contains
unfolding live
returns-then-contains c = rw (sym c.contains.ensures ∙ c.if-contains.true)

pub returns-else-contains : goal.returns-else-contains
unfolding live
returns-else-contains c = rw (c.if-contains.false, sym c.contains.ensures ∙ c.if-contains.false)
