use Rattle.tree_verdicts.proofs.nodes.Nodes.{node_told}
use Rattle.tree_verdicts.proofs.nodes.of_node.Goals as goal

pub returns-clause-live : goal.returns-clause-live
returns-clause-live c = node_told c.args.tree.now c.in_ok-held.ensures.sound c.args.id c.is_live.result c.check.result c.check.ensures c.is_live.ensures
