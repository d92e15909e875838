use Rattle.tree_verdicts.proofs.nodes.Nodes.{held_told}
use Rattle.tree_verdicts.proofs.nodes.held.Goals as goal

pub returns-clause-sound : goal.returns-clause-sound
returns-clause-sound c = held_told c.args.tree.now c.whole.ensures c.is_sound.result c.check.result c.check.ensures c.is_sound.ensures
