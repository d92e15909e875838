use Rattle.std.proofs.Common.{arith}
use Rattle.tree_links.proofs.Places.{slot_low}
use Rattle.tree_links.proofs.walks.next_in_order.Goals as goal

pub id_at-requires : goal.id_at-requires
id_at-requires c = slot_low c.args.tree.now c.requires.held _ (omega arith)
