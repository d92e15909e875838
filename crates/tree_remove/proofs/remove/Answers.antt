use Rattle.std.proofs.Common.{sym}
use Rattle.tree_remove.proofs.Subtree as subtree
use Rattle.tree_remove.proofs.remove.Goals as goal

pub remove_nodes-requires : goal.remove_nodes-requires
remove_nodes-requires c =
    let at = c.position-at in
    let end = c.segment_end-end in
    subtree.all_go c.args.tree.now c.args.id c.in_ok-of_node.ensures.live at.result end.result at.ensures.1 end.ensures.2 end.ensures.0 end.ensures.1
    c.post_order.new.out _ c.post_order.ensures

pub cut_tree-requires : goal.cut_tree-requires
cut_tree-requires c =
    let at = c.position-at in
    let end = c.segment_end-end in
    subtree.cut_fits c.args.tree.now c.args.id c.in_ok-of_node.ensures.live at.result end.result at.ensures.1 end.ensures.2 end.ensures.0 end.ensures.1
    c.post_order.new.out _ c.post_order.ensures c.remove_nodes.new.tree c.remove_nodes.ensures

pub returns-clause-tree : goal.returns-clause-tree
returns-clause-tree c =
    let at = c.position-at in
    let end = c.segment_end-end in
    subtree.left c.args.tree.now c.args.id c.in_ok-of_node.ensures.live at.result end.result at.ensures.1 end.ensures.2 end.ensures.0 end.ensures.1
    c.post_order.new.out _ c.post_order.ensures c.remove_nodes.new.tree c.remove_nodes.ensures c.cut_tree.new.self c.cut_tree.ensures (sym c.in_ok-of_node.ensures.verdict)
