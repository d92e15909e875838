use Rattle.std.proofs.Common.{◌∙◌, sym}
use Rattle.tree_listings.proofs.entries.Entries.{node_of, seen_live}
use Rattle.tree_listings.proofs.entries.takes.Goals as goal

pub bounds-tree-slot : goal.bounds-tree-slot
bounds-tree-slot c =
    let t = c.args.tree.now in
    let seen = seen_live t c.args.rect c.requires.1 c.args.entry c.requires.0 (sym c.visited-visited.ensures ∙ c.if-not-visited.false) in
    rw c.node_of-slot.ensures (c.requires.1.held.low (node_of t c.args.entry) seen)

pub bounds-tree-slot-2 : goal.bounds-tree-slot-2
bounds-tree-slot-2 c =
    let t = c.args.tree.now in
    let seen = seen_live t c.args.rect c.requires.1 c.args.entry c.requires.0 (sym c.visited-visited.ensures ∙ c.if-not-visited.false) in
    rw c.node_of-slot.ensures (c.requires.1.held.low (node_of t c.args.entry) seen)
