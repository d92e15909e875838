use Rattle.std.proofs.Common.{◌∙◌, sym}
use Rattle.tree_taps.proofs.candidates.Tap.{seen_shown}
use Rattle.tree_taps.proofs.candidates.candidate.Goals as goal

pub fine-requires : goal.fine-requires
fine-requires c =
    let seen = seen_shown c.args.tree.now c.args.here c.requires.1 c.args.entry c.requires.0 (sym c.visited-visited.ensures ∙ c.if-not-visited.false) in
    rw c.node_of.ensures (seen, c.requires.1)
