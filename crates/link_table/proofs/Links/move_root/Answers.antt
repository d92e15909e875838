use Rattle.std.proofs.Common.{◌≤◌, length, ap, ◌∙◌, rules, arith}
use Rattle.link_table.specs.declared.Links.{Links}
use Rattle.link_table.proofs.Changes.{cut_end, cut_count}
use Rattle.link_table.proofs.Links.move_root.Goals as goal

pub graft-requires : goal.graft-requires
graft-requires c =
    let l = c.args.self.now in
    let at = c.args.at in
    let ld : l.count ≤ length l.depth = search rules in
    let count = ap (λ (t : Links). t.count) c.cut_tree.ensures ∙ cut_count l at at c.requires.0 ld in
    let end = cut_end l at at c.requires.0 ld in
    (omega arith, c.requires.0, c.requires.1, omega (arith, count, end), c.requires.2, omega arith)
