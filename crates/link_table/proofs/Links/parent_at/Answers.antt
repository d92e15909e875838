use Rattle.std.proofs.Common.{ap, sym, ◌∙◌, rules, arith}
use Rattle.link_forest.specs.Table.{nearest}
use Rattle.link_table.proofs.depths.Depths.{above_stop, above_on, above_none}
use Rattle.link_table.proofs.Links.parent_at.Goals as goal

pub returns-then-self-j : goal.returns-then-self-j
returns-then-self-j c =
    let l = c.args.self.now in
    let j = c.loop-j.j in
    sym (ap nearest c.loop-j.invariant ∙ above_stop _ j l.order l.depth (search rules) (search rules) (search rules) c.if-self-j.true)

pub loop-j-preserved : goal.loop-j-preserved
loop-j-preserved c =
    let l = c.args.self.now in
    let j = c.loop-j.j in
    c.loop-j.invariant ∙ above_on _ j l.order l.depth (search rules) (search rules) (search rules) c.if-self-j.false

pub returns : goal.returns
returns c =
    let l = c.args.self.now in
    sym (ap nearest c.loop-j.invariant ∙ above_none _ c.loop-j.j l.order l.depth (omega arith))
