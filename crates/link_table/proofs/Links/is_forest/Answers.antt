use Rattle.std.proofs.Common.{◌≡◌, ◌<◌, sym, ◌∙◌, get_or-take, rules, arith}
use Rattle.link_table.proofs.depths.Depths.{shape_zero, shape_jump, shape_on, shape_end}
use Rattle.link_table.proofs.Links.is_forest.Goals as goal

pub returns-then-depth-lt1 : goal.returns-then-depth-lt1
returns-then-depth-lt1 c =
    let l = c.args.self.now in
    let i = c.loop-depth.depth-index in
    let lt : i < l.count = search rules in
    sym (c.loop-depth.invariant.1 ∙ shape_zero c.loop-depth.above l.count i l.depth (search rules) lt (rw get_or-take at c.if-depth-lt1.true))

pub returns-then-above-depth : goal.returns-then-above-depth
returns-then-above-depth c =
    let l = c.args.self.now in
    let i = c.loop-depth.depth-index in
    let lt : i < l.count = search rules in
    sym (c.loop-depth.invariant.1 ∙ shape_jump c.loop-depth.above l.count i l.depth (search rules) lt (rw get_or-take at c.if-depth-lt1.false) (rw get_or-take at c.if-above-depth.true))

pub loop-depth-preserved : goal.loop-depth-preserved
loop-depth-preserved c =
    let l = c.args.self.now in
    let i = c.loop-depth.depth-index in
    let lt : i < l.count = search rules in
    (omega arith, rw get_or-take (c.loop-depth.invariant.1 ∙ shape_on c.loop-depth.above l.count i l.depth (search rules) lt (rw get_or-take at c.if-depth-lt1.false) (rw get_or-take at c.if-above-depth.false)))

pub returns : goal.returns
returns c =
    let l = c.args.self.now in
    let e : c.loop-depth.depth-index ≡ l.count = search rules in
    sym (rw e at c.loop-depth.invariant.1 ∙ shape_end c.loop-depth.above l.count l.depth)
