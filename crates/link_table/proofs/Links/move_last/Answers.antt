use Rattle.std.proofs.Common.{◌≡◌, ℕ, ◌≤◌, ◌<◌, length, get_or, ap, ◌∙◌, rules, arith}
use Rattle.link_table.specs.declared.Links.{Links}
use Rattle.link_table.specs.Links.{end_of, after_cut}
use Rattle.link_table.proofs.Changes.{depth_fits, cut_end, cut_count, cut_place, cut_depth}
use Rattle.link_table.proofs.Links.move_last.Goals as goal
use Rattle.link_table.proofs.Links.move_last.Goals.{After-cut_tree}

long : (c : After-cut_tree) → c.args.self.now.count ≤ length c.args.self.now.depth
long c = search rules

-- where the node of `to` stands after the cut, and that it lies as deep as before
place : (c : After-cut_tree) → c.after_cut-to.result ≡ after_cut c.args.at (end_of c.args.self.now c.args.at) c.args.to
place c = rw c.segment_end.ensures.2 at c.after_cut-to.ensures

deep : (c : After-cut_tree) → get_or c.cut_tree.new.self.depth c.after_cut-to.result 0 ≡ get_or c.args.self.now.depth c.args.to 0
deep c = rw (place c, c.cut_tree.ensures) (cut_depth c.args.self.now c.args.at c.args.to c.requires.0 (long c) c.requires.1 c.requires.3)

-- a position before an end that the cut leaves
low : (c : After-cut_tree) (p e : ℕ) → p < e → e ≤ c.cut_tree.new.self.count → p < 256
low c p e lt le =
    let l = c.args.self.now in
    let at = c.args.at in
    let count = ap (λ (x : Links). x.count) c.cut_tree.ensures ∙ cut_count l at at c.requires.0 (long c) in
    omega (arith, count, cut_end l at at c.requires.0 (long c), c.requires.2)

pub segment_end-requires-2 : goal.segment_end-requires-2
segment_end-requires-2 c =
    let l = c.args.self.now in
    let at = c.args.at in
    let ld = long (goal.at.segment_end-requires-2 c).After-cut_tree in
    let fits = cut_place l at c.args.to c.requires.0 ld c.requires.1 c.requires.3 in
    let count = cut_count l at at c.requires.0 ld in
    let end = cut_end l at at c.requires.0 ld in
    rw (place (goal.at.segment_end-requires-2 c).After-cut_tree, c.cut_tree.ensures) (fits, omega (arith, count, end, c.requires.2))

pub offset_bounds-self-to : goal.offset_bounds-self-to
offset_bounds-self-to c =
    let small = low (goal.at.offset_bounds-self-to c).After-cut_tree _ _ c.segment_end-2.ensures.0 c.segment_end-2.ensures.1 in
    omega (arith, small)

pub bounds-self-to : goal.bounds-self-to
bounds-self-to c = low (goal.at.bounds-self-to c).After-cut_tree _ _ c.segment_end-2.ensures.0 c.segment_end-2.ensures.1

pub overflow_add-self : goal.overflow_add-self
overflow_add-self c =
    let small = depth_fits c.args.self.now.count c.args.self.now.depth c.requires.4 c.args.to c.requires.1 in
    omega (arith, deep (goal.at.overflow_add-self c).After-cut_tree, small, c.requires.1, c.requires.2)

pub graft-requires : goal.graft-requires
graft-requires c =
    let l = c.args.self.now in
    let at = c.args.at in
    let cut = (goal.at.graft-requires c).After-cut_tree in
    let small = depth_fits l.count l.depth c.requires.4 c.args.to c.requires.1 in
    let count = ap (λ (t : Links). t.count) c.cut_tree.ensures ∙ cut_count l at at c.requires.0 (long cut) in
    let end = cut_end l at at c.requires.0 (long cut) in
    (c.segment_end-2.ensures.1, c.requires.0, c.requires.2, omega (arith, count, end, c.requires.2), c.requires.4, omega (arith, deep cut, small, c.requires.1, c.requires.2))
