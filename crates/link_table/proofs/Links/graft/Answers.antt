use Rattle.std.proofs.Common.{◌≡◌, ◌+◌, ◌-◌, ◌<◌, ◌≤◌, length, get_or, ap, ◌∙◌, rules, arith}
use Rattle.link_table.specs.Links.{between}
use Rattle.link_table.proofs.Steps.{length_part}
use Rattle.link_table.proofs.Changes.{inserted_part, part_fits}
use Rattle.link_table.proofs.Links.graft.Goals as goal

pub rebase-requires : goal.rebase-requires
rebase-requires c =
    let A = c.args in
    let l = A.self.now in
    let f = A.from.now in
    let end = c.segment_end-end.result in
    let k = end - A.at in
    let h : A.at < end = c.segment_end-end.ensures.0 in
    let m : end ≤ f.count = c.segment_end-end.ensures.1 in
    let to : A.to ≤ length l.depth = search rules in
    let fd : end ≤ length f.depth = search rules in
    let ys = between A.at end f.depth in
    let len : length ys ≡ k = length_part A.at end f.depth (omega arith) fd in
    let part = ap (λ a. between A.to (A.to + k) a) c.insert_all-2.ensures ∙ inserted_part l.count A.to k ys l.depth to len in
    λ j lt.
    let small : get_or ys j 0 ≤ f.count = part_fits f.count A.at end f.depth c.requires.4 m j (omega (arith, rw part at lt)) in
    let at_j : get_or (between A.to (A.to + k) c.insert_all-2.new.array) j 0 ≡ get_or ys j 0 = ap (λ a. get_or a j 0) part in
    omega arith
