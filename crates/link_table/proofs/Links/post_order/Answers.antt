use Rattle.std.proofs.Common.{◌≡◌, ◌-◌, ◌≤◌, ◌∷◌, [], length, take, get_or, ap, ◌∙◌, length-take-le, rules, arith}
use Rattle.link_forest.specs.Table.{insert_all, seg_end}
use Rattle.link_table.proofs.Steps.{post_none, post_turn}
use Rattle.link_table.proofs.Links.post_order.Goals as goal

pub loop-at-init : goal.loop-at-init
loop-at-init c = (c.told-out, omega arith, post_none c.args.to c.args.self.now.order c.args.self.now.depth c.args.out.now)

pub loop-at-preserved : goal.loop-at-preserved
loop-at-preserved c =
    let L = c.loop-at in
    let A = c.args in
    let e = c.segment_end-end.result in
    let X = A.self.now.order in
    let D = A.self.now.depth in
    let lx : A.to ≤ length X = search rules in
    let ld : A.to ≤ length D = search rules in
    let fits : e ≤ length (take A.to D) = c.segment_end-end.ensures.1 in
    let is : e ≡ seg_end (take A.to D) (L.at - 1) = c.segment_end-end.ensures.2 in
    let m : A.to - (L.at - 1) - 1 ≡ A.to - L.at = omega arith in
    let turn = post_turn A.to L.at e X D A.out.now (omega arith) (omega arith) lx ld is (omega (arith, length-take-le A.to D ld)) in
    (c.insert_at.ensures.0, omega arith, rw m at c.insert_at.ensures.1 ∙ ap (λ o. insert_all (A.to - L.at) (e - (L.at - 1) - 1) (get_or X (L.at - 1) 0 ∷ []) o) L.invariant.2 ∙ turn)
