use Rattle.std.proofs.Common.{◌+◌, ◌-◌, ◌<◌, length, get_or, set, ap, ◌∙◌, add-one, rules}
use Rattle.link_forest.specs.Table.{rebased}
use Rattle.link_table.proofs.arrays.Runs.{mapped_turn, untouched}
use Rattle.link_table.proofs.arrays.rebase.Goals as goal

pub loop-depth-preserved : goal.loop-depth-preserved
loop-depth-preserved c =
    let ds = c.args.depths.now in
    let i = c.loop-depth.depth-index in
    let was = c.args.was in
    let is = c.args.is in
    let lt : i < length ds = search rules in
    let here = ap (λ a. get_or a i 0) c.loop-depth.invariant ∙ untouched (rebased was is) i ds lt in
    let new = ap (λ v. v + is) (c.saturating_sub.ensures ∙ ap (λ v. v - was) here) in
    rw (add-one i) (ap (λ v. set c.loop-depth.depths i v) new ∙ ap (λ a. set a i (rebased was is (get_or ds i 0))) c.loop-depth.invariant ∙ mapped_turn (rebased was is) i ds lt)
