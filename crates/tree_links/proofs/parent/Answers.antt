use Rattle.std.proofs.Common.{◌≡◌, ◌≤◌, ◌<◌, None, Some, sym, ◌∙◌, ap, get_or, length, rules, arith}
use Rattle.link_table.specs.Links as links
use Rattle.link_table.proofs.depths.Depths.{parent_low}
use Rattle.tree_state.specs.Tree.{position_of}
use Rattle.tree_steps.specs.Commit.{ancestors}
use Rattle.tree_steps.specs.Readings.{parent_of}
use Rattle.tree_links.proofs.Places.{slot_low, none_above, node_above}
use Rattle.tree_links.proofs.parent.Goals as goal

pub returns-in_err-above : goal.returns-in_err-above
unfolding parent_of ancestors
returns-in_err-above c =
    let t = c.args.tree.now in
    let i = position_of t c.args.id.0 in
    let none : c.parent_at.result ≡ None = search rules in
    let at = ap (links.parent_at t.links) (sym c.position.ensures.1) ∙ sym c.parent_at.ensures ∙ none in
    let gives : c.from_residual.result ≡ None = search rules in
    gives ∙ none_above t (ancestors t i) at

pub id_at-requires : goal.id_at-requires
id_at-requires c =
    let t = c.args.tree.now in
    let p = c.position.result in
    let place : p < t.links.count = omega (arith, c.position.ensures.1, c.requires.place_fits) in
    let fits = c.requires.held.count_fits in
    let lo : p ≤ length t.links.order = omega (arith, c.requires.held.whole.links.order, place, fits) in
    let ld : p ≤ length t.links.depth = omega (arith, c.requires.held.whole.links.depth, place, fits) in
    parent_low (get_or t.links.depth p 0) p c.in_ok-above.above t.links.order t.links.depth lo ld
    (λ m l. slot_low t c.requires.held m (omega arith))
    (sym c.parent_at.ensures ∙ c.in_ok-above.was)

pub returns : goal.returns
unfolding parent_of ancestors
returns c =
    let t = c.args.tree.now in
    let i = position_of t c.args.id.0 in
    let at = ap (links.parent_at t.links) (sym c.position.ensures.1) ∙ sym c.parent_at.ensures ∙ c.in_ok-above.was in
    ap Some c.id_at.ensures ∙ node_above t (ancestors t i) c.in_ok-above.above at
