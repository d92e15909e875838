use Rattle.std.specs.Prelude.{Ok}
use Rattle.std.proofs.Common.{◌≡◌, false, not, sym, ◌∙◌, arith}
use borrow.Author.Tests.{not-true}
use Rattle.tree_state.specs.declared.Refusal.TheVariants as no
use Rattle.tree_steps.specs.Structure.{parent_live, at_or_below}
use Rattle.tree_verdicts.proofs.nodes.Nodes.{checked_accepted}
use Rattle.tree_reparent.proofs.Moves.{outside}
use Rattle.tree_reparent.proofs.reparent.Goals as goal

pub move_links-requires : goal.move_links-requires
move_links-requires c =
    let t = c.args.tree.now in
    let p = c.args.parent in
    let N = c.in_ok-of_node.ensures.live in
    let at = c.position-at.result in
    let live = (checked_accepted (Ok tt) (parent_live t p) no.DeadParent (sym c.of_parent.ensures ∙ c.in_ok-of_parent.was)).1 in
    let above = (checked_accepted (Ok tt) (not c.is_below-below.result) no.BelowItself (sym c.check.ensures ∙ c.in_ok-check.was)).1 in
    let out : at_or_below t at p ≡ false = sym c.is_below-below.ensures ∙ not-true c.is_below-below.result above in
    (N.held, omega (arith, c.position-at.ensures.1, N.place_fits), outside t at p N.held live out)
