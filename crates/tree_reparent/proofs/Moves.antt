-- A live parent that is not below the node is outside its segment; and what an accepted verdict gives the move.
use Rattle.std.specs.Prelude.{None, Some, Option, Ok}
use mathlib.Core.Path.{◌≡◌}
use mathlib.Core.Bool.{true, false, not}
use Prim.Native.Nat.{ℕ}
use native.Mathlib.Omega.{arith}
use native.Mathlib.Decide.{dec_lt}
use borrow.Author.Tests.{le-leb, lt-ltb, not-true}
use Rattle.counting.proofs.Kit.{contra}
use Rattle.index_types.specs.declared.NodeId.{NodeId}
use Rattle.link_table.specs.Links.{end_of}
use Rattle.tree_state.specs.declared.Tree.{Tree}
use Rattle.tree_state.specs.declared.Refusal.TheVariants as no
use Rattle.tree_state.specs.Tree.{position_of, checked}
use Rattle.tree_state.specs.Whole.{Whole}
use Rattle.tree_steps.specs.Setters.{of_node}
use Rattle.tree_steps.specs.Structure.{parent_live, at_or_below, reparent_verdict}
use Rattle.tree_verdicts.specs.Held.{Held}
use Rattle.tree_verdicts.proofs.nodes.Nodes.{live_node, checked_accepted, node_accepted}
use Rattle.tree_reparent.specs.Below.{Outside, Movable}

pub outside : (t : Tree) (i : ℕ) (parent : Option NodeId) → Held t → parent_live t parent ≡ true → at_or_below t i parent ≡ false → Outside t i parent
outside t i None H p b = tt
outside t i (Some h) H p b = (
  (live_node t H h p).place_fits,
  λ l. elim (dec_lt (position_of t h.0) (end_of t.links i)) [
    | yes k ↦ absurd (contra (rw (le-leb i (position_of t h.0) l, lt-ltb (position_of t h.0) (end_of t.links i) k)) b)
    | no g ↦ omega arith
  ],
)

pub movable : (t : Tree) (i : NodeId) (parent : Option NodeId) (at : ℕ) → Whole t → reparent_verdict t i parent ≡ Ok tt → at ≡ position_of t i.0
    → Movable t at i.0 parent
movable t i parent at w a e =
    let below = at_or_below t (position_of t i.0) parent in
    let p = checked_accepted (checked (of_node t i) (parent_live t parent) no.DeadParent) (not below) no.BelowItself a in
    let q = checked_accepted (of_node t i) (parent_live t parent) no.DeadParent p.0 in
    let N = node_accepted t w i q.0 in
    record {
      position = e;
      position_fits = rw e N.place_fits;
      count_fits = N.held.count_fits;
      slot_low = N.slot_low;
      depths = N.held.depths;
      outside = outside t at parent N.held q.1 (rw e (not-true below p.1));
    }
