-- What an accepted request gives to the call that made it.
use Rattle.std.specs.Prelude.{Ok}
use mathlib.Core.Path.{◌≡◌}
use mathlib.Core.Bool.{not}
use Prim.Native.Nat.{ℕ}
use borrow.Author.Tests.{ltb-false, not-true}
use lib.Dec.{ltb}
use Rattle.tree_types.specs.declared.NodeFlags.{NodeFlags}
use Rattle.tree_types.specs.Local.{known}
use Rattle.tree_state.specs.declared.Tree.{Tree}
use Rattle.tree_state.specs.declared.Refusal.TheVariants as no
use Rattle.tree_state.specs.Tree.{needs_commit}
use Rattle.tree_state.specs.Whole.{Whole}
use Rattle.tree_steps.specs.Setters.{held}
use Rattle.tree_steps.specs.Requests.{asked_verdict, request_verdict}
pub use Rattle.tree_verdicts.specs.Held.{Asked, Accepted}
use Rattle.tree_verdicts.proofs.nodes.Nodes.{held_accepted, checked_accepted}

module _ (t : Tree) (w : Whole t) (asked : NodeFlags) where
  pub asked_accepted : asked_verdict t asked ≡ Ok tt → Asked t
  asked_accepted e =
      let b = checked_accepted _ (not (needs_commit t)) no.NeedsCommit e in
      let c = checked_accepted (held t) (known asked) no.UnknownFlags b.0 in
      record { held = held_accepted t w c.0; no_need = not-true (needs_commit t) b.1 }

  pub accepted : (len : ℕ) → request_verdict t asked len ≡ Ok tt → Accepted t len
  accepted len e =
      let a = checked_accepted (asked_verdict t asked) (not (ltb len 512)) no.ShortRoom e in
      let b = asked_accepted a.0 in
      record { held = b.held; no_need = b.no_need; long = ltb-false len 512 (not-true (ltb len 512) a.1) }
