-- The three requests at once: what the tree finds is the definition on the plan, and so on the plan redacted.
use mathlib.Core.Path.{◌≡◌, refl, sym, ap, ◌∙◌}
use mathlib.Core.Bool.{Bool, true, false, not, cond}
use Prim.Native.Nat.{ℕ}
use native.Mathlib.Omega.{arith}
use lib.Dec.{ltb}
use Rattle.tree_types.specs.declared.NodeFlags.{NodeFlags}
use Rattle.tree_types.specs.Local.{known}
use Rattle.tree_state.specs.declared.Tree.{Tree}
use Rattle.tree_steps.specs.Requests.{hit_node, rect_nodes, point_nodes}
use Rattle.plan.specs.Plan.{Plan, needs_commit}
use Rattle.plan.specs.Afresh.{redact}
use Rattle.plan.specs.Calls as call
use Rattle.plan.specs.Calls.{Request, lowest, conditions_of_request}
use Rattle.plan.specs.Demand.{Answer, tapped, listed, defined}
use Rattle.plan.proofs.Redaction.{redacted_same}
use Rattle.agreement.proofs.Same.{Known}
use Rattle.agreement_calls.proofs.requests.Listing.{rect_same, point_same}
use Rattle.agreement_calls.proofs.requests.Tap.{tap_of, tap_same}

-- what the tree finds on a request that it accepts
abbrev pub answered : Tree → NodeFlags → Request → Answer
answered t asked (call.hit_test_point pt) = tapped (tap_of t (hit_node t asked pt))
answered t asked (call.intersect_rect r) = listed (rect_nodes t asked r)
answered t asked (call.containing_point pt) = listed (point_nodes t asked pt)

pub answered_same : (t : Tree) (p : Plan) → Known t p → needs_commit p ≡ false → (asked : NodeFlags) (q : Request) → answered t asked q ≡ defined p asked q
answered_same t p K Q asked (call.hit_test_point pt) = ap tapped (tap_same t p K Q asked pt)
answered_same t p K Q asked (call.intersect_rect r) = ap listed (rect_same t p K Q asked r)
answered_same t p K Q asked (call.containing_point pt) = ap listed (point_same t p K Q asked pt)

-- ---- an accepted request

-- no commit is needed
quiet_then : (p : Plan) (asked : NodeFlags) (len : ℕ) → lowest (conditions_of_request p asked len) ≡ 0 → needs_commit p ≡ false
unfolding lowest
quiet_then p asked len e = go (known asked) (needs_commit p) (not (ltb len 512)) e
  where
    go : (a b c : Bool) → ◌≡◌ {A = ℕ} (cond a (cond (not b) (cond c 0 8) 7) 6) 0 → b ≡ false
    go true false c e = refl
    go true true c e = absurd (omega arith)
    go false b c e = absurd (omega arith)

-- what an accepted request finds is the definition on the redacted plan
pub accepted_same : (t : Tree) (p : Plan) → Known t p → (asked : NodeFlags) (len : ℕ) (q : Request) → lowest (conditions_of_request p asked len) ≡ 0
    → answered t asked q ≡ defined (redact asked p) asked q
accepted_same t p K asked len q e = answered_same t p K (quiet_then p asked len e) asked q ∙ sym (redacted_same asked p q)
