-- Of lent room the plan hears the length alone: whatever stands in rooms of one length, a call leaves the same plan and has the same outcome.
use Prim.Native.Nat.{ℕ, zero, suc}
use mathlib.Core.Path.{◌≡◌, refl}
use mathlib.Core.List.{List}
use lib.Ieee.{Float}
use lib.ListN.{length}
use Rattle.index_types.specs.declared.NodeId.{NodeId}
use Rattle.tree_types.specs.declared.NodeFlags.{NodeFlags}
use Rattle.plan.specs.Plan.{Plan}
use Rattle.plan.specs.Calls as call
use Rattle.plan.specs.Calls.{Call, Request, Outcome, refusal, accepted, step_if, step, told, told_if, outcome}

abbrev pub HeardAlike : Plan → Call → Call → Type 0
HeardAlike p c d = (step p c ≡ step p d) × (outcome p c ≡ outcome p d)

module _ (p : Plan) where
  -- calls that are refused alike, and accepted leave and tell the same
  heard : (c d : Call) → refusal p c ≡ refusal p d → accepted p c ≡ accepted p d → told p c ≡ told p d → HeardAlike p c d
  unfolding step outcome
  heard c d e a t = (rw e (left (refusal p d)), rw e (tells (refusal p d)))
    where
      left : (n : ℕ) → step_if n p c ≡ step_if n p d
      left zero = a
      left (suc n) = refl

      tells : (n : ℕ) → ◌≡◌ {A = Outcome} (record { refused = n; told = told_if n p c }) (record { refused = n; told = told_if n p d })
      tells zero = rw t
      tells (suc n) = refl

  pub commit_length : (a b : List Float) → length a ≡ length b → HeardAlike p (call.commit a) (call.commit b)
  unfolding refusal accepted
  commit_length a b e = heard (call.commit a) (call.commit b) (rw e) refl refl

  pub children_length : (i : NodeId) (a b : List ℕ) → length a ≡ length b → HeardAlike p (call.read (call.children_of i a)) (call.read (call.children_of i b))
  unfolding refusal accepted
  children_length i a b e = heard (call.read (call.children_of i a)) (call.read (call.children_of i b)) (rw e) refl refl

  pub request_length : (q : Request) (asked : NodeFlags) (a b : List ℕ) → length a ≡ length b → HeardAlike p (call.request q asked a) (call.request q asked b)
  unfolding refusal accepted
  request_length q asked a b e = heard (call.request q asked a) (call.request q asked b) (rw e) refl refl
