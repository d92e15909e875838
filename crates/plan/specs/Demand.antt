-- Demand 3 as a statement, for any tree that calls are made on, over every list of calls from fresh: each call is refused exactly where the plan
-- refuses it, with the same number, and tells the same; and every request after them is refused where the plan refuses it, and else answers what
-- the definition gives on the plan, redacted. Of which tree this is said is settled by `fresh`, `step`, `outcome` and `answers`: tree_run
-- (specs/Run.antt) reads them off what the contracts of the public functions cite, and demand3 (proofs/Theorem.antt) proves it of those.
use Rattle.std.specs.Prelude.{ℕ, zero, suc, ◌≡◌, List, [], ◌∷◌, length}
use Rattle.index_types.specs.declared.NodeId.{NodeId}
use Rattle.tree_types.specs.declared.NodeFlags.{NodeFlags}
use Rattle.plan.specs.Plan.{Plan, empty}
use Rattle.plan.specs.Afresh.{Tap, tap, list_rect, list_point, redact}
use Rattle.plan.specs.Calls as call
use Rattle.plan.specs.Calls.{Call, Request, Outcome, lowest, conditions_of_request}

-- ---- lists of calls, each given the state that the call before left

unfoldable pub run : {S : Type 0} → (S → Call → S) → S → List Call → S
run step s [] = s
run step s (c ∷ cs) = run step (step s c) cs

unfoldable pub outcomes : {S : Type 0} → (S → Call → S) → (S → Call → Outcome) → S → List Call → List Outcome
outcomes step outcome s [] = []
outcomes step outcome s (c ∷ cs) = outcome s c ∷ outcomes step outcome (step s c) cs

-- ---- requests: a refusal's number, what a tap finds, or the ids of a listing in order

pub data Answer : Type 0 where
  refused : ℕ → Answer
  tapped : Tap → Answer
  listed : List NodeId → Answer

abbrev pub defined : Plan → NodeFlags → Request → Answer
defined p asked (call.hit_test_point pt) = tapped (tap p asked pt)
defined p asked (call.intersect_rect r) = listed (list_rect p asked r)
defined p asked (call.containing_point pt) = listed (list_point p asked pt)

-- the refusal of that number, or at 0 what is found
abbrev pub answer_if : ℕ → Answer → Answer
answer_if zero found = found
answer_if (suc n) found = refused (suc n)

-- "refusals are judged on it", the plan; what is found, on the plan redacted
unfoldable pub answer : Plan → NodeFlags → List ℕ → Request → Answer
answer p asked room q = answer_if (lowest (conditions_of_request p asked (length room))) (defined (redact asked p) asked q)

pub record Demand3 (Tree : Type 0) (fresh : Tree) (step : Tree → Call → Tree) (outcome : Tree → Call → Outcome) (answers : Tree → NodeFlags → List ℕ → Request → Answer) : Type 0 where
  -- of the whole list: each call's number, or 0, and what it tells, readings and requests among them
  pub alike : (calls : List Call) → outcomes step outcome fresh calls ≡ outcomes call.step call.outcome empty calls
  -- and of any request after it, for any flags and with any room: its number, or what is found
  pub answered : (calls : List Call) (asked : NodeFlags) (room : List ℕ) (q : Request)
      → answers (run step fresh calls) asked room q ≡ answer (run call.step empty calls) asked room q
