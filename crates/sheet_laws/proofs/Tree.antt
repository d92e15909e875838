-- On the box tree every call of a good sheet is accepted, by demand 3; and each tap after them answers the plan's definition on the redacted plan.
use Rattle.std.specs.Prelude.{Ok}
use Prim.Native.Nat.{ℕ, suc, ◌<◌}
use mathlib.Core.Path.{◌≡◌, refl, sym, ap, ◌∙◌}
use mathlib.Core.Bool.{true}
use mathlib.Core.List.{List, [], ◌∷◌, ◌++◌}
use lib.Ieee.{nan}
use lib.ListN.{length, take, get_or, replicate}
use Rattle.geometry.specs.declared.point.Point.{Point}
use Rattle.tree_types.specs.declared.NodeFlags.{NodeFlags}
use Rattle.tree_types.specs.Local.{known}
use Rattle.tree_state.specs.Tree.{fresh_tree, Verdict}
use Rattle.tree_state.specs.Sound.{sound_tree}
use Rattle.tree_steps.specs.Requests as request
use Rattle.tree_steps.specs.Setters as set
use Rattle.tree_run.specs.Run as tree
use Rattle.agreement_calls.proofs.requests.Tap.{tap_of}
use Rattle.plan.specs.Plan.{empty}
use Rattle.plan.specs.Afresh as afresh
use Rattle.plan.specs.Calls as call
use Rattle.plan.specs.Calls.{Call}
use Rattle.plan.specs.Demand as demand
use Rattle.plan.specs.Demand.{run, outcomes}
use Rattle.tree_run.proofs.Verdicts.{verdict, accepted, answer_if, step_is, answer_is}
use Rattle.demand3.proofs.Theorem.{meets_fresh, run_meets, refused_same, zero_accepted, demand_3}
use Rattle.demand3.proofs.Soundness.{sound_from_fresh}
use Rattle.sheet_format.specs.Sheet.{Sheet, place_of}
use Rattle.sheet_calls.specs.Calls.{insert_of, inserts_from, room, calls_of, handed_out}
use Rattle.sheet_calls.specs.Answers.{plan_of}
use Rattle.sheet_calls.specs.Good.{Good}
use Rattle.sheet_calls.proofs.Inserts.{next_accepted, next_calls, all_calls, run_append, sheet_outcomes, request_accepted}
use Rattle.sheet_calls.proofs.Inserts as plan
use Rattle.sheet_laws.specs.Built.{tree_up_to, tree_of}

-- ---- accepted on the plan, accepted on the tree

module _ (calls : List Call) (c : Call) where
  -- after any calls from fresh
  pub accepted_too : call.refusal (run call.step empty calls) c ≡ 0 → verdict (run tree.step fresh_tree calls) c ≡ Ok tt
  accepted_too h =
      let t = run tree.step fresh_tree calls in
      let p = run call.step empty calls in
      zero_accepted (verdict t c) (refused_same t p (run_meets calls fresh_tree empty meets_fresh).known c ∙ h)

-- ---- a good sheet's inserts

pub fresh_start : (s : Sheet) → tree_up_to s 0 ≡ fresh_tree
unfolding tree_up_to inserts_from run
fresh_start s = refl

pub sound_up_to : (s : Sheet) (j : ℕ) → sound_tree (tree_up_to s j) ≡ true
unfolding tree_up_to
sound_up_to s j = sound_from_fresh (inserts_from s.clips 1 (take j s.places))

module _ (s : Sheet) (g : Good s) where
  -- the insert of place j + 1
  abbrev pub next_call : ℕ → Call
  next_call j = insert_of s.clips (suc j) (place_of (get_or s.places j []))

  pub insert_accepted : (j : ℕ) → j < length s.places → verdict (tree_up_to s j) (next_call j) ≡ Ok tt
  unfolding tree_up_to
  insert_accepted j lt = accepted_too (inserts_from s.clips 1 (take j s.places)) (next_call j) (next_accepted s g j lt)

  pub insert_next : (j : ℕ) → j < length s.places → tree_up_to s (suc j) ≡ accepted (tree_up_to s j) (next_call j)
  unfolding tree_up_to run
  insert_next j lt =
      ap (run tree.step fresh_tree) (next_calls s g j lt)
      ∙ run_append tree.step fresh_tree (inserts_from s.clips 1 (take j s.places)) (next_call j ∷ [])
      ∙ step_is (tree_up_to s j) (next_call j)
      ∙ ap (λ (v : Verdict). set.tree_if v (accepted (tree_up_to s j) (next_call j)) (tree_up_to s j)) (insert_accepted j lt)

  pub commit_accepted : verdict (tree_up_to s (length s.places)) (call.commit room) ≡ Ok tt
  unfolding tree_up_to
  commit_accepted =
      let calls = inserts_from s.clips 1 (take (length s.places) s.places) in
      accepted_too calls (call.commit room) (plan.commit_accepted (run call.step empty calls))

  pub commit_last : tree_of s ≡ accepted (tree_up_to s (length s.places)) (call.commit room)
  unfolding tree_up_to tree_of run
  commit_last =
      let n = length s.places in
      ap (run tree.step fresh_tree) (all_calls s g)
      ∙ run_append tree.step fresh_tree (inserts_from s.clips 1 (take n s.places)) (call.commit room ∷ [])
      ∙ step_is (tree_up_to s n) (call.commit room)
      ∙ ap (λ (v : Verdict). set.tree_if v (accepted (tree_up_to s n) (call.commit room)) (tree_up_to s n)) commit_accepted

  -- every call is accepted, and place k is the node (k − 1, 1)
  pub tree_outcomes : outcomes tree.step tree.outcome fresh_tree (calls_of s) ≡ handed_out 0 (length s.places) ++ record { refused = 0; told = call.nothing } ∷ []
  tree_outcomes = demand_3.alike (calls_of s) ∙ sheet_outcomes s g

-- ---- taps

tapped_same : {a b : afresh.Tap} → demand.tapped a ≡ demand.tapped b → a ≡ b
tapped_same e = cc

module _ (s : Sheet) (asked : NodeFlags) (h : known asked ≡ true) where
  -- room for 256 ids
  abbrev ids : List ℕ
  ids = replicate 512 0

  pub tap_accepted : request.request_verdict (tree_of s) asked 512 ≡ Ok tt
  unfolding tree_of verdict call.refusal plan_of
  tap_accepted = accepted_too (calls_of s) (call.request (call.hit_test_point (record { x = nan; y = nan })) asked ids) (request_accepted s asked h)

  -- the tree's answer is the definition on the redacted plan
  pub tap_answered : (pt : Point) → tree.answer (tree_of s) asked ids (call.hit_test_point pt) ≡ demand.tapped (afresh.tap (afresh.redact asked (plan_of s)) asked pt)
  unfolding tree_of demand.answer plan_of
  tap_answered pt =
      demand_3.answered (calls_of s) asked ids (call.hit_test_point pt)
      ∙ ap (λ (n : ℕ). demand.answer_if n (demand.tapped (afresh.tap (afresh.redact asked (plan_of s)) asked pt))) (request_accepted s asked h)

  pub tap_found : (pt : Point) → tap_of (tree_of s) (request.hit_node (tree_of s) asked pt) ≡ afresh.tap (afresh.redact asked (plan_of s)) asked pt
  tap_found pt =
      let found = demand.tapped (tap_of (tree_of s) (request.hit_node (tree_of s) asked pt)) in
      let answered = answer_is (tree_of s) asked ids (call.hit_test_point pt) ∙ ap (λ (v : Verdict). answer_if v found) tap_accepted in
      tapped_same (sym answered ∙ tap_answered pt)
