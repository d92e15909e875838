-- Demand 3: over every list of calls from fresh, each call is refused exactly where the plan refuses it and tells the same, and every request after
-- them is refused where the plan refuses it, and else answers what the definition gives on the plan, redacted. The statement is `Demand3` (plan,
-- specs/Demand.antt); step, outcome and answer are those of tree_run (specs/Run.antt), read off what the contracts of the public functions cite.
use Rattle.std.specs.Prelude.{Ok, Err, Option}
use mathlib.Core.Path.{◌≡◌, refl, ap, ap₂, ◌∙◌}
use mathlib.Core.Bool.{Bool, true, false}
use mathlib.Core.List.{List, [], ◌∷◌}
use Prim.Native.Nat.{ℕ, zero, suc}
use native.Mathlib.Omega.{arith}
use lib.ListN.{length}
use Rattle.geometry.specs.Rectangle.{rect_eq, insets_eq}
use Rattle.geometry.specs.Transform.{affine_eq}
use Rattle.geometry_clips.specs.Clips.{constructed, clip_eq}
use Rattle.index_types.specs.declared.NodeId.{NodeId}
use Rattle.tree_types.specs.declared.NodeFlags.{NodeFlags}
use Rattle.tree_types.specs.declared.LocalNode.{LocalNode}
use Rattle.link_forest.specs.Forest.{has}
use Rattle.link_forest.proofs.Counting.{has_parts}
use Rattle.tree_state.specs.declared.Tree.{Tree}
use Rattle.tree_state.specs.declared.Refusal.{Refusal}
use Rattle.tree_state.specs.declared.Refusal.TheVariants as no
use Rattle.tree_state.specs.Tree.{fresh_tree, number_of, number_in, position_of, Verdict}
use Rattle.tree_steps.specs.Setters as set
use Rattle.tree_steps.specs.Structure as structure
use Rattle.tree_steps.specs.Requests as request
use Rattle.tree_run.specs.Run as tree
use Rattle.tree_run.proofs.Verdicts as by
use Rattle.tree_run.proofs.Verdicts.{verdict, accepted, told, step_is, outcome_is, answer_is}
use Rattle.plan.specs.Plan as plan
use Rattle.plan.specs.Plan.{Plan, empty}
use Rattle.plan.specs.Afresh as afresh
use Rattle.plan.specs.Calls as call
use Rattle.tree_types.specs.Local as local
use Rattle.plan.specs.Calls.{Call, Reading, Request}
use Rattle.plan.specs.Demand as demand
use Rattle.plan.specs.Demand.{Demand3, Answer, run, outcomes}
use Rattle.agreement.proofs.Same.{Known}
use Rattle.agreement_calls.proofs.Verdicts as refused
use Rattle.agreement_calls.proofs.Fresh.{known_fresh}
use Rattle.agreement_calls.proofs.Setters as setter
use Rattle.agreement_calls.proofs.Insert as insert
use Rattle.agreement_calls.proofs.Reparent as reparent
use Rattle.tree_invariant.proofs.remove.Agree.{same_remove}
use Rattle.agreement.proofs.worlds.Entries.{Entered}
use Rattle.agreement.proofs.worlds.Others as entered
use Rattle.agreement_calls.proofs.commit.Known.{commit_known, commit_entered}
use Rattle.agreement_calls.proofs.requests.Answers.{answered, accepted_same}

-- ---- what every call keeps

pub record Meets (t : Tree) (p : Plan) : Type 0 where
  pub known : Known t p
  pub entered : Entered t p.links

pub meets_fresh : Meets fresh_tree empty
meets_fresh = record { known = known_fresh; entered = entered.entered_fresh }

-- ---- refused alike

reading_same : (t : Tree) (p : Plan) → Known t p → (r : Reading) → number_in (by.reading_verdict t r) ≡ call.refusal p (call.read r)
reading_same t p K call.needs_commit = refused.reading_refused t p K call.needs_commit refl
reading_same t p K (call.is_alive i) = refused.reading_refused t p K (call.is_alive i) refl
reading_same t p K (call.local_transform i) = refused.node_reading_refused t p K (call.local_transform i) i refl
reading_same t p K (call.local_clip i) = refused.node_reading_refused t p K (call.local_clip i) i refl
reading_same t p K (call.local_bounds i) = refused.node_reading_refused t p K (call.local_bounds i) i refl
reading_same t p K (call.hit_slop i) = refused.node_reading_refused t p K (call.hit_slop i) i refl
reading_same t p K (call.z_index i) = refused.node_reading_refused t p K (call.z_index i) i refl
reading_same t p K (call.flags i) = refused.node_reading_refused t p K (call.flags i) i refl
reading_same t p K (call.parent_of i) = refused.node_reading_refused t p K (call.parent_of i) i refl
reading_same t p K (call.children_of i room) = refused.children_reading_refused t p K i room
reading_same t p K (call.next_depth_first i) = refused.node_reading_refused t p K (call.next_depth_first i) i refl
reading_same t p K (call.prev_depth_first i) = refused.node_reading_refused t p K (call.prev_depth_first i) i refl
reading_same t p K (call.world_transform i) = refused.world_reading_refused t p K (call.world_transform i) i refl
reading_same t p K (call.world_bounds i) = refused.world_reading_refused t p K (call.world_bounds i) i refl
reading_same t p K (call.world_hit_bounds i) = refused.world_reading_refused t p K (call.world_hit_bounds i) i refl

pub refused_same : (t : Tree) (p : Plan) → Known t p → (c : Call) → number_in (verdict t c) ≡ call.refusal p c
unfolding verdict
refused_same t p K (call.insert o v) = refused.insert_refused t p K o v
refused_same t p K (call.remove i) = refused.remove_refused t p K i
refused_same t p K (call.reparent i o) = refused.reparent_refused t p K i o
refused_same t p K (call.set_local_transform i a) = refused.transform_refused t p K i a
refused_same t p K (call.set_local_clip i c) = refused.clip_refused t p K i c
refused_same t p K (call.set_local_bounds i r) = refused.bounds_refused t p K i r
refused_same t p K (call.set_hit_slop i s) = refused.slop_refused t p K i s
refused_same t p K (call.set_z_index i z) = refused.level_refused t p K i z
refused_same t p K (call.set_flags i f) = refused.flags_refused t p K i f
refused_same t p K (call.commit room) = refused.commit_refused t p K room
refused_same t p K (call.read r) = reading_same t p K r
refused_same t p K (call.request q asked room) = refused.request_refused t p K q asked room

-- ---- an accepted call

-- what is there after a removal, an insert or a move was there before, but for the new node

pub removed_was : (p : Plan) (x : ℕ) → has x p.links ≡ true → (y : ℕ) → has y (plan.removed p x).links ≡ true → has y p.links ≡ true
unfolding plan.removed
removed_was p x h y e = has_parts y x p.links h ∙ rw e

pub moved_was : (t : Tree) (p : Plan) (K : Known t p) (i : NodeId) (o : Option NodeId) → structure.reparent_verdict t i o ≡ Ok tt
    → (y : ℕ) → has y (plan.moved p i.0 o).links ≡ true → has y p.links ≡ true
unfolding plan.moved
moved_was t p K i o e y h = reparent.was t p K i o e y h

pub inserted_was : (t : Tree) (p : Plan) (K : Known t p) (o : Option NodeId) (v : LocalNode) → structure.insert_verdict t o v ≡ Ok tt
    → (y : ℕ) → has y (call.accepted p (call.insert o v)).links ≡ true → (y ≡ structure.slot_of t.slots → ⊥) → has y p.links ≡ true
unfolding call.accepted plan.inserted
inserted_was t p K o v e y h n = insert.was t p K o v e y n (rw (refused.slot_same t p K) h)

-- a setter leaves the links
entered_set : (t : Tree) (b : Bool) (p : Plan) (x : ℕ) (v : LocalNode) (m : plan.Mark → plan.Mark) → Entered t p.links → Entered t (plan.set_unless b p x v m).links
entered_set t true p x v m E = E
entered_set t false p x v m E = E

accepted_meets : (t : Tree) (p : Plan) → Meets t p → (c : Call) → verdict t c ≡ Ok tt → Meets (accepted t c) (call.accepted p c)
unfolding verdict accepted call.accepted
accepted_meets t p M (call.insert o v) e =
    record {
      known = insert.insert_known t p M.known o v e;
      entered = entered.entered_insert t p.links (call.accepted p (call.insert o v)).links M.entered o v (inserted_was t p M.known o v e);
    }
accepted_meets t p M (call.remove i) e =
    record {
      known = same_remove t p i M.known e;
      entered =
          entered.entered_remove t p.links (plan.removed p i.0).links M.entered (position_of t i.0)
          (λ y h. removed_was p i.0 (setter.of_node_lem t p M.known i e) y h);
    }
accepted_meets t p M (call.reparent i o) e =
    record {
      known = reparent.reparent_known t p M.known i o e;
      entered = entered.entered_reparent t p.links (plan.moved p i.0 o).links M.entered i.0 o (moved_was t p M.known i o e);
    }
accepted_meets t p M (call.set_local_transform i a) e =
    let v = p.local i.0 in
    record {
      known = setter.transform_known t p M.known i a e;
      entered =
          entered_set (set.set_transform t i.0 a) (affine_eq v.local_transform a) p i.0 (local.with_transform a v) plan.mark_transform
          (entered.entered_transform t p.links M.entered i.0 a);
    }
accepted_meets t p M (call.set_local_clip i c) e =
    let v = p.local i.0 in
    record {
      known = setter.clip_known t p M.known i c e;
      entered =
          entered_set (set.set_clip t i.0 c) (clip_eq v.local_clip (constructed c)) p i.0 (local.with_clip (constructed c) v) plan.mark_clip
          (entered.entered_clip t p.links M.entered i.0 c);
    }
accepted_meets t p M (call.set_local_bounds i r) e =
    let v = p.local i.0 in
    record {
      known = setter.bounds_known t p M.known i r e;
      entered =
          entered_set (set.set_bounds t i.0 r) (rect_eq v.local_bounds r) p i.0 (local.with_bounds r v) plan.mark_alone
          (entered.entered_bounds t p.links M.entered i.0 r);
    }
accepted_meets t p M (call.set_hit_slop i s) e =
    let v = p.local i.0 in
    record {
      known = setter.slop_known t p M.known i s e;
      entered =
          entered_set (set.set_slop t i.0 s) (insets_eq v.hit_slop s) p i.0 (local.with_slop s v) plan.mark_alone
          (entered.entered_slop t p.links M.entered i.0 s);
    }
accepted_meets t p M (call.set_z_index i z) e =
    record { known = setter.level_known t p M.known i z e; entered = entered.entered_level t p.links M.entered i.0 z }
accepted_meets t p M (call.set_flags i f) e =
    record { known = setter.flags_known t p M.known i f e; entered = entered.entered_flags t p.links M.entered i.0 f }
accepted_meets t p M (call.commit room) e = record { known = commit_known t p M.known M.entered; entered = commit_entered t p M.known M.entered }
accepted_meets t p M (call.read r) e = M
accepted_meets t p M (call.request q asked room) e = M

-- ---- a call: its outcome, and what it leaves

pub some_number : (r : Refusal) → number_of r ≡ 0 → ⊥
unfolding number_of
some_number no.Unsound e = omega arith
some_number no.DeadNode e = omega arith
some_number no.DeadParent e = omega arith
some_number no.BelowItself e = omega arith
some_number no.NotFinite e = omega arith
some_number no.UnknownFlags e = omega arith
some_number no.NeedsCommit e = omega arith
some_number no.ShortRoom e = omega arith
some_number no.Full e = omega arith

pub zero_accepted : (v : Verdict) → number_in v ≡ 0 → v ≡ Ok tt
unfolding number_in
zero_accepted (Ok tt) e = refl
zero_accepted (Err r) e = absurd (some_number r e)

-- accepted on the tree where the plan refuses nothing, and refused by the same number
step_with : (v : Verdict) (n : ℕ) (t : Tree) (p : Plan) (c : Call) → number_in v ≡ n → Meets t p → (v ≡ Ok tt → Meets (accepted t c) (call.accepted p c))
    → Meets (set.tree_if v (accepted t c) t) (call.step_if n p c)
unfolding number_in
step_with (Ok tt) zero t p c e M done = done refl
step_with (Ok tt) (suc n) t p c e M done = absurd (omega arith)
step_with (Err r) zero t p c e M done = absurd (some_number r e)
step_with (Err r) (suc n) t p c e M done = M

pub step_meets : (t : Tree) (p : Plan) → Meets t p → (c : Call) → Meets (tree.step t c) (call.step p c)
unfolding call.step
step_meets t p M c = rw (step_is t c) (step_with (verdict t c) (call.refusal p c) t p c (refused_same t p M.known c) M (accepted_meets t p M c))

told_same : (t : Tree) (p : Plan) → Known t p → (c : Call) → told t c ≡ call.told p c
told_same t p K (call.insert o v) = ap call.id (refused.new_id_same t p K)
told_same t p K (call.remove i) = refl
told_same t p K (call.reparent i o) = refl
told_same t p K (call.set_local_transform i a) = refl
told_same t p K (call.set_local_clip i c) = refl
told_same t p K (call.set_local_bounds i r) = refl
told_same t p K (call.set_hit_slop i s) = refl
told_same t p K (call.set_z_index i z) = refl
told_same t p K (call.set_flags i f) = refl
told_same t p K (call.commit room) = refl
told_same t p K (call.read r) = refl
told_same t p K (call.request q asked room) = refl

outcome_with : (v : Verdict) (n : ℕ) (t : Tree) (p : Plan) (c : Call) → number_in v ≡ n → told t c ≡ call.told p c
    → by.outcome_if v (told t c) ≡ record { refused = n; told = call.told_if n p c }
unfolding number_in
outcome_with (Ok tt) zero t p c e h = rw h
outcome_with (Ok tt) (suc n) t p c e h = absurd (omega arith)
outcome_with (Err r) zero t p c e h = absurd (some_number r e)
outcome_with (Err r) (suc n) t p c e h = rw e

pub outcome_same : (t : Tree) (p : Plan) → Known t p → (c : Call) → tree.outcome t c ≡ call.outcome p c
unfolding call.outcome
outcome_same t p K c = outcome_is t c ∙ outcome_with (verdict t c) (call.refusal p c) t p c (refused_same t p K c) (told_same t p K c)

-- ---- a request

-- refused by the same number, or the same found
pub answer_with : (v : Verdict) (n : ℕ) (x y : Answer) → number_in v ≡ n → (n ≡ 0 → x ≡ y) → by.answer_if v x ≡ demand.answer_if n y
unfolding number_in
answer_with (Ok tt) zero x y e same = same refl
answer_with (Ok tt) (suc n) x y e same = absurd (omega arith)
answer_with (Err r) zero x y e same = absurd (some_number r e)
answer_with (Err r) (suc n) x y e same = ap demand.refused e

request_same : (t : Tree) (p : Plan) → Known t p → (asked : NodeFlags) (room : List ℕ) (q : Request) → tree.answer t asked room q ≡ demand.answer p asked room q
unfolding demand.answer call.refusal
request_same t p K asked room q =
    answer_is t asked room q
    ∙ answer_with (request.request_verdict t asked (length room)) (call.lowest (call.conditions_of_request p asked (length room))) (answered t asked q)
    (demand.defined (afresh.redact asked p) asked q) (refused.request_refused t p K q asked room) (accepted_same t p K asked (length room) q)

-- ---- every list of calls

pub run_meets : (calls : List Call) (t : Tree) (p : Plan) → Meets t p → Meets (run tree.step t calls) (run call.step p calls)
unfolding run
run_meets [] t p M = M
run_meets (c ∷ cs) t p M = run_meets cs (tree.step t c) (call.step p c) (step_meets t p M c)

run_alike : (calls : List Call) (t : Tree) (p : Plan) → Meets t p → outcomes tree.step tree.outcome t calls ≡ outcomes call.step call.outcome p calls
unfolding outcomes
run_alike [] t p M = refl
run_alike (c ∷ cs) t p M = ap₂ ◌∷◌ (outcome_same t p M.known c) (run_alike cs (tree.step t c) (call.step p c) (step_meets t p M c))

pub demand_3 : Demand3 Tree fresh_tree tree.step tree.outcome tree.answer
demand_3 =
    record {
      alike = λ calls. run_alike calls fresh_tree empty meets_fresh;
      answered = λ calls asked room q. request_same (run tree.step fresh_tree calls) (run call.step empty calls) (run_meets calls fresh_tree empty meets_fresh).known asked room q;
    }
