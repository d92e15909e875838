-- What the readings answer after any list of calls from fresh, as their contracts say it: where the plan does not refuse a reading, the plan's
-- liveness, need and local records, and world records as worked out afresh from the plan. Where it does, demand 3 has the number; of links, see Links.
use Rattle.std.specs.Prelude.{Ok}
use mathlib.Core.Path.{◌≡◌, refl, sym, ap, ◌∙◌}
use mathlib.Core.Bool.{Bool, true, false, not, cond}
use mathlib.Core.List.{List}
use Prim.Native.Nat.{ℕ}
use native.Mathlib.Omega.{arith}
use lib.Dec.{eqb}
use Rattle.numbers.proofs.Bools.{and_left}
use Rattle.counting.proofs.Conditions.{first_holds}
use Rattle.index_types.specs.declared.NodeId.{NodeId}
use Rattle.tree_types.specs.declared.LocalNode.{LocalNode}
use Rattle.tree_worlds.specs.declared.Placed.{Placed}
use Rattle.link_forest.specs.Forest.{has}
use Rattle.tree_state.specs.declared.Tree.{Tree}
use Rattle.tree_state.specs.Tree as tree
use Rattle.tree_steps.specs.Setters.{held}
use Rattle.tree_readings.specs.Answers as reads
use Rattle.agreement_calls.proofs.Tests.{live_same, needs_same, held_accepted}
use Rattle.agreement.proofs.worlds.Committed.{calm_right}
use Rattle.agreement.specs.Afresh.{Afresh}
use Rattle.plan.specs.Plan as plan
use Rattle.plan.specs.Plan.{Plan}
use Rattle.plan.specs.Afresh.{world_place, world_bounds, world_hit_bounds}
use Rattle.plan.specs.Calls as call
use Rattle.plan.specs.Calls.{Call, Reading, Conditions, accept, ◌else◌then◌, lowest}
use Rattle.plan.specs.Demand.{run}
use Rattle.tree_run.proofs.Verdicts.{reading_verdict, verdict}
use Rattle.demand3.proofs.Theorem.{refused_same, zero_accepted}
use Rattle.demand3.proofs.Soundness.{meets_after}
use Rattle.demand3.specs.Claims.{after}

-- ---- what a plan that does not refuse has tested

-- not refused by 2: the node is there
pub node_there : (p : Plan) (i : NodeId) (rest : Conditions) → lowest (plan.live p i else 2 then rest) ≡ 0 → has i.0 p.links ≡ true
node_there p i rest e = and_left (has i.0 p.links) (eqb (p.slots.generation i.0) i.1) (first_holds (plan.live p i) 2 rest (λ z. omega arith) e).0

-- nor by 7: no commit is needed
not_needed : (p : Plan) (i : NodeId) → lowest (call.of_world p i) ≡ 0 → plan.needs_commit p ≡ false
not_needed p i e =
    let rest = not (plan.needs_commit p) else 7 then accept in
    go (plan.needs_commit p) (first_holds (not (plan.needs_commit p)) 7 accept (λ z. omega arith) (first_holds (plan.live p i) 2 rest (λ z. omega arith) e).1).0
  where
    go : (b : Bool) → not b ≡ true → b ≡ false
    go true q = absurd (let z : ◌≡◌ {A = ℕ} 0 1 = ap (λ (b : Bool). cond b 0 1) (sym q) in omega arith)
    go false q = refl

module _ (calls : List Call) where
  abbrev pub plan_after : Plan
  plan_after = run call.step plan.empty calls

  abbrev t : Tree
  t = after calls

  abbrev p : Plan
  p = plan_after

  -- ---- of the tree
  whole : held t ≡ Ok tt
  whole = held_accepted t p (meets_after calls).known

  pub alive : (i : NodeId) → reads.is_alive_call t i ≡ Ok (plan.live p i)
  alive i = rw (whole, live_same t p (meets_after calls).known i)

  pub need : reads.needs_commit_call t ≡ Ok (plan.needs_commit p)
  need = rw (whole, needs_same t p (meets_after calls).known)

  -- ---- of a node, where the plan does not refuse the reading
  abbrev pub Answered : Reading → Type 0
  Answered r = call.refusal p (call.read r) ≡ 0

  pub accepted : (r : Reading) → Answered r → reading_verdict t r ≡ Ok tt
  unfolding verdict
  accepted r h = zero_accepted (reading_verdict t r) (refused_same t p (meets_after calls).known (call.read r) ∙ h)

  local : (x : ℕ) → has x p.links ≡ true → tree.local_at t x ≡ p.local x
  local x h = (meets_after calls).known.same.local x h

  module _ (i : NodeId) where
    abbrev stored : LocalNode
    stored = p.local i.0

    pub local_transform : Answered (call.local_transform i) → reads.local_transform_call t i ≡ Ok stored.local_transform
    unfolding call.refusal
    local_transform h = rw (accepted (call.local_transform i) h, local i.0 (node_there p i accept h))

    pub local_clip : Answered (call.local_clip i) → reads.local_clip_call t i ≡ Ok stored.local_clip
    unfolding call.refusal
    local_clip h = rw (accepted (call.local_clip i) h, local i.0 (node_there p i accept h))

    pub local_bounds : Answered (call.local_bounds i) → reads.local_bounds_call t i ≡ Ok stored.local_bounds
    unfolding call.refusal
    local_bounds h = rw (accepted (call.local_bounds i) h, local i.0 (node_there p i accept h))

    pub hit_slop : Answered (call.hit_slop i) → reads.hit_slop_call t i ≡ Ok stored.hit_slop
    unfolding call.refusal
    hit_slop h = rw (accepted (call.hit_slop i) h, local i.0 (node_there p i accept h))

    pub z_index : Answered (call.z_index i) → reads.z_index_call t i ≡ Ok stored.z_index
    unfolding call.refusal
    z_index h = rw (accepted (call.z_index i) h, local i.0 (node_there p i accept h))

    pub flags_of : Answered (call.flags i) → reads.flags_call t i ≡ Ok stored.flags
    unfolding call.refusal
    flags_of h = rw (accepted (call.flags i) h, local i.0 (node_there p i accept h))

    -- ---- of a node's world record
    right : lowest (call.of_world p i) ≡ 0 → Afresh t p
    right h = calm_right t p (meets_after calls).known (needs_same t p (meets_after calls).known ∙ not_needed p i h)

    world_there : lowest (call.of_world p i) ≡ 0 → has i.0 p.links ≡ true
    world_there h = node_there p i (not (plan.needs_commit p) else 7 then accept) h

    pub world_transform : Answered (call.world_transform i) → reads.world_transform_call t i ≡ Ok (world_place p i.0).transform
    unfolding call.refusal
    world_transform h = rw (accepted (call.world_transform i) h) (ap (λ (w : Placed). Ok w.transform) ((right h).place i.0 (world_there h)))

    pub world_bounds_lem : Answered (call.world_bounds i) → reads.world_bounds_call t i ≡ Ok (world_bounds p i.0)
    unfolding call.refusal
    world_bounds_lem h = rw (accepted (call.world_bounds i) h, ((right h).boxes i.0 (world_there h)).bounds)

    pub world_hit_bounds_lem : Answered (call.world_hit_bounds i) → reads.world_hit_bounds_call t i ≡ Ok (world_hit_bounds p i.0)
    unfolding call.refusal
    world_hit_bounds_lem h = rw (accepted (call.world_hit_bounds i) h, ((right h).boxes i.0 (world_there h)).hit_bounds)
