-- The readings of links after any list of calls from fresh, on the plan: children in order, the parent, the neighbours in the walk; and the same of
-- the answers that the contracts settle (`..-told`), the ids of `children_of` read back from its room.
use Rattle.std.specs.Prelude.{None, Some, Option, Ok}
use mathlib.Core.Path.{◌≡◌, refl, ap, ap₂, ◌∙◌}
use mathlib.Core.Bool.{true, cond}
use mathlib.Core.List.{List, [], ◌∷◌, map}
use Prim.Native.Nat.{ℕ}
use lib.Dec.{ltb}
use lib.ListN.{length}
use Rattle.index_types.specs.declared.NodeId.{NodeId}
use Rattle.link_forest.specs.Forest.{has, above, children}
use Rattle.link_forest.specs.Walk.{next, prev}
use Rattle.tree_state.specs.declared.Tree.{Tree}
use Rattle.tree_state.specs.Tree.{is_live, id_at}
use Rattle.tree_steps.specs.Readings.{nearest, parent_of, children_of, next_of, prev_of, children_verdict}
use Rattle.tree_laws.proofs.Ground.{Linked, live_has}
use Rattle.tree_links.proofs.Walk.{next_is, prev_is, parent_is, children_are}
use Rattle.plan.specs.Plan.{Plan, id_of}
use Rattle.plan.specs.Calls as call
use Rattle.plan.specs.Calls.{Call, accept, ◌else◌then◌, room_for_ids}
use Rattle.plan.specs.Demand.{answer_if, listed}
use Rattle.tree_readings.specs.Answers as reads
use Rattle.tree_run.specs.Told.{listing_told}
use Rattle.agreement_calls.proofs.Verdicts.{children_reading_refused}
use Rattle.tree_run.proofs.Verdicts.{listing_is}
use Rattle.demand3.proofs.Theorem.{answer_with}
use Rattle.demand3.proofs.Soundness.{meets_after}
use Rattle.demand3.specs.Claims.{after}
use Rattle.demand3.proofs.Readings.{node_there, plan_after, Answered, accepted}

-- the first of a list, or none
abbrev pub first_of : Plan → List ℕ → Option NodeId
first_of p [] = None
first_of p (x ∷ xs) = Some (id_of p x)

-- a node of the plan; none for 256
abbrev pub node_on : Plan → ℕ → Option NodeId
node_on p y = cond (ltb y 256) (Some (id_of p y)) None

module _ (calls : List Call) where
  abbrev t : Tree
  t = after calls

  abbrev p : Plan
  p = plan_after calls

  abbrev linked : Linked t p.links
  linked = (meets_after calls).known.same.links

  same_id_lem : (y : ℕ) → id_at t y ≡ id_of p y
  same_id_lem y = ap (λ (g : ℕ). record { 0 = y; 1 = g }) ((meets_after calls).known.same.generation y)

  same_ids : (l : List ℕ) → map (id_at t) l ≡ map (id_of p) l
  same_ids [] = refl
  same_ids (y ∷ l) = ap₂ ◌∷◌ (same_id_lem y) (same_ids l)

  same_first : (l : List ℕ) → nearest t l ≡ first_of p l
  same_first [] = refl
  same_first (y ∷ l) = ap Some (same_id_lem y)

  module _ (x : ℕ) (there : has x p.links ≡ true) where
    is_live_lem : is_live t x ≡ true
    is_live_lem = live_has t p.links linked x ∙ there

    pub children_after : children_of t x ≡ map (id_of p) (children x p.links)
    children_after = children_are t p.links linked x is_live_lem ∙ same_ids (children x p.links)

    pub parent_after : parent_of t x ≡ first_of p (above x p.links)
    parent_after = parent_is t p.links linked x is_live_lem ∙ same_first (above x p.links)

    pub next_after : next_of t x ≡ node_on p (next 256 p.links x)
    next_after =
        let y = next 256 p.links x in
        next_is t p.links linked x is_live_lem ∙ ap (λ (i : NodeId). cond (ltb y 256) (Some i) None) (same_id_lem y)

    pub prev_after : prev_of t x ≡ node_on p (prev 256 p.links x)
    prev_after =
        let y = prev 256 p.links x in
        prev_is t p.links linked x is_live_lem ∙ ap (λ (i : NodeId). cond (ltb y 256) (Some i) None) (same_id_lem y)

  -- what `children_of` tells: refused as the plan refuses it, or the ids of the plan's children, read back from the room after the call
  pub children_told_lem : (i : NodeId) (room : List ℕ)
      → listing_told (reads.children_call t i (length room)) (reads.children_room t i room)
      ≡ answer_if (call.refusal p (call.read (call.children_of i room))) (listed (map (id_of p) (children i.0 p.links)))
  unfolding call.refusal
  children_told_lem i room =
      let v = children_verdict t i (length room) in
      listing_is v (children_of t i.0) room
      ∙ answer_with v (call.refusal p (call.read (call.children_of i room))) (listed (children_of t i.0)) (listed (map (id_of p) (children i.0 p.links)))
      (children_reading_refused t p (meets_after calls).known i room) (λ e. ap listed (children_after i.0 (node_there p i (room_for_ids (length room) else 8 then accept) e)))

  module _ (i : NodeId) where
    pub parent_told : Answered calls (call.parent_of i) → reads.parent_call t i ≡ Ok (first_of p (above i.0 p.links))
    unfolding call.refusal
    parent_told h = rw (accepted calls (call.parent_of i) h, parent_after i.0 (node_there p i accept h))

    pub next_told : Answered calls (call.next_depth_first i) → reads.next_call t i ≡ Ok (node_on p (next 256 p.links i.0))
    unfolding call.refusal
    next_told h = rw (accepted calls (call.next_depth_first i) h, next_after i.0 (node_there p i accept h))

    pub prev_told : Answered calls (call.prev_depth_first i) → reads.prev_call t i ≡ Ok (node_on p (prev 256 p.links i.0))
    unfolding call.refusal
    prev_told h = rw (accepted calls (call.prev_depth_first i) h, prev_after i.0 (node_there p i accept h))
