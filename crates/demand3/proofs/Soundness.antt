-- Soundness over any list of calls: every call keeps it, whatever the tree was made of; from fresh no call is refused by 1; and what a commit
-- leaves.
use Rattle.std.specs.Prelude.{Ok}
use mathlib.Core.Path.{◌≡◌, sym, ap, ◌∙◌}
use mathlib.Core.Bool.{true, false}
use mathlib.Core.List.{List, [], ◌∷◌}
use Prim.Native.Nat.{ℕ, ◌≤◌, ◌<◌}
use native.Mathlib.Omega.{arith}
use native.Mathlib.Decide.{ℕ_discrete}
use borrow.Author.Tests.{ne_eqb, eq-eqb, lt-leb}
use lib.ListN.{length, get_or, take}
use Rattle.index_entries.proofs.Finding.{slot_unused}
use Rattle.index_state.specs.Index as index
use Rattle.tree_state.specs.declared.Tree.{Tree}
use Rattle.tree_state.specs.Tree.{fresh_tree, committed_at}
use Rattle.tree_state.specs.Sound.{SoundTree, sound_tree}
use Rattle.tree_sound.proofs.Exact.{decides}
use Rattle.tree_steps.specs.Commit.{visits_of, rework_all, begun, commit_tree}
use Rattle.tree_laws.proofs.Whole.{sized, whole_fresh}
use Rattle.tree_state.specs.Whole.{Whole}
use Rattle.tree_rework.specs.preconditions.Fits.{slot_at}
use Rattle.tree_invariant.proofs.calls.Setters as setters
use Rattle.tree_invariant.proofs.calls.Insert.{keep_insert}
use Rattle.tree_invariant.proofs.calls.Reparent.{keep_reparent}
use Rattle.tree_invariant.proofs.remove.Keep.{keep_remove}
use Rattle.tree_invariant.proofs.commit.Keep.{ready, few, keep_commit}
use Rattle.tree_invariant.proofs.commit.After.{after_commit}
use Rattle.tree_invariant.specs.commit.Calm.{Calm}
use Rattle.agreement_calls.proofs.Fresh.{sound_fresh}
use Rattle.agreement.specs.Afresh.{Afresh}
use Rattle.agreement.proofs.worlds.Committed as committed
use Rattle.agreement_calls.proofs.commit.Visited.{visited_linked}
use Rattle.tree_run.specs.Run as tree
use Rattle.plan.specs.Plan.{Plan, empty}
use Rattle.plan.specs.Calls as call
use Rattle.plan.specs.Calls.{Call, Reading, Conditions, accept, ◌else◌then◌, lowest}
use Rattle.plan.specs.Demand.{run}
use Rattle.tree_run.proofs.Verdicts.{verdict, accepted, step_is}
use Rattle.demand3.specs.Claims.{Keeps, after}
use Rattle.demand3.proofs.Theorem.{Meets, run_meets, meets_fresh, outcome_same}

-- ---- every call keeps soundness, of every sound tree

accepted_keeps : (t : Tree) → Whole t → SoundTree t → (c : Call) → verdict t c ≡ Ok tt → Keeps (accepted t c)
unfolding verdict accepted
accepted_keeps t w S (call.insert o v) e = keep_insert t o v w S e
accepted_keeps t w S (call.remove i) e = keep_remove t i w S e
accepted_keeps t w S (call.reparent i o) e = keep_reparent t i o w S e
accepted_keeps t w S (call.set_local_transform i a) e = setters.keep_set_transform t i a w S e
accepted_keeps t w S (call.set_local_clip i c) e = setters.keep_set_clip t i c w S e
accepted_keeps t w S (call.set_local_bounds i r) e = setters.keep_set_bounds t i r w S e
accepted_keeps t w S (call.set_hit_slop i s) e = setters.keep_set_slop t i s w S e
accepted_keeps t w S (call.set_z_index i z) e = setters.keep_set_level t i z w S e
accepted_keeps t w S (call.set_flags i f) e = setters.keep_set_flags t i f w S e
accepted_keeps t w S (call.commit room) e = keep_commit t w S
accepted_keeps t w S (call.read r) e = (w, S)
accepted_keeps t w S (call.request q asked room) e = (w, S)

pub step_keeps : (t : Tree) (c : Call) → Whole t → SoundTree t → Keeps (tree.step t c)
step_keeps t c w S = rw (step_is t c) (setters.keep_if (verdict t c) (accepted t c) t (accepted_keeps t w S c) (w, S))

pub run_keeps : (calls : List Call) (t : Tree) → Whole t → SoundTree t → Keeps (run tree.step t calls)
unfolding run
run_keeps [] t w S = (w, S)
run_keeps (c ∷ cs) t w S = let k = step_keeps t c w S in run_keeps cs (tree.step t c) k.0 k.1

-- ---- from fresh

pub keeps_after : (calls : List Call) → Keeps (after calls)
keeps_after calls = run_keeps calls fresh_tree whole_fresh sound_fresh

pub sound_from_fresh : (calls : List Call) → sound_tree (after calls) ≡ true
sound_from_fresh calls = let k = keeps_after calls in (decides (after calls) (sized (after calls) k.0)).1 k.1

-- the plan has no condition under 1
Not1 : Conditions → Type 0
Not1 accept = Unit {0}
Not1 (b else n then k) = (n ≡ 1 → ⊥) × Not1 k

not_1 : (k : Conditions) → Not1 k → lowest k ≡ 1 → ⊥
unfolding Not1 lowest
not_1 accept h e = omega arith
not_1 (true else n then k) h e = not_1 k h.1 e
not_1 (false else n then k) h e = h.0 e

reading_not_1 : (p : Plan) (r : Reading) → Not1 (call.conditions_of_reading p r)
unfolding Not1
reading_not_1 p call.needs_commit = tt
reading_not_1 p (call.is_alive i) = tt
reading_not_1 p (call.local_transform i) = ((λ e. omega arith), tt)
reading_not_1 p (call.local_clip i) = ((λ e. omega arith), tt)
reading_not_1 p (call.local_bounds i) = ((λ e. omega arith), tt)
reading_not_1 p (call.hit_slop i) = ((λ e. omega arith), tt)
reading_not_1 p (call.z_index i) = ((λ e. omega arith), tt)
reading_not_1 p (call.flags i) = ((λ e. omega arith), tt)
reading_not_1 p (call.parent_of i) = ((λ e. omega arith), tt)
reading_not_1 p (call.children_of i room) = ((λ e. omega arith), ((λ e. omega arith), tt))
reading_not_1 p (call.next_depth_first i) = ((λ e. omega arith), tt)
reading_not_1 p (call.prev_depth_first i) = ((λ e. omega arith), tt)
reading_not_1 p (call.world_transform i) = ((λ e. omega arith), ((λ e. omega arith), tt))
reading_not_1 p (call.world_bounds i) = ((λ e. omega arith), ((λ e. omega arith), tt))
reading_not_1 p (call.world_hit_bounds i) = ((λ e. omega arith), ((λ e. omega arith), tt))

call_not_1 : (p : Plan) (c : Call) → Not1 (call.conditions p c)
unfolding Not1
call_not_1 p (call.insert o v) = ((λ e. omega arith), ((λ e. omega arith), ((λ e. omega arith), ((λ e. omega arith), tt))))
call_not_1 p (call.remove i) = ((λ e. omega arith), tt)
call_not_1 p (call.reparent i o) = ((λ e. omega arith), ((λ e. omega arith), ((λ e. omega arith), tt)))
call_not_1 p (call.set_local_transform i a) = ((λ e. omega arith), ((λ e. omega arith), tt))
call_not_1 p (call.set_local_clip i c) = ((λ e. omega arith), ((λ e. omega arith), tt))
call_not_1 p (call.set_local_bounds i r) = ((λ e. omega arith), ((λ e. omega arith), tt))
call_not_1 p (call.set_hit_slop i s) = ((λ e. omega arith), ((λ e. omega arith), tt))
call_not_1 p (call.set_z_index i z) = ((λ e. omega arith), tt)
call_not_1 p (call.set_flags i f) = ((λ e. omega arith), ((λ e. omega arith), tt))
call_not_1 p (call.commit room) = ((λ e. omega arith), tt)
call_not_1 p (call.read r) = reading_not_1 p r
call_not_1 p (call.request q asked room) = ((λ e. omega arith), ((λ e. omega arith), ((λ e. omega arith), tt)))

pub meets_after : (calls : List Call) → Meets (after calls) (run call.step empty calls)
meets_after calls = run_meets calls fresh_tree empty meets_fresh

-- "Calls from fresh never meet 1"
pub never_1 : (calls : List Call) (c : Call) → (tree.outcome (after calls) c).refused ≡ 1 → ⊥
unfolding call.outcome call.refusal
never_1 calls c e =
    let p = run call.step empty calls in
    not_1 (call.conditions p c) (call_not_1 p c) (sym (ap (λ (o : call.Outcome). o.refused) (outcome_same (after calls) p (meets_after calls).known c)) ∙ e)

-- ---- a commit, of every sound tree

-- at most 512 rectangles
pub damage_fits : (t : Tree) → Keeps t → length (commit_tree t).damage ≤ 512
damage_fits t k = few t k.0 k.1

-- the index is never full where a node lacks an entry: no commit meets the index's 11
pub never_full : (t : Tree) → Keeps t → (j : ℕ) → j < length (visits_of t) → let k = (rework_all (begun t) (take j (visits_of t))).tree in
    committed_at k (slot_at k (get_or (visits_of t) j 0)) ≡ false → index.full k.index ≡ false
never_full t K j h new =
    let ix = (rework_all (begun t) (take j (visits_of t))).tree.index in
    let low = (ready t K.0 K.1 j h).slot_fits new in
    elim (ℕ_discrete ix.frees 0) [
      | yes z ↦ rw (eq-eqb ix.frees 0 z) (lt-leb 512 ix.used (omega (arith, low, slot_unused ix.entries ix.free ix.frees ix.used z)))
      | no n ↦ rw (ne_eqb ix.frees 0 n)
    ]

-- "An accepted commit leaves no mark, nothing that counts as changed, no removed entry and no pending rectangle"
pub commit_calm : (t : Tree) → Keeps t → Calm (commit_tree t).tree
commit_calm t k = after_commit t k.0 k.1

-- and from fresh every stored world record is the one worked out afresh
pub commit_afresh : (calls : List Call) → Afresh (commit_tree (after calls)).tree (run call.step empty calls)
commit_afresh calls =
    let M = meets_after calls in
    let p = run call.step empty calls in
    committed.commit_afresh (after calls) p M.known M.entered (visited_linked (after calls) p.links M.known.same.links)
