-- All turns of a commit, one after the other.
use mathlib.Core.Path.{◌≡◌, refl}
use mathlib.Core.Bool.{Bool, true}
use mathlib.Core.List.{List, [], ◌∷◌}
use Prim.Native.Nat.{ℕ, zero, suc, ◌≤◌, ◌<◌}
use native.Mathlib.Omega.{arith}
use native.Mathlib.Decide.{ℕ_discrete}
use lib.ListN.{length, get_or, take}
use Rattle.counting.specs.Times.{times}
use Rattle.counting.proofs.Counting.{miss}
use Rattle.link_forest.specs.Forest.{Forest}
use Rattle.tree_state.specs.Tree.{committed_at}
use Rattle.tree_steps.specs.Commit.{Work, rework, rework_all}
use Rattle.tree_rework.specs.preconditions.Fits.{Fits}
use Rattle.tree_visits.proofs.Parents.{slots_at}
use Rattle.agreement.proofs.worlds.Fold.{Frame}
use Rattle.tree_invariant.proofs.commit.Turn.{Before, turn_fits, turn_next, turn_stays, turn_now}

pub all_fit : (c : ℕ → Bool) (f : Forest) (vs : List ℕ) (k : Work) → Before c f k vs → (j : ℕ) → j < length vs → Fits (rework_all k (take j vs)) (get_or vs j 0)
unfolding rework_all
all_fit c f [] k B j l = absurd (omega arith)
all_fit c f (i ∷ vs) k B zero l = turn_fits c f k i vs B
all_fit c f (i ∷ vs) k B (suc j) l = all_fit c f vs (rework k i) (turn_next c f k i vs B) j (omega arith)

pub all_done : (c : ℕ → Bool) (f : Forest) (vs : List ℕ) (k : Work) → Before c f k vs → Before c f (rework_all k vs) []
unfolding rework_all
all_done c f [] k B = B
all_done c f (i ∷ vs) k B = all_done c f vs (rework k i) (turn_next c f k i vs B)

pub all_stay : (c : ℕ → Bool) (f : Forest) (vs : List ℕ) (k : Work) → Before c f k vs → (y : ℕ) → committed_at k.tree y ≡ true → committed_at (rework_all k vs).tree y ≡ true
unfolding rework_all
all_stay c f [] k B y e = e
all_stay c f (i ∷ vs) k B y e = all_stay c f vs (rework k i) (turn_next c f k i vs B) y (turn_stays c f k i vs B y e)

-- every visited node is committed
pub all_committed : (c : ℕ → Bool) (f : Forest) (vs : List ℕ) (k : Work) → Before c f k vs → (y : ℕ) → 1 ≤ times y (slots_at k.tree.links.order vs) → committed_at (rework_all k vs).tree y ≡ true
unfolding rework_all rework times
all_committed c f [] k B y h = absurd (omega arith)
all_committed c f (i ∷ vs) k B y h =
    let x = get_or k.tree.links.order i 0 in
    elim (ℕ_discrete y x) [
      | yes e ↦ rw e (all_stay c f vs (rework k i) (turn_next c f k i vs B) x (turn_now c f k i vs B))
      | no n ↦ all_committed c f vs (rework k i) (turn_next c f k i vs B) y (omega (arith, miss y x n))
    ]

pub all_frame : (vs : List ℕ) (k : Work) → Frame k.tree (rework_all k vs).tree
unfolding rework_all rework
all_frame [] k = record { slots = refl; links = refl; locals = refl; marks = refl; pending = refl }
all_frame (i ∷ vs) k =
    let F = all_frame vs (rework k i) in
    record { slots = F.slots; links = F.links; locals = F.locals; marks = F.marks; pending = F.pending }
