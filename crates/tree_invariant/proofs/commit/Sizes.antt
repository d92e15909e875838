-- The lengths that the index's own commit leaves, and counts over lists.
use mathlib.Core.Path.{◌≡◌, ◌∙◌}
use mathlib.Core.Bool.{Bool}
use mathlib.Core.List.{List, [], ◌∷◌}
use Prim.Native.Nat.{ℕ, ◌+◌, ◌≤◌}
use native.Mathlib.Omega.{arith}
use native.Mathlib.Decide.{ℕ_discrete}
use lib.Dec.{eqb}
use lib.ListN.{take}
use Rattle.counting.specs.Times.{tally, times}
use Rattle.counting.proofs.Counting.{hit, miss}
use Rattle.index_commit.specs.Commit.{start}
use Rattle.index_commit.proofs.Loop.{stored_work}
use Rattle.index_commit.proofs.Keep.{commit_whole}
use Rattle.index_types.specs.declared.Index.{Index}
use Rattle.index_state.specs.Index.{work_of, commit_of}
use Rattle.index_state.proofs.Soundness.{Counts}
use Rattle.tree_state.specs.Sound.{count_of}
use Rattle.tree_state.specs.Whole.{WholeIndex}

-- ---- the index's commit

pub whole_commit : (ix : Index) → WholeIndex ix → Counts ix → WholeIndex (commit_of ix (work_of ix))
unfolding work_of
whole_commit ix W C =
    let l = commit_whole ix.dirty ix.queued ix.used (start ix) C W.entries W.free W.dirty in
    record { entries = l.0; free = l.1; dirty = W.dirty; stored = stored_work (start ix) (take ix.queued ix.dirty) ∙ W.stored }

-- ---- counts

-- a list without one x that stands in it
take_out : (p : ℕ → Bool) (x : ℕ) (m : List ℕ) → 1 ≤ times x m → (r : List ℕ) × ((y : ℕ) → times y m ≡ tally (eqb y x) + times y r) × (count_of p m ≡ tally (p x) + count_of p r)
unfolding times count_of
take_out p x [] h = absurd (omega arith)
take_out p x (z ∷ m) h =
    elim (ℕ_discrete x z) [
      | yes e ↦ (m, (λ y. rw e), rw e)
      | no n ↦ let w = take_out p x m (omega (arith, miss x z n)) in (z ∷ w.0, (λ y. omega (arith, w.1 y)), omega (arith, w.2))
    ]

-- where every number stands at least as often, at least as many pass a test
pub count_more : (p : ℕ → Bool) (l m : List ℕ) → ((y : ℕ) → times y l ≤ times y m) → count_of p l ≤ count_of p m
unfolding times count_of
count_more p [] m h = omega arith
count_more p (x ∷ l) m h =
    let w = take_out p x m (omega (arith, h x, hit x)) in
    omega (arith, w.2, count_more p l w.0 (λ y. omega (arith, h y, w.1 y)))
