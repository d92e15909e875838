-- A commit keeps the backend and the entries in agreement.
use mathlib.Core.Path.{◌≡◌, refl, sym, ◌∙◌, subst}
use mathlib.Core.List.{List}
use Prim.Native.Nat.{ℕ, zero, suc, ◌≤◌, ◌<◌}
use native.Mathlib.Numerals.{add-one}
use native.Mathlib.Omega.{arith}
use native.Mathlib.Decide.{ℕ_discrete}
use lib.Dec.{eqb}
use lib.ListN.{length, take, get_or, length-set}
use lib.Seq.{get_or-set_same, get_or-set_other}
use Rattle.index_types.specs.declared.Slot.{Slot}
use Rattle.index_types.specs.declared.Stored.{Stored}
use Rattle.index_types.specs.Slots.{no_entry, none_stored, entry_in, stored_in}
use Rattle.index_commit.specs.Commit.{Act, rests, adds, moves, drops, committed_entry, stored_entry, entries_step, stored_step, Work, work_act, work_step, work}
use Rattle.index_commit.specs.Agree.{unseen, Agree}
use Rattle.index_commit.proofs.Loop.{work_next}
use Rattle.index_commit.proofs.Keep.{other}

module _ (entries : List Slot) (stored : List Stored) (A : Agree entries stored) (x : ℕ) (h : x < 512) (a : Act) where
  abbrev e : Slot
  e = entry_in entries x

  abbrev s : Stored
  s = stored_in stored x

  -- at the slot, by what it does
  here : (b : Act) → (committed_entry b e).mark ≡ 1 → ((stored_entry b e.aabb s).present ≡ 0 → ⊥) × ((stored_entry b e.aabb s).aabb ≡ (committed_entry b e).aabb)
  here rests m = A.own x m
  here adds m = ((λ z. omega arith), refl)
  here moves m = ((λ z. omega arith), refl)
  here drops m = absurd (omega arith)

  none_here : (b : Act) → eqb (stored_entry b e.aabb s).present 0 ≡ unseen (committed_entry b e).mark
  none_here rests = A.none x
  none_here adds = refl
  none_here moves = refl
  none_here drops = refl

  abbrev entry_now : entry_in (entries_step a entries x) x ≡ committed_entry a e
  entry_now = get_or-set_same entries x (committed_entry a e) no_entry (omega (arith, A.entries_whole))

  abbrev stored_now : stored_in (stored_step a stored x e.aabb) x ≡ stored_entry a e.aabb s
  stored_now = get_or-set_same stored x (stored_entry a e.aabb s) none_stored (omega (arith, A.stored_whole))

  pub agree_slot : Agree (entries_step a entries x) (stored_step a stored x e.aabb)
  agree_slot = record {
    entries_whole = length-set entries x _ ∙ A.entries_whole;
    stored_whole = length-set stored x _ ∙ A.stored_whole;
    own = λ y m. elim (ℕ_discrete y x) [
      | yes w ↦ rw (w, entry_now, stored_now) (here a (rw (w, entry_now) at m))
      | no n ↦ rw (other entries x a y n, stored_there y n) (A.own y (rw (other entries x a y n) at m))
    ];
    none = λ y. elim (ℕ_discrete y x) [
      | yes w ↦ rw (w, entry_now, stored_now) (none_here a)
      | no n ↦ rw (other entries x a y n, stored_there y n) (A.none y)
    ];
  }
    where
      stored_there : (y : ℕ) → (y ≡ x → ⊥) → stored_in (stored_step a stored x e.aabb) y ≡ stored_in stored y
      stored_there y n = get_or-set_other stored x y (stored_entry a e.aabb s) none_stored n

-- over the whole queue, each number of which is a slot
module _ (dirty : List ℕ) (n : ℕ) (w₀ : Work) (fits : n ≤ length dirty) (low : (k : ℕ) → k < n → get_or dirty k 0 < 512) where
  abbrev Own : Work → Type 0
  Own w = Agree w.entries w.stored

  own_step : (w : Work) (x : ℕ) → x < 512 → Own w → Own (work_step w x)
  unfolding work_step
  own_step w x h A = agree_slot w.entries w.stored A x h (work_act w x)

  pub own_work : (i : ℕ) → i ≤ n → Own w₀ → Own (work w₀ (take i dirty))
  unfolding work
  own_work zero h A = A
  own_work (suc i) h A =
      let e : work w₀ (take (suc i) dirty) ≡ work_step (work w₀ (take i dirty)) (get_or dirty i 0) = rw (← add-one i) (work_next w₀ dirty i (omega arith)) in
      subst Own (sym e) (own_step (work w₀ (take i dirty)) (get_or dirty i 0) (low i (omega arith)) (own_work i (omega arith) A))
