-- A commit keeps the tables sound: after it nothing is marked, so the queue may be empty.
use mathlib.Core.Path.{◌≡◌, refl, sym, ap, ◌∙◌, subst}
use mathlib.Core.List.{List}
use Prim.Native.Nat.{ℕ, zero, suc, ◌+◌, ◌≤◌, ◌<◌}
use native.Mathlib.Numerals.{add-one}
use native.Mathlib.Omega.{arith}
use native.Mathlib.Decide.{dec_lt, ℕ_discrete}
use lib.ListN.{length, take, get_or, length-set}
use lib.Seq.{get_or-set_same, get_or-set_other}
use lib.Dec.{eqb}
use Rattle.counting.specs.Times.{tally, times}
use Rattle.counting.proofs.Counting.{hit, miss, times_next}
use Rattle.index_types.specs.declared.Slot.{Slot}
use Rattle.index_types.specs.Slots.{no_entry, entry_in}
use Rattle.index_sound.specs.Sound.{CountOf}
use Rattle.index_commit.specs.Commit.{Act, act_of, committed_entry, entries_step, Work, work_act, work_step, work}
use Rattle.index_commit.proofs.Loop.{Does, does, nothing, add, move, drop, keep_slot, free_length, slot_low, work_next}

module _ (entries : List Slot) (x : ℕ) where
  abbrev e : Slot
  e = entry_in entries x

  off_by : {a : Act} → Does e.mark a → (committed_entry a e).mark < 2
  off_by (nothing l) = l
  off_by (add g) = omega arith
  off_by (move g) = omega arith
  off_by (drop g) = omega arith

  -- the slot's mark is off after its turn, and no other has changed
  off : x < length entries → (entry_in (entries_step (act_of e.mark) entries x) x).mark < 2
  off h = rw (get_or-set_same entries x (committed_entry (act_of e.mark) e) no_entry h) (off_by (does e.mark))

  pub other : (a : Act) (y : ℕ) → (y ≡ x → ⊥) → entry_in (entries_step a entries x) y ≡ entry_in entries y
  other a y n = get_or-set_other entries x y (committed_entry a e) no_entry n

module _ (dirty : List ℕ) (n u : ℕ) (w₀ : Work) (C : CountOf w₀.entries w₀.free w₀.frees dirty n u) (lm : length w₀.entries ≡ 512) (lf : length w₀.free ≡ 512) (lq : length dirty ≡ 512) where
  abbrev pub at : ℕ → Work
  at i = work w₀ (take i dirty)

  -- once the first i have had their turn
  pub record Turn (i : ℕ) (w : Work) : Type 0 where
    pub sound : CountOf w.entries w.free w.frees dirty n u
    pub entries_whole : length w.entries ≡ 512
    pub free_whole : length w.free ≡ 512
    pub low : (y : ℕ) → 1 ≤ times y (take i dirty) → (entry_in w.entries y).mark < 2
    pub still : (y : ℕ) → times y (take i dirty) ≡ 0 → (entry_in w.entries y).mark ≡ (entry_in w₀.entries y).mark

  one_more : (i : ℕ) (w : Work) → i < n → Turn i w → Turn (suc i) (work_step w (get_or dirty i 0))
  unfolding work_step
  one_more i w h T =
      let q = C.queue_fits in
      let x = get_or dirty i 0 in
      let a = work_act w x in
      let xl = slot_low w.entries w.free w.frees dirty n u i T.sound lq h in
      let t : (y : ℕ) → times y (take (suc i) dirty) ≡ times y (take i dirty) + tally (eqb y x) = λ y. rw (← add-one i) (times_next y dirty i (omega arith)) in
      record {
        sound = keep_slot w.entries w.free w.frees dirty n u T.sound T.entries_whole T.free_whole lq x xl;
        entries_whole = length-set w.entries x _ ∙ T.entries_whole;
        free_whole = free_length a w.free w.frees x ∙ T.free_whole;
        low = λ y l. elim (ℕ_discrete y x) [
          | yes e ↦ rw e (off w.entries x (omega (arith, T.entries_whole)))
          | no m ↦ rw (other w.entries x a y m) (T.low y (omega (arith, t y, miss y x m)))
        ];
        still = λ y z. elim (ℕ_discrete y x) [
          | yes e ↦ absurd (omega (arith, rw e at (t y), hit x, rw e at z))
          | no m ↦ ap (λ (e : Slot). e.mark) (other w.entries x a y m) ∙ T.still y (omega (arith, t y, miss y x m))
        ];
      }

  pub turn : (i : ℕ) → i ≤ n → Turn i (at i)
  unfolding work times
  turn zero h = record { sound = C; entries_whole = lm; free_whole = lf; low = λ y l. absurd (omega arith); still = λ y e. refl }
  turn (suc i) h =
      let q = C.queue_fits in
      let e : at (suc i) ≡ work_step (at i) (get_or dirty i 0) = rw (← add-one i) (work_next w₀ dirty i (omega arith)) in
      subst (λ (w : Work). Turn (suc i) w) (sym e) (one_more i (at i) (omega arith) (turn i (omega arith)))

  -- nothing is marked at the end
  pub unmarked : (y : ℕ) → (entry_in (at n).entries y).mark < 2
  unmarked y =
      let T = turn n (omega arith) in
      elim (dec_lt (times y (take n dirty)) 1) [
        | yes z ↦
            let s = T.still y (omega arith) in
            elim (dec_lt (entry_in w₀.entries y).mark 2) [ yes l ↦ rw s l | no g ↦ absurd (omega (arith, (C.slot y).waits (omega arith))) ]
        | no g ↦ T.low y (omega arith)
      ]

  -- so the tables are sound with an empty queue
  pub keep_commit : CountOf (at n).entries (at n).free (at n).frees dirty 0 u
  unfolding times
  keep_commit =
      let S = (turn n (omega arith)).sound in
      record {
        used_fits = S.used_fits;
        free_fits = S.free_fits;
        queue_fits = omega arith;
        slot = λ y. record { past = (S.slot y).past; counted = (S.slot y).counted; waits = λ g. absurd (omega (arith, unmarked y)) };
        low = λ y g. refl;
        once = λ y. omega arith;
      }

  pub commit_whole : (length (at n).entries ≡ 512) × (length (at n).free ≡ 512)
  commit_whole = let T = turn n (omega arith) in (T.entries_whole, T.free_whole)
