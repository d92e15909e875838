-- The slots after insert has taken one: each used slot still stands once among the live and the free ones.
use mathlib.Core.Path.{◌≡◌, ◌∙◌}
use mathlib.Core.List.{List}
use Prim.Native.Nat.{ℕ, ◌+◌, ◌-◌, ◌≤◌, ◌<◌}
use native.Mathlib.Omega.{arith}
use native.Mathlib.Decide.{ℕ_discrete}
use borrow.Author.Tests.{eq-eqb, ne_eqb}
use lib.Dec.{eqb}
use lib.ListN.{length, take}
use Rattle.counting.specs.Times.{tally, times}
use Rattle.counting.proofs.Counting.{hit, miss}
use Rattle.tree_state.specs.declared.Slots.{Slots}
use Rattle.tree_steps.specs.Structure.{slot_of, take_slot}
use Rattle.tree_laws.proofs.Taken.{slot_next, freed_times}

pub used_next : (s : Slots) → s.frees ≡ 0 → (take_slot s).used ≡ s.used + 1
used_next s e = rw (eq-eqb s.frees 0 e)

pub used_freed : (s : Slots) → (s.frees ≡ 0 → ⊥) → (take_slot s).used ≡ s.used
used_freed s n = rw (ne_eqb s.frees 0 n)

none_free : (l : List ℕ) (m : ℕ) → m ≡ 0 → (y : ℕ) → times y (take m l) ≡ 0
unfolding times
none_free l m e y = rw e

pub taken_fits : (s : Slots) → slot_of s < 256 → s.used ≤ 256 → (take_slot s).used ≤ 256
taken_fits s l h =
    elim (ℕ_discrete s.frees 0) [
      | yes e ↦ omega (arith, used_next s e, slot_next s e)
      | no n ↦ omega (arith, used_freed s n)
    ]

module _ (s : Slots) (live now : List ℕ) (fits : s.frees ≤ length s.free)
    (once : (y : ℕ) → y < s.used → times y live + times y (take s.frees s.free) ≡ 1)
    (beyond : (y : ℕ) → s.used ≤ y → times y live + times y (take s.frees s.free) ≡ 0)
    (more : (y : ℕ) → times y now ≡ times y live + tally (eqb y (slot_of s))) where
  -- a slot taken from the free list only changes sides
  swapped : (s.frees ≡ 0 → ⊥) → (y : ℕ) → times y now + times y (take (s.frees - 1) s.free) ≡ times y live + times y (take s.frees s.free)
  swapped n y = omega (arith, more y, freed_times s n fits y)

  module _ (e : s.frees ≡ 0) where
    grown : (y : ℕ) → times y now + times y (take (s.frees - 1) s.free) ≡ times y live + times y (take s.frees s.free) + tally (eqb y s.used)
    grown y =
        let m : times y now ≡ times y live + tally (eqb y s.used) = rw (← slot_next s e) (more y) in
        omega (arith, none_free s.free (s.frees - 1) (omega arith) y, none_free s.free s.frees e y)

    grown_once : (y : ℕ) → y < s.used + 1 → times y now + times y (take (s.frees - 1) s.free) ≡ 1
    grown_once y l =
        elim (ℕ_discrete y s.used) [
          | yes q ↦ let o : tally (eqb y s.used) ≡ 1 = rw q (hit s.used) in omega (arith, grown y, beyond y (omega arith))
          | no n ↦ omega (arith, grown y, miss y s.used n, once y (omega arith))
        ]

    grown_beyond : (y : ℕ) → s.used + 1 ≤ y → times y now + times y (take (s.frees - 1) s.free) ≡ 0
    grown_beyond y l = omega (arith, grown y, miss y s.used (λ q. omega arith), beyond y (omega arith))

  pub taken_once : (y : ℕ) → y < (take_slot s).used → times y now + times y (take (take_slot s).frees (take_slot s).free) ≡ 1
  taken_once y l =
      elim (ℕ_discrete s.frees 0) [
        | yes e ↦ grown_once e y (omega (arith, used_next s e, l))
        | no n ↦ swapped n y ∙ once y (omega (arith, used_freed s n, l))
      ]

  pub taken_beyond : (y : ℕ) → (take_slot s).used ≤ y → times y now + times y (take (take_slot s).frees (take_slot s).free) ≡ 0
  taken_beyond y l =
      elim (ℕ_discrete s.frees 0) [
        | yes e ↦ grown_beyond e y (omega (arith, used_next s e, l))
        | no n ↦ swapped n y ∙ beyond y (omega (arith, used_freed s n, l))
      ]
