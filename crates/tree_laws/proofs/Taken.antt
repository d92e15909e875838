-- The slot that insert takes.
use mathlib.Core.Path.{◌≡◌, refl}
use Prim.Native.Nat.{ℕ, ◌+◌, ◌-◌, ◌≤◌, ◌<◌}
use native.Mathlib.Omega.{arith}
use native.Mathlib.Decide.{dec_lt, ℕ_discrete}
use borrow.Author.Tests.{eq-eqb, ne_eqb}
use lib.Dec.{eqb}
use lib.ListN.{length, get_or, take}
use lib.Seq.{length-take-le}
use Rattle.counting.specs.Times.{tally, times}
use Rattle.counting.proofs.Counting.{hit, times_next}
use Rattle.tree_state.specs.declared.Slots.{Slots}
use Rattle.tree_state.specs.declared.Tree.{Tree}
use Rattle.tree_state.specs.Tree.{live_slots}
use Rattle.tree_state.specs.Sound.{SoundTree}
use Rattle.tree_state.specs.Whole.{Whole}
use Rattle.tree_steps.specs.Structure.{slot_of}
use Rattle.tree_laws.proofs.Counts.{long}

pub slot_next : (s : Slots) → s.frees ≡ 0 → slot_of s ≡ s.used
slot_next s e = rw (eq-eqb s.frees 0 e)

pub slot_freed : (s : Slots) → (s.frees ≡ 0 → ⊥) → slot_of s ≡ get_or s.free (s.frees - 1) 0
slot_freed s n = rw (ne_eqb s.frees 0 n)

-- the last of the free list leaves it
pub freed_times : (s : Slots) → (s.frees ≡ 0 → ⊥) → s.frees ≤ length s.free → (y : ℕ)
    → times y (take s.frees s.free) ≡ times y (take (s.frees - 1) s.free) + tally (eqb y (slot_of s))
freed_times s n fits y =
    let e : s.frees - 1 + 1 ≡ s.frees = omega arith in
    rw (slot_freed s n) (rw e at (times_next y s.free (s.frees - 1) (omega arith)))

module _ (t : Tree) (w : Whole t) (S : SoundTree t) where
  -- it is not live
  pub new_times : times (slot_of t.slots) (live_slots t) ≡ 0
  new_times =
      let s = t.slots in
      elim (ℕ_discrete s.frees 0) [
        | yes e ↦ rw (slot_next s e) (omega (arith, S.beyond s.used (omega arith)))
        | no n ↦
            let x = slot_of s in
            let f = freed_times s n (omega (arith, S.free_fits, w.slots.free)) x in
            elim (dec_lt x s.used) [
              | yes l ↦ omega (arith, f, hit x, S.once x l)
              | no g ↦ absurd (omega (arith, f, hit x, S.beyond x (omega arith)))
            ]
      ]

  -- and it is one of the tables', while there is room
  pub new_low : t.links.count < 256 → slot_of t.slots < 256
  new_low room =
      let s = t.slots in
      elim (ℕ_discrete s.frees 0) [
        | yes e ↦
            rw (slot_next s e)
            (elim (dec_lt s.used 256) [
              | yes l ↦ l
              | no g ↦
                  let none : (y : ℕ) → times y (take s.frees s.free) ≡ 0 = λ y. rw e (unfold times in refl) in
                  absurd (omega (arith, long 256 (live_slots t) (λ y l. omega (arith, S.once y (omega arith), none y)), length-take-le t.links.count t.links.order (omega (arith, w.links.order))))
            ])
        | no n ↦
            let x = slot_of s in
            let f = freed_times s n (omega (arith, S.free_fits, w.slots.free)) x in
            elim (dec_lt x s.used) [
              | yes l ↦ omega (arith, S.used_fits)
              | no g ↦ absurd (omega (arith, f, hit x, S.beyond x (omega arith)))
            ]
      ]
