-- The next generation; and the slot that an insert takes, by cases of the free list.
use Rattle.std.proofs.Common.{◌≡◌, ℕ, ◌+◌, ◌-◌, ◌%◌, ◌^◌, ◌<◌, List, get_or, sym, refl, ◌∙◌, mod-eq_of_lt, arith, eq-eqb, ne_eqb}
use native.Mathlib.Decide.{ℕ_discrete}
use Rattle.index_types.specs.declared.Slot.{Slot}
use Rattle.index_types.specs.Slots.{entry_in}
use Rattle.index_entries.specs.slots.Slots.{next_generation, slot_for, used_for, generation_for}

-- "goes up by one", but for the last
pub last_generation : next_generation 4294967295 ≡ 1
unfolding next_generation
last_generation = refl

pub one_up : (g : ℕ) → (g ≡ 4294967295 → ⊥) → next_generation g ≡ g + 1
unfolding next_generation
one_up g n = rw (next_generation, ne_eqb g 4294967295 n)

-- "never 0"
pub never_0 : (g : ℕ) → next_generation g ≡ 0 → ⊥
never_0 g z =
    elim (ℕ_discrete g 4294967295) [
      | yes e ↦ omega (arith, last_generation, rw e at z)
      | no n ↦ omega (arith, one_up g n)
    ]

-- a wrapping add of one, with zero skipped
module _ (g w : ℕ) (fits : g < 2 ^ 32) (wraps : w ≡ (g + 1) % 2 ^ 32) where
  unwrapped : (g ≡ 4294967295 → ⊥) → w ≡ g + 1
  unwrapped n = wraps ∙ mod-eq_of_lt (omega arith)

  pub wrapped_next : w ≡ 0 → 1 ≡ next_generation g
  wrapped_next z = elim (ℕ_discrete g 4294967295) [ yes e ↦ rw e (sym last_generation) | no n ↦ absurd (omega (arith, unwrapped n)) ]

  pub added_next : (w ≡ 0 → ⊥) → w ≡ next_generation g
  added_next f = elim (ℕ_discrete g 4294967295) [ yes e ↦ absurd (f (wraps ∙ rw e refl)) | no n ↦ unwrapped n ∙ sym (one_up g n) ]

module _ (entries : List Slot) (free : List ℕ) (frees used : ℕ) where
  pub slot_unused : frees ≡ 0 → slot_for free frees used ≡ used
  unfolding slot_for
  slot_unused e = rw (slot_for, eq-eqb frees 0 e)

  pub slot_last : (frees ≡ 0 → ⊥) → slot_for free frees used ≡ get_or free (frees - 1) 0
  unfolding slot_for
  slot_last n = rw (slot_for, ne_eqb frees 0 n)

  pub used_unused : frees ≡ 0 → used_for frees used ≡ used + 1
  unfolding used_for
  used_unused e = rw (used_for, eq-eqb frees 0 e)

  pub used_last : (frees ≡ 0 → ⊥) → used_for frees used ≡ used
  unfolding used_for
  used_last n = rw (used_for, ne_eqb frees 0 n)

  pub generation_unused : frees ≡ 0 → generation_for entries free frees used ≡ 1
  unfolding generation_for
  generation_unused e = rw (generation_for, eq-eqb frees 0 e)

  pub generation_next : (frees ≡ 0 → ⊥) → generation_for entries free frees used ≡ next_generation (entry_in entries (get_or free (frees - 1) 0)).generation
  unfolding generation_for
  generation_next n = rw (generation_for, ne_eqb frees 0 n, slot_last n)
