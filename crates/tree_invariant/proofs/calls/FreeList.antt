-- The slot that insert takes, as the plan takes it: the plan's free list is the tree's, the last freed first.
use mathlib.Core.Path.{◌≡◌, sym, ap, ◌∙◌}
use mathlib.Core.Bool.{Bool, cond}
use mathlib.Core.List.{List, [], ◌∷◌, ◌++◌, reverse, reverse-append}
use Prim.Native.Nat.{ℕ, ◌+◌, ◌-◌, ◌≤◌}
use native.Mathlib.Numerals.{add-one}
use native.Mathlib.Omega.{arith}
use native.Mathlib.Decide.{ℕ_discrete}
use borrow.Author.Tests.{eq-eqb, ne_eqb}
use lib.ListN.{length, get_or, take}
use lib.Seq.{take-suc}
use Rattle.tree_state.specs.declared.Slots.{Slots}
use Rattle.tree_steps.specs.Structure.{slot_of, generation_of, saturated, take_slot}
use Rattle.plan.specs.Plan.{slot_from, free_after, used_after, one_higher, generation_from}
use Rattle.tree_laws.proofs.Taken.{slot_next, slot_freed}
use Rattle.tree_invariant.proofs.calls.Slots.{used_next, used_freed}

-- the plan's free list
abbrev pub last_first : Slots → List ℕ
last_first s = reverse (take s.frees s.free)

module _ (s : Slots) where
  none_free : s.frees ≡ 0 → last_first s ≡ []
  none_free e = rw e

  generation_next : s.frees ≡ 0 → generation_of s ≡ 1
  generation_next e = rw (eq-eqb s.frees 0 e)

  higher : (g : ℕ) → saturated g ≡ one_higher g
  higher g = rw (add-one g)

  generation_freed : (s.frees ≡ 0 → ⊥) → generation_of s ≡ one_higher (get_or s.generation (slot_of s) 0)
  generation_freed n =
      ap (λ (b : Bool). cond b 1 (saturated (get_or s.generation (slot_of s) 0))) (ne_eqb s.frees 0 n) ∙ higher (get_or s.generation (slot_of s) 0)

  module _ (n : s.frees ≡ 0 → ⊥) (fits : s.frees ≤ length s.free) where
    last : take s.frees s.free ≡ take (s.frees - 1) s.free ++ (slot_of s ∷ [])
    last =
        let e : s.frees - 1 + 1 ≡ s.frees = omega arith in
        let t : take (s.frees - 1 + 1) s.free ≡ take (s.frees - 1) s.free ++ (get_or s.free (s.frees - 1) 0 ∷ []) =
        rw (add-one (s.frees - 1)) (take-suc s.free (s.frees - 1) 0 (omega arith)) in
        ap (λ (k : ℕ). take k s.free) (sym e) ∙ t ∙ ap (λ (x : ℕ). take (s.frees - 1) s.free ++ (x ∷ [])) (sym (slot_freed s n))

    last_first_lem : last_first s ≡ slot_of s ∷ reverse (take (s.frees - 1) s.free)
    last_first_lem = ap reverse last ∙ reverse-append (take (s.frees - 1) s.free) (slot_of s ∷ [])

module _ (s : Slots) (fits : s.frees ≤ length s.free) where
  pub slot_same : slot_of s ≡ slot_from (last_first s) s.used
  slot_same =
      elim (ℕ_discrete s.frees 0) [
        | yes e ↦ slot_next s e ∙ ap (λ (l : List ℕ). slot_from l s.used) (sym (none_free s e))
        | no n ↦ ap (λ (l : List ℕ). slot_from l s.used) (sym (last_first_lem s n fits))
      ]

  pub used_same : (take_slot s).used ≡ used_after (last_first s) s.used
  used_same =
      elim (ℕ_discrete s.frees 0) [
        | yes e ↦ used_next s e ∙ add-one s.used ∙ ap (λ (l : List ℕ). used_after l s.used) (sym (none_free s e))
        | no n ↦ used_freed s n ∙ ap (λ (l : List ℕ). used_after l s.used) (sym (last_first_lem s n fits))
      ]

  pub free_same : last_first (take_slot s) ≡ free_after (last_first s)
  free_same =
      elim (ℕ_discrete s.frees 0) [
        | yes e ↦
            let z : s.frees - 1 ≡ 0 = omega arith in
            ap (λ (k : ℕ). reverse (take k s.free)) z ∙ ap free_after (sym (none_free s e))
        | no n ↦ ap free_after (sym (last_first_lem s n fits))
      ]

  -- g is what the plan has for the generations
  pub generation_same : (g : ℕ → ℕ) → ((x : ℕ) → get_or s.generation x 0 ≡ g x) → generation_of s ≡ generation_from (last_first s) g
  generation_same g h =
      elim (ℕ_discrete s.frees 0) [
        | yes e ↦ generation_next s e ∙ ap (λ (l : List ℕ). generation_from l g) (sym (none_free s e))
        | no n ↦ generation_freed s n ∙ ap one_higher (h (slot_of s)) ∙ ap (λ (l : List ℕ). generation_from l g) (sym (last_first_lem s n fits))
      ]
