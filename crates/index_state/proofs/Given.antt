-- What an insert and a commit give: never a key of generation 0, and as many old boxes as new ones.
use mathlib.Core.Path.{◌≡◌, refl, sym, ◌∙◌}
use mathlib.Core.List.{List, [], ◌∷◌}
use Prim.Native.Nat.{ℕ}
use native.Mathlib.Omega.{arith}
use native.Mathlib.Decide.{ℕ_discrete}
use lib.ListN.{length, take, length-append}
use Rattle.index_types.specs.declared.Aabb2D.{Aabb2D}
use Rattle.index_types.specs.Slots.{entry_in}
use Rattle.std.specs.Prelude.{Option, Some, None}
use Rattle.index_entries.specs.Entries.{previous_box}
use Rattle.index_entries.proofs.slots.Slots.{never_0, generation_unused, generation_next}
use Rattle.index_commit.specs.Commit.{Act, rests, adds, moves, drops, moved_from, moved_to, change_of, boxes_with, Work, work_act, work_step, work, start}
use Rattle.index_types.specs.declared.Index.{Index}
use Rattle.index_state.specs.Index.{generation_of, work_of}

-- "never 0": a slot's first generation is 1, and the later ones are the next of those before
pub key_never_0 : (ix : Index) → generation_of ix ≡ 0 → ⊥
key_never_0 ix z =
    elim (ℕ_discrete ix.frees 0) [
      | yes e ↦ omega (arith, generation_unused ix.entries ix.free ix.frees ix.used e)
      | no n ↦ never_0 _ (sym (generation_next ix.entries ix.free ix.frees ix.used n) ∙ z)
    ]

-- ---- a move is a pair: its old box and its new one

module _ (old new : List Aabb2D) (e : length old ≡ length new) where
  pair : (p : Option Aabb2D) (b : Aabb2D) → length (boxes_with old p) ≡ length (boxes_with new (moved_to p b))
  unfolding moved_to
  pair None b = e
  pair (Some a) b = rw (length-append old (a ∷ []), length-append new (b ∷ []), e)

  even_slot : (a : Act) (b : Aabb2D) (p : Option Aabb2D) → let c = change_of a b p in
      length (boxes_with old c.old) ≡ length (boxes_with new c.new)
  even_slot rests b p = e
  even_slot adds b p = e
  even_slot moves b p = pair (moved_from p b) b
  even_slot drops b p = e

even_work : (w : Work) (xs : List ℕ) → length w.old ≡ length w.new → length (work w xs).old ≡ length (work w xs).new
unfolding work work_step
even_work w [] e = e
even_work w (x ∷ xs) e =
    even_work (work_step w x) xs (even_slot w.old w.new e (work_act w x) (entry_in w.entries x).aabb (previous_box (entry_in w.entries x)))

-- so one number counts both, of every index
pub even_moves : (ix : Index) → length (work_of ix).old ≡ length (work_of ix).new
unfolding work_of
even_moves ix = even_work (start ix) (take ix.queued ix.dirty) refl
