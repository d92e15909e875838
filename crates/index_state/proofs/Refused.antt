-- Refusal 1 of every call, both ways: it is answered if and only if "Sound index" fails. For every value of the type: `Shaped`
-- says that the tables have the type's lengths, and nothing else.
use mathlib.Core.Path.{◌≡◌, refl, sym}
use mathlib.Core.Bool.{Bool, true, false, not}
use mathlib.Core.List.{List}
use Prim.Native.Nat.{ℕ}
use native.Mathlib.Omega.{arith}
use borrow.Author.Tests.{eq-eqb}
use lib.Dec.{eqb}
use Rattle.counting.specs.Lists.{Tells}
use Rattle.counting.specs.Conditions.{accept, ◌else◌then◌, lowest, refused}
use Rattle.counting.proofs.Kit.{contra}
use Rattle.counting.proofs.Conditions.{told_number, told_refused}
use Rattle.index_sound.specs.Sound.{SoundOf}
use Rattle.index_sound.proofs.Exact.{decides}
use Rattle.index_types.specs.declared.Index.{Index}
use Rattle.index_state.specs.Index.{sound_index, full, fresh_index, live}
use Rattle.index_state.specs.Calls.{Call, insert, update, remove, clear, commit, query_rect, query_point, short, room_for_entries, refusal, given, told}
use Rattle.index_state.specs.Run.{run}
use Rattle.index_state.specs.Claims.{OneExactlyUnless, Shaped}
use Rattle.index_state.proofs.Soundness.{fresh_kept, run_kept, sound_from_fresh}

-- a number is 1 exactly where a fact fails
abbrev Only : Type 0 → ℕ → Type 0
Only P n = (n ≡ 1 → P → ⊥) × ((P → ⊥) → n ≡ 1)

-- of a call that asks for soundness first and then for its own condition
only : {P : Type 0} (s t : Bool) (n : ℕ) → Tells s P → eqb n 1 ≡ false → Only P (lowest (s else 1 then t else n then accept))
unfolding lowest
only false t n T d = ((λ e p. contra (T.1 p) refl), (λ _. refl))
only true true n T d = ((λ e p. omega arith), (λ q. absurd (q (T.0 refl))))
only true false n T d = ((λ e p. contra (eq-eqb n 1 e) d), (λ q. absurd (q (T.0 refl))))

module _ (ix : Index) (S : Shaped ix) where
  abbrev Sound : Type 0
  Sound = SoundOf ix.entries ix.free ix.frees ix.dirty ix.queued ix.used

  tells : Tells (sound_index ix) Sound
  tells = decides ix.entries ix.free ix.frees ix.dirty ix.queued ix.used S.entries_whole S.free_whole S.dirty_whole

  number_1 : (c : Call) → Only Sound (refusal ix c)
  unfolding refusal lowest
  number_1 (insert b p) = only (sound_index ix) (not (full ix)) 11 tells refl
  number_1 (update k b) = only (sound_index ix) (live ix k) 10 tells refl
  number_1 (remove k) = only (sound_index ix) (live ix k) 10 tells refl
  number_1 clear = only (sound_index ix) true 0 tells refl
  number_1 (commit a r o n) = only (sound_index ix) (not (short a r o n)) 8 tells refl
  number_1 (query_rect rect len) = only (sound_index ix) (room_for_entries len) 8 tells refl
  number_1 (query_point x y len) = only (sound_index ix) (room_for_entries len) 8 tells refl

  pub refuses_1 : (c : Call) → OneExactlyUnless Sound (told ix c)
  unfolding told
  refuses_1 c = ((λ e p. (number_1 c).0 (told_number (refusal ix c) 1 (given ix c) e) p), (λ q. sym (told_refused 0 (refusal ix c) ((number_1 c).1 q) (given ix c))))

-- from fresh no call ever meets 1
pub never_1 : (cs : List Call) (c : Call) → told (run fresh_index cs) c ≡ refused 1 → ⊥
never_1 cs c e = (refuses_1 (run fresh_index cs) (run_kept fresh_index cs fresh_kept).shaped c).0 e (sound_from_fresh cs)
