-- 11: a sound index is full, and refuses an insert by 11, exactly where all 512 slots hold an entry. For every value of the type that is sound.
use mathlib.Core.Path.{◌≡◌, refl, sym}
use mathlib.Core.Bool.{Bool, true, false, not}
use mathlib.Core.List.{List}
use Prim.Native.Nat.{◌≤◌}
use native.Mathlib.Omega.{arith}
use native.Mathlib.Decide.{dec_lt, ℕ_discrete}
use lib.Dec.{eqb, leb}
use lib.ListN.{get_or}
use Rattle.counting.specs.Lists.{Tells}
use Rattle.counting.specs.Conditions.{refused, gives}
use Rattle.counting.proofs.Kit.{both, at_most, equal, through}
use Rattle.counting.proofs.Conditions.{told_number, told_refused, told_accepted}
use Rattle.index_types.specs.declared.Aabb2D.{Aabb2D}
use Rattle.index_types.specs.declared.NodeId.{NodeId}
use Rattle.index_sound.specs.Sound.{SoundOf}
use Rattle.index_sound.proofs.Exact.{decides}
use Rattle.index_types.specs.declared.Index.{Index}
use Rattle.index_state.specs.Index.{sound_index, AllHeld, full, fresh_index, slot_of, generation_of, key_of}
use Rattle.index_state.specs.Calls.{Call, insert, refusal, key, given, told}
use Rattle.index_state.specs.Run.{run}
use Rattle.index_state.specs.Claims.{Shaped, FullAt512}
use Rattle.index_state.proofs.Calls.{insert_full, insert_fits}
use Rattle.index_state.proofs.Soundness.{Kept, fresh_kept, run_kept}

module _ (ix : Index) (K : Kept ix) where
  sound : SoundOf ix.entries ix.free ix.frees ix.dirty ix.queued ix.used
  sound = let S = K.shaped in (decides ix.entries ix.free ix.frees ix.dirty ix.queued ix.used S.entries_whole S.free_whole S.dirty_whole).0 K.sound

  held : (ix.frees ≡ 0) × (512 ≤ ix.used) → AllHeld ix
  held f x l z = let w = sound.empty_free x (omega (arith, f.1), z) in omega (arith, w.1, f.0)

  used_up : AllHeld ix → (ix.frees ≡ 0) × (512 ≤ ix.used)
  used_up h = (
    elim (ℕ_discrete ix.frees 0) [
      | yes e ↦ e
      | no n ↦
          let w = sound.free_empty (get_or ix.free 0 0) (0, omega arith, refl) in
          absurd (h (get_or ix.free 0 0) (omega (arith, w.0, sound.used_fits)) w.1)
    ],
    elim (dec_lt ix.used 512) [ yes l ↦ absurd (h ix.used l (sound.beyond ix.used (omega arith))) | no g ↦ omega arith ],
  )

  pub full_exactly : Tells (full ix) (AllHeld ix)
  full_exactly = through held used_up (both (eqb ix.frees 0) (leb 512 ix.used) (equal ix.frees 0) (at_most 512 ix.used))

  -- ---- what an insert is told

  passed : not (sound_index ix) ≡ false
  passed = rw K.sound

  module _ (b : Aabb2D) (p : NodeId) where
    refused_full : full ix ≡ true → told ix (insert b p) ≡ refused 11
    unfolding told
    refused_full f = sym (told_refused 10 (refusal ix (insert b p)) (insert_full ix passed b p f) (given ix (insert b p)))

    given_key : full ix ≡ false → told ix (insert b p) ≡ gives (key (key_of (slot_of ix) (generation_of ix)))
    unfolding told given
    given_key f = sym (told_accepted (refusal ix (insert b p)) (insert_fits ix passed b p f) (given ix (insert b p)))

    only_held : (f : Bool) → full ix ≡ f → told ix (insert b p) ≡ refused 11 → AllHeld ix
    unfolding told
    only_held true f e = full_exactly.0 f
    only_held false f e = absurd (omega (arith, told_number (refusal ix (insert b p)) 11 (given ix (insert b p)) e, insert_fits ix passed b p f))

    else_key : (f : Bool) → full ix ≡ f → (AllHeld ix → ⊥) → told ix (insert b p) ≡ gives (key (key_of (slot_of ix) (generation_of ix)))
    else_key true f n = absurd (n (full_exactly.0 f))
    else_key false f n = given_key f

  full_at : FullAt512 ix
  full_at =
      record {
        only = λ b p. only_held b p (full ix) refl;
        always = λ b p h. refused_full b p (full_exactly.1 h);
        else_given = λ b p. else_key b p (full ix) refl;
      }

-- of every sound index
pub refuses_11 : (ix : Index) → Shaped ix → SoundOf ix.entries ix.free ix.frees ix.dirty ix.queued ix.used → FullAt512 ix
refuses_11 ix S s =
    let T = decides ix.entries ix.free ix.frees ix.dirty ix.queued ix.used S.entries_whole S.free_whole S.dirty_whole in
    full_at ix (record { shaped = S; sound = T.1 s })

-- and so after every list of calls from fresh
pub refuses_11_after : (cs : List Call) → FullAt512 (run fresh_index cs)
refuses_11_after cs = full_at (run fresh_index cs) (run_kept fresh_index cs fresh_kept)
