-- Slots beyond what is used are empty: a walk over all 512 entries may stop there.
use mathlib.Core.Path.{◌≡◌, refl, sym, ◌∙◌}
use mathlib.Core.Bool.{Bool, true, false, ◌&&◌}
use Prim.Native.Nat.{ℕ, zero, suc, ◌≤◌}
use native.Mathlib.Omega.{arith}
use native.Mathlib.Decide.{dec_lt}
use lib.ListN.{length, take}
use Rattle.std.specs.List.{filter}
use Rattle.counting.specs.Times.{every}
use Rattle.index_types.specs.declared.Slot.{Slot}
use Rattle.index_types.specs.Slots.{no_entry}
use Rattle.index_sound.specs.Sound.{SoundOf, sound_index}
use Rattle.index_sound.proofs.Exact.{decides}
use Rattle.tree_state.specs.declared.Tree.{Tree}
use Rattle.tree_state.specs.Tree.{entry_mark, is_removed}
use Rattle.tree_state.specs.Sound.{count_below, entry_right, removed_entries}
use Rattle.tree_state.specs.Whole.{Whole}
use Rattle.tree_sound.proofs.Lists.{count_used}

module _ (p : ℕ → Bool) (u : ℕ) where
  -- the test passes from u on
  pub every_used : (n : ℕ) → u ≤ n → ((k : ℕ) → u ≤ k → p k ≡ true) → every u p ≡ every n p
  unfolding every
  every_used zero h f = let e : u ≡ 0 = omega arith in rw e
  every_used (suc n) h f =
      elim (dec_lt n u) [
        | yes l ↦ (let e : u ≡ suc n = omega arith in rw e)
        | no g ↦ every_used n (omega arith) f ∙ sym (rw (f n (omega arith)) (and_true (every n p)))
      ]
    where
      and_true : (b : Bool) → b && true ≡ b
      and_true true = refl
      and_true false = refl

  -- it fails from u on
  pub below_used : (n : ℕ) → u ≤ n → ((k : ℕ) → u ≤ k → p k ≡ false) → count_below u p ≡ count_below n p
  unfolding count_below
  below_used zero h f = let e : u ≡ 0 = omega arith in rw e
  below_used (suc n) h f =
      elim (dec_lt n u) [
        | yes l ↦ (let e : u ≡ suc n = omega arith in rw e)
        | no g ↦ below_used n (omega arith) f ∙ (rw (f n (omega arith)) (omega arith))
      ]

abbrev pub removed_slot : Slot → Bool
removed_slot e = is_removed e.mark

module _ (t : Tree) (w : Whole t) (sound : sound_index t.index ≡ true) where
  index_holds : SoundOf t.index.entries t.index.free t.index.frees t.index.dirty t.index.queued t.index.used
  index_holds =
      let ix = t.index in
      (decides ix.entries ix.free ix.frees ix.dirty ix.queued ix.used w.index.entries w.index.free w.index.dirty).0 sound

  pub used_fits : t.index.used ≤ 512
  used_fits = index_holds.used_fits

  pub entries_used : every t.index.used (entry_right t) ≡ every 512 (entry_right t)
  unfolding entry_right
  entries_used = every_used (entry_right t) t.index.used 512 used_fits (λ k h. rw (index_holds.beyond k h))

  pub removed_used : length (filter removed_slot (take t.index.used t.index.entries)) ≡ removed_entries t
  removed_used =
      let n = t.index.used in
      let fits : n ≤ length t.index.entries = omega (arith, used_fits, w.index.entries) in
      count_used no_entry removed_slot t.index.entries n fits ∙ below_used (λ k. is_removed (entry_mark t k)) n 512 used_fits (λ k h. rw (index_holds.beyond k h))
