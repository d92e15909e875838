-- What a key finds; and the slot that an insert takes, as `index_entries::slots` has it.
use Rattle.std.proofs.Common.{◌≡◌, ℕ, ◌<◌, Bool, true, false, refl, arith, le-ltb, lt-ltb}
use native.Mathlib.Decide.{dec_lt}
use Rattle.index_types.specs.declared.Key.{Key}
use Rattle.index_types.specs.declared.Slot.{Slot}
use Rattle.index_types.specs.declared.Index.{Index}
use Rattle.index_types.specs.Slots.{entry}
use Rattle.std.specs.Prelude.{Some, None}
pub use Rattle.index_entries.proofs.slots.Slots.{slot_unused, slot_last, used_unused, used_last, generation_unused, generation_next}
use Rattle.index_entries.specs.Entries.{live, look_up}

module _ (ix : Index) (k : Key) where
  pub look_live : (e : Slot) → look_up ix k ≡ Some e → (live ix k ≡ true) × (e ≡ entry ix k.0)
  unfolding look_up
  look_live e h = go (live ix k) refl
    where
      go : (b : Bool) → live ix k ≡ b → (live ix k ≡ true) × (e ≡ entry ix k.0)
      go true t = (t, cc (rw (look_up, t) at h))
      go false t = let w : ◌≡◌ {A = ℕ} 0 1 = cc (rw (look_up, t) at h) in absurd (omega arith)

  pub look_dead : look_up ix k ≡ None → live ix k ≡ false
  unfolding look_up
  look_dead h = go (live ix k) refl
    where
      go : (b : Bool) → live ix k ≡ b → live ix k ≡ false
      go true t = let w : ◌≡◌ {A = ℕ} 0 1 = cc (rw (look_up, t) at h) in absurd (omega arith)
      go false t = t

-- a live key's slot is one of the 512, and holds an entry
pub live_slot : (ix : Index) (k : Key) → live ix k ≡ true → (k.0 < 512) × ((entry ix k.0).mark ≡ 0 → ⊥)
live_slot ix k h =
    elim (dec_lt k.0 512) [
      | yes l ↦ (l, λ z. let w : ◌≡◌ {A = ℕ} 0 1 = cc (rw (lt-ltb k.0 512 l, z) at h) in omega arith)
      | no g ↦ let w : ◌≡◌ {A = ℕ} 0 1 = cc (rw (le-ltb k.0 512 (omega arith)) at h) in absurd (omega arith)
    ]
