-- The rework of one position: what its steps need, and that they leave what the definition says.
use Prim.Native.Nat.{ℕ, ◌+◌, ◌≤◌, ◌<◌}
use mathlib.Core.Path.{◌≡◌, refl, ◌∙◌}
use mathlib.Core.List.{List, ◌++◌}
use native.Mathlib.Omega.{arith}
use lib.ListN.{length, length-append}
use lib.Ieee.{Float}
use Rattle.geometry.specs.declared.rect.Rect.{Rect}
use Rattle.index_entries.proofs.Finding.{live_slot}
use Rattle.tree_state.specs.declared.Tree.{Tree}
use Rattle.tree_state.specs.Tree.{key_at, stored_bounds}
use Rattle.tree_steps.specs.Commit.{new_place, new_bounds, damage_of, rework, rects_in_front}
use Rattle.tree_rework.specs.preconditions.Fits.{Fits, from, slot_at}
use Rattle.tree_rework.specs.Damage.{laid}
use Rattle.tree_rework.proofs.Rooms.{front_grows}
use Rattle.tree_rework.specs.entries.Enter.{Enters}

-- the damage that a position adds
abbrev pub adds : Tree → ℕ → List Rect
adds t i = damage_of (stored_bounds t (slot_at t i)) (new_bounds t (slot_at t i) (new_place t i (slot_at t i)))

damage_is : (t : Tree) (ds : List Rect) (i : ℕ) → (rework (from t ds) i).damage ≡ ds ++ adds t i
unfolding rework
damage_is t ds i = refl

-- ---- what the steps need

module _ {t : Tree} {ds : List Rect} {i : ℕ} (F : Fits (from t ds) i) where
  pub place_low : i < 256
  place_low = omega (arith, F.place, F.count_fits)

  pub slot_low : slot_at t i < 256
  slot_low = F.slots_low i F.place

  pub above_low : (j : ℕ) → j < i → slot_at t j < 256
  above_low j h = F.slots_low j (omega (arith, F.place))

  pub damage_few : length ds + length (adds t i) ≤ 512
  damage_few = let l = rw (damage_is t ds i) at F.damage_fits in omega (arith, l, length-append ds (adds t i))

  pub enters : Enters t (slot_at t i)
  enters =
      record {
        inserts =
            λ new. record {
              takes = record { used_fits = F.used_fits; frees_fit = F.frees_fit; slot_fits = F.slot_fits new };
              queues = record { low = F.slot_fits new; queue_fits = F.queue_fits; queue_room = F.slot_queued new };
            };
        queues = λ held. record { low = (live_slot t.index (key_at t (slot_at t i)) (F.key_lives held)).0; queue_fits = F.queue_fits; queue_room = F.key_queued held };
      }

-- ---- what they leave in the room

pub count_after : (t : Tree) (ds : List Rect) (i n m : ℕ) → m ≡ n + length (adds t i) → n ≡ length ds → m ≡ length (rework (from t ds) i).damage
count_after t ds i n m em en = rw (damage_is t ds i) (omega (arith, length-append ds (adds t i)))

pub room_after : (t : Tree) (ds : List Rect) (i n : ℕ) (room room' before : List Float) → 2048 ≤ length room → n + length (adds t i) ≤ 512
    → room' ≡ laid room n (adds t i) → n ≡ length ds → room ≡ rects_in_front ds before → room' ≡ rects_in_front (rework (from t ds) i).damage before
room_after t ds i n room room' before long few e en er = e ∙ rw (damage_is t ds i) (front_grows ds (adds t i) before room n er en long few)
