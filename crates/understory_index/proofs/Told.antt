-- What an update and a removal tell and leave of a sound index, by what the key finds.
use Rattle.std.specs.Prelude.{Some, None}
use mathlib.Core.Path.{◌≡◌, ap}
use mathlib.Core.Bool.{true, not}
use Rattle.counting.specs.Conditions.{refused, gives}
use Rattle.index_types.specs.declared.Aabb2D.{Aabb2D}
use Rattle.index_types.specs.declared.Key.{Key}
use Rattle.index_types.specs.declared.Slot.{Slot}
use Rattle.index_types.specs.declared.Index.{Index}
use Rattle.index_entries.specs.Entries.{look_up, update_of, remove_of}
use Rattle.index_entries.proofs.Finding.{look_live, look_dead}
use Rattle.index_state.specs.Index.{sound_index}
use Rattle.index_state.specs.Calls.{update, remove, nothing, given, accepted, told, after}
use Rattle.index_state.proofs.Calls.{update_dead, update_lives, remove_dead, remove_lives, accepts, refuses}

module _ (ix : Index) (sound : sound_index ix ≡ true) (k : Key) where
  pub update_refused : (b : Aabb2D) → look_up ix k ≡ None → (refused 10 ≡ told ix (update k b)) × (ix ≡ after ix (update k b))
  update_refused b d = refuses ix (update k b) 9 (update_dead ix (ap not sound) k b (look_dead ix k d))

  pub update_accepted : (b : Aabb2D) (e : Slot) → look_up ix k ≡ Some e → (gives nothing ≡ told ix (update k b)) × (update_of ix k.0 b ≡ after ix (update k b))
  unfolding given accepted
  update_accepted b e l = accepts ix (update k b) (update_lives ix (ap not sound) k b (look_live ix k e l).0)

  pub remove_refused : look_up ix k ≡ None → (refused 10 ≡ told ix (remove k)) × (ix ≡ after ix (remove k))
  remove_refused d = refuses ix (remove k) 9 (remove_dead ix (ap not sound) k (look_dead ix k d))

  pub remove_accepted : (e : Slot) → look_up ix k ≡ Some e → (gives nothing ≡ told ix (remove k)) × (remove_of ix k.0 ≡ after ix (remove k))
  unfolding given accepted
  remove_accepted e l = accepts ix (remove k) (remove_lives ix (ap not sound) k (look_live ix k e l).0)
