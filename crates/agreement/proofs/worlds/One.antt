-- One rework, all that it does: the world records of the place's node are stored, it has an entry with its hit box, and all else stays.
use mathlib.Core.Path.{◌≡◌, refl, ◌∙◌}
use mathlib.Core.Bool.{true, false}
use Prim.Native.Nat.{ℕ, ◌<◌}
use Rattle.index_types.specs.Slots.{entry_in}
use lib.ListN.{length}
use Rattle.geometry.specs.Rectangle.{rect_eq}
use Rattle.tree_types.specs.Local.{rect_to_aabb}
use Rattle.tree_worlds.specs.declared.Placed.{Placed}
use Rattle.tree_worlds.specs.World.{placed, world_box, hit_box}
use Rattle.link_forest.specs.Forest.{Forest, has, above}
use Rattle.index_state.specs.Index.{slot_of}
use Rattle.tree_state.specs.declared.Tree.{Tree}
use Rattle.tree_state.specs.Tree.{local_at, committed_at, key_at, stored_place, stored_bounds, stored_hit_bounds}
use Rattle.tree_laws.proofs.Ground.{Linked, low, slot_live}
use Rattle.tree_steps.specs.Commit.{Work, handed_down, new_place, new_hit_bounds, new_world, rework}
use Rattle.agreement.specs.Afresh.{Alike}
use Rattle.agreement.proofs.worlds.Visits.{slot_at}
use Rattle.agreement.proofs.worlds.Turn.{place_now, bounds_now, hit_now, whole_worlds, world_stays}
use Rattle.agreement.proofs.worlds.Keyed.{KeyedTree, box_stays}
use Rattle.agreement.proofs.worlds.Fold.{Kept, Frame, above_place}
use Rattle.agreement.proofs.worlds.Entries.{turn_keyed, turn_now, turn_committed, turn_other}

-- the place that the stored records of x's parent and x's local record give
abbrev pub place_from : Tree → Forest → ℕ → Placed
place_from t f x = placed (handed_down t (above x f)) (local_at t x).local_transform (local_at t x).local_clip

pub record Reworked (t : Tree) (f : Forest) (x : ℕ) (r : Tree) : Type 0 where
  pub frame : Frame t r
  -- x's world records
  pub worlds : length r.worlds ≡ 256
  pub place : stored_place r x ≡ place_from t f x
  pub bounds : stored_bounds r x ≡ world_box (place_from t f x) (local_at t x).local_bounds
  pub hit_bounds : stored_hit_bounds r x ≡ hit_box (place_from t f x) (local_at t x).local_bounds (local_at t x).hit_slop
  pub committed : committed_at r x ≡ true
  pub entry : Alike (entry_in r.index.entries (key_at r x).0).aabb (rect_to_aabb (stored_hit_bounds r x))
  -- of every other slot
  pub others : (y : ℕ) → (y ≡ x → ⊥) → Kept t r y
  pub keys : (y : ℕ) → (y ≡ x → ⊥) → (committed_at r y ≡ committed_at t y) × (key_at r y ≡ key_at t y)
  pub entries : (y : ℕ) → (y ≡ x → ⊥) → has y f ≡ true → committed_at t y ≡ true → (entry_in r.index.entries (key_at t y).0).aabb ≡ (entry_in t.index.entries (key_at t y).0).aabb
  pub keyed : KeyedTree r f

module _ (k : Work) (f : Forest) (L : Linked k.tree f) (Ws : length k.tree.worlds ≡ 256) (K : KeyedTree k.tree f) (i : ℕ) (h : i < k.tree.links.count) (fits : committed_at k.tree (slot_at k.tree.links i) ≡ false → slot_of k.tree.index < 512) where
  pub one_rework : Reworked k.tree f (slot_at k.tree.links i) (rework k i).tree
  unfolding rework local_at
  one_rework =
      let t = k.tree in
      let x = slot_at t.links i in
      let g = slot_live t f L i h in
      let l = low t f L x g in
      let w = new_place t i x in
      let b = new_hit_bounds t x w in
      let a = above_place t f L i h in
      let Y = turn_keyed t f L K i x g fits in
      let c = turn_now t f L K i x g fits in
      record {
        frame = record { slots = refl; links = refl; locals = refl; marks = refl; pending = refl };
        worlds = whole_worlds t x w Ws l;
        place = place_now t x w Ws l ∙ rw a;
        bounds = bounds_now t x w Ws l ∙ rw a;
        hit_bounds = hit_now t x w Ws l ∙ rw a;
        committed = c;
        entry = Y.boxed x g c;
        others = λ y n. world_stays t x w y n;
        keys = λ y n. (turn_committed t f L K i x g fits y n, turn_other t f L K i x g fits y n);
        entries = λ y n u d. box_stays t f (low t f L) K x g (new_world t x w) y n u d (committed_at t x) (rect_eq (stored_hit_bounds t x) b) refl fits;
        keyed = Y;
      }
