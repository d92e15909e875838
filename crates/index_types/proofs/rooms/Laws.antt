-- A box that is stored in room is read back, the others are as they were, and the room keeps its length.
use mathlib.Core.Path.{◌≡◌, refl, ap}
use mathlib.Core.List.{List}
use Prim.Native.Nat.{ℕ, ◌+◌, ◌*◌, ◌≤◌}
use lib.ListN.{length}
use lib.Seq.{length-sets}
use lib.Ieee.{Float}
use Rattle.index_types.specs.declared.Aabb2D.{Aabb2D}
use Rattle.index_types.specs.rooms.Tables.{box_of, of_box, box_at, put_box}
use Rattle.index_types.proofs.rooms.Segments.{same, other}

pub box_same : (l : List Float) (i : ℕ) (b : Aabb2D) → 4 * i + 4 ≤ length l → box_at (put_box l i b) i ≡ b
unfolding box_at put_box
box_same l i b h = ap box_of (same 4 l i (of_box b) refl h)

pub box_other : (l : List Float) (i : ℕ) (b : Aabb2D) (j : ℕ) → (j ≡ i → ⊥) → box_at (put_box l i b) j ≡ box_at l j
unfolding box_at put_box
box_other l i b j n = ap box_of (other 4 l i (of_box b) refl j n)

pub box_length : (l : List Float) (i : ℕ) (b : Aabb2D) → length (put_box l i b) ≡ length l
unfolding put_box
box_length l i b = length-sets l (4 * i) (of_box b)
