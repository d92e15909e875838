-- A rectangle that is stored in room is read back, the others are as they were, and the room keeps its length.
use Prim.Native.Nat.{ℕ, ◌+◌, ◌*◌, ◌≤◌}
use mathlib.Core.Path.{◌≡◌, refl, ap}
use mathlib.Core.List.{List}
use lib.ListN.{length}
use lib.Seq.{length-sets}
use lib.Ieee.{Float}
use Rattle.geometry.specs.declared.rect.Rect.{Rect}
use Rattle.index_types.proofs.rooms.Segments.{same, other}
use Rattle.tree_types.specs.rooms.Rooms.{rect_of, of_rect, rect_at, put_rect}

module _ (l : List Float) (i : ℕ) where
  pub rect_same : (r : Rect) → 4 * i + 4 ≤ length l → rect_at (put_rect l i r) i ≡ r
  unfolding rect_at put_rect
  rect_same r h = ap rect_of (same 4 l i (of_rect r) refl h)

  pub rect_other : (r : Rect) (j : ℕ) → (j ≡ i → ⊥) → rect_at (put_rect l i r) j ≡ rect_at l j
  unfolding rect_at put_rect
  rect_other r j n = ap rect_of (other 4 l i (of_rect r) refl j n)

  pub rect_length : (r : Rect) → length (put_rect l i r) ≡ length l
  unfolding put_rect
  rect_length r = length-sets l (4 * i) (of_rect r)
