-- The axis-aligned box of a rectangle's image.
use Rattle.geometry.specs.declared.rect.Rect.{Rect}
use Rattle.geometry.specs.declared.affine.Affine.{Affine}
use Rattle.numbers.specs.Rounded.{◌⊕◌, ◌⊗◌}
use Rattle.numbers.specs.Number.{minimum, maximum}
use Rattle.geometry.specs.Rectangle.{rect}

-- `transform_rect_bbox`, operation by operation: each axis from the minimum, or the maximum, of either edge's product, the shift last.
-- A NaN product leaves the other product as both; of two equal zeros the first keeps its sign.
unfoldable pub transform_rect_bbox : Affine → Rect → Rect
transform_rect_bbox t r =
    rect
    (minimum (t.a ⊗ r.x0) (t.a ⊗ r.x1) ⊕ minimum (t.c ⊗ r.y0) (t.c ⊗ r.y1) ⊕ t.e)
    (minimum (t.b ⊗ r.x0) (t.b ⊗ r.x1) ⊕ minimum (t.d ⊗ r.y0) (t.d ⊗ r.y1) ⊕ t.f)
    (maximum (t.a ⊗ r.x0) (t.a ⊗ r.x1) ⊕ maximum (t.c ⊗ r.y0) (t.c ⊗ r.y1) ⊕ t.e)
    (maximum (t.b ⊗ r.x0) (t.b ⊗ r.x1) ⊕ maximum (t.d ⊗ r.y0) (t.d ⊗ r.y1) ⊕ t.f)
