-- Equality as numbers of rectangles and insets: reflexive on finite values, symmetric, and alike to equality with a third, to
-- containment of a point and to the test for zero. And what the area test tells.
use mathlib.Core.Path.{◌≡◌}
use mathlib.Core.Bool.{true}
use lib.Ieee.{lt, eq}
use Rattle.numbers.specs.Rounded as const
use Rattle.numbers.proofs.Bools.{and_left, and_right, Four, four_chained}
use Rattle.numbers.proofs.Order.{lt_alike_right, le_alike, four_refl, four_sym, four_alike}
use Rattle.numbers.proofs.Signs.{above_tells}
use Rattle.geometry.specs.declared.point.Point.{Point}
use Rattle.geometry.specs.declared.rect.Rect.{Rect}
use Rattle.geometry.specs.declared.insets.Insets.{Insets}
use Rattle.geometry.specs.Rectangle.{width, height, contains, has_area, rect_eq, insets_eq, zero_insets, finite_rect, finite_insets}

-- ---- rectangles

pub rect_refl : (r : Rect) → finite_rect r ≡ true → rect_eq r r ≡ true
unfolding rect_eq finite_rect
rect_refl r f = four_refl r.x0 r.y0 r.x1 r.y1 f

module _ (r s : Rect) where
  pub rect_sym : rect_eq r s ≡ rect_eq s r
  unfolding rect_eq
  rect_sym = four_sym r.x0 r.y0 r.x1 r.y1 s.x0 s.y0 s.x1 s.y1

  module _ (h : rect_eq r s ≡ true) where
    pub rect_alike : (t : Rect) → rect_eq r t ≡ rect_eq s t
    unfolding rect_eq
    rect_alike t = four_alike r.x0 r.y0 r.x1 r.y1 s.x0 s.y0 s.x1 s.y1 h t.x0 t.y0 t.x1 t.y1

    -- each edge equals its counterpart
    pub rect_edges : Four (eq r.x0 s.x0) (eq r.y0 s.y0) (eq r.x1 s.x1) (eq r.y1 s.y1)
    unfolding rect_eq
    rect_edges = four_chained _ _ _ _ h

    pub contains_alike : (p : Point) → contains r p ≡ contains s p
    unfolding contains
    contains_alike p =
        let E = rect_edges in
        rw
        (le_alike r.x0 s.x0 p.x E.first, lt_alike_right r.x1 s.x1 p.x E.third, le_alike r.y0 s.y0 p.y E.second, lt_alike_right r.y1 s.y1 p.y E.fourth)

-- what the area test accepts: the width and the height exceed 0, and each low edge is below its high edge
pub record Wide (r : Rect) : Type 0 where
  pub width_above : lt const.zero (width r) ≡ true
  pub height_above : lt const.zero (height r) ≡ true
  pub x_rises : lt r.x0 r.x1 ≡ true
  pub y_rises : lt r.y0 r.y1 ≡ true

pub area_tells : (r : Rect) → has_area r ≡ true → Wide r
unfolding has_area
area_tells r h =
    let w = and_left (lt const.zero (width r)) (lt const.zero (height r)) h in
    let t = and_right (lt const.zero (width r)) (lt const.zero (height r)) h in
    record {
      width_above = w;
      height_above = t;
      x_rises = above_tells r.x0 r.x1 w;
      y_rises = above_tells r.y0 r.y1 t;
    }

-- ---- insets

pub insets_refl : (i : Insets) → finite_insets i ≡ true → insets_eq i i ≡ true
unfolding insets_eq finite_insets
insets_refl i f = four_refl i.x0 i.y0 i.x1 i.y1 f

module _ (i j : Insets) where
  pub insets_sym : insets_eq i j ≡ insets_eq j i
  unfolding insets_eq
  insets_sym = four_sym i.x0 i.y0 i.x1 i.y1 j.x0 j.y0 j.x1 j.y1

  -- equal insets are alike to the test for zero
  pub insets_alike : insets_eq i j ≡ true → zero_insets i ≡ zero_insets j
  unfolding insets_eq zero_insets
  insets_alike h = four_alike i.x0 i.y0 i.x1 i.y1 j.x0 j.y0 j.x1 j.y1 h const.zero const.zero const.zero const.zero
