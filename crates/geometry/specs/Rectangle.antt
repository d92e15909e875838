-- Rectangles, and bounds plus insets. A rectangle has two low edges, x0 and y0, and two high edges, x1 and y1; nothing
-- keeps a low edge below its high edge.
use Rattle.std.specs.Prelude.{Bool, ◌&&◌, Float}
use Rattle.std.specs.Float.Ieee.{lt, le, eq}
use Rattle.std.specs.Float.Ieee.Scale.{finite}
use Rattle.geometry.specs.declared.point.Point.{Point}
use Rattle.geometry.specs.declared.rect.Rect.{Rect}
use Rattle.geometry.specs.declared.insets.Insets.{Insets}
use Rattle.numbers.specs.Rounded.{◌⊕◌, ◌⊖◌, zero}
use Rattle.numbers.specs.Number.{minimum, maximum}
unfoldable pub use Rattle.geometry.specs.Parts.{insets_eq, zero_insets, finite_insets}

abbrev pub rect : Float → Float → Float → Float → Rect
rect x0 y0 x1 y1 = record { x0 = x0; y0 = y0; x1 = x1; y1 = y1 }

abbrev pub width : Rect → Float
width r = r.x1 ⊖ r.x0

abbrev pub height : Rect → Float
height r = r.y1 ⊖ r.y0

-- the area test: the width and the height each exceed 0.0
unfoldable pub has_area : Rect → Bool
has_area r = lt zero (width r) && lt zero (height r)

-- corners put in order: edges (+0, −0) become (+0, +0), and (NaN, 5) becomes (5, 5)
unfoldable pub ordered : Rect → Rect
ordered r = rect (minimum r.x0 r.x1) (minimum r.y0 r.y1) (maximum r.x0 r.x1) (maximum r.y0 r.y1)

-- intersection: the larger low edges, the smaller high edges, each high edge then the maximum of itself and its low edge; a NaN edge
-- gives way to the other's
abbrev pub inner_edges : Rect → Rect → Rect
inner_edges r s = rect (maximum r.x0 s.x0) (maximum r.y0 s.y0) (minimum r.x1 s.x1) (minimum r.y1 s.y1)

abbrev pub raised : Rect → Rect
raised r = rect r.x0 r.y0 (maximum r.x1 r.x0) (maximum r.y1 r.y0)

unfoldable pub intersection : Rect → Rect → Rect
intersection r s = raised (inner_edges r s)

-- union: the smaller low edges, the larger high edges
unfoldable pub union : Rect → Rect → Rect
union r s = rect (minimum r.x0 s.x0) (minimum r.y0 s.y0) (maximum r.x1 s.x1) (maximum r.y1 s.y1)

-- a rectangle contains a point: low edges in, high edges out
unfoldable pub contains : Rect → Point → Bool
contains r p = le r.x0 p.x && lt p.x r.x1 && (le r.y0 p.y && lt p.y r.y1)

-- bounds plus insets: the corners first put in order, then the low edges lowered and the high edges raised
abbrev pub grown : Rect → Insets → Rect
grown r i = rect (r.x0 ⊖ i.x0) (r.y0 ⊖ i.y0) (r.x1 ⊕ i.x1) (r.y1 ⊕ i.y1)

unfoldable pub plus_insets : Rect → Insets → Rect
plus_insets r i = grown (ordered r) i

-- equality as numbers: −0 equals +0, a NaN equals nothing
unfoldable pub rect_eq : Rect → Rect → Bool
rect_eq r s = eq r.x0 s.x0 && (eq r.y0 s.y0 && (eq r.x1 s.x1 && eq r.y1 s.y1))

-- every edge is finite: what refusal 5 asks
unfoldable pub finite_rect : Rect → Bool
finite_rect r = finite r.x0 && finite r.y0 && (finite r.x1 && finite r.y1)
