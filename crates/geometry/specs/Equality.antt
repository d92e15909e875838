-- What == answers on rectangles, insets and transforms, as the derives compute it, is the definition that contracts cite.
use Rattle.std.specs.Prelude.{◌≡◌, refl, ◌&&◌}
use Rattle.std.specs.Float.Ieee.{eq}
use Rattle.geometry.specs.declared.rect.Rect.{Rect}
use Rattle.geometry.specs.declared.insets.Insets.{Insets}
use Rattle.geometry.specs.declared.affine.Affine.{Affine}
use Rattle.geometry.specs.Rectangle.{rect_eq}
use Rattle.geometry.specs.Parts.{insets_eq}
use Rattle.geometry.specs.Transform.{affine_eq}

pub rect_chain : (r s : Rect) → eq r.x0 s.x0 && (eq r.y0 s.y0 && (eq r.x1 s.x1 && eq r.y1 s.y1)) ≡ rect_eq r s
unfolding rect_eq
rect_chain r s = refl

pub insets_chain : (i j : Insets) → eq i.x0 j.x0 && (eq i.y0 j.y0 && (eq i.x1 j.x1 && eq i.y1 j.y1)) ≡ insets_eq i j
unfolding insets_eq
insets_chain i j = refl

pub affine_chain : (s t : Affine) → eq s.a t.a && (eq s.b t.b && (eq s.c t.c && (eq s.d t.d && (eq s.e t.e && eq s.f t.f)))) ≡ affine_eq s t
unfolding affine_eq
affine_chain s t = refl
