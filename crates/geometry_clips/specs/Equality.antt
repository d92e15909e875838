-- Equality of clips as numbers is symmetric and transitive, as == must be; and what == answers on radii, as the derive computes it.
use mathlib.Core.Path.{◌≡◌, refl}
use mathlib.Core.Bool.{Bool, true}
use Rattle.std.specs.Prelude.{Option, None, Some}
use Rattle.std.specs.Option.{option_eq}
use Rattle.std.specs.Prelude.{◌&&◌}
use Rattle.std.specs.Float.Ieee.{eq}
use Rattle.std.specs.Cmp.{IsPartialEquivalence, on_per, and_per}
use Rattle.std.specs.Float.Cmp.{on_floats_per}
use Rattle.geometry.specs.Rectangle.{rect_eq}
use Rattle.geometry_clips.specs.declared.rounded_rect_radii.RoundedRectRadii.{RoundedRectRadii}
use Rattle.geometry_clips.specs.Rects.{clip_rect_eq}
use Rattle.geometry_clips.specs.Clips.{clip_rect, clip_radii, radii_eq, clip_eq}

module _ {A : Type 0} {E : A → A → Bool} (p : IsPartialEquivalence E) where
  option_symm : (g h : Option A) → option_eq E g h ≡ option_eq E h g
  option_symm None None = refl
  option_symm None (Some s) = refl
  option_symm (Some r) None = refl
  option_symm (Some r) (Some s) = p.symm r s

  option_trans : (g h k : Option A) → option_eq E g h ≡ true → option_eq E h k ≡ true → option_eq E g k ≡ true
  option_trans None None k e f = f
  option_trans None (Some s) k e f = cc
  option_trans (Some r) None k e f = cc
  option_trans (Some r) (Some s) None e f = f
  option_trans (Some r) (Some s) (Some t) e f = p.trans r s t e f

  pub option_laws : IsPartialEquivalence (option_eq E)
  option_laws = record { symm = option_symm; trans = option_trans }

pub rect_laws : IsPartialEquivalence rect_eq
unfolding rect_eq
rect_laws = and_per (on_floats_per (λ r. r.x0)) (and_per (on_floats_per (λ r. r.y0)) (and_per (on_floats_per (λ r. r.x1)) (on_floats_per (λ r. r.y1))))

pub radii_laws : IsPartialEquivalence radii_eq
radii_laws =
    and_per (on_floats_per (λ q. q.top_left))
    (and_per (on_floats_per (λ q. q.top_right)) (and_per (on_floats_per (λ q. q.bottom_right)) (on_floats_per (λ q. q.bottom_left))))

pub radii_chain : (r s : RoundedRectRadii) → eq r.top_left s.top_left && (eq r.top_right s.top_right && (eq r.bottom_right s.bottom_right && eq r.bottom_left s.bottom_left)) ≡ radii_eq r s
radii_chain r s = refl

pub clip_laws : IsPartialEquivalence clip_eq
unfolding clip_eq clip_rect_eq
clip_laws = and_per (on_per clip_rect (option_laws rect_laws)) (on_per clip_radii radii_laws)
