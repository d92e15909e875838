-- The constructor of clips: idempotent to the bit on every clip, finite values stay finite, and never four zero radii on a rounded clip.
use mathlib.Core.Path.{◌≡◌, refl, sym, ap, ◌∙◌}
use mathlib.Core.Bool.{Bool, true, false, ◌&&◌}
use lib.Ieee.{Float, le, eq}
use lib.Ieee.Scale.{finite}
use Rattle.numbers.specs.Rounded as const
use Rattle.numbers.specs.Number.{minimum, magnitude}
use Rattle.numbers.proofs.Bools.{split, and_left, and_right, four_chained, all_chained}
use Rattle.numbers.proofs.Signs.{clear_half}
use Rattle.numbers.proofs.Placed.{placed, placed_clear, min_clear, fit_again, fit_finite, fit_zero}
use Rattle.geometry.specs.declared.rect.Rect.{Rect}
use Rattle.geometry.specs.Rectangle.{rect, width, height, ordered, finite_rect}
use Rattle.geometry.proofs.Corners.{ordered_again, ordered_le, ordered_finite}
use Rattle.geometry_clips.specs.declared.rounded_rect_radii.RoundedRectRadii.{RoundedRectRadii}
use Rattle.geometry_clips.specs.declared.clip.Clip.{Clip}
use Rattle.geometry_clips.specs.declared.clip.Clip.TheVariants as is
use Rattle.std.specs.Prelude.{Option, None, Some}
use Rattle.geometry_clips.specs.Clips.{radii, all, cap, fitted, square, rounded, shaped, constructed, clip_rect, clip_radii, no_radii, constructed_of, finite_clip_rect, finite_clip}

-- ---- what laws say of a constructed clip

-- a rounded clip all of whose radii are 0
abbrev pub zero_radii : Clip → Bool
zero_radii is.None = false
zero_radii (is.Square x0 y0 x1 y1) = false
zero_radii (is.Rounded x0 y0 x1 y1 tl tr br bl) = all (λ x. eq x const.zero) (radii tl tr br bl)

-- the rectangle, where there is one, has its corners in order
abbrev pub in_order : Option Rect → Bool
in_order None = true
in_order (Some r) = le r.x0 r.x1 && le r.y0 r.y1

-- ---- the cap and the radii

module _ (r : Rect) where
  pub cap_clear : magnitude (cap (ordered r)) ≡ cap (ordered r)
  unfolding ordered
  cap_clear = clear_half (minimum (width (ordered r)) (height (ordered r))) (min_clear (placed_clear (placed r.x0 r.x1)) (placed_clear (placed r.y0 r.y1)))

module _ (r : Rect) (q : RoundedRectRadii) (C : magnitude (cap r) ≡ cap r) where
  pub fitted_again : fitted r (fitted r q) ≡ fitted r q
  unfolding fitted
  fitted_again =
      rw (fit_again (cap r) C q.top_left, fit_again (cap r) C q.top_right, fit_again (cap r) C q.bottom_right, fit_again (cap r) C q.bottom_left)

  pub fitted_finite : all finite q ≡ true → all finite (fitted r q) ≡ true
  unfolding fitted
  fitted_finite f =
      let F = four_chained (finite q.top_left) (finite q.top_right) (finite q.bottom_right) (finite q.bottom_left) f in
      all_chained
      (record {
        first = fit_finite (cap r) C q.top_left F.first;
        second = fit_finite (cap r) C q.top_right F.second;
        third = fit_finite (cap r) C q.bottom_right F.third;
        fourth = fit_finite (cap r) C q.bottom_left F.fourth;
      })

-- ---- the constructor

-- no radius stays none under any cap, so a square stays square
square_again : (r : Rect) → magnitude (cap r) ≡ cap r → shaped r (fitted r no_radii) ≡ square r
unfolding fitted shaped eq
square_again r C = rw (fit_zero (cap r) C)

module _ (r : Rect) (q : RoundedRectRadii) where
  pub shaped_cases : {A : Type 0} → (shaped r q ≡ square r → A) → (shaped r q ≡ rounded r q → all (λ x. eq x const.zero) q ≡ false → A) → A
  unfolding shaped
  shaped_cases f g =
      split (all (λ x. eq x const.zero) q)
      (λ (h : all (λ x. eq x const.zero) q ≡ true). f (rw (shaped, h)))
      (λ (h : all (λ x. eq x const.zero) q ≡ false). g (rw (shaped, h)) h)

  pub shaped_zero_radii : zero_radii (shaped r q) ≡ false
  shaped_zero_radii = shaped_cases (λ (e : shaped r q ≡ square r). rw e) (λ (e : shaped r q ≡ rounded r q) (h : all (λ x. eq x const.zero) q ≡ false). rw e h)

  pub shaped_rect : clip_rect (shaped r q) ≡ Some r
  unfolding clip_rect
  shaped_rect = shaped_cases (λ (e : shaped r q ≡ square r). rw e) (λ (e : shaped r q ≡ rounded r q) (h : all (λ x. eq x const.zero) q ≡ false). rw e)

  shaped_finite : finite_rect r ≡ true → all finite q ≡ true → finite_clip (shaped r q) ≡ true
  unfolding finite_clip finite_clip_rect clip_rect clip_radii
  shaped_finite f g = shaped_cases (λ (e : shaped r q ≡ square r). rw (e, f)) (λ (e : shaped r q ≡ rounded r q) (h : all (λ x. eq x const.zero) q ≡ false). rw (e, f, g))

  -- constructed again, where the corners are in order, the cap's sign is clear and the radii fit
  shaped_again : ordered r ≡ r → magnitude (cap r) ≡ cap r → fitted r q ≡ q → constructed (shaped r q) ≡ shaped r q
  unfolding constructed clip_rect clip_radii
  shaped_again o C f =
      shaped_cases (λ (e : shaped r q ≡ square r). ap constructed e ∙ rw o (square_again r C) ∙ sym e)
      (λ (e : shaped r q ≡ rounded r q) (h : all (λ x. eq x const.zero) q ≡ false). ap constructed e ∙ rw (o, f))

-- idempotent, to the bit, on every clip
again : (g : Option Rect) (q : RoundedRectRadii) → constructed (constructed_of g q) ≡ constructed_of g q
unfolding constructed clip_rect clip_radii
again None q = refl
again (Some g) q = shaped_again (ordered g) (fitted (ordered g) q) (ordered_again g) (cap_clear g) (fitted_again (ordered g) q (cap_clear g))

pub construct_again : (c : Clip) → constructed (constructed c) ≡ constructed c
unfolding constructed
construct_again c = again (clip_rect c) (clip_radii c)

-- never a rounded clip with four zero radii
never_zero_radii : (g : Option Rect) (q : RoundedRectRadii) → zero_radii (constructed_of g q) ≡ false
never_zero_radii None q = refl
never_zero_radii (Some g) q = shaped_zero_radii (ordered g) (fitted (ordered g) q)

pub construct_zero_radii : (c : Clip) → zero_radii (constructed c) ≡ false
unfolding constructed
construct_zero_radii c = never_zero_radii (clip_rect c) (clip_radii c)

-- finite values stay finite
stays_finite : (g : Option Rect) (q : RoundedRectRadii) → finite_clip_rect g ≡ true → all finite q ≡ true → finite_clip (constructed_of g q) ≡ true
unfolding finite_clip finite_clip_rect clip_rect clip_radii
stays_finite None q f h = refl
stays_finite (Some g) q f h =
    shaped_finite (ordered g) (fitted (ordered g) q) (ordered_finite g f) (fitted_finite (ordered g) q (cap_clear g) h)

pub construct_finite : (c : Clip) → finite_clip c ≡ true → finite_clip (constructed c) ≡ true
unfolding constructed finite_clip
construct_finite c f =
    stays_finite (clip_rect c) (clip_radii c) (and_left (finite_clip_rect (clip_rect c)) (all finite (clip_radii c)) f)
    (and_right (finite_clip_rect (clip_rect c)) (all finite (clip_radii c)) f)

-- the corners are in order
in_order_lem : (g : Option Rect) (q : RoundedRectRadii) → finite_clip_rect g ≡ true → in_order (clip_rect (constructed_of g q)) ≡ true
unfolding finite_clip_rect clip_rect
in_order_lem None q f = refl
in_order_lem (Some g) q f =
    let o = ordered_le g f in
    rw (shaped_rect (ordered g) (fitted (ordered g) q), o.0, o.1)

pub construct_ordered : (c : Clip) → finite_clip_rect (clip_rect c) ≡ true → in_order (clip_rect (constructed c)) ≡ true
unfolding constructed
construct_ordered c f = in_order_lem (clip_rect c) (clip_radii c) f

-- a square clip comes out square, with its corners in order
pub construct_square : (x0 y0 x1 y1 : Float) → constructed (is.Square x0 y0 x1 y1) ≡ square (ordered (rect x0 y0 x1 y1))
unfolding constructed clip_rect clip_radii fitted shaped eq
construct_square x0 y0 x1 y1 =
    let r = ordered (rect x0 y0 x1 y1) in
    rw (fit_zero (cap r) (cap_clear (rect x0 y0 x1 y1)))
