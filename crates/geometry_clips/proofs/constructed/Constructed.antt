-- A clip that the constructor leaves as it is, to the bit: the test is exact, on every clip.
use mathlib.Core.Path.{◌≡◌, refl, sym, ap, ◌∙◌}
use mathlib.Core.Bool.{Bool, true, false, not, ◌&&◌}
use Prim.Native.Nat.{ℕ}
use native.Mathlib.Omega.{arith}
use lib.Ieee.{eq}
use Rattle.numbers.specs.Rounded as const
use Rattle.numbers.specs.Number.{same}
use Rattle.numbers.proofs.Bools.{clash, and_left, and_right, four, all_four}
use Rattle.numbers.proofs.Bitwise.{same_eq, same_self}
use Rattle.geometry.specs.declared.rect.Rect.{Rect}
use Rattle.geometry.specs.Rectangle.{rect, ordered}
use Rattle.geometry_clips.specs.declared.rounded_rect_radii.RoundedRectRadii.{RoundedRectRadii}
use Rattle.geometry_clips.specs.declared.clip.Clip.{Clip}
use Rattle.geometry_clips.specs.declared.clip.Clip.TheVariants as is
use Rattle.geometry_clips.specs.Clips.{radii, all, fitted, square, rounded, shaped, constructed, clip_rect, clip_radii, same_rect, same_radii}
use Rattle.geometry_clips.specs.constructed.Constructed.{as_constructed}
use Rattle.geometry_clips.proofs.Construct.{shaped_cases, construct_square}

-- records with the same fields
rect_of : (r s : Rect) → r.x0 ≡ s.x0 → r.y0 ≡ s.y0 → r.x1 ≡ s.x1 → r.y1 ≡ s.y1 → r ≡ s
rect_of r s a b c d = let z : rect r.x0 r.y0 r.x1 r.y1 ≡ rect s.x0 s.y0 s.x1 s.y1 = rw (a, b, c, d) in z

radii_of : (q s : RoundedRectRadii) → q.top_left ≡ s.top_left → q.top_right ≡ s.top_right → q.bottom_right ≡ s.bottom_right → q.bottom_left ≡ s.bottom_left → q ≡ s
radii_of q s a b c d = let z : radii q.top_left q.top_right q.bottom_right q.bottom_left ≡ radii s.top_left s.top_right s.bottom_right s.bottom_left = rw (a, b, c, d) in z

same_rect_lem : (r s : Rect) → same_rect r s ≡ true → r ≡ s
same_rect_lem r s h =
    let F = four (same r.x0 s.x0) (same r.y0 s.y0) (same r.x1 s.x1) (same r.y1 s.y1) h in
    let a : r.x0 ≡ s.x0 = same_eq r.x0 s.x0 F.first in
    let b : r.y0 ≡ s.y0 = same_eq r.y0 s.y0 F.second in
    let c : r.x1 ≡ s.x1 = same_eq r.x1 s.x1 F.third in
    let d : r.y1 ≡ s.y1 = same_eq r.y1 s.y1 F.fourth in
    rect_of r s a b c d

rect_same : (r : Rect) → same_rect r r ≡ true
rect_same r = all_four (record { first = same_self r.x0; second = same_self r.y0; third = same_self r.x1; fourth = same_self r.y1 })

same_radii_lem : (q s : RoundedRectRadii) → same_radii q s ≡ true → q ≡ s
same_radii_lem q s h =
    let F = four (same q.top_left s.top_left) (same q.top_right s.top_right) (same q.bottom_right s.bottom_right) (same q.bottom_left s.bottom_left) h in
    let a : q.top_left ≡ s.top_left = same_eq q.top_left s.top_left F.first in
    let b : q.top_right ≡ s.top_right = same_eq q.top_right s.top_right F.second in
    let c : q.bottom_right ≡ s.bottom_right = same_eq q.bottom_right s.bottom_right F.third in
    let d : q.bottom_left ≡ s.bottom_left = same_eq q.bottom_left s.bottom_left F.fourth in
    radii_of q s a b c d

radii_same : (q : RoundedRectRadii) → same_radii q q ≡ true
radii_same q =
    all_four (record { first = same_self q.top_left; second = same_self q.top_right; third = same_self q.bottom_right; fourth = same_self q.bottom_left })

not_true : (b : Bool) → not b ≡ true → b ≡ false
not_true true h = clash (sym h)
not_true false h = refl

-- a square clip
square_rect : (r s : Rect) → square r ≡ square s → r ≡ s
square_rect r s h =
    let a : r.x0 ≡ s.x0 = cc in
    let b : r.y0 ≡ s.y0 = cc in
    let c : r.x1 ≡ s.x1 = cc in
    let d : r.y1 ≡ s.y1 = cc in
    rect_of r s a b c d

-- a rounded one
module _ (r : Rect) (q : RoundedRectRadii) where
  whole : same_rect (ordered r) r && same_radii (fitted r q) q && not (all (λ x. eq x const.zero) q) ≡ true → shaped (ordered r) (fitted (ordered r) q) ≡ rounded r q
  unfolding shaped
  whole h =
      let z = all (λ x. eq x const.zero) q in
      let s = and_left (same_rect (ordered r) r && same_radii (fitted r q) q) (not z) h in
      let o = same_rect_lem (ordered r) r (and_left (same_rect (ordered r) r) (same_radii (fitted r q) q) s) in
      let f = same_radii_lem (fitted r q) q (and_right (same_rect (ordered r) r) (same_radii (fitted r q) q) s) in
      rw (o, f, shaped, not_true z (and_right (same_rect (ordered r) r && same_radii (fitted r q) q) (not z) h))

  module _ (o : Rect) (f : RoundedRectRadii) where
    parts : rounded o f ≡ rounded r q → (o ≡ r) × (f ≡ q)
    parts h =
        let a : o.x0 ≡ r.x0 = cc in
        let b : o.y0 ≡ r.y0 = cc in
        let c : o.x1 ≡ r.x1 = cc in
        let d : o.y1 ≡ r.y1 = cc in
        let i : f.top_left ≡ q.top_left = cc in
        let j : f.top_right ≡ q.top_right = cc in
        let k : f.bottom_right ≡ q.bottom_right = cc in
        let l : f.bottom_left ≡ q.bottom_left = cc in
        (rect_of o r a b c d, radii_of f q i j k l)

    differ : square o ≡ rounded r q → ⊥
    differ h = let z : ◌≡◌ {A = ℕ} 0 1 = cc in omega arith

  back : shaped (ordered r) (fitted (ordered r) q) ≡ rounded r q → same_rect (ordered r) r && same_radii (fitted r q) q && not (all (λ x. eq x const.zero) q) ≡ true
  back h =
      shaped_cases (ordered r) (fitted (ordered r) q)
      (λ (e : shaped (ordered r) (fitted (ordered r) q) ≡ square (ordered r)). absurd (differ (ordered r) q (sym e ∙ h)))
      (λ (e : shaped (ordered r) (fitted (ordered r) q) ≡ rounded (ordered r) (fitted (ordered r) q)) (z : all (λ x. eq x const.zero) (fitted (ordered r) q) ≡ false).
      let p = parts (ordered r) (fitted (ordered r) q) (sym e ∙ h) in
      let f : fitted r q ≡ q = rw p.0 at p.1 in
      let y : all (λ x. eq x const.zero) q ≡ false = rw p.1 at z in
      rw (p.0, f, rect_same r, radii_same q, y))

pub as_constructed_lem : (c : Clip) → (as_constructed c ≡ true → constructed c ≡ c) × (constructed c ≡ c → as_constructed c ≡ true)
unfolding as_constructed constructed clip_rect clip_radii
as_constructed_lem is.None = ((λ _. refl), (λ _. refl))
as_constructed_lem (is.Square x0 y0 x1 y1) =
    let r = rect x0 y0 x1 y1 in (
      (λ h. construct_square x0 y0 x1 y1 ∙ ap square (same_rect_lem (ordered r) r h)),
      (λ h. let e = square_rect (ordered r) r (sym (construct_square x0 y0 x1 y1) ∙ h) in rw e (rect_same r)),
    )
as_constructed_lem (is.Rounded x0 y0 x1 y1 tl tr br bl) = (whole (rect x0 y0 x1 y1) (radii tl tr br bl), back (rect x0 y0 x1 y1) (radii tl tr br bl))
