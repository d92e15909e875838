-- Equality of clips as numbers: reflexive on finite values, and symmetric.
use mathlib.Core.Path.{◌≡◌, refl}
use mathlib.Core.Bool.{true}
use lib.Ieee.Scale.{finite}
use Rattle.numbers.proofs.Bools.{and_left, and_right, four_chained, all_four}
use Rattle.numbers.proofs.Order.{four_refl, four_sym}
use Rattle.geometry.proofs.Records.{rect_refl, rect_sym}
use Rattle.geometry_clips.specs.declared.rounded_rect_radii.RoundedRectRadii.{RoundedRectRadii}
use Rattle.geometry_clips.specs.declared.clip.Clip.{Clip}
use Rattle.std.specs.Prelude.{Option, None, Some}
use Rattle.geometry.specs.declared.rect.Rect.{Rect}
use Rattle.geometry_clips.specs.Clips.{all, radii_eq, clip_rect, clip_radii, clip_rect_eq, clip_eq, finite_clip_rect, finite_clip}

pub radii_refl : (q : RoundedRectRadii) → all finite q ≡ true → radii_eq q q ≡ true
radii_refl q f =
    let F = four_chained (finite q.top_left) (finite q.top_right) (finite q.bottom_right) (finite q.bottom_left) f in
    four_refl q.top_left q.top_right q.bottom_right q.bottom_left (all_four F)

pub radii_sym : (q s : RoundedRectRadii) → radii_eq q s ≡ radii_eq s q
radii_sym q s =
    four_sym q.top_left q.top_right q.bottom_right q.bottom_left s.top_left s.top_right s.bottom_right s.bottom_left

pub clip_rect_refl : (g : Option Rect) → finite_clip_rect g ≡ true → clip_rect_eq g g ≡ true
unfolding clip_rect_eq finite_clip_rect
clip_rect_refl None f = refl
clip_rect_refl (Some r) f = rect_refl r f

pub clip_rect_sym : (g h : Option Rect) → clip_rect_eq g h ≡ clip_rect_eq h g
unfolding clip_rect_eq
clip_rect_sym None None = refl
clip_rect_sym None (Some s) = refl
clip_rect_sym (Some r) None = refl
clip_rect_sym (Some r) (Some s) = rect_sym r s

pub clip_refl : (c : Clip) → finite_clip c ≡ true → clip_eq c c ≡ true
unfolding clip_eq finite_clip
clip_refl c f =
    let r = finite_clip_rect (clip_rect c) in
    let q = all finite (clip_radii c) in
    rw (clip_rect_refl (clip_rect c) (and_left r q f), radii_refl (clip_radii c) (and_right r q f))

pub clip_sym : (c d : Clip) → clip_eq c d ≡ clip_eq d c
unfolding clip_eq
clip_sym c d = rw (clip_rect_sym (clip_rect c) (clip_rect d), radii_sym (clip_radii c) (clip_radii d))
