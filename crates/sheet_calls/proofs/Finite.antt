-- Every local record of a good sheet passes 5 and 6: its numbers are finite and its flags known.
use Prim.Native.Nat.{ℕ, zero, suc, ◌≤◌, ◌%◌}
use mathlib.Core.Path.{◌≡◌, refl}
use mathlib.Core.Bool.{Bool, true, false, ◌&&◌, cond}
use mathlib.Core.List.{List, [], ◌∷◌, ◌++◌}
use native.Mathlib.Omega.{arith}
use lib.Dec.{ltb}
use lib.IntN.{ℤ, pos, negsuc, neg_ℤ, nat_abs}
use lib.Signed.{mag}
use lib.Ieee.{of_bits, of_fields, odd}
use borrow.Author.Tests.{lt-ltb}
use Rattle.numbers.proofs.Bools.{and_left, and_right}
use Rattle.geometry.specs.Rectangle.{finite_rect, finite_insets}
use Rattle.geometry.specs.Transform.{finite_affine}
use Rattle.geometry_clips.specs.declared.clip.Clip.{Clip}
use Rattle.geometry_clips.specs.declared.clip.Clip.TheVariants as clip
use Rattle.geometry_clips.specs.Clips.{clip_rect, clip_radii, finite_clip_rect, finite_clip}
use Rattle.tree_types.specs.Local.{known, finite_local}
use Rattle.sheet_format.specs.declared.PlaceLine.{PlaceLine}
use Rattle.sheet_format.specs.declared.ClipLine.{ClipLine}
use Rattle.sheet_format.specs.declared.TapLine.{TapLine}
use Rattle.sheet_format.specs.Sheet.{within, equal, coordinate, flag_byte, place_in_range, clip_in_range, tap_in_range, clip_of, clip_rule}
use Rattle.sheet_calls.specs.Calls.{real, Linear, upright, mirrored, turns, orientation, clip_on, clip_for, local_of}
use Rattle.sheet_calls.specs.Answers.{asked_of}
use Rattle.sheet_calls.specs.Good.{Passes, Small}
use Rattle.sheet_calls.proofs.Whole.{coordinate_near, from_zero, small_finite, not_negative, level_fits}

-- ---- a row's ranges, by name

pub record PlaceRanges (p : PlaceLine) : Type 0 where
  pub orientation : nat_abs p.orientation ≤ 7
  pub x : nat_abs p.x ≤ 1000000
  pub y : nat_abs p.y ≤ 1000000
  pub x0 : nat_abs p.x0 ≤ 1000000
  pub y0 : nat_abs p.y0 ≤ 1000000
  pub x1 : nat_abs p.x1 ≤ 1000000
  pub y1 : nat_abs p.y1 ≤ 1000000
  pub slop : nat_abs p.slop ≤ 1000
  pub flags : nat_abs p.flags ≤ 7
  pub turn : p.orientation ≡ pos (nat_abs p.orientation)
  pub level : mag p.level ≤ 2147483647
  pub bits : p.flags ≡ pos (nat_abs p.flags)

pub place_ranges : (p : PlaceLine) → place_in_range p ≡ true → PlaceRanges p
unfolding place_in_range
place_ranges p h =
    let a = within (pos 0) (pos 7) p.orientation in
    let b = coordinate p.x && coordinate p.y in
    let c3 = coordinate p.x0 && coordinate p.y0 && coordinate p.x1 in
    let c = c3 && coordinate p.y1 in
    let d = within (pos 0) (pos 1000) p.slop in
    let e = within (neg_ℤ (pos 2147483648)) (pos 2147483647) p.level in
    let f = flag_byte p.flags in
    let abcde : a && b && c && d && e ≡ true = and_left (a && b && c && d && e) f h in
    let abcd : a && b && c && d ≡ true = and_left (a && b && c && d) e abcde in
    let abc : a && b && c ≡ true = and_left (a && b && c) d abcd in
    let ab : a && b ≡ true = and_left (a && b) c abc in
    let hb : b ≡ true = and_right a b ab in
    let hc : c ≡ true = and_right (a && b) c abc in
    let hc3 : c3 ≡ true = and_left c3 (coordinate p.y1) hc in
    let c2 : coordinate p.x0 && coordinate p.y0 ≡ true = and_left (coordinate p.x0 && coordinate p.y0) (coordinate p.x1) hc3 in
    record {
      orientation = from_zero 7 p.orientation (and_left a b ab);
      x = coordinate_near p.x (and_left (coordinate p.x) (coordinate p.y) hb);
      y = coordinate_near p.y (and_right (coordinate p.x) (coordinate p.y) hb);
      x0 = coordinate_near p.x0 (and_left (coordinate p.x0) (coordinate p.y0) c2);
      y0 = coordinate_near p.y0 (and_right (coordinate p.x0) (coordinate p.y0) c2);
      x1 = coordinate_near p.x1 (and_right (coordinate p.x0 && coordinate p.y0) (coordinate p.x1) hc3);
      y1 = coordinate_near p.y1 (and_right c3 (coordinate p.y1) hc);
      slop = from_zero 1000 p.slop (and_right (a && b && c) d abcd);
      flags = from_zero 7 p.flags (and_right (a && b && c && d && e) f h);
      turn = not_negative 7 p.orientation (and_left a b ab);
      level = level_fits p.level (and_right (a && b && c && d) e abcde);
      bits = not_negative 7 p.flags (and_right (a && b && c && d && e) f h);
    }

pub record ClipRanges (c : ClipLine) : Type 0 where
  pub x0 : nat_abs c.x0 ≤ 1000000
  pub y0 : nat_abs c.y0 ≤ 1000000
  pub x1 : nat_abs c.x1 ≤ 1000000
  pub y1 : nat_abs c.y1 ≤ 1000000
  pub radius : nat_abs c.radius ≤ 1000000

pub clip_ranges : (c : ClipLine) → clip_in_range c ≡ true → ClipRanges c
unfolding clip_in_range
clip_ranges c h =
    let a3 = coordinate c.x0 && coordinate c.y0 && coordinate c.x1 in
    let a = a3 && coordinate c.y1 in
    let b = within (pos 0) (pos 1000000) c.radius in
    let ha : a ≡ true = and_left a b h in
    let h3 : a3 ≡ true = and_left a3 (coordinate c.y1) ha in
    let h2 : coordinate c.x0 && coordinate c.y0 ≡ true = and_left (coordinate c.x0 && coordinate c.y0) (coordinate c.x1) h3 in
    record {
      x0 = coordinate_near c.x0 (and_left (coordinate c.x0) (coordinate c.y0) h2);
      y0 = coordinate_near c.y0 (and_right (coordinate c.x0) (coordinate c.y0) h2);
      x1 = coordinate_near c.x1 (and_right (coordinate c.x0 && coordinate c.y0) (coordinate c.x1) h3);
      y1 = coordinate_near c.y1 (and_right a3 (coordinate c.y1) ha);
      radius = from_zero 1000000 c.radius (and_right a b h);
    }

pub record TapRanges (t : TapLine) : Type 0 where
  pub x : nat_abs t.x ≤ 1000000
  pub y : nat_abs t.y ≤ 1000000
  pub flags : nat_abs t.flags ≤ 7
  pub bits : t.flags ≡ pos (nat_abs t.flags)

pub tap_ranges : (t : TapLine) → tap_in_range t ≡ true → TapRanges t
unfolding tap_in_range
tap_ranges t h =
    let a = coordinate t.x in
    let b = coordinate t.y in
    let c = flag_byte t.flags in
    let ab : a && b ≡ true = and_left (a && b) c h in
    record {
      x = coordinate_near t.x (and_left a b ab);
      y = coordinate_near t.y (and_right a b ab);
      flags = from_zero 7 t.flags (and_right (a && b) c h);
      bits = not_negative 7 t.flags (and_right (a && b) c h);
    }

-- ---- the orientations' coefficients are 0, 1 and −1

pub abs_neg : (z : ℤ) → nat_abs (neg_ℤ z) ≡ nat_abs z
abs_neg (pos zero) = refl
abs_neg (pos (suc n)) = refl
abs_neg (negsuc n) = refl

pub turns_small : (k : ℕ) (m : Linear) → Small m → Small (turns k m)
unfolding turns
turns_small zero m s = s
turns_small (suc k) m s =
    let t = turns_small k m s in
    record {
      a = omega (arith, abs_neg (turns k m).b, t.b);
      b = t.a;
      c = omega (arith, abs_neg (turns k m).d, t.d);
      d = t.c;
    }

pub first_small : (b : Bool) → Small (cond b upright mirrored)
first_small true = record { a = omega arith; b = omega arith; c = omega arith; d = omega arith }
first_small false = record { a = omega arith; b = omega arith; c = omega arith; d = omega arith }

pub orientation_small : (k : ℕ) → Small (orientation k)
unfolding orientation
orientation_small k = turns_small (k % 4) (cond (ltb k 4) upright mirrored) (first_small (ltb k 4))

-- ---- clips

rounded : (c : ClipLine) → Clip
rounded c =
    let r = real c.radius in
    clip.Rounded (real c.x0) (real c.y0) (real c.x1) (real c.y1) r r r r

rounded_finite : (c : ClipLine) → ClipRanges c → finite_clip (rounded c) ≡ true
unfolding rounded finite_clip finite_clip_rect finite_rect clip_rect clip_radii
rounded_finite c r =
    rw (small_finite c.x0 r.x0, small_finite c.y0 r.y0, small_finite c.x1 r.x1, small_finite c.y1 r.y1, small_finite c.radius r.radius)

none_finite : finite_clip clip.None ≡ true
unfolding finite_clip finite_clip_rect clip_rect clip_radii of_bits of_fields odd
none_finite = refl

clip_on_finite : (c : ClipLine) → ClipRanges c → finite_clip (clip_on c) ≡ true
unfolding clip_on rounded
clip_on_finite c r = go (equal c.x0 c.x1 && equal c.y0 c.y1)
  where
    go : (b : Bool) → finite_clip (cond b clip.None (rounded c)) ≡ true
    go true = none_finite
    go false = rounded_finite c r

pub clip_for_finite : (n : ℕ) (before clips : List (List ℤ)) → Passes (clip_rule n) before clips → (k : ℕ) → finite_clip (clip_for clips k) ≡ true
unfolding clip_for Passes
clip_for_finite n before [] h k = none_finite
clip_for_finite n before (zs ∷ clips) h k = go (equal (clip_of zs).place (pos k)) (clip_for_finite n (before ++ zs ∷ []) clips h.1 k)
  where
    go : (b : Bool) → finite_clip (clip_for clips k) ≡ true → finite_clip (cond b (clip_on (clip_of zs)) (clip_for clips k)) ≡ true
    go true later = clip_on_finite (clip_of zs) (clip_ranges (clip_of zs) h.0.ranged)
    go false later = later

-- ---- a place's record

pub local_finite : (p : PlaceLine) (c : Clip) → PlaceRanges p → finite_clip c ≡ true → finite_local (local_of p c) ≡ true
unfolding local_of finite_local finite_rect finite_insets finite_affine
local_finite p c r f =
    let m = orientation (nat_abs p.orientation) in
    let s = orientation_small (nat_abs p.orientation) in
    rw (
      small_finite p.x0 r.x0,
      small_finite p.y0 r.y0,
      small_finite p.x1 r.x1,
      small_finite p.y1 r.y1,
      small_finite p.slop (omega (arith, r.slop)),
      small_finite m.a (omega (arith, s.a)),
      small_finite m.b (omega (arith, s.b)),
      small_finite m.c (omega (arith, s.c)),
      small_finite m.d (omega (arith, s.d)),
      small_finite p.x r.x,
      small_finite p.y r.y,
      f,
    )

pub local_known : (p : PlaceLine) (c : Clip) → PlaceRanges p → known (local_of p c).flags ≡ true
unfolding local_of
local_known p c r = lt-ltb (nat_abs p.flags) 8 (omega (arith, r.flags))

pub asked_known : (t : TapLine) → TapRanges t → known (asked_of t) ≡ true
asked_known t r = lt-ltb (nat_abs t.flags) 8 (omega (arith, r.flags))
