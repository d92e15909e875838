-- Boxes that are the same, or the same as numbers: no point and no rectangle tells them apart.
use mathlib.Core.Path.{◌≡◌, ap}
use mathlib.Core.Bool.{Bool, true}
use lib.Ieee.{Float, eq}
use Rattle.numbers.proofs.Bools.{four_chained}
use Rattle.numbers.proofs.Order.{le_alike, le_alike_right}
use Rattle.index_types.specs.declared.Aabb2D.{Aabb2D}
use Rattle.index_types.specs.Boxes.{contains_point, overlaps, aabb_eq}
use Rattle.agreement.specs.Afresh.{Alike, itself, as_numbers}

module _ (a b : Aabb2D) where
  contains_equal : aabb_eq a b ≡ true → (x y : Float) → contains_point a x y ≡ contains_point b x y
  unfolding aabb_eq contains_point
  contains_equal h x y =
      let F = four_chained (eq a.min_x b.min_x) (eq a.min_y b.min_y) (eq a.max_x b.max_x) (eq a.max_y b.max_y) h in
      rw (
        le_alike a.min_x b.min_x x F.first,
        le_alike a.min_y b.min_y y F.second,
        le_alike_right a.max_x b.max_x x F.third,
        le_alike_right a.max_y b.max_y y F.fourth,
      )

  overlaps_equal : aabb_eq a b ≡ true → (c : Aabb2D) → overlaps a c ≡ overlaps b c
  unfolding aabb_eq overlaps
  overlaps_equal h c =
      let F = four_chained (eq a.min_x b.min_x) (eq a.min_y b.min_y) (eq a.max_x b.max_x) (eq a.max_y b.max_y) h in
      rw (
        le_alike a.min_x b.min_x c.max_x F.first,
        le_alike a.min_y b.min_y c.max_y F.second,
        le_alike_right a.max_x b.max_x c.min_x F.third,
        le_alike_right a.max_y b.max_y c.min_y F.fourth,
      )

-- a test of boxes that says the same of two that are alike
abbrev pub Fair : (Aabb2D → Bool) → Type 0
Fair q = (a b : Aabb2D) → Alike a b → q a ≡ q b

pub fair_point : (x y : Float) → Fair (λ b. contains_point b x y)
fair_point x y a b (itself e) = ap (λ (c : Aabb2D). contains_point c x y) e
fair_point x y a b (as_numbers h) = contains_equal a b h x y

pub fair_rect : (r : Aabb2D) → Fair (λ b. overlaps b r)
fair_rect r a b (itself e) = ap (λ (c : Aabb2D). overlaps c r) e
fair_rect r a b (as_numbers h) = overlaps_equal a b h r
