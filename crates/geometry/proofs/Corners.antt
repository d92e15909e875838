-- Ordering a rectangle's corners: idempotent to the bit, for every f64, and finite edges stay finite.
use mathlib.Core.Path.{◌≡◌}
use mathlib.Core.Bool.{true}
use lib.Ieee.{le}
use lib.Ieee.Scale.{finite}
use Rattle.numbers.proofs.Bools.{Four, four, all_four}
use Rattle.numbers.proofs.Order.{finite_number}
use Rattle.numbers.proofs.Placed.{placed, placed_again, placed_le, placed_finite}
use Rattle.geometry.specs.declared.rect.Rect.{Rect}
use Rattle.geometry.specs.Rectangle.{ordered, finite_rect}

module _ (r : Rect) where
  pub ordered_again : ordered (ordered r) ≡ ordered r
  unfolding ordered
  ordered_again =
      let x = placed_again (placed r.x0 r.x1) in
      let y = placed_again (placed r.y0 r.y1) in
      rw (x.0, x.1, y.0, y.1)

  edges : finite_rect r ≡ true → Four (finite r.x0) (finite r.y0) (finite r.x1) (finite r.y1)
  unfolding finite_rect
  edges f = four _ _ _ _ f

  pub ordered_le : finite_rect r ≡ true → (le (ordered r).x0 (ordered r).x1 ≡ true) × (le (ordered r).y0 (ordered r).y1 ≡ true)
  unfolding ordered
  ordered_le f =
      let F = edges f in (
        placed_le (finite_number r.x0 F.first) (finite_number r.x1 F.third) (placed r.x0 r.x1),
        placed_le (finite_number r.y0 F.second) (finite_number r.y1 F.fourth) (placed r.y0 r.y1),
      )

  pub ordered_finite : finite_rect r ≡ true → finite_rect (ordered r) ≡ true
  unfolding ordered finite_rect
  ordered_finite f =
      let F = edges f in
      let x = placed_finite F.first F.third (placed r.x0 r.x1) in
      let y = placed_finite F.second F.fourth (placed r.y0 r.y1) in
      all_four (record { first = x.0; second = y.0; third = x.1; fourth = y.1 })
