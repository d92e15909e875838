-- Insets.
use Rattle.std.specs.Prelude.{Bool, ◌&&◌}
use Rattle.std.specs.Float.Ieee.{eq}
use Rattle.std.specs.Float.Ieee.Scale.{finite}
use Rattle.geometry.specs.declared.insets.Insets.{Insets}
use Rattle.numbers.specs.Rounded.{zero}

-- equality as numbers: −0 equals +0, a NaN equals nothing
unfoldable pub insets_eq : Insets → Insets → Bool
insets_eq i j = eq i.x0 j.x0 && (eq i.y0 j.y0 && (eq i.x1 j.x1 && eq i.y1 j.y1))

-- all insets equal 0
unfoldable pub zero_insets : Insets → Bool
zero_insets i = eq i.x0 zero && (eq i.y0 zero && (eq i.x1 zero && eq i.y1 zero))

-- every inset is finite: what refusal 5 asks
unfoldable pub finite_insets : Insets → Bool
finite_insets i = finite i.x0 && finite i.y0 && (finite i.x1 && finite i.y1)
