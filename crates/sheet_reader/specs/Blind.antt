-- A rule that judges saturated numbers as it judges the numbers, and lets pass none that is cut off.
use Rattle.std.specs.Prelude.{◌≡◌, true, List, ℤ, map, length}
use Rattle.sheet_lines.specs.Saturated.{saturated}
use Rattle.sheet_format.specs.Sheet.{Rule}

pub record Blind (rule : Rule) (before : List (List ℤ)) : Type 0 where
  pub ranged : (zs : List ℤ) → rule.in_range (map saturated zs) ≡ rule.in_range zs
  pub fitted : (zs : List ℤ) → rule.fitting before (map saturated zs) ≡ rule.fitting before zs
  pub uncut : (zs : List ℤ) → length zs ≡ rule.width → rule.in_range zs ≡ true → rule.fitting before zs ≡ true → map saturated zs ≡ zs
