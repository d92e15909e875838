-- What the digits left spell after the number so far is what all spell, saturated.
use Rattle.std.proofs.Common.{◌≡◌, ◌≤◌, drop}
use Rattle.sheet_lines.specs.Lines.{digits_after}
use Rattle.sheet_lines.specs.Saturated.{saturated_decimal}
use Rattle.sheet_lines.proofs.spelt.Given as goal

abbrev pub invariant-loop-b : goal.invariant-loop-b
invariant-loop-b l =
    record {
      capped : l.n ≤ 1000000000000000;
      value : saturated_decimal (digits_after l.n (drop l.b-index l.digits)) ≡ saturated_decimal (digits_after 0 l.digits);
    }
