use Rattle.std.proofs.Common.{◌∙◌, arith}
use Rattle.sheet_lines.proofs.Caps.{next_digit, no_digit, all_digits}
use Rattle.sheet_lines.proofs.spelt.Goals as goal

pub returns-then-not-is_ascii_digit-clause-value : goal.returns-then-not-is_ascii_digit-clause-value
returns-then-not-is_ascii_digit-clause-value c =
    let L = c.loop-b in no_digit c.args.digits.now L.n L.b-index c.loop-b-test.true c.if-not-is_ascii_digit.ensures.cases ∙ L.invariant.value

pub loop-b-preserved : goal.loop-b-preserved
loop-b-preserved c =
    let L = c.loop-b in
    let d = c.if-not-is_ascii_digit.ensures.cases in
    record {
      capped = omega arith;
      value = next_digit c.args.digits.now L.n L.b-index c.loop-b-test.true c.min-n.result d.0 d.1 (omega arith) ∙ L.invariant.value;
    }

pub returns-clause-value : goal.returns-clause-value
returns-clause-value c =
    let L = c.loop-b in all_digits c.args.digits.now L.n L.b-index L.invariant.capped c.loop-b-test.false ∙ L.invariant.value
