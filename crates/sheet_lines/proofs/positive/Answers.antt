use Rattle.std.proofs.Common.{◌∙◌}
use Rattle.sheet_lines.proofs.Caps.{no_digits, zero_first, no_zero_first}
use Rattle.sheet_lines.proofs.positive.Goals as goal

pub returns-in_default-clause-value : goal.returns-in_default-clause-value
returns-in_default-clause-value c = no_digits c.args.digits.now c.in_default.len_below

pub returns-then-first-eq48-clause-value : goal.returns-then-first-eq48-clause-value
returns-then-first-eq48-clause-value c = zero_first c.args.digits.now c.if-first-eq48.true

pub returns-clause-value : goal.returns-clause-value
returns-clause-value c = c.spelt.ensures.value ∙ no_zero_first c.args.digits.now c.in-len1-up.len_at_least c.if-first-eq48.false
