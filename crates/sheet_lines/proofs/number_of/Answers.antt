use Rattle.std.proofs.Common.{◌∙◌}
use Rattle.sheet_lines.proofs.Caps.{no_word, minus_first, zero_word, plus_first}
use Rattle.sheet_lines.proofs.Signs.{plus_back, minus_back}
use Rattle.sheet_lines.proofs.number_of.Goals as goal

pub returns-in_default : goal.returns-in_default
returns-in_default c = no_word c.args.word.now c.in_default.len_below

pub returns-in_err-n : goal.returns-in_err-n
returns-in_err-n c = rw c.from_residual.ensures (minus_first c.args.word.now c.in-len1-up.len_at_least c.if-first-eq45.true _ c.in_err-n.ensures.value)

pub returns-then-first-eq45 : goal.returns-then-first-eq45
returns-then-first-eq45 c =
    let p = c.in_ok-n in
    rw (plus_back p.n p.ensures.capped, minus_back p.n p.ensures.capped)
    (minus_first c.args.word.now c.in-len1-up.len_at_least c.if-first-eq45.true _ p.ensures.value)

pub returns-then-first-eq48 : goal.returns-then-first-eq48
returns-then-first-eq48 c = rw (c.then_some.ensures, c.is_empty.ensures)
    (zero_word c.args.word.now c.in-len1-up.len_at_least c.if-first-eq48.true)

pub returns-in_err-n-2 : goal.returns-in_err-n-2
returns-in_err-n-2 c =
    let p = c.in_err-n-2 in
    rw c.from_residual-in_err-n-2.ensures
    (p.ensures.value ∙ plus_first c.args.word.now c.in-len1-up.len_at_least c.if-first-eq45.false c.if-first-eq48.false)

pub returns : goal.returns
returns c =
    let p = c.in_ok-n-2 in
    rw (plus_back p.n p.ensures.capped)
    (p.ensures.value ∙ plus_first c.args.word.now c.in-len1-up.len_at_least c.if-first-eq45.false c.if-first-eq48.false)
