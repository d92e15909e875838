use Rattle.std.proofs.Common.{arith}
use Rattle.text_lines.proofs.spelling.Back.{left_back}
use Rattle.text_lines.proofs.spelling.digits.Goals as goal

pub returns : goal.returns
returns c =
    let f = c.ranges.bits.fits in
    let l = c.hex.ensures.len.0 in
    left_back _ _ _ (omega arith) l c.hex.ensures.in_bounds.0 c.hex.array_long c.hex.ensures.digits
