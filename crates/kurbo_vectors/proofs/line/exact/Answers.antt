use Rattle.std.proofs.Common.{T, sym, ap, ◌∙◌, subst, eqb→eq, rules}
use lib.Ieee.{binary64, fits, of_bits, to_bits}
use lib.Ieee.Bits.{of_bits-to_bits}
use Rattle.text_lines.proofs.spelling.Nan.{nan_pattern, only_nan}
use Rattle.kurbo_vectors.proofs.line.exact.Goals as goal

pub returns-then-is_nan : goal.returns-then-is_nan
returns-then-is_nan c e =
    only_nan c.args.x (subst T (sym (sym c.is_nan.ensures.value ∙ c.if-is_nan.true)) tt)
    ∙ sym (nan_pattern c.args.bits (sym c.is_nan-then-is_nan.ensures ∙ e))

pub returns : goal.returns
returns c e =
    let x = c.args.x in
    let f : T (fits binary64 x) = search rules in
    sym (of_bits-to_bits binary64 x f) ∙ ap (of_bits binary64) (eqb→eq (to_bits binary64 x) c.args.bits (subst T (sym e) tt))
