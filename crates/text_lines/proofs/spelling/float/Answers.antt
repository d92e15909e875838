use Rattle.std.proofs.Common.{sym, ◌∙◌, refl, ◌≡◌, true}
use lib.Ieee.{binary64, nan_bits}
use Rattle.text_lines.proofs.spelling.Nan.{nan_pattern}
use Rattle.text_lines.proofs.spelling.float.Goals as goal

pub returns-then-is_nan : goal.returns-then-is_nan
unfolding nan_bits
returns-then-is_nan c =
    let e : nan_bits binary64 9221120237041090560 ≡ true = refl in
    nan_pattern _ e ∙ sym (nan_pattern _ (sym c.is_nan.ensures ∙ c.if-is_nan.true))
