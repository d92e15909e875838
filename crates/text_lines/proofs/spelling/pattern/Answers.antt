use Rattle.std.proofs.Common.{◌≡◌, ◌+◌, ◌*◌, ◌^◌, ◌<◌, drop, get_or, refl, arith, sym, ◌∙◌}
use Rattle.text_lines.specs.spelling.Words.{spelt}
use Rattle.text_lines.proofs.spelling.Spelt.{grows, small, no_digit, one_digit, whole, another_length, is_digit, is_no_digit}
use Rattle.text_lines.proofs.spelling.pattern.Goals as goal
use Rattle.text_lines.proofs.spelling.pattern.Goals.{In_ok-d}

-- one digit more: the number stays small, and what is left spells the rest after it
spelt_on : (c : In_ok-d)
    → (c.loop-b.bits * 16 + c.in_ok-d.d < 16 ^ (c.loop-b.b-index + 1))
    × (spelt 0 c.args.word.now ≡ spelt (c.loop-b.bits * 16 + c.in_ok-d.d) (drop (c.loop-b.b-index + 1) c.args.word.now))
spelt_on c =
    let l = c.loop-b in
    let s = c.args.word.now in
    let d = is_digit (get_or s l.b-index 0) c.in_ok-d.d (sym (c.in_ok-d.was) ∙ c.digit.ensures) in
    (grows _ _ _ l.invariant.small (omega arith), one_digit s l.bits l.b-index c.loop-b-test.true l.invariant.spells d.0 ∙ rw d.1 refl)

pub returns-then-word-ne16 : goal.returns-then-word-ne16
returns-then-word-ne16 c = another_length _ c.if-word-ne16.true

pub returns-in_err-d : goal.returns-in_err-d
returns-in_err-d c =
    let l = c.loop-b in
    let e = is_no_digit (get_or c.args.word.now l.b-index 0) (sym (c.in_err-d.was) ∙ c.digit.ensures) in
    c.from_residual.ensures ∙ no_digit c.args.word.now l.bits l.b-index c.loop-b-test.true l.invariant.spells (omega arith) e

pub overflow_mul-bits : goal.overflow_mul-bits
overflow_mul-bits c = let s = (spelt_on (goal.at.overflow_mul-bits c).In_ok-d).0 in omega (arith, s, small (c.loop-b.b-index + 1) (omega arith))

pub overflow_add-bits : goal.overflow_add-bits
overflow_add-bits c = let s = (spelt_on (goal.at.overflow_add-bits c).In_ok-d).0 in omega (arith, s, small (c.loop-b.b-index + 1) (omega arith))

pub loop-b-preserved : goal.loop-b-preserved
loop-b-preserved c = let s = spelt_on (goal.at.loop-b-preserved c).In_ok-d in record { small = s.0; spells = s.1 }

pub returns : goal.returns
returns c = whole c.args.word.now c.loop-b.bits c.loop-b.b-index (omega arith) (omega arith) c.loop-b.invariant.spells
