use Rattle.std.proofs.Common.{◌≡◌, ◌+◌, ◌-◌, ◌≤◌, ◌++◌, ℕ, length, take, drop, sym, ap, ◌∙◌, subst, arith}
use Rattle.sheet_calls.specs.Answers.{decimal}
use Rattle.sheet_answers.specs.text.Text.{Stored}
use Rattle.sheet_answers.proofs.text.Digits.{spelt, short, text_same, room_behind, copied}
use Rattle.sheet_answers.proofs.text.put_number.Goals as goal

-- what is copied is the number's digits, which the room has place for
pub returns : goal.returns
returns c =
    let A = c.args in
    let d = c.decimal-k in
    let old = A.room.now in
    let text = take d.result d.new.out in
    let digits : text ≡ decimal A.n = d.ensures.digits ∙ spelt d.result A.n d.ensures.len in
    let fits : A.at + length text ≤ length old = omega (arith, ap length digits, short A.n c.requires.0, c.requires.1) in
    let all : c.copy.result ≡ length text = omega (arith, c.copy.ensures.value, room_behind old A.at, fits) in
    let part = c.copy.new.dst in
    let new = take A.at old ++ (part ++ drop (length old - A.at) (drop A.at old)) in
    text_same old new A.at (A.at + c.copy.result) text (decimal A.n) digits
    (subst (λ (k : ℕ). Stored old new A.at (A.at + k) text) (sym all) (copied old A.at part text fits (rw all at c.copy.ensures.copied)))
