use Rattle.std.proofs.Common.{w64, SFits, to_z-of_z, rules}
use Rattle.sheet_lines.proofs.Spaces.{short, done, bad_word, next, more}
use Rattle.sheet_lines.proofs.row_of.Goals as goal

pub returns-then-at-line : goal.returns-then-at-line
returns-then-at-line c =
    let l = c.loop-j in short c.args.line.now c.args.width l.row l.at l.j c.requires l.invariant c.loop-j-test.true c.if-at-line.true

pub returns-in_err-row : goal.returns-in_err-row
returns-in_err-row c =
    let l = c.loop-j in
    rw c.from_residual.ensures
    (bad_word c.args.line.now c.args.width l.row l.at l.j c.requires l.invariant c.if-at-line.false c.find-end.result c.find-end.ensures.value
    c.in_err-row.ensures)

pub loop-j-preserved : goal.loop-j-preserved
loop-j-preserved c =
    let l = c.loop-j in
    let w = c.in_ok-row in
    let f : SFits w64 w.field-0 = search rules in
    rw (to_z-of_z f)
    (next c.args.line.now c.args.width l.row l.at l.j c.requires l.invariant c.if-at-line.false c.find-end.result c.find-end.ensures.value w.field-0
    c.loop-j-test.true c.find-end.ensures.high w.ensures)

pub returns-then-at-line-2 : goal.returns-then-at-line-2
returns-then-at-line-2 c =
    let l = c.loop-j in more c.args.line.now c.args.width l.row l.at l.j c.requires l.invariant c.if-at-line-2.true c.loop-j-test.false

pub returns : goal.returns
returns c = let l = c.loop-j in done c.args.line.now c.args.width l.row l.at l.j c.requires l.invariant c.loop-j-test.false c.if-at-line-2.false
