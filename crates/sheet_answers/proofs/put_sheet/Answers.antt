use Rattle.std.proofs.Common.{[], ◌∷◌, length, arith}
use Rattle.sheet_calls.specs.Answers.{line_of}
use Rattle.sheet_answers.specs.tap_lines.Lines.{tap_text}
use Rattle.sheet_answers.proofs.text.Digits.{then_stored, room_kept, short_count}
use Rattle.sheet_answers.proofs.put_sheet.Goals as goal

pub put_taps-requires-clause-long : goal.put_taps-requires-clause-long
put_taps-requires-clause-long c =
    let S = c.put_line-next.ensures in
    let few = c.as_slice-taps.ensures.fits in
    omega (arith, S.behind, room_kept S, short_count (length c.as_slice-taps.result.now) (omega (arith, few)), c.requires.long)

pub returns : goal.returns
returns c =
    let taps = c.as_slice-taps.result.now in
    let l = c.put_line-next in
    let q = c.put_taps in
    rw (← c.as_slice-taps.ensures.value)
    (then_stored c.args.room.now l.new.room q.new.room 0 l.result q.result (line_of (length taps ∷ [])) (tap_text c.args.sheet.now.tree 1 taps) l.ensures
    q.ensures)
