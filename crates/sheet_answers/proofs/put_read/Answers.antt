use Rattle.sheet_format.specs.Sheet.{refused}
use Rattle.sheet_format.specs.Told.{number_of}
use Rattle.sheet_calls.specs.Answers.{output, read_text}
use Rattle.sheet_answers.specs.Answers.{taps_text}
use Rattle.sheet_answers.proofs.Lines.{sheet_answered, refusal_answered}
use Rattle.sheet_answers.proofs.text.Digits.{text_same}
use Rattle.sheet_answers.proofs.put_read.Goals as goal

pub put_sheet-requires-clause-ready : goal.put_sheet-requires-clause-ready
put_sheet-requires-clause-ready c = (sheet_answered c.args.bytes.now c.in-Ok.sheet c.in-Ok.ensures).0

pub put_refused-requires-clause-low : goal.put_refused-requires-clause-low
put_refused-requires-clause-low c =
    let r = c.in-Err.refused in
    (refusal_answered c.args.bytes.now (number_of r.why) r.line c.in-Err.ensures).0

pub returns-in-Ok : goal.returns-in-Ok
returns-in-Ok c =
    let b = c.args.bytes.now in
    let q = c.put_sheet in
    text_same c.args.room.now q.new.room 0 q.result (taps_text c.in-Ok.sheet) (output b) (sheet_answered b c.in-Ok.sheet c.in-Ok.ensures).1 q.ensures

pub returns-in-Err : goal.returns-in-Err
returns-in-Err c =
    let b = c.args.bytes.now in
    let r = c.in-Err.refused in
    let q = c.put_refused in
    text_same c.args.room.now q.new.room 0 q.result (read_text (refused (number_of r.why) r.line)) (output b)
    (refusal_answered b (number_of r.why) r.line c.in-Err.ensures).1 q.ensures
