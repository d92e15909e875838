use Rattle.std.proofs.Common.{arith}
use Rattle.text_calls.proofs.state.Notes.{empty_note, first_note}
use Rattle.text_calls.proofs.state.is_note.Goals as goal

pub returns-in-empty : goal.returns-in-empty
returns-in-empty c = empty_note c.args.line.now (omega arith)

pub returns-in-len1-up : goal.returns-in-len1-up
returns-in-len1-up c = first_note c.args.line.now (λ e. omega arith)
