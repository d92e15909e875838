-- The first i numbers stand in the room, a space behind each.
use Rattle.std.proofs.Common.{take}
use Rattle.sheet_answers.specs.text.Text.{Stored, spaced}
use Rattle.sheet_answers.proofs.text.put_line.Given as goal

abbrev pub invariant-loop-i : goal.invariant-loop-i
invariant-loop-i g l = Stored l.fn.room l.room l.at l.next (spaced (take l.i l.numbers))
