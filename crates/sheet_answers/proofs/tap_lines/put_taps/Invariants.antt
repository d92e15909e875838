-- The lines of the first i taps are stored, 15 bytes each at the most.
use Rattle.std.proofs.Common.{◌*◌, ◌≤◌, length, take}
use Rattle.sheet_answers.specs.text.Text.{Stored}
use Rattle.sheet_answers.specs.tap_lines.Lines.{tap_text}
use Rattle.sheet_answers.proofs.tap_lines.put_taps.Given as goal

abbrev pub invariant-loop-i : goal.invariant-loop-i
invariant-loop-i l =
    record {
      short : length (tap_text l.tree 1 (take l.i l.lines)) ≤ 15 * l.i;
      stored : Stored l.fn.room l.room l.at l.next (tap_text l.tree 1 (take l.i l.lines));
    }
