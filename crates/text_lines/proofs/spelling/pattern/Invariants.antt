-- The number is below that power of 16 whose exponent is the number of digits that are passed, and what is left spells the rest after it.
use Rattle.std.proofs.Common.{◌≡◌, ◌^◌, ◌<◌, drop}
use Rattle.text_lines.specs.spelling.Words.{spelt}
use Rattle.text_lines.proofs.spelling.pattern.Given as goal

abbrev pub invariant-loop-b : goal.invariant-loop-b
invariant-loop-b l = record {
  small : l.bits < 16 ^ l.b-index;
  spells : spelt 0 l.word ≡ spelt l.bits (drop l.b-index l.word);
}
