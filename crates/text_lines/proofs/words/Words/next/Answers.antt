use Rattle.std.proofs.Common.{ap, ◌∙◌}
use Rattle.text_lines.specs.words.Lines.{words_of}
use Rattle.text_lines.proofs.words.Parts.{first_word, last_word}
use Rattle.text_lines.proofs.words.Words.next.Goals as goal

pub returns-then-end-line : goal.returns-then-end-line
returns-then-end-line c = ap words_of c.in_ok-line.was ∙ last_word _ c.find-end.result c.find-end.ensures.value c.if-end-line.true

pub returns : goal.returns
returns c = ap words_of c.in_ok-line.was ∙ first_word _ c.find-end.result c.find-end.ensures.value c.if-end-line.false
