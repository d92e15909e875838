use Rattle.text_lines.proofs.words.Parts.{none_left}
use Rattle.text_lines.proofs.words.Words.is_empty.Goals as goal

pub returns : goal.returns
returns c = none_left _ _ c.is_none.ensures
