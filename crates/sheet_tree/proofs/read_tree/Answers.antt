use Rattle.sheet_tree.proofs.Trees.{good_read}
use Rattle.sheet_tree.proofs.read_tree.Goals as goal

pub build-requires-clause-good : goal.build-requires-clause-good
build-requires-clause-good c = good_read _ c.in_ok-sheet.sheet c.in_ok-sheet.ensures
