-- The tree is that of the first i places.
use Rattle.std.proofs.Common.{◌≡◌}
use Rattle.sheet_format.specs.Told.{sheet_of}
use Rattle.sheet_laws.specs.Built.{tree_up_to}
use Rattle.sheet_tree.proofs.places.insert_all.Given as goal

abbrev pub invariant-loop-i : goal.invariant-loop-i
invariant-loop-i l = l.tree ≡ tree_up_to (sheet_of l.sheet) l.i
