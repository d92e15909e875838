-- What a sheet's bytes yield: the tree after the sheet's calls with the sheet's taps, or the refusal with its line.
use Rattle.std.specs.Prelude.{ℕ, List, ℤ, map, Result, Ok, Err}
use Rattle.sheet_format.specs.Lines.{items}
use Rattle.sheet_format.specs.Sheet as format
use Rattle.sheet_format.specs.Sheet.{Read}
use Rattle.sheet_format.specs.Told.{tap_numbers, number_of}
use Rattle.sheet_format.specs.declared.Refused.{Refused}
use Rattle.tree_state.specs.declared.Tree.{Tree}
use Rattle.sheet_laws.specs.Built.{tree_of}
use Rattle.sheet_tree.specs.declared.SheetTree.{SheetTree}

pub data Yield : Type 0 where
  refused : ℕ → ℕ → Yield  -- the refusal's number, and its line
  built : Tree → List (List ℤ) → Yield  -- the tree, and the taps' lines

-- of what was read
abbrev pub tree_on : Read → Yield
tree_on (format.refused number at) = refused number at
tree_on (format.sheet whole) = built (tree_of whole) whole.taps

-- of what the code has
abbrev pub told_tree : Result SheetTree Refused → Yield
told_tree (Ok t) = built t.tree (map tap_numbers (items t.taps))
told_tree (Err r) = refused (number_of r.why) r.line
