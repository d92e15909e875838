-- A sheet that was read is a good one, and its tree is whole. Assumes nothing.
use mathlib.Core.Path.{◌≡◌, sym}
use mathlib.Core.List.{List}
use Prim.Native.Nat.{ℕ}
use Rattle.tree_state.specs.Tree.{fresh_tree}
use Rattle.tree_state.specs.Whole.{Whole}
use Rattle.tree_laws.proofs.Whole.{whole_fresh}
use Rattle.agreement_calls.proofs.Fresh.{sound_fresh}
use Rattle.demand3.proofs.Soundness.{run_keeps}
use Rattle.sheet_format.specs.Sheet.{Sheet, sheet, read_sheet}
use Rattle.sheet_format.specs.Told.{sheet_of}
use Rattle.sheet_format.specs.declared.Parsed.{Parsed}
use Rattle.sheet_calls.specs.Calls.{calls_of}
use Rattle.sheet_calls.specs.Good.{Good}
use Rattle.sheet_calls.proofs.Accepted.{good_sheet}
use Rattle.sheet_laws.specs.Built.{tree_of}

pub good_read : (s : List ℕ) (p : Parsed) → sheet (sheet_of p) ≡ read_sheet s → Good (sheet_of p)
good_read s p e = good_sheet s (sheet_of p) (sym e)

-- the tables of a sheet's tree have their lengths
pub whole_tree : (s : Sheet) → Whole (tree_of s)
unfolding tree_of
whole_tree s = (run_keeps (calls_of s) fresh_tree whole_fresh sound_fresh).0
