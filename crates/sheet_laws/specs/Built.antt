-- The tree of a sheet: fresh, then the sheet's calls.
use Rattle.std.specs.Prelude.{ℕ, take}
use Rattle.tree_state.specs.declared.Tree.{Tree}
use Rattle.tree_state.specs.Tree.{fresh_tree}
use Rattle.tree_run.specs.Run as tree
use Rattle.plan.specs.Demand.{run}
use Rattle.sheet_format.specs.Sheet.{Sheet}
use Rattle.sheet_calls.specs.Calls.{inserts_from, calls_of}

-- after the inserts of the first j places
unfoldable pub tree_up_to : Sheet → ℕ → Tree
tree_up_to s j = run tree.step fresh_tree (inserts_from s.clips 1 (take j s.places))

unfoldable pub tree_of : Sheet → Tree
tree_of s = run tree.step fresh_tree (calls_of s)
