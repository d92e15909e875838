-- The plan's entry of a node, read off the tree: whether it is committed, and the slot of its key.
use Rattle.std.specs.Prelude.{ℕ, Bool, true, false}
use Rattle.plan.specs.Plan.{Entry, without, number}

abbrev pub entry_if : Bool → ℕ → Entry
entry_if true k = number k
entry_if false k = without
