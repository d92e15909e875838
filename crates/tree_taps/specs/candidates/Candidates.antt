-- The candidates of a tap: nodes whose entries are visited and that pass the fine test.
use Rattle.std.specs.Prelude.{Bool, ◌&&◌, ℕ, Option, Some, None}
use Rattle.geometry.specs.declared.point.Point.{Point}
use Rattle.index_types.specs.declared.Aabb2D.{Aabb2D}
use Rattle.tree_types.specs.declared.NodeFlags.{NodeFlags}
use Rattle.tree_state.specs.declared.Tree.{Tree}
use Rattle.tree_steps.specs.Requests.{Best, nobody, best, fine}
use Rattle.tree_listings.specs.entries.Entries.{node_of, visited}

abbrev pub candidate : Tree → NodeFlags → Point → Aabb2D → ℕ → Bool
candidate t asked pt here k = visited t here k && fine t asked pt (node_of t k)

-- the best so far
abbrev pub best_of : Option ℕ → Best
best_of None = nobody
best_of (Some x) = best x
