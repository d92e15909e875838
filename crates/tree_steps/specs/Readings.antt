-- The readings on the tree's record: the refusal that applies, and what an accepted one answers.
use Rattle.std.specs.Prelude.{ℕ, ◌+◌, ◌-◌, Bool, true, false, not, ◌&&◌, List, [], ◌∷◌, map, eqb, ltb, get_or, None, Some, Option}
use Rattle.index_types.specs.declared.NodeId.{NodeId}
use Rattle.link_forest.specs.Table.{at_depth}
use Rattle.link_table.specs.Links.{end_of, between}
use Rattle.tree_state.specs.declared.Tree.{Tree}
use Rattle.tree_state.specs.declared.Refusal.TheVariants as no
use Rattle.tree_state.specs.Tree.{position_of, id_at, needs_commit, checked, Verdict}
use Rattle.tree_steps.specs.Setters.{of_node}
use Rattle.tree_steps.specs.Commit.{ancestors}

-- ---- refusals

-- 1, 2, 7
abbrev pub world_verdict : Tree → NodeId → Verdict
world_verdict t i = checked (of_node t i) (not (needs_commit t)) no.NeedsCommit

-- 1, 2, 8: under 256 ids, of two numbers
abbrev pub children_verdict : Tree → NodeId → ℕ → Verdict
children_verdict t i len = checked (of_node t i) (not (ltb len 512)) no.ShortRoom

-- ---- links

-- the nearest above, if there is one
abbrev pub nearest : Tree → List ℕ → Option NodeId
nearest t [] = None
nearest t (q ∷ qs) = Some (id_at t q)

unfoldable pub parent_of : Tree → ℕ → Option NodeId
parent_of t x = nearest t (ancestors t (position_of t x))

-- one level down within the node's segment, in order
unfoldable pub children_of : Tree → ℕ → List NodeId
children_of t x =
    let i = position_of t x in
    let e = end_of t.links i in
    map (id_at t) (at_depth (get_or t.links.depth i 0 + 1) (between i e t.links.order) (between i e t.links.depth))

-- the node at a position, if it is there
abbrev pub at_position : Bool → Tree → ℕ → Option NodeId
at_position true t i = Some (id_at t (get_or t.links.order i 0))
at_position false t i = None

-- a walk's neighbours stand side by side in the table; neither crosses from one root to another
unfoldable pub next_of : Tree → ℕ → Option NodeId
next_of t x = let i = position_of t x + 1 in at_position (ltb i t.links.count && not (eqb (get_or t.links.depth i 0) 1)) t i

unfoldable pub prev_of : Tree → ℕ → Option NodeId
prev_of t x = let i = position_of t x in at_position (not (eqb (get_or t.links.depth i 0) 1)) t (i - 1)
