-- Refusal 9: "256 live nodes", by a count of the slots that a live node has.
use Rattle.index_types.specs.declared.NodeId.{NodeId}
use Rattle.std.specs.Prelude.{ℕ, ◌≤◌, ◌≡◌, true, false, Option}
use Rattle.tree_types.specs.declared.LocalNode.{LocalNode}
use Rattle.tree_types.specs.Local.{finite_local, known}
use Rattle.tree_state.specs.declared.Tree.{Tree}
use Rattle.tree_state.specs.Tree.{is_live}
use Rattle.tree_state.specs.Sound.{count_below}
use Rattle.tree_steps.specs.Structure.{parent_live}
use Rattle.tree_run.specs.Run.{outcome}
use Rattle.plan.specs.Calls as call

-- how many nodes are live
abbrev pub live_nodes : Tree → ℕ
live_nodes t = count_below 256 (is_live t)

-- what an insert is judged by before it is refused by 9: 3, 5 and 6 do not apply
pub record Insertable (t : Tree) (parent : Option NodeId) (v : LocalNode) : Type 0 where
  pub parent_live : parent_live t parent ≡ true
  pub finite : finite_local v ≡ true
  pub flags_known : known v.flags ≡ true

pub record FullAt256 (t : Tree) : Type 0 where
  -- no slot from 256 on has a live node, so none is left uncounted
  pub all_counted : (x : ℕ) → 256 ≤ x → is_live t x ≡ false
  -- an insert is refused by 9 if and only if no lower number applies and 256 nodes are live
  pub only : (parent : Option NodeId) (v : LocalNode) → (outcome t (call.insert parent v)).refused ≡ 9 → Insertable t parent v × (live_nodes t ≡ 256)
  pub always : (parent : Option NodeId) (v : LocalNode) → Insertable t parent v → live_nodes t ≡ 256 → (outcome t (call.insert parent v)).refused ≡ 9
  -- and accepted where fewer are
  pub else_accepted : (parent : Option NodeId) (v : LocalNode) → Insertable t parent v → (live_nodes t ≡ 256 → ⊥) → (outcome t (call.insert parent v)).refused ≡ 0
