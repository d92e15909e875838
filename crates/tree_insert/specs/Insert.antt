-- What insert answers, and the tree after it.
use Rattle.std.specs.Prelude.{◌≡◌, ◌<◌, true, ℕ, None, Some, Option, take}
use Rattle.index_types.specs.declared.NodeId.{NodeId}
use Rattle.link_forest.specs.Table.{depths_from}
use Rattle.link_table.specs.declared.Links.{Links}
use Rattle.link_table.specs.Links.{position_of, add_root, add_last}
use Rattle.tree_types.specs.declared.LocalNode.{LocalNode}
use Rattle.tree_state.specs.declared.Tree.{Tree}
use Rattle.tree_state.specs.Tree.{After, value_if}
use Rattle.tree_steps.specs.Setters.{tree_if}
use Rattle.tree_steps.specs.Structure.{new_id, insert_verdict, insert_tree}
use Rattle.tree_insert.specs.slots.Slots.{Takes}

-- the new node's id
unfoldable pub insert_call : Tree → Option NodeId → LocalNode → After NodeId
insert_call t parent v =
    record {
      answer = value_if (insert_verdict t parent v) (new_id t);
      tree = tree_if (insert_verdict t parent v) (insert_tree t parent v) t;
    }

-- the parent, if there is one, has a place
abbrev pub Placed : Links → Option NodeId → Type 0
Placed l None = Unit {0}
Placed l (Some h) = position_of l h.0 < l.count

-- there is room for one more, in a table that is some forest's
pub record Linkable (l : Links) (parent : Option NodeId) : Type 0 where
  pub count_low : l.count < 256
  pub depths : depths_from 0 (take l.count l.depth) ≡ true
  pub placed : Placed l parent

-- the slot linked last under its parent, or last of the roots: `link_new` over the links alone
abbrev pub linked : Links → Option NodeId → ℕ → Links
linked l None x = add_root l x
linked l (Some h) x = add_last l (position_of l h.0) x

-- what an accepted call has
pub record Room (t : Tree) (parent : Option NodeId) : Type 0 where
  pub slots : Takes t.slots
  pub links : Linkable t.links parent
