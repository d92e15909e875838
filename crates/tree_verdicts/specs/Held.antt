-- What a call knows of a tree that is found sound, of a node that is found live, and of a request that is accepted.
use Rattle.std.specs.Prelude.{◌≡◌, ℕ, true, false, ◌<◌, ◌≤◌, length, get_or, take}
use Rattle.index_types.specs.declared.NodeId.{NodeId}
use Rattle.link_forest.specs.Table.{depths_from}
use Rattle.tree_state.specs.declared.Tree.{Tree}
use Rattle.tree_state.specs.Tree.{position_of, generation_at, live, entry_mark, needs_commit}
use Rattle.tree_state.specs.Sound.{Live, SoundTree, sound_tree}
use Rattle.tree_state.specs.Whole.{Whole}

-- the live slots are slots of the tables
pub record Listed (t : Tree) : Type 0 where
  pub count_fits : t.links.count ≤ 256
  pub low : (x : ℕ) → Live t x → x < 256

-- what the need of a commit asks, and every sound tree has: the places of the table hold slots, and an entry beyond those in use is empty
pub record Ranged (t : Tree) : Type 0 where
  pub count_fits : t.links.count ≤ 256
  pub orders : length t.links.order ≡ 256
  pub low : (j : ℕ) → j < t.links.count → get_or t.links.order j 0 < 256
  pub used_fits : t.index.used ≤ 512
  pub beyond : (k : ℕ) → t.index.used ≤ k → entry_mark t k ≡ 0

pub record Held (t : Tree) : Type 0 where
  pub test : sound_tree t ≡ true
  pub sound : SoundTree t
  pub whole : Whole t
  pub listed : Listed t
  pub ranged : Ranged t
  pub count_fits : t.links.count ≤ 256
  pub depths : depths_from 0 (take t.links.count t.links.depth) ≡ true
  pub low : (x : ℕ) → Live t x → x < 256

pub record Node (t : Tree) (i : NodeId) : Type 0 where
  pub held : Held t
  pub alive : live t i ≡ true
  pub is_live_lem : Live t i.0
  pub generation_is : generation_at t i.0 ≡ i.1
  pub slot_low : i.0 < 256
  pub place_fits : position_of t i.0 < t.links.count

-- of an accepted request, without a room
pub record Asked (t : Tree) : Type 0 where
  pub held : Held t
  pub no_need : needs_commit t ≡ false

-- and with a room for 256 ids
pub record Accepted (t : Tree) (len : ℕ) : Type 0 where
  pub held : Held t
  pub no_need : needs_commit t ≡ false
  pub long : 512 ≤ len
