-- The lengths of all tables, as the tree's types have them.
use Rattle.std.specs.Prelude.{◌≡◌, length}
use Rattle.tree_state.specs.declared.Slots.{Slots}
use Rattle.tree_state.specs.declared.Tree.{Tree}
use Rattle.link_table.specs.declared.Links.{Links}
use Rattle.index_types.specs.declared.Index.{Index}

pub record WholeSlots (s : Slots) : Type 0 where
  pub generation : length s.generation ≡ 256
  pub free : length s.free ≡ 256

pub record WholeLinks (l : Links) : Type 0 where
  pub order : length l.order ≡ 256
  pub depth : length l.depth ≡ 256

pub record WholeIndex (ix : Index) : Type 0 where
  pub entries : length ix.entries ≡ 512
  pub free : length ix.free ≡ 512
  pub dirty : length ix.dirty ≡ 512
  pub stored : length ix.backend.entries ≡ 512

pub record Whole (t : Tree) : Type 0 where
  pub slots : WholeSlots t.slots
  pub links : WholeLinks t.links
  pub locals : length t.locals ≡ 256
  pub worlds : length t.worlds ≡ 256
  pub marks : length t.marks ≡ 256
  pub keys : length t.keys ≡ 256
  pub pending : length t.pending.rects ≡ 256
  pub index : WholeIndex t.index
