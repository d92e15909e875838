-- A fresh tree's tables have their lengths, and they are what the test of soundness needs.
use mathlib.Core.Path.{refl}
use Rattle.tree_state.specs.declared.Tree.{Tree}
use Rattle.tree_state.specs.Tree.{fresh_tree}
use Rattle.index_state.specs.Index.{fresh_index}
use Rattle.tree_sound.specs.Parts.{Sized}
use Rattle.tree_state.specs.Whole.{Whole}

-- what the test of soundness needs of them
pub sized : (t : Tree) → Whole t → Sized t
sized t w =
    record {
      order = w.links.order;
      depth = w.links.depth;
      free = w.slots.free;
      entries = w.index.entries;
      entries_free = w.index.free;
      dirty = w.index.dirty;
    }

pub whole_fresh : Whole fresh_tree
unfolding fresh_tree fresh_index
whole_fresh =
    record {
      slots = record { generation = refl; free = refl };
      links = record { order = refl; depth = refl };
      locals = refl;
      worlds = refl;
      marks = refl;
      keys = refl;
      pending = refl;
      index = record { entries = refl; free = refl; dirty = refl; stored = refl };
    }
