-- Hand-made trees, sound and not: the test computes.
use mathlib.Core.Path.{◌≡◌, refl}
use mathlib.Core.Bool.{Bool, true, false, not}
use Prim.Native.Nat.{ℕ}
use lib.ListN.{replicate, set}
use lib.Ieee.{eq}
use Rattle.geometry.specs.Rectangle.{rect_eq, finite_rect, finite_insets}
use Rattle.geometry.specs.Transform.{finite_affine}
use Rattle.geometry_clips.specs.Clips.{clip_rect, clip_radii, finite_clip, finite_clip_rect}
use Rattle.geometry_clips.specs.constructed.Constructed.{as_constructed}
use Rattle.counting.specs.Times.{times, every}
use Rattle.counting.specs.Lists.{once_below}
use Rattle.link_forest.specs.Table.{index_of, depths_from}
use Rattle.index_sound.specs.Sound.{sound_of}
use Rattle.tree_types.specs.Local.{finite_local}
use Rattle.index_state.specs.Index.{fresh_entry, fresh_index}
use Rattle.tree_state.specs.declared.Tree.{Tree}
use Rattle.tree_state.specs.Locals.{clip_by}
use Rattle.tree_state.specs.Tree.{no_dirty, no_key, fresh_tree, local_at}
use Rattle.tree_state.specs.Sound.{every_of, count_of, count_below, slots_right, node_right, entry_right, counts_right, sound_tree}

-- what the rows compute through
unfoldable pub computed : Unit {0}
unfolding sound_tree slots_right once_below every times depths_from sound_of every_of node_right local_at finite_local finite_rect finite_insets finite_affine
    finite_clip finite_clip_rect clip_rect clip_radii as_constructed rect_eq eq clip_by index_of entry_right counts_right
    count_below count_of fresh_tree fresh_index
computed = tt

fresh_sound : sound_tree fresh_tree ≡ true
unfolding computed
fresh_sound = refl

-- one node in slot 0, marked and changed unless it is committed; one queued entry in slot 0, with this mark and the node's id; so many pending rectangles
abbrev tree_of : Bool → ℕ → ℕ → Tree
unfolding fresh_tree fresh_index
tree_of committed entry pending = record {
  slots = record { generation = set (replicate 256 0) 0 1; used = 1; free = replicate 256 0; frees = 0 };
  links = record { order = replicate 256 0; depth = set (replicate 256 0) 0 1; count = 1 };
  locals = fresh_tree.locals;
  worlds = fresh_tree.worlds;
  marks = set (replicate 256 no_dirty) 0 (record { marked = not committed; transform = not committed; clip = not committed });
  keys = set (replicate 256 no_key) 0 (record { committed = committed; key = record { 0 = 0; 1 = 1 } });
  pending = record { rects = fresh_tree.pending.rects; count = pending };
  index = record fresh_index {
    entries = set fresh_index.entries 0 (record fresh_entry { generation = 1; mark = entry; payload = record { 0 = 0; 1 = 1 } });
    used = 1;
    queued = 1;
  };
}

-- committed
committed_sound : sound_tree (tree_of true 1 0) ≡ true
unfolding computed
committed_sound = refl

-- not committed, beside an entry marked removed and a pending rectangle
pending_sound : sound_tree (tree_of false 4 1) ≡ true
unfolding computed
pending_sound = refl

-- an unmarked entry that no committed node owns
no_owner : sound_tree (tree_of false 1 0) ≡ false
unfolding computed
no_owner = refl
