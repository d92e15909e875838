-- Conditions of document 01's "Sound tree", broken alone but for five rows, beside trees that are sound though no list of calls makes them. Of those
-- five, a key of another generation, an entry that carries another id, and one that is updated leave an entry without an owner too; a committed node
-- whose slot is empty breaks "Sound index" too (a used empty slot that is not free); a child twice has a depth of 0 too, and slot 1 is used, dead and
-- not free.
use mathlib.Core.Path.{◌≡◌, refl}
use mathlib.Core.Bool.{Bool, true, false}
use Prim.Native.Nat.{ℕ}
use lib.ListN.{replicate, set}
use lib.Ieee.{nan, le, lt, is_nan, sub, div, add, round, units, odd, size, span, climb, sum}
use Rattle.numbers.specs.Rounded.{zero, one, two}
use Rattle.numbers.specs.Number.{minimum, maximum, magnitude, same}
use Rattle.geometry.specs.declared.rect.Rect.{Rect}
use Rattle.geometry.specs.Rectangle.{rect, ordered}
use Rattle.index_state.specs.Index.{fresh_entry, fresh_index}
use Rattle.tree_state.specs.declared.Tree.{Tree}
use Rattle.tree_state.specs.Tree.{no_dirty, no_key, fresh_tree, fresh_local, world_at}
use Rattle.tree_state.specs.Sound.{sound_tree}
use Rattle.geometry_clips.specs.declared.rounded_rect_radii.RoundedRectRadii.{RoundedRectRadii}
use Rattle.geometry_clips.specs.rounded_rect_radii.Radii.{radii, no_radii, fitted}
use Rattle.tree_types.specs.Local.{flags, empty_rect}
use Rattle.tree_rows.proofs.sound.Sound as sound

-- one node in slot 0 and one queued entry in slot 0, each part as told
pub record Made : Type 0 where
  pub bounds : Rect
  pub kind : ℕ
  pub clip : Rect
  pub radii : RoundedRectRadii
  pub flag : ℕ
  pub box : Rect
  pub hit : Rect
  pub marked : Bool
  pub transform : Bool
  pub clipped : Bool
  pub committed : Bool
  pub key : ℕ
  pub carried : ℕ
  pub entry : ℕ
  pub used : ℕ
  pub frees : ℕ
  pub depth : ℕ
  pub count : ℕ
  pub pending : ℕ
  pub queued : ℕ

abbrev pub tree_from : Made → Tree
unfolding fresh_tree fresh_index
tree_from m = record {
  slots = record { generation = set (replicate 256 0) 0 1; used = m.used; free = replicate 256 0; frees = m.frees };
  links = record { order = replicate 256 0; depth = set (replicate 256 0) 0 m.depth; count = m.count };
  locals = set fresh_tree.locals 0 (record fresh_local { bounds = m.bounds; kind = m.kind; clip = m.clip; radii = m.radii; flags = flags m.flag });
  worlds = set fresh_tree.worlds 0 (record (world_at fresh_tree 0) { bounds = m.box; hit_bounds = m.hit });
  marks = set (replicate 256 no_dirty) 0 (record { marked = m.marked; transform = m.transform; clip = m.clipped });
  keys = set (replicate 256 no_key) 0 (record { committed = m.committed; key = record { 0 = 0; 1 = m.key } });
  pending = record { rects = fresh_tree.pending.rects; count = m.pending };
  index = record fresh_index {
    entries = set fresh_index.entries 0 (record fresh_entry { generation = 1; mark = m.entry; payload = record { 0 = 0; 1 = m.carried } });
    used = 1;
    queued = m.queued;
  };
}

pub conditions : (sound_tree (tree_from (record { bounds = empty_rect; kind = 0; clip = empty_rect; radii = no_radii; flag = 0; box = empty_rect; hit = empty_rect; marked = false; transform = false; clipped = false; committed = true; key = 1; carried = 1; entry = 1; used = 1; frees = 0; depth = 1; count = 1; pending = 0; queued = 1 })) ≡ true)  -- a committed node
    × (sound_tree (tree_from (record { bounds = empty_rect; kind = 0; clip = empty_rect; radii = no_radii; flag = 0; box = empty_rect; hit = empty_rect; marked = true; transform = true; clipped = true; committed = false; key = 1; carried = 1; entry = 4; used = 1; frees = 0; depth = 1; count = 1; pending = 0; queued = 1 })) ≡ true)  -- one that no commit has seen, beside a removed entry
    × (sound_tree (tree_from (record { bounds = empty_rect; kind = 0; clip = empty_rect; radii = no_radii; flag = 0; box = empty_rect; hit = empty_rect; marked = true; transform = false; clipped = false; committed = true; key = 1; carried = 1; entry = 1; used = 1; frees = 0; depth = 1; count = 1; pending = 0; queued = 1 })) ≡ true)  -- a mark without a change is sound
    × (sound_tree (tree_from (record { bounds = empty_rect; kind = 0; clip = empty_rect; radii = no_radii; flag = 0; box = rect nan nan nan nan; hit = empty_rect; marked = false; transform = false; clipped = false; committed = true; key = 1; carried = 1; entry = 1; used = 1; frees = 0; depth = 1; count = 1; pending = 0; queued = 1 })) ≡ true)  -- a node with any world box is sound
    × (sound_tree (tree_from (record { bounds = rect nan zero zero zero; kind = 0; clip = empty_rect; radii = no_radii; flag = 0; box = empty_rect; hit = empty_rect; marked = false; transform = false; clipped = false; committed = true; key = 1; carried = 1; entry = 1; used = 1; frees = 0; depth = 1; count = 1; pending = 0; queued = 1 })) ≡ false)  -- 5: a bound
    × (sound_tree (tree_from (record { bounds = empty_rect; kind = 0; clip = empty_rect; radii = no_radii; flag = 8; box = empty_rect; hit = empty_rect; marked = false; transform = false; clipped = false; committed = true; key = 1; carried = 1; entry = 1; used = 1; frees = 0; depth = 1; count = 1; pending = 0; queued = 1 })) ≡ false)  -- 6: flags
    × (sound_tree (tree_from (record { bounds = empty_rect; kind = 1; clip = rect one one zero zero; radii = no_radii; flag = 0; box = empty_rect; hit = empty_rect; marked = false; transform = false; clipped = false; committed = true; key = 1; carried = 1; entry = 1; used = 1; frees = 0; depth = 1; count = 1; pending = 0; queued = 1 })) ≡ false)  -- a square clip out of order
    × (sound_tree (tree_from (record { bounds = empty_rect; kind = 2; clip = empty_rect; radii = no_radii; flag = 0; box = empty_rect; hit = empty_rect; marked = false; transform = false; clipped = false; committed = true; key = 1; carried = 1; entry = 1; used = 1; frees = 0; depth = 1; count = 1; pending = 0; queued = 1 })) ≡ false)  -- a rounded clip of radii 0
    × (sound_tree (tree_from (record { bounds = empty_rect; kind = 2; clip = rect zero zero two two; radii = radii two zero zero zero; flag = 0; box = empty_rect; hit = empty_rect; marked = false; transform = false; clipped = false; committed = true; key = 1; carried = 1; entry = 1; used = 1; frees = 0; depth = 1; count = 1; pending = 0; queued = 1 })) ≡ false)  -- a radius above the cap
    × (sound_tree (tree_from (record { bounds = empty_rect; kind = 0; clip = empty_rect; radii = no_radii; flag = 0; box = empty_rect; hit = empty_rect; marked = false; transform = false; clipped = false; committed = true; key = 2; carried = 1; entry = 1; used = 1; frees = 0; depth = 1; count = 1; pending = 0; queued = 1 })) ≡ false)  -- a key of another generation
    × (sound_tree (tree_from (record { bounds = empty_rect; kind = 0; clip = empty_rect; radii = no_radii; flag = 0; box = empty_rect; hit = empty_rect; marked = false; transform = false; clipped = false; committed = true; key = 1; carried = 2; entry = 1; used = 1; frees = 0; depth = 1; count = 1; pending = 0; queued = 1 })) ≡ false)  -- an entry that carries another id
    × (sound_tree (tree_from (record { bounds = empty_rect; kind = 0; clip = empty_rect; radii = no_radii; flag = 0; box = empty_rect; hit = empty_rect; marked = false; transform = false; clipped = false; committed = true; key = 1; carried = 1; entry = 0; used = 1; frees = 0; depth = 1; count = 1; pending = 0; queued = 1 })) ≡ false)  -- a committed node whose slot is empty
    × (sound_tree (tree_from (record { bounds = empty_rect; kind = 0; clip = empty_rect; radii = no_radii; flag = 0; box = empty_rect; hit = empty_rect; marked = false; transform = false; clipped = false; committed = true; key = 1; carried = 1; entry = 3; used = 1; frees = 0; depth = 1; count = 1; pending = 0; queued = 1 })) ≡ false)  -- whose entry is updated
    × (sound_tree (tree_from (record { bounds = empty_rect; kind = 0; clip = empty_rect; radii = no_radii; flag = 0; box = empty_rect; hit = empty_rect; marked = false; transform = false; clipped = false; committed = true; key = 1; carried = 1; entry = 4; used = 1; frees = 0; depth = 1; count = 1; pending = 0; queued = 1 })) ≡ false)  -- whose entry is removed
    × (sound_tree (tree_from (record { bounds = empty_rect; kind = 0; clip = empty_rect; radii = no_radii; flag = 0; box = rect zero zero one one; hit = empty_rect; marked = true; transform = true; clipped = true; committed = false; key = 1; carried = 1; entry = 4; used = 1; frees = 0; depth = 1; count = 1; pending = 0; queued = 1 })) ≡ false)  -- new, with a world box
    × (sound_tree (tree_from (record { bounds = empty_rect; kind = 0; clip = empty_rect; radii = no_radii; flag = 0; box = empty_rect; hit = rect zero zero one one; marked = true; transform = true; clipped = true; committed = false; key = 1; carried = 1; entry = 4; used = 1; frees = 0; depth = 1; count = 1; pending = 0; queued = 1 })) ≡ false)  -- new, with a hit box
    × (sound_tree (tree_from (record { bounds = empty_rect; kind = 0; clip = empty_rect; radii = no_radii; flag = 0; box = empty_rect; hit = empty_rect; marked = true; transform = false; clipped = true; committed = false; key = 1; carried = 1; entry = 4; used = 1; frees = 0; depth = 1; count = 1; pending = 0; queued = 1 })) ≡ false)  -- new, not changed in transform
    × (sound_tree (tree_from (record { bounds = empty_rect; kind = 0; clip = empty_rect; radii = no_radii; flag = 0; box = empty_rect; hit = empty_rect; marked = true; transform = true; clipped = false; committed = false; key = 1; carried = 1; entry = 4; used = 1; frees = 0; depth = 1; count = 1; pending = 0; queued = 1 })) ≡ false)  -- new, not changed in clip
    × (sound_tree (tree_from (record { bounds = empty_rect; kind = 0; clip = empty_rect; radii = no_radii; flag = 0; box = empty_rect; hit = empty_rect; marked = false; transform = true; clipped = false; committed = true; key = 1; carried = 1; entry = 1; used = 1; frees = 0; depth = 1; count = 1; pending = 0; queued = 1 })) ≡ false)  -- changed in transform without a mark
    × (sound_tree (tree_from (record { bounds = empty_rect; kind = 0; clip = empty_rect; radii = no_radii; flag = 0; box = empty_rect; hit = empty_rect; marked = false; transform = false; clipped = true; committed = true; key = 1; carried = 1; entry = 1; used = 1; frees = 0; depth = 1; count = 1; pending = 0; queued = 1 })) ≡ false)  -- changed in clip without a mark
    × (sound_tree (tree_from (record { bounds = empty_rect; kind = 0; clip = empty_rect; radii = no_radii; flag = 0; box = empty_rect; hit = empty_rect; marked = true; transform = true; clipped = true; committed = false; key = 1; carried = 1; entry = 4; used = 1; frees = 0; depth = 1; count = 1; pending = 1; queued = 1 })) ≡ true)  -- one pending rectangle beside a removed entry
    × (sound_tree (tree_from (record { bounds = empty_rect; kind = 0; clip = empty_rect; radii = no_radii; flag = 0; box = empty_rect; hit = empty_rect; marked = true; transform = true; clipped = true; committed = false; key = 1; carried = 1; entry = 4; used = 1; frees = 0; depth = 1; count = 1; pending = 2; queued = 1 })) ≡ false)  -- two
    × (sound_tree (tree_from (record { bounds = empty_rect; kind = 0; clip = empty_rect; radii = no_radii; flag = 0; box = empty_rect; hit = empty_rect; marked = false; transform = false; clipped = false; committed = true; key = 1; carried = 1; entry = 1; used = 1; frees = 0; depth = 1; count = 1; pending = 1; queued = 1 })) ≡ false)  -- a pending rectangle without a removed entry
    × (sound_tree (tree_from (record { bounds = empty_rect; kind = 0; clip = empty_rect; radii = no_radii; flag = 0; box = empty_rect; hit = empty_rect; marked = false; transform = false; clipped = false; committed = true; key = 1; carried = 1; entry = 1; used = 2; frees = 0; depth = 1; count = 1; pending = 0; queued = 1 })) ≡ false)  -- a used dead slot that is not free
    × (sound_tree (tree_from (record { bounds = empty_rect; kind = 0; clip = empty_rect; radii = no_radii; flag = 0; box = empty_rect; hit = empty_rect; marked = false; transform = false; clipped = false; committed = true; key = 1; carried = 1; entry = 1; used = 1; frees = 1; depth = 1; count = 1; pending = 0; queued = 1 })) ≡ false)  -- a live slot that is free
    × (sound_tree (tree_from (record { bounds = empty_rect; kind = 0; clip = empty_rect; radii = no_radii; flag = 0; box = empty_rect; hit = empty_rect; marked = false; transform = false; clipped = false; committed = true; key = 1; carried = 1; entry = 1; used = 2; frees = 0; depth = 1; count = 2; pending = 0; queued = 1 })) ≡ false)  -- a child twice
    × (sound_tree (tree_from (record { bounds = empty_rect; kind = 0; clip = empty_rect; radii = no_radii; flag = 0; box = empty_rect; hit = empty_rect; marked = false; transform = false; clipped = false; committed = true; key = 1; carried = 1; entry = 1; used = 1; frees = 0; depth = 2; count = 1; pending = 0; queued = 1 })) ≡ false)  -- a first depth of 2
    × (sound_tree (tree_from (record { bounds = empty_rect; kind = 0; clip = empty_rect; radii = no_radii; flag = 0; box = empty_rect; hit = empty_rect; marked = true; transform = true; clipped = true; committed = false; key = 1; carried = 1; entry = 4; used = 1; frees = 0; depth = 1; count = 1; pending = 0; queued = 0 })) ≡ false)  -- a marked entry that is not queued
unfolding sound.computed ordered fitted minimum maximum magnitude same is_nan lt le sub div add sum round units odd size span climb
conditions = (refl, refl, refl, refl, refl, refl, refl, refl, refl, refl, refl, refl, refl, refl, refl, refl, refl, refl, refl, refl, refl, refl, refl, refl, refl, refl, refl, refl)
