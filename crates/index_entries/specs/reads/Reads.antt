-- What a key finds in the index (document 01, module 5).
use Rattle.std.specs.Prelude.{ℕ, Bool, cond, not, ◌&&◌, ◌||◌, ◌==◌, nat_lt, Option, Some, None}
use Rattle.index_types.specs.declared.Aabb2D.{Aabb2D}
use Rattle.index_types.specs.declared.Key.{Key}
use Rattle.index_types.specs.declared.Slot.{Slot}
use Rattle.index_types.specs.declared.Index.{Index}
use Rattle.index_types.specs.Slots.{entry}
use Rattle.index_entries.specs.declared.reads.Mark.{Mark}
use Rattle.index_entries.specs.declared.reads.Mark.TheVariants as is

-- the mark that a number stands for; 0, an empty slot, is asked for first
unfoldable pub mark_of : ℕ → Mark
mark_of n = cond (n == 1) is.Unmarked (cond (n == 2) is.Added (cond (n == 3) is.Updated is.Removed))

unfoldable pub previous_box : Slot → Option Aabb2D
previous_box e = cond (e.kept == 0) None (Some e.prev)

-- a key is live where its slot holds an entry, marked or not, at its generation
abbrev pub live : Index → Key → Bool
live ix k = nat_lt k.0 512 && not ((entry ix k.0).mark == 0 || not ((entry ix k.0).generation == k.1))

unfoldable pub look_up : Index → Key → Option Slot
look_up ix k = cond (live ix k) (Some (entry ix k.0)) None
