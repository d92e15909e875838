-- Marks told apart, as update and remove ask, and the mark after a removal (document 01, module 5).
use Rattle.std.specs.Prelude.{ℕ, Bool, true, false}
use Rattle.index_entries.specs.declared.reads.Mark.{Mark}
use Rattle.index_entries.specs.declared.reads.Mark.TheVariants as is

abbrev pub unmarked : Mark → Bool
unmarked is.Unmarked = true
unmarked is.Added = false
unmarked is.Updated = false
unmarked is.Removed = false

abbrev pub added : Mark → Bool
added is.Unmarked = false
added is.Added = true
added is.Updated = false
added is.Removed = false

-- the mark's number after a removal: an added entry goes at once
abbrev pub removed_mark : Mark → ℕ
removed_mark is.Unmarked = 4
removed_mark is.Added = 0
removed_mark is.Updated = 4
removed_mark is.Removed = 4
