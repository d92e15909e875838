-- The lengths of a tree's tables, and what the count of its live slots tells.
use Rattle.std.specs.Prelude.{◌≡◌, ◌<◌, ◌≤◌, ℕ, List, length, get_or}
use Rattle.counting.specs.Times.{times}
use Rattle.tree_state.specs.declared.Tree.{Tree}
use Rattle.tree_state.specs.Tree.{live_slots}

-- the first n are slots of the tables
abbrev pub Low : List ℕ → ℕ → Type 0
Low order n = (k : ℕ) → k < n → get_or order k 0 < 256

-- ---- the lengths of the tables that "Sound tree" goes through, as their types have them

pub record Sized (t : Tree) : Type 0 where
  pub order : length t.links.order ≡ 256
  pub depth : length t.links.depth ≡ 256
  pub free : length t.slots.free ≡ 256
  pub entries : length t.index.entries ≡ 512
  pub entries_free : length t.index.free ≡ 512
  pub dirty : length t.index.dirty ≡ 512

-- ---- what the slots' test tells the functions that index by slots: the live ones are below 256, and each number stands among them so often

pub record Listed (t : Tree) : Type 0 where
  pub long : length t.links.order ≡ 256
  pub fits : t.links.count ≤ 256
  pub low : Low t.links.order t.links.count

abbrev pub Counted : Tree → List ℕ → Type 0
Counted t counts = (x : ℕ) → get_or counts x 0 ≡ times x (live_slots t)
