-- Ids in front of lent room.
use Rattle.std.specs.Prelude.{List, [], ◌∷◌, ◌++◌, ℕ, length, drop}
use Rattle.index_types.specs.declared.NodeId.{NodeId}

-- ids in front of the room, two numbers each, and behind them what stood there
abbrev pub numbers_of : List NodeId → List ℕ
numbers_of [] = []
numbers_of (i ∷ is) = i.0 ∷ i.1 ∷ numbers_of is

unfoldable pub ids_in_front : List NodeId → List ℕ → List ℕ
ids_in_front is room = numbers_of is ++ drop (length (numbers_of is)) room
