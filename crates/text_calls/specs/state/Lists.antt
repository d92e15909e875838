-- What holds of a call list whatever its calls are: how it begins, and which lines have no call. A byte is its ASCII code.
use Rattle.std.specs.Prelude.{ℕ, Bool, true, List, [], ◌∷◌, eqb}
use Rattle.tree_state.specs.Tree.{fresh_tree}
use Rattle.text_calls.specs.declared.state.State.{State}

-- an empty tree, and room for 256 ids and 512 rectangles
abbrev pub first : State
first = record { tree = fresh_tree; ids = 256; rects = 512 }

-- empty, or begun by `#`
unfoldable pub is_note : List ℕ → Bool
is_note [] = true
is_note (b ∷ s) = eqb b 35
