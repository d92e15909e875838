-- What the bytes yield, as text, and what a room holds after the answer.
use Rattle.std.specs.Prelude.{ℕ, Bool, true, false, not, List, [], ◌∷◌, ◌++◌, ltb, length, drop, Result, Ok, Err}
use Rattle.tree_state.specs.declared.Refusal.{Refusal}
use Rattle.tree_state.specs.declared.Refusal.TheVariants as no
use Rattle.sheet_format.specs.Lines.{items}
use Rattle.sheet_calls.specs.Answers.{line_of}
use Rattle.sheet_tree.specs.declared.SheetTree.{SheetTree}
use Rattle.sheet_answers.specs.tap_lines.Lines.{tap_text}

-- the tap count, then the taps on the tree
abbrev pub taps_text : SheetTree → List ℕ
taps_text p = line_of (length (items p.taps) ∷ []) ++ tap_text p.tree 1 (items p.taps)

-- ---- the call

-- "8": under 16,384 bytes of room
abbrev pub written_if : Bool → ℕ → Result ℕ Refusal
written_if true n = Ok n
written_if false n = Err no.ShortRoom

-- the text in front of the room, or the room as it was
abbrev pub room_if : Bool → List ℕ → List ℕ → List ℕ
room_if true text room = text ++ drop (length text) room
room_if false text room = room

abbrev pub roomy : List ℕ → Bool
roomy room = not (ltb (length room) 16384)
