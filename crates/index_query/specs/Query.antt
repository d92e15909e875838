-- The index's queries: "visits in rising slot order; containment and overlap include all edges".
use Rattle.std.specs.Prelude.{ℕ, zero, suc, Bool, not, ◌&&◌, cond, List, [], ◌∷◌, ◌++◌, eqb, length, drop, Float}
use Rattle.index_types.specs.declared.Aabb2D.{Aabb2D}
use Rattle.index_types.specs.declared.Slot.{Slot}
use Rattle.index_types.specs.declared.Index.{Index}
use Rattle.index_types.specs.Boxes.{overlaps, contains_point}
use Rattle.index_types.specs.Slots.{entry, stored}

-- the slot has a box in the backend, as the last commit left it, that meets the rectangle, and it holds an entry now
abbrev pub visits : Index → Aabb2D → ℕ → Bool
visits ix rect x = not (eqb (stored ix x).present 0) && (not (eqb (entry ix x).mark 0) && overlaps (stored ix x).aabb rect)

-- the same of a point
abbrev pub visits_point : Index → Float → Float → ℕ → Bool
visits_point ix px py x = not (eqb (stored ix x).present 0) && (not (eqb (entry ix x).mark 0) && contains_point (stored ix x).aabb px py)

-- the slots below n that a test takes, rising
unfoldable pub slots : ℕ → (ℕ → Bool) → List ℕ
slots zero p = []
slots (suc n) p = slots n p ++ cond (p n) (n ∷ []) []

-- an entry in lent room: its slot, its generation, and its payload's two numbers
abbrev pub words : ℕ → Slot → List ℕ
words x e = x ∷ e.generation ∷ e.payload.0 ∷ e.payload.1 ∷ []

unfoldable pub entries : Index → List ℕ → List ℕ
entries ix [] = []
entries ix (x ∷ xs) = words x (entry ix x) ++ entries ix xs

-- the entries stand in front of the room; what is behind them is as it was
abbrev pub entries_in_front : List ℕ → List ℕ → List ℕ
entries_in_front es room = es ++ drop (length es) room
