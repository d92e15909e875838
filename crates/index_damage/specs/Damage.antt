-- The damage of a commit (damage.rs): whether there is any, and the union of its boxes.
use Rattle.std.specs.Prelude.{ℕ, zero, suc, ◌/◌, Bool, not, ◌&&◌, ◌||◌, List, [], ◌∷◌, ◌++◌, ltb, eqb, length, Float}
use Rattle.std.proofs.Math.Option.{Option, none, some}
use Rattle.counting.specs.Conditions.{accept, ◌else◌then◌, lowest, Told, refused, gives, told_if}
use Rattle.counting.specs.Joined.{joined}
use Rattle.index_types.specs.declared.Aabb2D.{Aabb2D}
use Rattle.index_types.specs.Boxes as box
use Rattle.index_types.specs.rooms.Tables.{box_at}
use Rattle.index_types.specs.declared.Refusal.{Refusal}
use Rattle.index_types.specs.Refusals.{number_of}
use Rattle.std.specs.Prelude.{Result, Ok, Err}
use Rattle.std.specs.Prelude as code

abbrev pub is_empty : ℕ → ℕ → ℕ → Bool
is_empty added removed moved = eqb added 0 && eqb removed 0 && eqb moved 0

-- one box more, as code joins them: the first starts the union
unfoldable pub with_box : code.Option Aabb2D → Aabb2D → code.Option Aabb2D
with_box code.None b = code.Some b
with_box (code.Some a) b = code.Some (box.union a b)

unfoldable pub join_all : code.Option Aabb2D → List Aabb2D → code.Option Aabb2D
join_all u [] = u
join_all u (b ∷ bs) = join_all (with_box u b) bs

-- the first n boxes of a room
unfoldable pub boxes_in : List Float → ℕ → List Aabb2D
boxes_in room zero = []
boxes_in room (suc n) = boxes_in room n ++ (box_at room n ∷ [])

-- the first n moves, the old box and then the new
unfoldable pub moves_in : List Float → List Float → ℕ → List Aabb2D
moves_in old new zero = []
moves_in old new (suc n) = moves_in old new n ++ (box_at old n ∷ box_at new n ∷ [])

-- 8: a room is shorter than its count says
abbrev pub any_short_of : ℕ → ℕ → ℕ → ℕ → ℕ → ℕ → ℕ → Bool
any_short_of added a removed r old new m = ltb (added / 4) a || ltb (removed / 4) r || (ltb (old / 4) m || ltb (new / 4) m)

abbrev pub boxes_of : List Float → ℕ → List Float → ℕ → List Float → List Float → ℕ → List Aabb2D
boxes_of added a removed r old new m = boxes_in added a ++ (boxes_in removed r ++ moves_in old new m)

-- the union of the added boxes, the removed ones, then the moves
unfoldable pub union_of : List Float → ℕ → List Float → ℕ → List Float → List Float → ℕ → Told (Option Aabb2D)
union_of added a removed r old new m =
    told_if (lowest (not (any_short_of (length added) a (length removed) r (length old) (length new) m) else 8 then accept))
    (joined box.union (boxes_of added a removed r old new m))

-- ---- the answer in these words

abbrev pub joined_told : Result (code.Option Aabb2D) Refusal → Told (Option Aabb2D)
joined_told (Ok code.None) = gives none
joined_told (Ok (code.Some b)) = gives (some b)
joined_told (Err r) = refused (number_of r)
