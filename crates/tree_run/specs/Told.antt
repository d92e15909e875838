-- What a caller is told: an answer, with the room after the call, as the plan speaks of it.
use Rattle.std.specs.Prelude.{ℕ, zero, suc, List, [], ◌∷◌, Float, Result, Ok, Err, Option, Some, None}
use Rattle.geometry.specs.declared.rect.Rect.{Rect}
use Rattle.index_types.specs.declared.NodeId.{NodeId}
use Rattle.tree_state.specs.declared.Refusal.{Refusal}
use Rattle.tree_state.specs.Tree.{number_of}
use Rattle.tree_steps.specs.Commit.{rects_of}
use Rattle.tree_taps.specs.declared.Hit.{Hit}
use Rattle.plan.specs.Calls as call
use Rattle.plan.specs.Calls.{Outcome}
use Rattle.plan.specs.Afresh.{nothing, hit}
use Rattle.plan.specs.Demand.{Answer, refused, listed, tapped}

-- a number, or 0, and nothing besides
abbrev pub number_told : ℕ → Outcome
number_told n = record { refused = n; told = call.nothing }

-- an insert's refusal, or the id it hands out
unfoldable pub insert_told : Result NodeId Refusal → Outcome
insert_told (Ok i) = record { refused = 0; told = call.id i }
insert_told (Err r) = number_told (number_of r)

-- a commit's rectangles, of the room after it
unfoldable pub damage_told : Result ℕ Refusal → List Float → List Rect
damage_told (Ok n) room = rects_of room n
damage_told (Err r) room = []

-- the first n ids of a room, two numbers each
unfoldable pub ids_of : ℕ → List ℕ → List NodeId
ids_of zero room = []
ids_of (suc n) [] = []
ids_of (suc n) (i ∷ []) = []
ids_of (suc n) (i ∷ g ∷ room) = record { 0 = i; 1 = g } ∷ ids_of n room

-- a listing's answer, or children's, of the room after it
unfoldable pub listing_told : Result ℕ Refusal → List ℕ → Answer
listing_told (Ok n) room = listed (ids_of n room)
listing_told (Err r) room = refused (number_of r)

-- a tap's answer, likewise: the id, and its path from the root
unfoldable pub tap_told : Result (Option Hit) Refusal → List ℕ → Answer
tap_told (Ok None) room = tapped nothing
tap_told (Ok (Some h)) room = tapped (hit h.node (ids_of h.depth room))
tap_told (Err r) room = refused (number_of r)

-- the number of an answer: 0 where it is no refusal
abbrev pub answer_number : Answer → ℕ
answer_number (refused n) = n
answer_number (tapped found) = 0
answer_number (listed l) = 0
