-- Worked rows of the lent room of commits, listings and taps, each by computation: results stand in front, what is behind them stays, and a
-- refused call leaves all of it. (`tree_rows` has those of ids, rectangles, children and the index.)
use Rattle.std.specs.Prelude.{Ok, Err, None}
use Prim.Native.Nat.{ℕ}
use mathlib.Core.Path.{◌≡◌, refl}
use mathlib.Core.List.{List, [], ◌∷◌}
use lib.ListN.{replicate}
use lib.Ieee.{Float}
use Rattle.geometry.specs.Rectangle.{rect}
use Rattle.tree_types.specs.Local.{flags}
use Rattle.plan.proofs.Rows.{num, point, id, a, b, ten}
use Rattle.tree_state.specs.Tree.{fresh_tree}
use Rattle.tree_steps.specs.Commit.{rects_in_front, commit_tree}
use Rattle.tree_steps.specs.Requests.{ids_in_front, room_if}
use Rattle.tree_commit.specs.Commit.{room_after, commit_room}
use Rattle.tree_listings.specs.Listings.{intersect_room, containing_room}
use Rattle.tree_taps.specs.Taps.{tap_room}
use Rattle.tree_steps.specs.Structure.{insert_tree}
use Rattle.tree_state.specs.declared.Tree.{Tree}
use Rattle.tree_state.specs.declared.Refusal.TheVariants as no
use Rattle.tree_rows.proofs.Rows as rows

-- five numbers, and five floats
unfoldable pub room : List ℕ
room = 5 ∷ 6 ∷ 7 ∷ 8 ∷ 9 ∷ []

unfoldable pub floats : List Float
floats = num 5 ∷ num 6 ∷ num 7 ∷ num 8 ∷ num 9 ∷ []

pub commits : (room_after (Ok tt) [] floats ≡ floats)
    × (room_after (Ok tt) (rect (num 0) (num 1) (num 2) (num 3) ∷ []) floats ≡ num 0 ∷ num 1 ∷ num 2 ∷ num 3 ∷ num 9 ∷ [])
    × (room_after (Err no.ShortRoom) (rect (num 0) (num 1) (num 2) (num 3) ∷ []) floats ≡ floats)
unfolding room_after rects_in_front floats
commits = (refl, refl, refl)

-- listings and taps: ids
pub requests : (room_if (Ok tt) [] room ≡ room)
    × (room_if (Ok tt) (a ∷ b ∷ []) room ≡ 0 ∷ 1 ∷ 1 ∷ 1 ∷ 9 ∷ [])
    × (room_if (Err no.NeedsCommit) (a ∷ b ∷ []) room ≡ room)
unfolding room_if ids_in_front room id a b
requests = (refl, refl, refl)

-- whole calls: a new node, and the tree once it is committed
unfoldable pub new : Tree
new = insert_tree fresh_tree None ten

unfoldable pub settled : Tree
settled = (commit_tree new).tree

pub calls : (intersect_room settled (flags 3) (rect (num 0) (num 1) (num 2) (num 3)) (replicate 513 7) ≡ 0 ∷ 1 ∷ replicate 511 7)
    × (containing_room settled (flags 3) (point 5 5) (replicate 513 7) ≡ 0 ∷ 1 ∷ replicate 511 7)
    × (tap_room settled (flags 3) (point 5 5) (replicate 513 7) ≡ 0 ∷ 1 ∷ replicate 511 7)
    × (tap_room settled (flags 3) (point 50 5) (replicate 513 7) ≡ replicate 513 7)  -- nothing is hit
    × (commit_room new (replicate 2049 (num 7)) ≡ num 0 ∷ num 0 ∷ num 10 ∷ num 10 ∷ replicate 2045 (num 7))
    -- refused: short room
    × (intersect_room settled (flags 3) (rect (num 0) (num 1) (num 2) (num 3)) room ≡ room)
    × (containing_room settled (flags 3) (point 5 5) room ≡ room)
    × (tap_room settled (flags 3) (point 5 5) room ≡ room)
    × (commit_room new floats ≡ floats)
unfolding rows.computed room_if ids_in_front room_after commit_room rects_in_front room floats new settled
calls = (refl, refl, refl, refl, refl, refl, refl, refl, refl)
