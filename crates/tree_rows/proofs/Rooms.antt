-- Worked rows of lent room, each by computation: results stand in front, what is behind them stays, and a refused call leaves all of it.
use Rattle.std.specs.Prelude.{Ok, Err, None, Some}
use Prim.Native.Nat.{ℕ}
use mathlib.Core.Path.{◌≡◌, refl}
use mathlib.Core.List.{List, [], ◌∷◌}
use lib.ListN.{replicate, set}
use lib.Ieee.{Float}
use Rattle.geometry.specs.Rectangle.{rect}
use Rattle.index_types.specs.Boxes.{aabb}
use Rattle.counting.specs.Times.{times, every}
use Rattle.counting.specs.Lists.{once_below}
use Rattle.counting.specs.Conditions.{lowest, left_if}
use Rattle.link_forest.specs.Table.{at_depth}
use Rattle.index_sound.specs.Sound.{sound_of}
use Rattle.index_commit.specs.Commit as damage
use Rattle.index_query.specs.Query as query
use Rattle.index_state.specs.Index.{fresh_entry, fresh_index}
use Rattle.index_state.specs.Calls.{query_room}
use Rattle.plan.proofs.Rows.{num, id, ten, a, b}
use Rattle.tree_state.specs.declared.Tree.{Tree}
use Rattle.tree_state.specs.declared.Refusal.TheVariants as no
use Rattle.tree_state.specs.Tree.{fresh_tree}
use Rattle.tree_steps.specs.Structure.{insert_tree}
use Rattle.tree_steps.specs.Commit.{rects_in_front}
use Rattle.tree_steps.specs.Readings.{children_of}
use Rattle.tree_steps.specs.Requests.{ids_in_front, room_if}
use Rattle.tree_readings.specs.Answers.{children_room}
use Rattle.tree_rows.proofs.Rows as rows

-- five numbers, and five floats
unfoldable pub room : List ℕ
room = 5 ∷ 6 ∷ 7 ∷ 8 ∷ 9 ∷ []

unfoldable pub floats : List Float
floats = num 5 ∷ num 6 ∷ num 7 ∷ num 8 ∷ num 9 ∷ []

-- ids, two numbers each; rectangles, four
pub ids : (ids_in_front [] room ≡ room)
    × (ids_in_front (a ∷ []) room ≡ 0 ∷ 1 ∷ 7 ∷ 8 ∷ 9 ∷ [])
    × (ids_in_front (b ∷ id 2 3 ∷ []) room ≡ 1 ∷ 1 ∷ 2 ∷ 3 ∷ 9 ∷ [])
unfolding ids_in_front room a b id
ids = (refl, refl, refl)

pub rects : (rects_in_front [] floats ≡ floats)
    × (rects_in_front (rect (num 0) (num 1) (num 2) (num 3) ∷ []) floats ≡ num 0 ∷ num 1 ∷ num 2 ∷ num 3 ∷ num 9 ∷ [])
unfolding rects_in_front floats
rects = (refl, refl)

-- the index's: boxes of a commit, entries of a query
pub boxes : (damage.boxes_in_front [] floats ≡ floats)
    × (damage.boxes_in_front (aabb (num 0) (num 1) (num 2) (num 3) ∷ []) floats ≡ num 0 ∷ num 1 ∷ num 2 ∷ num 3 ∷ num 9 ∷ [])
unfolding damage.boxes_in_front damage.flat floats
boxes = (refl, refl)

pub entries : (query.entries_in_front [] room ≡ room)
    × (query.entries_in_front (query.entries (record fresh_index { entries = set fresh_index.entries 1 (record fresh_entry { generation = 2; payload = record { 0 = 12; 1 = 13 } }) }) (1 ∷ [])) room ≡ 1 ∷ 2 ∷ 12 ∷ 13 ∷ 9 ∷ [])
    × (query_room fresh_index (0 ∷ []) room ≡ room)  -- refused: room for fewer than 512 entries
    × (query_room fresh_index (0 ∷ []) (replicate 2049 7) ≡ 0 ∷ 0 ∷ 0 ∷ 0 ∷ replicate 2045 7)
unfolding query.entries room query_room lowest left_if fresh_index sound_of once_below every times
entries = (refl, refl, refl, refl)

-- children: a node with one child
unfoldable pub family : Tree
family = insert_tree (insert_tree fresh_tree None ten) (Some a) ten

pub children : (room_if (Ok tt) (b ∷ []) room ≡ 1 ∷ 1 ∷ 7 ∷ 8 ∷ 9 ∷ [])
    × (room_if (Err no.DeadNode) (b ∷ []) room ≡ room)
    × (children_room family a room ≡ room)  -- refused: room for fewer than 256 ids
    × (children_room family (id 0 2) (replicate 513 7) ≡ replicate 513 7)  -- refused: another generation
    × (children_room family a (replicate 513 7) ≡ 1 ∷ 1 ∷ replicate 511 7)
unfolding rows.computed room_if ids_in_front room family children_of at_depth
children = (refl, refl, refl, refl, refl)
