-- Worked rows of the definitions, each by computation, on one table: 10 with its children 11 and 13, 12 below 11, and the root 14; behind it
-- two places that no node has.
use mathlib.Core.Path.{◌≡◌, refl}
use mathlib.Core.Bool.{true, false}
use mathlib.Core.List.{List, [], ◌∷◌}
use Prim.Native.Nat.{ℕ}
use lib.ListN.{take}
use Rattle.std.specs.Prelude.{None, Some}
use Rattle.link_forest.specs.Table.{run_length, seg_end, index_of, last_above, less_deep, at_depth, post_of, depths_from}
use Rattle.link_table.specs.declared.Links.{Links}
use Rattle.link_table.specs.Links.{between, parent_at, after_cut, end_of, splice, add_root, add_last, cut_tree, graft, graft_last, move_last, move_root}

pub order : List ℕ
order = 10 ∷ 11 ∷ 12 ∷ 13 ∷ 14 ∷ 98 ∷ 99 ∷ []

pub depth : List ℕ
depth = 1 ∷ 2 ∷ 3 ∷ 2 ∷ 1 ∷ 8 ∷ 9 ∷ []

pub table : Links
table = record { order = order; depth = depth; count = 5 }

pub is : List ℕ → List ℕ → ℕ → Links
is o d n = record { order = o; depth = d; count = n }

pub read : (index_of 13 (take 5 order) ≡ 3)
    × (index_of 98 (take 5 order) ≡ 5)
    × (end_of table 0 ≡ 4)
    × (end_of table 1 ≡ 3)
    × (end_of table 4 ≡ 5)
    × (last_above 2 99 (take 3 order) (take 3 depth) ≡ 10)
    × (last_above 1 99 (take 4 order) (take 4 depth) ≡ 99)
    × (parent_at table 2 ≡ Some 11)
    × (parent_at table 3 ≡ Some 10)
    × (parent_at table 4 ≡ None)
    × (at_depth 2 (between 1 4 order) (between 1 4 depth) ≡ 11 ∷ 13 ∷ [])
    × (post_of (take 5 order) (take 5 depth) ≡ 12 ∷ 11 ∷ 13 ∷ 10 ∷ 14 ∷ [])
unfolding order depth table run_length seg_end index_of last_above less_deep at_depth post_of
read = (refl, refl, refl, refl, refl, refl, refl, refl, refl, refl, refl, refl)

-- the first is 1, none is 0, none is two deeper than the one before
pub shape : (depths_from 0 (take 5 depth) ≡ true) × (depths_from 0 (2 ∷ []) ≡ false) × (depths_from 0 (1 ∷ 0 ∷ []) ≡ false) × (depths_from 0 (1 ∷ 3 ∷ []) ≡ false)
unfolding depth depths_from
shape = (refl, refl, refl, refl)

pub grows : (add_root table 20 ≡ is (10 ∷ 11 ∷ 12 ∷ 13 ∷ 14 ∷ 20 ∷ 99 ∷ []) (1 ∷ 2 ∷ 3 ∷ 2 ∷ 1 ∷ 1 ∷ 9 ∷ []) 6)
    × (add_last table 1 20 ≡ is (10 ∷ 11 ∷ 12 ∷ 20 ∷ 13 ∷ 14 ∷ 99 ∷ []) (1 ∷ 2 ∷ 3 ∷ 3 ∷ 2 ∷ 1 ∷ 9 ∷ []) 6)
    × (add_last table 0 20 ≡ is (10 ∷ 11 ∷ 12 ∷ 13 ∷ 20 ∷ 14 ∷ 99 ∷ []) (1 ∷ 2 ∷ 3 ∷ 2 ∷ 2 ∷ 1 ∷ 9 ∷ []) 6)
    × (cut_tree table 1 ≡ is (10 ∷ 13 ∷ 14 ∷ 13 ∷ 14 ∷ 98 ∷ 99 ∷ []) (1 ∷ 2 ∷ 1 ∷ 2 ∷ 1 ∷ 8 ∷ 9 ∷ []) 3)
unfolding order depth table is run_length seg_end splice add_root add_last cut_tree
grows = (refl, refl, refl, refl)

-- 11 below 14, and below 10 again; 14 below 11; 13 below 12; 11 as a root
pub moves : (move_last table 1 4 ≡ is (10 ∷ 13 ∷ 14 ∷ 11 ∷ 12 ∷ 98 ∷ 99 ∷ []) (1 ∷ 2 ∷ 1 ∷ 2 ∷ 3 ∷ 8 ∷ 9 ∷ []) 5)
    × (move_last table 1 0 ≡ is (10 ∷ 13 ∷ 11 ∷ 12 ∷ 14 ∷ 98 ∷ 99 ∷ []) (1 ∷ 2 ∷ 2 ∷ 3 ∷ 1 ∷ 8 ∷ 9 ∷ []) 5)
    × (move_last table 4 1 ≡ is (10 ∷ 11 ∷ 12 ∷ 14 ∷ 13 ∷ 98 ∷ 99 ∷ []) (1 ∷ 2 ∷ 3 ∷ 3 ∷ 2 ∷ 8 ∷ 9 ∷ []) 5)
    × (move_last table 3 2 ≡ is (10 ∷ 11 ∷ 12 ∷ 13 ∷ 14 ∷ 98 ∷ 99 ∷ []) (1 ∷ 2 ∷ 3 ∷ 4 ∷ 1 ∷ 8 ∷ 9 ∷ []) 5)
    × (move_root table 1 ≡ is (10 ∷ 13 ∷ 14 ∷ 11 ∷ 12 ∷ 98 ∷ 99 ∷ []) (1 ∷ 2 ∷ 1 ∷ 1 ∷ 2 ∷ 8 ∷ 9 ∷ []) 5)
unfolding order depth table is run_length seg_end splice after_cut cut_tree graft graft_last move_last move_root
moves = (refl, refl, refl, refl, refl)
