-- Worked rows of damage and of the readings of links, each by computation; document 01's P1, P2, P5 and P10 among them.
use Rattle.std.specs.Prelude.{None, Some}
use Prim.Native.Nat.{ℕ}
use mathlib.Core.Path.{◌≡◌, refl}
use mathlib.Core.List.{List, [], ◌∷◌}
use Rattle.geometry.specs.Rectangle.{rect}
use Rattle.tree_types.specs.Local.{no_inset}
use Rattle.tree_state.specs.Tree.{number_of, fresh_tree}
use Rattle.tree_steps.specs.Commit.{commit_tree}
use Rattle.plan.specs.Calls as call
use Rattle.plan.specs.Calls.{Call}
use Rattle.plan.proofs.Cases.{rec}
use Rattle.plan.proofs.Rows.{num, local, shifted, grown, root, child, settle, a, b, c}
use Rattle.tree_steps.specs.Readings.{parent_of, children_of, next_of, prev_of}
use Rattle.link_forest.specs.Table.{at_depth}
use Rattle.tree_rows.proofs.Rows as rows
use Rattle.tree_rows.proofs.Rows.{after}
use Rattle.geometry.specs.declared.rect.Rect.{Rect}
use Rattle.tree_state.specs.Tree.{position_of}
use lib.ListN.{get_or}
use Rattle.geometry.specs.Transform.{identity}
use lib.IntN.{pos}
use Rattle.geometry_clips.specs.declared.clip.Clip.TheVariants as is
use Rattle.tree_state.specs.declared.Refusal.TheVariants as no

unfoldable pub damage : List Call → List Rect
damage cs = (commit_tree (after cs)).damage

unfoldable pub box : ℕ → ℕ → ℕ → ℕ → Rect
box a b c d = rect (num a) (num b) (num c) (num d)

-- what the rows compute through
computed : Unit {0}
unfolding rows.computed parent_of children_of next_of prev_of at_depth damage box rec
computed = tt

-- a fresh tree's commit gives no damage
pub p1 : (commit_tree fresh_tree).damage ≡ []
unfolding computed
p1 = refl

-- a first insert, committed, lies at depth 1
pub p2 : get_or (after (root ∷ settle ∷ [])).links.depth (position_of (after (root ∷ settle ∷ [])) 0) 0 ≡ 1
unfolding computed
p2 = refl

-- a child moved to its own parent is the last
pub p5 : children_of (after (root ∷ child a ∷ child a ∷ call.reparent b (Some a) ∷ [])) 0 ≡ c ∷ b ∷ []
unfolding computed
p5 = refl

-- after the last leaf of a root comes nothing
pub p10 : (next_of (after (root ∷ child a ∷ root ∷ [])) 1 ≡ None) × (next_of (after (root ∷ child a ∷ root ∷ [])) 0 ≡ Some b) × (prev_of (after (root ∷ child a ∷ child a ∷ [])) 2 ≡ Some b) × (parent_of (after (root ∷ child a ∷ [])) 0 ≡ None)
unfolding computed
p10 = (refl, refl, refl, refl)

-- changed, then removed: the box of the last commit; a box without area gives nothing; old before new, parent first; a removal before a change
pub damages : (damage (root ∷ settle ∷ call.set_local_bounds a (box 0 0 20 20) ∷ call.remove a ∷ []) ≡ box 0 0 10 10 ∷ [])
    × (damage (root ∷ settle ∷ call.set_local_bounds a (box 0 0 0 9) ∷ []) ≡ box 0 0 10 10 ∷ [])
    × (damage (root ∷ child a ∷ settle ∷ call.set_local_transform a (shifted 20 0) ∷ []) ≡ box 0 0 10 10 ∷ box 20 0 30 10 ∷ box 0 0 10 10 ∷ box 20 0 30 10 ∷ [])
    × (damage (root ∷ root ∷ settle ∷ call.set_local_bounds b (box 0 0 20 20) ∷ call.remove a ∷ []) ≡ box 0 0 10 10 ∷ box 0 0 10 10 ∷ box 0 0 20 20 ∷ [])
unfolding computed
damages = (refl, refl, refl, refl)

-- only a changed world box gives damage, its old form and its new, each with area; removals in their order, children first
pub more_damages : (damage (root ∷ []) ≡ box 0 0 10 10 ∷ [])  -- a new node: its new form alone
    × (damage (root ∷ settle ∷ call.set_local_transform a (shifted 20 0) ∷ call.set_local_transform a identity ∷ []) ≡ [])  -- set back: no damage
    × (damage (root ∷ settle ∷ call.reparent a None ∷ []) ≡ [])  -- moved, and where it was: none
    × (damage (call.insert None (local 0 is.None (pos 0)) ∷ settle ∷ call.remove a ∷ []) ≡ [])  -- a removed box without area
    × (damage (root ∷ settle ∷ call.set_hit_slop a (record { x0 = num 5; y0 = num 5; x1 = num 5; y1 = num 5 }) ∷ []) ≡ [])  -- slop is no damage
    × (damage (call.insert None (grown (num 5)) ∷ settle ∷ call.remove a ∷ []) ≡ box 0 0 10 10 ∷ [])  -- of a removed node the world box, not the hit box
    × (damage (root ∷ call.insert None (local 20 is.None (pos 0)) ∷ settle ∷ call.remove b ∷ call.remove a ∷ []) ≡ box 0 0 20 20 ∷ box 0 0 10 10 ∷ [])  -- removals in their order
    × (damage (root ∷ call.insert (Some a) (local 20 is.None (pos 0)) ∷ settle ∷ call.remove a ∷ []) ≡ box 0 0 20 20 ∷ box 0 0 10 10 ∷ [])  -- children first
    × (damage (root ∷ settle ∷ child a ∷ call.remove b ∷ call.set_local_bounds a (box 0 0 20 20) ∷ []) ≡ box 0 0 10 10 ∷ box 0 0 20 20 ∷ [])  -- a node that no commit has seen gives none
    × (damage (call.insert None (rec (box 0 0 10 10) no_inset identity is.None (pos 0) 0) ∷ []) ≡ box 0 0 10 10 ∷ [])  -- a withheld node gives damage too
    × (number_of no.Unsound ≡ 1)  -- document 01, 1
unfolding computed
more_damages = (refl, refl, refl, refl, refl, refl, refl, refl, refl, refl, refl)
