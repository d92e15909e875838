-- A tree's stored world records, and the boxes of its entries, are those that the plan works out afresh.
use Rattle.index_types.specs.Slots.{entry_in}
use Rattle.std.specs.Prelude.{ℕ, ◌≡◌, true}
use Rattle.index_types.specs.declared.Aabb2D.{Aabb2D}
use Rattle.index_types.specs.Boxes.{aabb_eq}
use Rattle.link_forest.specs.Forest.{has}
use Rattle.tree_types.specs.Local.{rect_to_aabb}
use Rattle.tree_state.specs.declared.Tree.{Tree}
use Rattle.tree_state.specs.Tree.{key_at, stored_place, stored_bounds, stored_hit_bounds}
use Rattle.plan.specs.Plan.{Plan}
use Rattle.plan.specs.Afresh.{world_place, world_bounds, world_hit_bounds}

-- the same box, or the same as numbers: an entry whose hit box is equal as numbers keeps its old zero signs
pub data Alike (a b : Aabb2D) : Type 0 where
  itself : a ≡ b → Alike a b
  as_numbers : aabb_eq a b ≡ true → Alike a b

-- the boxes of a node, and of its entry
pub record Boxed (t : Tree) (p : Plan) (x : ℕ) : Type 0 where
  pub bounds : stored_bounds t x ≡ world_bounds p x
  pub hit_bounds : stored_hit_bounds t x ≡ world_hit_bounds p x
  pub entry : Alike (entry_in t.index.entries (key_at t x).0).aabb (rect_to_aabb (world_hit_bounds p x))

-- every live node's stored place and boxes are those worked out afresh
pub record Afresh (t : Tree) (p : Plan) : Type 0 where
  pub place : (x : ℕ) → has x p.links ≡ true → stored_place t x ≡ world_place p x
  pub boxes : (x : ℕ) → has x p.links ≡ true → Boxed t p x
