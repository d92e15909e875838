-- One rework: the world record of its slot is stored and read back, that of every other slot stays.
use mathlib.Core.Path.{◌≡◌, ap, ◌∙◌}
use Prim.Native.Nat.{ℕ, ◌<◌}
use native.Mathlib.Omega.{arith}
use lib.ListN.{length, length-set}
use lib.Seq.{get_or-set_same, get_or-set_other}
use Rattle.tree_worlds.specs.declared.Placed.{Placed}
use Rattle.tree_state.specs.declared.WorldNode.{WorldNode}
use Rattle.tree_state.specs.declared.Tree.{Tree}
use Rattle.tree_state.specs.Worlds.{no_world, place_of}
use Rattle.tree_state.specs.Tree.{world_at, stored_place, stored_bounds, stored_hit_bounds}
use Rattle.tree_state.proofs.Worlds.{place_back}
use Rattle.tree_steps.specs.Commit.{new_bounds, new_hit_bounds, new_world, reworked}

-- what is stored at x
module _ (t : Tree) (x : ℕ) (w : Placed) (W : length t.worlds ≡ 256) (low : x < 256) where
  abbrev next : Tree
  next = reworked t x w

  now : world_at next x ≡ new_world t x w
  now = get_or-set_same t.worlds x (new_world t x w) no_world (omega (arith, W))

  pub place_now : stored_place next x ≡ w
  place_now = ap place_of now ∙ place_back (world_at t x) w (new_bounds t x w) (new_hit_bounds t x w)

  pub bounds_now : stored_bounds next x ≡ new_bounds t x w
  bounds_now = ap (λ (v : WorldNode). v.bounds) now

  pub hit_now : stored_hit_bounds next x ≡ new_hit_bounds t x w
  hit_now = ap (λ (v : WorldNode). v.hit_bounds) now

  pub whole_worlds : length next.worlds ≡ 256
  whole_worlds = length-set t.worlds x (new_world t x w) ∙ W

-- what is stored at another slot
pub world_stays : (t : Tree) (x : ℕ) (w : Placed) (y : ℕ) → (y ≡ x → ⊥) → world_at (reworked t x w) y ≡ world_at t y
world_stays t x w y n = get_or-set_other t.worlds x y (new_world t x w) no_world n
