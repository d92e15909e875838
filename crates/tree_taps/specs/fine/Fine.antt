-- The parts of what makes a node a candidate.
use Rattle.std.specs.Prelude.{◌≡◌, Bool, ℕ, ◌<◌, length}
use Rattle.geometry.specs.declared.point.Point.{Point}
use Rattle.geometry.specs.Transform.{mapped, inverse}
use Rattle.geometry_clips.specs.Clips.{inside}
use Rattle.tree_worlds.specs.World.{reached}
use Rattle.tree_state.specs.declared.Tree.{Tree}
use Rattle.tree_state.specs.Tree.{local_at, clip_of, stored_place, position_of, entry_mark}
use Rattle.tree_verdicts.specs.Held.{Ranged}
use Rattle.tree_listings.specs.entries.Entries.{node_of}

-- a slot of the tables, in the table of links
pub record Shown (t : Tree) (x : ℕ) : Type 0 where
  pub low : x < 256
  pub place_fits : position_of t x < t.links.count

-- what a tap asks of a tree, and every sound tree that needs no commit has: an entry that is not empty has a node that is shown
pub record Tappable (t : Tree) : Type 0 where
  pub ranged : Ranged t
  pub depths : length t.links.depth ≡ 256
  pub carried : (k : ℕ) → k < 512 → (entry_mark t k ≡ 0 → ⊥) → Shown t (node_of t k)

-- the mapped-back point is in the clip of one node
unfoldable pub clip_holds : Tree → Point → ℕ → Bool
clip_holds t pt q = inside (clip_of t q) (mapped (inverse (stored_place t q).transform) pt)

unfoldable pub reaches : Tree → Point → ℕ → Bool
reaches t pt x =
    let v = local_at t x in
    reached (inverse (stored_place t x).transform) v.local_bounds v.hit_slop v.local_clip pt
