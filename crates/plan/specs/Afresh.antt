-- Taps and listings on a plan, worked out afresh from links, local records, ids and entry numbers.
use Rattle.std.specs.Prelude.{ℕ, Bool, true, false, ◌&&◌, ◌||◌, cond, List, [], ◌∷◌, map, eqb, ltb, ℤ, pos}
use Rattle.std.specs.Int.Signed.{lt_z, le_z}
use Rattle.geometry.specs.declared.point.Point.{Point}
use Rattle.geometry.specs.declared.rect.Rect.{Rect}
use Rattle.geometry.specs.Transform.{mapped, inverse}
use Rattle.geometry_clips.specs.Clips.{inside}
use Rattle.index_types.specs.declared.NodeId.{NodeId}
use Rattle.index_types.specs.Boxes.{contains_point, overlaps}
use Rattle.tree_worlds.specs.declared.Placed.{Placed}
use Rattle.tree_worlds.specs.World.{at_root, placed, world_box, hit_box, reached}
use Rattle.tree_types.specs.declared.NodeFlags.{NodeFlags}
use Rattle.tree_types.specs.declared.LocalNode.{LocalNode}
use Rattle.tree_types.specs.Local.{has_all, rect_to_aabb, empty_rect, no_inset, with_bounds, with_slop, with_level}
use Rattle.link_forest.specs.Forest.{above, path, depth}
use Rattle.plan.specs.Lists.{keep, joined, up_to}
use Rattle.plan.specs.Plan.{Plan, Entry, without, number, nodes, id_of}

-- ---- world records over a path: a node and what is above it, the parent first

unfoldable pub placed_on : (ℕ → LocalNode) → List ℕ → Placed
placed_on v [] = at_root
placed_on v (x ∷ l) = placed (placed_on v l) (v x).local_transform (v x).local_clip

abbrev pub lineage : Plan → ℕ → List ℕ
lineage p x = x ∷ above x p.links

-- world transform and world clip
abbrev pub world_place : Plan → ℕ → Placed
world_place p x = placed_on p.local (lineage p x)

-- world box
unfoldable pub world_bounds : Plan → ℕ → Rect
world_bounds p x = world_box (world_place p x) (p.local x).local_bounds

-- hit box
unfoldable pub world_hit_bounds : Plan → ℕ → Rect
world_hit_bounds p x = hit_box (world_place p x) (p.local x).local_bounds (p.local x).hit_slop

-- ---- a tap's candidates

-- the point is in every clip on the path, each under its own node's inverse
unfoldable pub in_clips : (ℕ → LocalNode) → List ℕ → Point → Bool
in_clips v [] pt = true
in_clips v (x ∷ l) pt = inside (v x).local_clip (mapped (inverse (placed_on v (x ∷ l)).transform) pt) && in_clips v l pt

-- "contain the point in their world hit box, have all asked flags, and contain the mapped-back point in bounds plus slop, in their own clip
-- and in every ancestor's clip under that ancestor's own inverse"
unfoldable pub candidate : Plan → NodeFlags → Point → ℕ → Bool
candidate p asked pt x =
    let v = p.local x in
    contains_point (rect_to_aabb (world_hit_bounds p x)) pt.x pt.y
    && has_all v.flags asked
    && reached (inverse (world_place p x).transform) v.local_bounds v.hit_slop v.local_clip pt
    && in_clips p.local (above x p.links) pt

-- ---- "The largest (level, depth, generation, index) wins"

abbrev pub same_level : ℤ → ℤ → Bool
same_level a b = le_z a b && le_z b a

unfoldable pub larger : Plan → ℕ → ℕ → Bool
larger p x y =
    let level_x = (p.local x).z_index in
    let level_y = (p.local y).z_index in
    let depth_x = depth x p.links in
    let depth_y = depth y p.links in
    let generation_x = p.slots.generation x in
    let generation_y = p.slots.generation y in
    lt_z level_y level_x
    || (same_level level_x level_y
    && (ltb depth_y depth_x || (eqb depth_x depth_y && (ltb generation_y generation_x || (eqb generation_x generation_y && ltb y x)))))

pub data Hit : Type 0 where
  nothing : Hit
  node : ℕ → Hit

abbrev pub better : Plan → ℕ → Hit → Hit
better p x nothing = node x
better p x (node y) = node (cond (larger p x y) x y)

unfoldable pub largest : Plan → List ℕ → Hit
largest p [] = nothing
largest p (x ∷ xs) = better p x (largest p xs)

-- "the answer is its id and path from the root", the node itself last
pub data Tap : Type 0 where
  nothing : Tap
  hit : NodeId → List NodeId → Tap

abbrev pub tap_of : Plan → Hit → Tap
tap_of p nothing = nothing
tap_of p (node x) = hit (id_of p x) (map (id_of p) (path x p.links))

unfoldable pub tap : Plan → NodeFlags → Point → Tap
tap p asked pt = tap_of p (largest p (keep (candidate p asked pt) (nodes p)))

-- ---- listings

-- "the nodes with all asked flags whose hit box and world box both meet the point or rectangle, each low edge ≤ the other's high edge, a
-- rectangle as given, no local test"
unfoldable pub meets_rect : Plan → NodeFlags → Rect → ℕ → Bool
meets_rect p asked r x =
    has_all (p.local x).flags asked
    && overlaps (rect_to_aabb (world_hit_bounds p x)) (rect_to_aabb r)
    && overlaps (rect_to_aabb (world_bounds p x)) (rect_to_aabb r)

unfoldable pub meets_point : Plan → NodeFlags → Point → ℕ → Bool
meets_point p asked pt x =
    has_all (p.local x).flags asked
    && contains_point (rect_to_aabb (world_hit_bounds p x)) pt.x pt.y
    && contains_point (rect_to_aabb (world_bounds p x)) pt.x pt.y

abbrev pub is_number : ℕ → Entry → Bool
is_number k without = false
is_number k (number n) = eqb n k

-- "it comes in entry order"
unfoldable pub in_entry_order : Plan → List ℕ
in_entry_order p = joined (λ k. keep (λ x. is_number k (p.entries.entry x)) (nodes p)) (up_to p.entries.used)

unfoldable pub list_rect : Plan → NodeFlags → Rect → List NodeId
list_rect p asked r = map (id_of p) (keep (meets_rect p asked r) (in_entry_order p))

unfoldable pub list_point : Plan → NodeFlags → Point → List NodeId
list_point p asked pt = map (id_of p) (keep (meets_point p asked pt) (in_entry_order p))

-- ---- redaction: "zero bounds, zero slop and level 0 at each node lacking a flag the request asks for"; all else is kept

-- what is left of a withheld node's record
abbrev pub withheld : LocalNode → LocalNode
withheld v = with_bounds empty_rect (with_slop no_inset (with_level (pos 0) v))

unfoldable pub redact_local : NodeFlags → LocalNode → LocalNode
redact_local asked v = cond (has_all v.flags asked) v (withheld v)

unfoldable pub redact : NodeFlags → Plan → Plan
redact asked p =
    record { links = p.links; slots = p.slots; local = λ x. redact_local asked (p.local x); mark = p.mark; entries = p.entries }
