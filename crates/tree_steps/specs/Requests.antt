-- Taps and listings on the tree's record: over the stored world records and the index, as the Rust has them.
use Rattle.std.specs.Prelude.{ℕ, Bool, true, not, ◌&&◌, ◌||◌, cond, List, [], ◌∷◌, reverse, map, eqb, ltb, get_or, Ok, Err}
use Rattle.std.specs.Int.Signed.{lt_z, le_z}
use Rattle.geometry.specs.declared.point.Point.{Point}
use Rattle.geometry.specs.declared.rect.Rect.{Rect}
use Rattle.geometry.specs.Transform.{mapped, inverse}
use Rattle.geometry_clips.specs.Clips.{inside}
use Rattle.index_types.specs.declared.NodeId.{NodeId}
use Rattle.index_types.specs.Boxes.{contains_point, overlaps}
use Rattle.index_types.specs.Slots.{entry}
pub use Rattle.index_types.specs.rooms.Rooms.{numbers_of}
unfoldable pub use Rattle.index_types.specs.rooms.Rooms.{ids_in_front}
use Rattle.tree_worlds.specs.World.{reached}
use Rattle.tree_types.specs.declared.NodeFlags.{NodeFlags}
use Rattle.tree_types.specs.Local.{has_all, known, rect_to_aabb}
use Rattle.index_state.specs.Index.{rect_slots, point_slots}
use Rattle.tree_state.specs.declared.Tree.{Tree}
use Rattle.tree_state.specs.declared.Refusal.TheVariants as no
use Rattle.tree_state.specs.Tree.{position_of, generation_at, id_at, local_at, clip_of, stored_place, stored_bounds, needs_commit, checked, Verdict}
use Rattle.tree_steps.specs.Setters.{held}
use Rattle.tree_steps.specs.Commit.{ancestors}

-- 1, 6, 7
abbrev pub asked_verdict : Tree → NodeFlags → Verdict
asked_verdict t asked = checked (checked (held t) (known asked) no.UnknownFlags) (not (needs_commit t)) no.NeedsCommit

-- 8, after the tests before: under 256 ids, of two numbers
abbrev pub room_verdict : Verdict → ℕ → Verdict
room_verdict v len = checked v (not (ltb len 512)) no.ShortRoom

-- 1, 6, 7, 8
abbrev pub request_verdict : Tree → NodeFlags → ℕ → Verdict
request_verdict t asked len = room_verdict (asked_verdict t asked) len

-- ids in front of the room, of an accepted call; a refused one leaves the room as it was
unfoldable pub room_if : Verdict → List NodeId → List ℕ → List ℕ
room_if (Ok tt) l room = ids_in_front l room
room_if (Err r) l room = room

unfoldable pub keep_of : (ℕ → Bool) → List ℕ → List ℕ
keep_of p [] = []
keep_of p (x ∷ xs) = cond (p x) (x ∷ keep_of p xs) (keep_of p xs)

-- the nodes whose entries these are
abbrev pub payloads : Tree → List ℕ → List ℕ
payloads t ks = map (λ (k : ℕ). (entry t.index k).payload.0) ks

-- ---- the tap

-- the mapped-back point is in the clip of each of these, under its own stored transform's inverse
unfoldable pub in_stored_clips : Tree → List ℕ → Point → Bool
in_stored_clips t [] pt = true
in_stored_clips t (q ∷ qs) pt = inside (clip_of t q) (mapped (inverse (stored_place t q).transform) pt) && in_stored_clips t qs pt

unfoldable pub fine : Tree → NodeFlags → Point → ℕ → Bool
fine t asked pt x =
    let v = local_at t x in
    has_all v.flags asked
    && (reached (inverse (stored_place t x).transform) v.local_bounds v.hit_slop v.local_clip pt
    && in_stored_clips t (ancestors t (position_of t x)) pt)

-- x wins over y: level, depth, generation, index
unfoldable pub stronger : Tree → ℕ → ℕ → Bool
stronger t x y =
    let level_x = (local_at t x).z_index in
    let level_y = (local_at t y).z_index in
    let depth_x = get_or t.links.depth (position_of t x) 0 in
    let depth_y = get_or t.links.depth (position_of t y) 0 in
    lt_z level_y level_x
    || (le_z level_y level_x
    && (ltb depth_y depth_x
    || (eqb depth_x depth_y
    && (ltb (generation_at t y) (generation_at t x) || (eqb (generation_at t x) (generation_at t y) && ltb y x)))))

pub data Best : Type 0 where
  nobody : Best
  best : ℕ → Best

-- the first candidate, and then each that is stronger than the best so far
abbrev pub next : Tree → ℕ → Best → Best
next t x nobody = best x
next t x (best y) = best (cond (stronger t x y) x y)

unfoldable pub strongest : Tree → Best → List ℕ → Best
strongest t b [] = b
strongest t b (x ∷ xs) = strongest t (next t x b) xs

unfoldable pub hit_node : Tree → NodeFlags → Point → Best
hit_node t asked pt = strongest t nobody (keep_of (fine t asked pt) (payloads t (point_slots t.index pt.x pt.y)))

-- from the root down to the node
unfoldable pub path_to : Tree → ℕ → List NodeId
path_to t x = map (id_at t) (reverse (x ∷ ancestors t (position_of t x)))

abbrev pub path_of : Tree → Best → List NodeId
path_of t nobody = []
path_of t (best x) = path_to t x

-- ---- listings

unfoldable pub rect_nodes : Tree → NodeFlags → Rect → List NodeId
rect_nodes t asked r =
    map (id_at t)
    (keep_of (λ x. has_all (local_at t x).flags asked && overlaps (rect_to_aabb (stored_bounds t x)) (rect_to_aabb r))
    (payloads t (rect_slots t.index (rect_to_aabb r))))

unfoldable pub point_nodes : Tree → NodeFlags → Point → List NodeId
point_nodes t asked pt =
    map (id_at t)
    (keep_of (λ x. has_all (local_at t x).flags asked && contains_point (rect_to_aabb (stored_bounds t x)) pt.x pt.y)
    (payloads t (point_slots t.index pt.x pt.y)))
