-- Worked rows of the plan's definitions, each by computation: document 01's examples, and the orders that a careless reading gets wrong.
use Rattle.std.specs.Prelude.{None, Some}
use Prim.Native.Nat.{ℕ}
use mathlib.Core.Path.{◌≡◌, refl}
use mathlib.Core.Bool.{Bool, true, false}
use mathlib.Core.List.{List, [], ◌∷◌}
use lib.IntN.{ℤ, pos, negsuc}
use lib.ListN.{replicate}
use lib.Ieee.{Float, nan, binary64, round, units, odd, size, span, climb, neg, add, sub, mul, div, eq, le, lt, is_nan}
use Rattle.numbers.specs.Rounded.{zero, one}
use Rattle.numbers.specs.Number.{minimum, maximum, magnitude}
use Rattle.geometry.specs.declared.point.Point.{Point}
use Rattle.geometry.specs.Rectangle.{rect, ordered, intersection, contains, plus_insets, rect_eq, insets_eq, zero_insets, finite_rect, finite_insets}
use Rattle.geometry.specs.declared.affine.Affine.{Affine}
use Rattle.geometry.specs.Transform.{identity, mapped, product, inverse, affine_eq, finite_affine}
use Rattle.geometry.specs.bbox.Bbox.{transform_rect_bbox}
use Rattle.geometry_clips.specs.declared.clip.Clip.{Clip}
use Rattle.geometry_clips.specs.declared.clip.Clip.TheVariants as is
use Rattle.geometry_clips.specs.Clips.{clip_rect, clip_radii, fitted, shaped, constructed, quadrant, excess, inside_rounded, inside, clip_rect_eq, clip_eq, finite_clip_rect, finite_clip}
use Rattle.index_types.specs.declared.NodeId.{NodeId}
use Rattle.index_types.specs.Boxes.{contains_point, overlaps}
use Rattle.tree_worlds.specs.World.{image, meet_own, meet, clipped, placed, world_box, hit_box, reached}
use Rattle.tree_types.specs.declared.LocalNode.{LocalNode}
use Rattle.tree_types.specs.Local.{flags, has_all, finite_local, stored, default_local, with_bounds, with_slop, with_transform, with_clip, with_level, with_flags}
use Rattle.link_forest.specs.Forest.{pre, post, has, cat, under, remove, roots, spot, children}
use Rattle.plan.specs.Lists.{keep, any, joined, up_to, insert_sorted, sorted}
use Rattle.plan.specs.Plan.{Plan, empty, needs_commit, new_id, inserted, removed, moved}
use Rattle.plan.specs.Visits.{starts, visits, enter, committed}
use Rattle.plan.specs.Afresh.{placed_on, world_bounds, world_hit_bounds, in_clips, candidate, larger, largest, Tap, nothing, hit, tap, meets_rect, meets_point, in_entry_order, list_rect, list_point, redact_local, redact}
use Rattle.plan.specs.Calls as call
use Rattle.plan.specs.Calls.{Call, lowest, refusal, accepted, step}
use Rattle.plan.specs.Demand.{run}

-- a whole number, and whole-number values
unfoldable pub num : ℕ → Float
num k = round binary64 false k 1

unfoldable pub point : ℕ → ℕ → Point
point x y = record { x = num x; y = num y }

unfoldable pub id : ℕ → ℕ → NodeId
id x g = record { 0 = x; 1 = g }

-- bounds 0 to n both ways, with this clip and level, visible and pickable
unfoldable pub local : ℕ → Clip → ℤ → LocalNode
local n c z = with_bounds (rect zero zero (num n) (num n)) (with_clip c (with_level z default_local))

unfoldable pub ten : LocalNode
ten = local 10 is.None (pos 0)

unfoldable pub root : Call
root = call.insert None ten

unfoldable pub child : NodeId → Call
child p = call.insert (Some p) ten

-- lent room of so many numbers
unfoldable pub floats : ℕ → List Float
floats n = replicate n zero

unfoldable pub words : ℕ → List ℕ
words n = replicate n 0

unfoldable pub settle : Call
settle = call.commit (floats 2048)

unfoldable pub after : List Call → Plan
after cs = run step empty cs

-- the id that the next insert hands out
unfoldable pub next : List Call → NodeId
next cs = new_id (after cs)

-- everything that touches 5, 5
unfoldable pub listing : List Call → List NodeId
listing cs = list_point (after cs) (flags 0) (point 5 5)

-- the ids of the first three nodes
unfoldable pub a : NodeId
a = id 0 1

unfoldable pub b : NodeId
b = id 1 1

unfoldable pub c : NodeId
c = id 2 1

-- a transform in whole numbers, a shift by (x, y), and one quarter turn with a shift
unfoldable pub shifted : ℕ → ℕ → Affine
shifted x y = record { a = one; b = zero; c = zero; d = one; e = num x; f = num y }

unfoldable pub turn : ℕ → ℕ → Affine
turn x y = record { a = zero; b = one; c = neg one; d = zero; e = num x; f = num y }

unfoldable pub grown : Float → LocalNode
grown s = with_bounds (rect zero zero (num 10) (num 10)) (with_slop (record { x0 = s; y0 = s; x1 = s; y1 = s }) default_local)

unfoldable pub needs : List Call → Bool
needs cs = needs_commit (after cs)

unfoldable pub told : List Call → Call → ℕ
told cs c = refusal (after cs) c

unfoldable pub tapped : List Call → Point → Tap
tapped cs pt = tap (after cs) (flags 3) pt

-- what the rows compute through
unfoldable pub computed : Unit {0}
unfolding num point id local ten turn shifted grown root child floats words settle after next listing needs told tapped a b c run step refusal lowest accepted
    inserted removed moved committed needs_commit starts visits enter keep any joined up_to insert_sorted sorted pre post has cat under remove roots spot
    has_all finite_local stored finite_rect finite_insets finite_affine finite_clip finite_clip_rect affine_eq rect_eq insets_eq clip_eq clip_rect_eq constructed
    clip_rect clip_radii fitted shaped quadrant excess inside_rounded inside ordered intersection contains plus_insets zero_insets mapped product inverse
    transform_rect_bbox contains_point overlaps image meet_own meet clipped placed world_box hit_box reached placed_on world_bounds world_hit_bounds in_clips
    candidate larger largest tap meets_rect meets_point in_entry_order list_rect list_point redact_local redact minimum maximum magnitude round units odd
    size span climb neg add sub mul div eq le lt is_nan
computed = tt

-- ids and slots
pub ids : (next [] ≡ id 0 1)  -- P2
    × (next (root ∷ child a ∷ call.remove a ∷ []) ≡ id 0 2)  -- P3: A, child B; remove A
    × (next (root ∷ child a ∷ call.remove a ∷ root ∷ []) ≡ id 1 2)
    × (next (root ∷ child a ∷ child a ∷ call.remove a ∷ root ∷ []) ≡ id 2 2)  -- children first in order, last freed first
    × (told (root ∷ child a ∷ []) (call.reparent a (Some b)) ≡ 4)  -- P4
    × (told (root ∷ []) (call.reparent a (Some a)) ≡ 4)
    × (children 0 (after (root ∷ child a ∷ child a ∷ call.reparent b (Some a) ∷ [])).links ≡ 2 ∷ 1 ∷ [])  -- P5
    × (told (root ∷ call.remove a ∷ root ∷ []) (child a) ≡ 3)  -- a dead parent's slot in use again
    × (told [] (call.insert (Some (id 0 0)) ten) ≡ 3)  -- generation 0 names no node
unfolding computed
ids = (refl, refl, refl, refl, refl, refl, refl, refl, refl)

-- what calls for a commit
pub needed : (needs (root ∷ []) ≡ true)
    × (needs (root ∷ call.remove a ∷ []) ≡ false)  -- a mark goes with its node
    × (needs (root ∷ settle ∷ []) ≡ false)
    × (needs (root ∷ settle ∷ call.remove a ∷ []) ≡ true)  -- a removed entry
    × (needs (root ∷ settle ∷ call.set_z_index a (negsuc 4) ∷ call.set_flags a (flags 0) ∷ []) ≡ false)
    × (needs (root ∷ settle ∷ call.set_local_transform a (shifted 1 0) ∷ call.set_local_transform a identity ∷ []) ≡ true)  -- set and set back
    × (needs (root ∷ settle ∷ call.set_local_bounds a (rect (neg zero) zero (num 10) (num 10)) ∷ []) ≡ false)  -- −0 over +0
    × (needs (root ∷ call.commit (floats 2047) ∷ []) ≡ true)  -- a refused commit
    × (needs (root ∷ settle ∷ call.reparent a None ∷ []) ≡ true)  -- a root moved to no parent is moved
    × (needs (root ∷ settle ∷ call.set_local_transform a (shifted 1 0) ∷ settle ∷ []) ≡ false)  -- a second commit
    × (needs (root ∷ root ∷ settle ∷ call.remove a ∷ settle ∷ []) ≡ false)
unfolding computed
needed = (refl, refl, refl, refl, refl, refl, refl, refl, refl, refl, refl)

-- the lowest number that applies
pub refusals : (told [] (call.insert (Some a) (grown nan)) ≡ 3)
    × (told [] (call.commit (floats 2047)) ≡ 8)
    × (told (root ∷ []) (call.read (call.world_bounds b)) ≡ 2)
    × (told (root ∷ []) (call.read (call.world_bounds a)) ≡ 7)
    × (told (root ∷ []) (call.read (call.is_alive b)) ≡ 0)
    × (told (root ∷ []) (call.read (call.children_of a (words 511))) ≡ 8)
    × (told (root ∷ []) (call.request (call.hit_test_point (point 0 0)) (flags 8) (words 0)) ≡ 6)
    × (told (root ∷ []) (call.request (call.hit_test_point (point 0 0)) (flags 3) (words 0)) ≡ 7)
    × (told (root ∷ settle ∷ []) (call.request (call.hit_test_point (point 0 0)) (flags 3) (words 511)) ≡ 8)
    × (told (root ∷ settle ∷ []) (call.request (call.hit_test_point (point 0 0)) (flags 3) (words 512)) ≡ 0)
    × (told (root ∷ []) (call.reparent b (Some b)) ≡ 2)
    × (told (root ∷ child a ∷ call.remove b ∷ []) (call.reparent a (Some b)) ≡ 3)
unfolding computed
refusals = (refl, refl, refl, refl, refl, refl, refl, refl, refl, refl, refl, refl)

-- the order of entries
pub orders : (listing (root ∷ root ∷ call.remove a ∷ root ∷ settle ∷ []) ≡ b ∷ id 0 2 ∷ [])  -- marks by generation, then index
    × (listing (root ∷ root ∷ child a ∷ settle ∷ []) ≡ a ∷ c ∷ b ∷ [])  -- a covered node is entered in its ancestor's walk
    × (listing (root ∷ settle ∷ child a ∷ child a ∷ call.reparent b (Some a) ∷ settle ∷ []) ≡ a ∷ b ∷ c ∷ [])
    × (listing (root ∷ settle ∷ child a ∷ child a ∷ call.reparent b (Some a) ∷ call.set_local_transform a (shifted 1 0) ∷ call.set_local_transform a identity ∷ settle ∷ [])
    ≡ a ∷ c ∷ b ∷ [])  -- the same with a's transform set and set back
    × (listing (root ∷ root ∷ settle ∷ call.remove a ∷ root ∷ settle ∷ []) ≡ b ∷ id 0 2 ∷ [])  -- new entries are taken before removed ones are freed
    × (listing (root ∷ root ∷ settle ∷ call.remove a ∷ root ∷ settle ∷ root ∷ settle ∷ []) ≡ c ∷ b ∷ id 0 2 ∷ [])  -- and the freed one next
    × (visits (after (root ∷ child a ∷ child b ∷ settle ∷ call.set_local_transform a (shifted 1 0) ∷ call.set_local_bounds b (rect zero zero one one) ∷ call.set_local_bounds c (rect zero zero one one) ∷ []))
    ≡ 0 ∷ 1 ∷ 2 ∷ [])  -- the climb goes past a mark that changed only bounds
    × (visits (after (root ∷ child a ∷ settle ∷ call.set_local_clip a (is.Square zero zero one one) ∷ [])) ≡ 0 ∷ 1 ∷ [])  -- a clip counts as a transform does
    × (visits (after (root ∷ child a ∷ settle ∷ call.set_local_bounds a (rect zero zero one one) ∷ [])) ≡ 0 ∷ [])
    × (visits (after (root ∷ child a ∷ settle ∷ call.set_local_bounds a (rect zero zero one one) ∷ call.set_local_bounds b (rect zero zero one one) ∷ [])) ≡ 0 ∷ 1 ∷ [])  -- such a mark covers nobody
    × (visits (after (root ∷ root ∷ child b ∷ settle ∷ call.reparent b (Some a) ∷ [])) ≡ 1 ∷ 2 ∷ [])  -- a moved node counts as changed
unfolding computed
orders = (refl, refl, refl, refl, refl, refl, refl, refl, refl, refl, refl)

-- taps and listings
unfoldable pub places : List Call
places =
    call.insert None (local 100 is.None (pos 0))
    ∷ call.insert (Some a)
    (with_bounds (rect zero zero (num 40) (num 20)) (with_transform (turn 100 0) default_local))
    ∷ settle
    ∷ []

unfoldable pub half_clip : List Call
half_clip = call.insert None (local 20 (is.Square zero zero (num 10) (num 10)) (pos 0)) ∷ settle ∷ []

pub taps : (world_bounds (after places) 1 ≡ rect (num 80) zero (num 100) (num 40))  -- P6
    × (tapped places (point 90 10) ≡ hit b (a ∷ b ∷ []))
    × (tapped places (point 100 10) ≡ hit b (a ∷ b ∷ []))
    × (tapped places (point 80 10) ≡ hit a (a ∷ []))
    × (tapped places (point 200 200) ≡ nothing)
    × (tapped half_clip (point 10 10) ≡ hit a (a ∷ []))  -- P7
    × (tapped half_clip (record { x = round binary64 false 21 2; y = num 10 }) ≡ nothing)
    × (tapped (root ∷ root ∷ call.remove a ∷ root ∷ settle ∷ []) (point 5 5) ≡ hit (id 0 2) (id 0 2 ∷ []))  -- P9
    × (tapped (root ∷ settle ∷ []) (point 10 5) ≡ nothing)  -- the high edge is out of a tap and in a listing
    × (list_point (after (root ∷ settle ∷ [])) (flags 3) (point 10 5) ≡ a ∷ [])
    × (list_rect (after (root ∷ settle ∷ [])) (flags 3) (rect (num 10) (num 10) (num 20) (num 20)) ≡ a ∷ [])
    × (list_rect (after (root ∷ settle ∷ [])) (flags 3) (rect (num 8) (num 8) (num 2) (num 2)) ≡ a ∷ [])  -- a rectangle as given
    × (tapped (call.insert None (grown (neg (num 6))) ∷ settle ∷ []) (point 5 5) ≡ nothing)  -- a negative slop
    × (listing (call.insert None (grown (neg (num 6))) ∷ settle ∷ []) ≡ a ∷ [])
    × (list_point (after (call.insert None (grown (neg (num 6))) ∷ settle ∷ [])) (flags 3) (point 1 1) ≡ [])
    × (tapped (call.insert None (local 10 is.None (pos 1)) ∷ call.insert None (local 10 is.None (negsuc 0)) ∷ settle ∷ []) (point 5 5) ≡ hit a (a ∷ []))  -- levels have signs
unfolding computed places half_clip
taps = (refl, refl, refl, refl, refl, refl, refl, refl, refl, refl, refl, refl, refl, refl, refl, refl)

-- a withheld parent: place 1 without flags, level 9, above place 2, with a clip 0 to 4
unfoldable pub hidden : List Call
hidden =
    call.insert None (local 10 (is.Square zero zero (num 4) (num 4)) (pos 9)) ∷ child a ∷ settle ∷ call.set_flags a (flags 0) ∷ []

pub redaction : (tap (redact (flags 3) (after hidden)) (flags 3) (point 3 3) ≡ hit b (a ∷ b ∷ []))
    × (tap (redact (flags 3) (after hidden)) (flags 3) (point 5 5) ≡ nothing)
    × (tap (redact (flags 0) (after hidden)) (flags 0) (point 3 3) ≡ hit a (a ∷ []))
    × ((redact (flags 3) (after hidden)).local 0
    ≡ with_clip (is.Square zero zero (num 4) (num 4)) (with_flags (flags 0) default_local))
    × ((redact (flags 1) (after hidden)).local 1 ≡ ten)
    × (world_bounds (redact (flags 3) (after hidden)) 1 ≡ rect zero zero (num 4) (num 4))  -- its clip still counts
unfolding computed hidden
redaction = (refl, refl, refl, refl, refl, refl)
