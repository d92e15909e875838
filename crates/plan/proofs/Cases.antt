-- More worked rows of the plan's definitions, each by computation: cases that a careless reading of document 01 gets wrong.
use Rattle.std.specs.Prelude.{None, Some}
use Prim.Native.Nat.{ℕ, zero, suc, ◌*◌, ◌^◌}
use mathlib.Core.Path.{◌≡◌, refl}
use mathlib.Core.Bool.{true, false}
use mathlib.Core.List.{List, [], ◌∷◌, ◌++◌}
use lib.IntN.{ℤ, pos, negsuc}
use lib.Ieee.{Float, nan, inf, binary64, round, neg}
use Rattle.numbers.specs.Rounded as fl
use Rattle.geometry.specs.declared.insets.Insets.{Insets}
use Rattle.geometry.specs.declared.rect.Rect.{Rect}
use Rattle.geometry.specs.Rectangle.{rect}
use Rattle.geometry.specs.declared.affine.Affine.{Affine}
use Rattle.geometry.specs.Transform.{identity}
use Rattle.geometry_clips.specs.declared.clip.Clip.{Clip}
use Rattle.geometry_clips.specs.declared.clip.Clip.TheVariants as is
use Rattle.tree_types.specs.declared.LocalNode.{LocalNode}
use Rattle.tree_types.specs.Local.{flags, no_inset, default_local, with_bounds, with_slop, with_transform, with_clip, with_level, with_flags}
use Rattle.link_forest.specs.Forest.{children}
use Rattle.plan.specs.Plan.{Plan, number, empty, generation_from}
use Rattle.plan.specs.Visits.{visits}
use Rattle.plan.specs.Afresh.{world_place, world_bounds, world_hit_bounds, nothing, hit, tap, list_rect, list_point, redact_local}
use Rattle.plan.specs.Calls as call
use Rattle.plan.specs.Calls.{Call, step}
use Rattle.plan.specs.Calls.{outcome}
use Rattle.plan.specs.Demand as demand
use Rattle.plan.specs.Demand.{outcomes, answer}
use Rattle.plan.proofs.Rows as rows
use Rattle.plan.proofs.Rows.{num, point, id, local, ten, turn, shifted, grown, root, child, floats, words, settle, after, next, listing, needs, told, tapped, a, b, c}

-- a whole local record, and shorter ways to write values
unfoldable pub rec : Rect → Insets → Affine → Clip → ℤ → ℕ → LocalNode
rec r s t c z f = with_bounds r (with_slop s (with_transform t (with_clip c (with_level z (with_flags (flags f) default_local)))))

unfoldable pub whole : ℕ → Rect
whole n = rect fl.zero fl.zero (num n) (num n)

-- 10 ^ n and 10 ^ -n, rounded
unfoldable pub big : ℕ → Float
big n = round binary64 false (10 ^ n) 1

unfoldable pub small : ℕ → Float
small n = round binary64 false 1 (10 ^ n)

unfoldable pub scaled : Float → Affine
scaled s = record { a = s; b = fl.zero; c = fl.zero; d = s; e = fl.zero; f = fl.zero }

unfoldable pub rounded5 : Clip
rounded5 = is.Rounded fl.zero fl.zero (num 10) (num 10) (num 5) (num 5) (num 5) (num 5)

unfoldable pub node_with : Rect → Insets → Affine → Clip → ℤ → ℕ → Call
node_with r s t c z f = call.insert None (rec r s t c z f)

unfoldable pub roots_of : ℕ → List Call
roots_of zero = []
roots_of (suc n) = root ∷ roots_of n

unfoldable pub gone : ℕ → List Call
gone zero = []
gone (suc n) = gone n ++ (call.remove (id n 1) ∷ [])

unfoldable pub twice : ℕ → Plan
twice n = after (roots_of n ++ (settle ∷ (gone n ++ (roots_of n ++ (settle ∷ [])))))

-- what the cases compute through
unfoldable pub computed : Unit {0}
unfolding rows.computed gone twice whole big small rec node_with roots_of scaled rounded5 outcome outcomes answer
computed = tt

-- slots, removals and moves
pub structure : (next (root ∷ child a ∷ child a ∷ call.remove a ∷ root ∷ root ∷ []) ≡ id 1 2)  -- third slot
    × (next (root ∷ root ∷ call.remove a ∷ call.remove b ∷ []) ≡ id 1 2)  -- last freed of two
    × (told (root ∷ child a ∷ child b ∷ []) (call.reparent a (Some c)) ≡ 4)  -- below deeper
    × (told (root ∷ child a ∷ child a ∷ []) (call.reparent b (Some c)) ≡ 0)  -- under a sibling
    × (tapped (root ∷ child a ∷ child b ∷ root ∷ call.reparent b (Some (id 3 1)) ∷ settle ∷ []) (point 5 5) ≡ hit c (id 3 1 ∷ b ∷ c ∷ []))  -- moved with what is below
    × (tapped (root ∷ child a ∷ child b ∷ call.reparent b None ∷ settle ∷ []) (point 5 5) ≡ hit c (b ∷ c ∷ []))  -- moved to root
    × (children 0 (after (root ∷ child a ∷ child b ∷ root ∷ call.reparent b (Some (id 3 1)) ∷ [])).links ≡ [])  -- it has left its old parent
    × (told (root ∷ child a ∷ child b ∷ child a ∷ call.remove b ∷ []) (call.remove c) ≡ 2)  -- removed below
    × (told (root ∷ child a ∷ child b ∷ child a ∷ call.remove b ∷ []) (call.remove (id 3 1)) ≡ 0)  -- kept beside
    × (generation_from (0 ∷ []) (λ x. 4294967295) ≡ 4294967295)  -- saturates
unfolding computed
structure = (refl, refl, refl, refl, refl, refl, refl, refl, refl, refl)

-- what setters store and mark
pub setters : (tapped (root ∷ settle ∷ call.set_local_bounds a (rect (num 20) (num 20) (num 30) (num 30)) ∷ settle ∷ []) (point 25 25) ≡ hit a (a ∷ []))  -- bounds stored
    × (tapped (root ∷ settle ∷ call.set_local_transform a (shifted 20 0) ∷ settle ∷ []) (point 25 5) ≡ hit a (a ∷ []))  -- transform stored
    × (tapped (root ∷ settle ∷ call.set_local_clip a (is.Square fl.zero fl.zero (num 4) (num 4)) ∷ settle ∷ []) (point 5 5) ≡ nothing)  -- clip stored
    × (tapped (root ∷ settle ∷ call.set_hit_slop a (record { x0 = num 5; y0 = num 5; x1 = num 5; y1 = num 5 }) ∷ settle ∷ []) (point 12 5) ≡ hit a (a ∷ []))  -- slop stored
    × (tapped (root ∷ root ∷ settle ∷ call.set_z_index a (pos 1) ∷ []) (point 5 5) ≡ hit a (a ∷ []))  -- level stored
    × (tapped (root ∷ root ∷ settle ∷ []) (point 5 5) ≡ hit b (b ∷ []))  -- index tie
    × (((after (root ∷ call.set_local_transform a (record { a = fl.one; b = neg fl.zero; c = fl.zero; d = fl.one; e = neg fl.zero; f = fl.zero }) ∷ [])).local 0).local_transform ≡ identity)  -- old bits kept
    × (((after (root ∷ call.set_local_bounds a (rect (neg fl.zero) fl.zero (num 10) (num 10)) ∷ [])).local 0).local_bounds ≡ whole 10)  -- old bits kept
    × (needs (call.insert None (local 10 (is.Square fl.zero fl.zero (num 10) (num 10)) (pos 0)) ∷ settle ∷ call.set_local_clip a (is.Square (num 10) (num 10) fl.zero fl.zero) ∷ []) ≡ false)  -- clip constructed before
    × (needs (call.insert None (local 10 (is.Square fl.zero fl.zero (num 10) (num 10)) (pos 0)) ∷ settle ∷ call.set_local_clip a (is.Rounded fl.zero fl.zero (num 10) (num 10) fl.zero fl.zero fl.zero fl.zero) ∷ []) ≡ false)  -- clip rounded zero
    × (((after (call.insert None (local 10 (is.Rounded (num 10) (num 10) fl.zero fl.zero (neg (num 3)) (neg (num 3)) (neg (num 3)) (neg (num 3))) (pos 0)) ∷ [])).local 0).local_clip ≡ is.Rounded fl.zero fl.zero (num 10) (num 10) (num 3) (num 3) (num 3) (num 3))  -- insert constructs
    × (((after (root ∷ call.set_local_clip a (is.Rounded (num 3) fl.zero (num 3) (num 9) (num 7) (num 7) (num 7) (num 7)) ∷ [])).local 0).local_clip ≡ is.Square (num 3) fl.zero (num 3) (num 9))  -- setter constructs
    × (visits (after (root ∷ child a ∷ settle ∷ call.set_hit_slop a (record { x0 = num 5; y0 = num 5; x1 = num 5; y1 = num 5 }) ∷ [])) ≡ 0 ∷ [])  -- slop marks
    × (visits (after (root ∷ child a ∷ settle ∷ call.set_local_transform a (shifted 1 0) ∷ call.set_local_bounds a (rect fl.zero fl.zero fl.one fl.one) ∷ [])) ≡ 0 ∷ 1 ∷ [])  -- changes add up
    × (visits (after (root ∷ child a ∷ settle ∷ call.set_local_clip a (is.Square fl.zero fl.zero (num 10) (num 10)) ∷ call.set_hit_slop a (record { x0 = num 5; y0 = num 5; x1 = num 5; y1 = num 5 }) ∷ [])) ≡ 0 ∷ 1 ∷ [])  -- clip then slop
    × (visits (after (root ∷ child a ∷ settle ∷ call.set_local_bounds a (rect fl.zero fl.zero fl.one fl.one) ∷ call.set_local_bounds b (rect fl.zero fl.zero fl.one fl.one) ∷ [])) ≡ 0 ∷ 1 ∷ [])  -- a mark alone covers nothing
    × (listing (root ∷ settle ∷ call.set_local_bounds a (whole 9) ∷ child a ∷ settle ∷ []) ≡ a ∷ b ∷ [])  -- new under mark alone
    × (needs (root ∷ call.set_z_index a (pos 1) ∷ []) ≡ true)  -- level keeps mark
    × (needs (root ∷ call.set_flags a (flags 0) ∷ []) ≡ true)  -- flags keep mark
    × (visits (after (root ∷ child a ∷ settle ∷ call.set_local_transform a (shifted 1 0) ∷ call.set_z_index a (pos 1) ∷ [])) ≡ 0 ∷ 1 ∷ [])  -- level keeps change
unfolding computed
setters = (refl, refl, refl, refl, refl, refl, refl, refl, refl, refl, refl, refl, refl, refl, refl, refl, refl, refl, refl, refl)

-- the lowest number that applies
pub numbers_of_refusal : (told [] (call.insert (Some a) (grown nan)) ≡ 3)  -- 3 before 5
    × (told [] (call.insert None (rec (whole 10) no_inset (scaled (inf false)) is.None (pos 0) 9)) ≡ 5)  -- 5 before 6
    × (told [] (call.insert None (rec (whole 10) no_inset identity is.None (pos 0) 8)) ≡ 6)  -- a flag byte of 8
    × (told [] (call.insert None (rec (whole 10) no_inset identity is.None (pos 0) 7)) ≡ 0)  -- 7 is known
    × (told (root ∷ []) (call.set_local_transform a (scaled (inf true))) ≡ 5)  -- transform
    × (told (root ∷ []) (call.set_local_transform b (scaled (inf true))) ≡ 2)  -- transform dead
    × (told (root ∷ []) (call.set_local_bounds a (rect nan fl.zero fl.zero fl.zero)) ≡ 5)  -- bounds
    × (told (root ∷ []) (call.set_local_bounds b (rect nan fl.zero fl.zero fl.zero)) ≡ 2)  -- bounds dead
    × (told (root ∷ []) (call.set_hit_slop a (record { x0 = fl.zero; y0 = fl.zero; x1 = fl.zero; y1 = nan })) ≡ 5)  -- slop
    × (told (root ∷ []) (call.set_hit_slop b (record { x0 = fl.zero; y0 = fl.zero; x1 = fl.zero; y1 = nan })) ≡ 2)  -- slop dead
    × (told (root ∷ []) (call.set_local_clip a (is.Rounded fl.zero fl.zero (num 10) (num 10) (num 1) (num 1) (num 1) (inf false))) ≡ 5)  -- clip radius
    × (told (root ∷ []) (call.set_local_clip b (is.Rounded fl.zero fl.zero (num 10) (num 10) (num 1) (num 1) (num 1) (inf false))) ≡ 2)  -- clip dead
    × (told (root ∷ []) (call.set_flags a (flags 8)) ≡ 6)  -- flags
    × (told (root ∷ []) (call.set_flags b (flags 8)) ≡ 2)  -- flags dead
    × (told (root ∷ []) (call.set_z_index (id 0 2) (pos 0)) ≡ 2)  -- level dead
    × (told (root ∷ []) (call.read (call.children_of b (words 0))) ≡ 2)  -- children dead
    × (told (root ∷ []) (call.read (call.local_clip a)) ≡ 0)  -- local uncommitted
    × (told (root ∷ child a ∷ call.remove b ∷ root ∷ []) (call.reparent (id 1 2) (Some b)) ≡ 3)  -- parent itself dead former child
    × (told [] (call.remove (id 0 0)) ≡ 2)  -- remove dead
    × (told [] (call.insert (Some (id 4294967295 1)) ten) ≡ 3)  -- beyond
    × (told (roots_of 256) root ≡ 9)  -- 256 live nodes
    × (told (roots_of 255) root ≡ 0)  -- not full
    × (told (roots_of 256) (call.insert None (rec (whole 10) no_inset identity is.None (pos 0) 8)) ≡ 6)  -- 6 before 9
    × (told (roots_of 256 ++ (call.remove (id 7 1) ∷ [])) root ≡ 0)  -- after a removal
unfolding computed
numbers_of_refusal = (refl, refl, refl, refl, refl, refl, refl, refl, refl, refl, refl, refl, refl, refl, refl, refl, refl, refl, refl, refl, refl, refl, refl, refl)

-- entries taken and freed
pub entries : (listing (root ∷ root ∷ root ∷ settle ∷ call.remove a ∷ call.remove b ∷ settle ∷ root ∷ root ∷ settle ∷ []) ≡ id 1 2 ∷ id 0 2 ∷ c ∷ [])  -- two freed
    × (listing (root ∷ child a ∷ settle ∷ call.remove a ∷ settle ∷ root ∷ root ∷ settle ∷ []) ≡ id 0 2 ∷ id 1 2 ∷ [])  -- subtree freed
    × (listing (root ∷ root ∷ root ∷ settle ∷ call.remove a ∷ settle ∷ call.remove b ∷ settle ∷ root ∷ root ∷ settle ∷ []) ≡ id 1 2 ∷ id 0 2 ∷ c ∷ [])  -- freed in two commits
    × ((after (root ∷ settle ∷ call.remove a ∷ root ∷ call.remove (id 0 2) ∷ [])).entries.removed ≡ 0 ∷ [])  -- once removed
    × (needs (root ∷ settle ∷ call.remove a ∷ root ∷ call.remove (id 0 2) ∷ []) ≡ true)  -- need
    × (needs (root ∷ settle ∷ child a ∷ call.remove b ∷ []) ≡ false)  -- inserted and removed again
    × (needs (root ∷ child a ∷ call.remove a ∷ []) ≡ false)  -- inserted and removed again
    × (needs (root ∷ settle ∷ call.set_local_bounds a (rect fl.zero fl.zero fl.one fl.one) ∷ call.remove a ∷ []) ≡ true)  -- changed, then removed
    × (listing (root ∷ root ∷ settle ∷ call.reparent a (Some b) ∷ settle ∷ []) ≡ a ∷ b ∷ [])  -- entry kept in a move
    × (visits (after (root ∷ root ∷ settle ∷ call.set_local_bounds b (rect fl.zero fl.zero fl.one fl.one) ∷ call.set_local_bounds a (rect fl.zero fl.zero fl.one fl.one) ∷ [])) ≡ 0 ∷ 1 ∷ [])  -- by id not by time
    × (visits (after (root ∷ root ∷ settle ∷ call.reparent a (Some b) ∷ [])) ≡ 0 ∷ [])  -- covered by a later start
    × (visits (after (root ∷ root ∷ call.reparent a (Some b) ∷ [])) ≡ 1 ∷ 0 ∷ [])  -- covered although sorted first
    × (visits (after (root ∷ child a ∷ child b ∷ settle ∷ call.reparent b None ∷ call.set_local_transform a (shifted 1 0) ∷ [])) ≡ 0 ∷ 1 ∷ 2 ∷ [])  -- unmarked inside a walk
unfolding computed
entries = (refl, refl, refl, refl, refl, refl, refl, refl, refl, refl, refl, refl, refl)

-- world boxes, taps and listings
pub worlds : (world_bounds (after (node_with (whole 10) no_inset (turn 100 0) (is.None) (pos 0) 3 ∷ call.insert (Some a) (rec (whole 10) no_inset (shifted 10 0) (is.None) (pos 0) 3) ∷ [])) 1 ≡ rect (num 90) (num 10) (num 100) (num 20))  -- parent times own
    × (world_bounds (after (node_with (whole 10) no_inset (turn 100 0) (is.None) (pos 0) 3 ∷ call.insert (Some a) (rec (whole 10) no_inset (shifted 10 0) (is.None) (pos 0) 3) ∷ call.insert (Some b) (rec (whole 10) no_inset (turn 7 0) (is.None) (pos 0) 3) ∷ [])) 2 ≡ rect (num 90) (num 7) (num 100) (num 17))  -- three removed
    × ((world_place (after (node_with (whole 10) no_inset (record { a = neg fl.zero; b = fl.zero; c = fl.zero; d = neg fl.zero; e = neg fl.zero; f = neg fl.zero }) (is.None) (pos 0) 3 ∷ [])) 0).transform ≡ record { a = fl.zero; b = fl.zero; c = fl.zero; d = fl.zero; e = fl.zero; f = fl.zero })  -- root is identity times own
    × (tapped (node_with (rect (num 10) (num 10) fl.zero fl.zero) no_inset (identity) (is.None) (pos 0) 3 ∷ settle ∷ []) (point 5 5) ≡ hit a (a ∷ []))  -- unordered
    × (world_bounds (after (node_with (rect (num 10) (num 10) fl.zero fl.zero) no_inset (identity) (is.None) (pos 0) 3 ∷ settle ∷ [])) 0 ≡ whole 10)  -- unordered bounds are hit
    × (list_point (after (node_with (whole 10) no_inset (identity) (is.Square (num 20) (num 20) (num 30) (num 30)) (pos 0) 3 ∷ child a ∷ settle ∷ [])) (flags 0) (point 20 20) ≡ a ∷ b ∷ [])  -- a wholly clipped node is listed at its clip
    × (world_bounds (after (node_with (whole 0) no_inset (scaled (big 308)) (is.Square fl.zero fl.zero (small 307) (small 307)) (pos 0) 3 ∷ call.insert (Some a) (rec (whole 0) no_inset (scaled (big 308)) (is.None) (pos 0) 3) ∷ settle ∷ [])) 1 ≡ whole 10)  -- nan box under a clip
    × (list_point (after (node_with (whole 0) no_inset (scaled (big 308)) (is.Square fl.zero fl.zero (small 307) (small 307)) (pos 0) 3 ∷ call.insert (Some a) (rec (whole 0) no_inset (scaled (big 308)) (is.None) (pos 0) 3) ∷ settle ∷ [])) (flags 0) (point 5 5) ≡ b ∷ [])  -- a NaN box under a clip is the clip
    × (tapped (node_with (whole 0) no_inset (scaled (big 308)) (is.Square fl.zero fl.zero (small 307) (small 307)) (pos 0) 3 ∷ call.insert (Some a) (rec (whole 0) no_inset (scaled (big 308)) (is.None) (pos 0) 3) ∷ settle ∷ []) (point 5 5) ≡ nothing)  -- not tapped
    × (list_rect (after (root ∷ settle ∷ [])) (flags 3) (rect (num 20) (num 20) (neg (num 20)) (neg (num 20))) ≡ [])  -- as given
    × (list_rect (after (root ∷ settle ∷ [])) (flags 3) (rect nan fl.zero (num 5) (num 5)) ≡ [])  -- nan
    × (tapped (root ∷ settle ∷ []) (record { x = nan; y = num 5 }) ≡ nothing)  -- nan tap
    × (tapped (root ∷ settle ∷ []) (record { x = neg fl.zero; y = neg fl.zero }) ≡ hit a (a ∷ []))  -- minus zero
    × (tapped (node_with (rect (neg (num 5)) (neg (num 5)) (num 5) (num 5)) no_inset (identity) (is.Square (round binary64 false 1 10) (neg fl.one) (round binary64 false 3 10) fl.one) (pos 0) 3 ∷ settle ∷ []) (record { x = round binary64 false 1 10; y = fl.zero }) ≡ nothing)  -- so its own edge can be out
    × (list_point (after (node_with (rect (neg (num 5)) (neg (num 5)) (num 5) (num 5)) no_inset (identity) (is.Square (round binary64 false 1 10) (neg fl.one) (round binary64 false 3 10) fl.one) (pos 0) 3 ∷ settle ∷ [])) (flags 3) (record { x = round binary64 false 1 10; y = fl.zero }) ≡ a ∷ [])  -- and is listed
    × (tapped (node_with (whole 10) no_inset (scaled (small 200)) (is.Rounded fl.zero fl.zero (big 202) (big 202) (big 201) (big 201) (big 201) (big 201)) (pos 0) 3 ∷ call.insert (Some a) (rec (whole 100) no_inset (scaled (big 200)) (is.None) (pos 0) 3) ∷ settle ∷ []) (point 0 0) ≡ hit b (a ∷ b ∷ []))  -- a NaN mapped-back point is inside every clip
    × (tapped (node_with (whole 10) no_inset (scaled (small 200)) (is.Square fl.zero fl.zero (round binary64 false (50 * 10 ^ 200) 1) (round binary64 false (50 * 10 ^ 200) 1)) (pos 0) 3 ∷ call.insert (Some a) (rec (whole 100) no_inset (scaled (big 200)) (is.None) (pos 0) 3) ∷ settle ∷ []) (point 60 60) ≡ nothing)  -- the world hit box cuts it off
    × (tapped (node_with (whole 10) no_inset (scaled (small 200)) (is.Square fl.zero fl.zero (round binary64 false (50 * 10 ^ 200) 1) (round binary64 false (50 * 10 ^ 200) 1)) (pos 0) 3 ∷ call.insert (Some a) (rec (whole 100) no_inset (scaled (big 200)) (is.None) (pos 0) 3) ∷ settle ∷ []) (point 40 40) ≡ hit b (a ∷ b ∷ []))  -- the fine test alone would take it
    × (tapped (node_with (whole 10) no_inset (record { a = fl.zero; b = fl.zero; c = fl.zero; d = fl.zero; e = num 5; f = num 5 }) (is.None) (pos 0) 3 ∷ settle ∷ []) (point 5 5) ≡ nothing)  -- an all-zero linear part is never hit
    × (list_point (after (node_with (whole 10) no_inset (record { a = fl.zero; b = fl.zero; c = fl.zero; d = fl.zero; e = num 5; f = num 5 }) (is.None) (pos 0) 3 ∷ settle ∷ [])) (flags 3) (point 5 5) ≡ a ∷ [])  -- a zero determinant is listed
    × (tapped (node_with (rect (neg (round binary64 false (17 * 10 ^ 307) 1)) (neg (round binary64 false (17 * 10 ^ 307) 1)) fl.one fl.one) (record { x0 = big 308; y0 = big 308; x1 = fl.zero; y1 = fl.zero }) (record { a = fl.one; b = neg fl.one; c = neg fl.one; d = fl.one; e = fl.one; f = fl.zero }) is.None (pos 0) 3 ∷ settle ∷ []) (record { x = neg fl.one; y = neg fl.one }) ≡ hit a (a ∷ []))  -- zero determinant hits
    × (list_point (after (node_with (rect (neg (round binary64 false (17 * 10 ^ 307) 1)) (neg (round binary64 false (17 * 10 ^ 307) 1)) (round binary64 false (17 * 10 ^ 307) 1) (round binary64 false (17 * 10 ^ 307) 1)) (record { x0 = big 308; y0 = big 308; x1 = big 308; y1 = big 308 }) identity (is.None) (pos 0) 3 ∷ settle ∷ [])) (flags 3) (point 5 5) ≡ [])  -- hidden
    × (tapped (node_with (rect (neg (round binary64 false (17 * 10 ^ 307) 1)) (neg (round binary64 false (17 * 10 ^ 307) 1)) (round binary64 false (17 * 10 ^ 307) 1) (round binary64 false (17 * 10 ^ 307) 1)) (record { x0 = big 308; y0 = big 308; x1 = big 308; y1 = big 308 }) identity (is.None) (pos 0) 3 ∷ settle ∷ []) (point 5 5) ≡ nothing)  -- an overflowing slop hides the node
    × (list_point (after (node_with (rect (neg (round binary64 false (17 * 10 ^ 307) 1)) (neg (round binary64 false (17 * 10 ^ 307) 1)) (round binary64 false (17 * 10 ^ 307) 1) (round binary64 false (17 * 10 ^ 307) 1)) (record { x0 = big 308; y0 = big 308; x1 = big 308; y1 = big 308 }) identity (is.Square fl.zero fl.zero (num 10) (num 10)) (pos 0) 3 ∷ settle ∷ [])) (flags 3) (point 5 5) ≡ a ∷ [])  -- an overflowing slop under a clip
    × (tapped (node_with (rect (neg (round binary64 false (17 * 10 ^ 307) 1)) (neg (round binary64 false (17 * 10 ^ 307) 1)) (round binary64 false (17 * 10 ^ 307) 1) (round binary64 false (17 * 10 ^ 307) 1)) (record { x0 = big 308; y0 = big 308; x1 = big 308; y1 = big 308 }) identity (is.Square fl.zero fl.zero (num 10) (num 10)) (pos 0) 3 ∷ settle ∷ []) (point 5 5) ≡ hit a (a ∷ []))  -- an overflowing slop under a clip
    × (tapped (call.insert None (local 10 (is.Rounded fl.zero fl.zero (num 10) (num 10) (num 5) fl.zero fl.zero fl.zero) (pos 0)) ∷ settle ∷ []) (record { x = (round binary64 false 1 2); y = (round binary64 false 1 2) }) ≡ nothing)  -- own clip
    × (tapped (call.insert None (local 10 (is.Rounded fl.zero fl.zero (num 10) (num 10) (num 5) fl.zero fl.zero fl.zero) (pos 0)) ∷ settle ∷ []) (record { x = round binary64 false 19 2; y = round binary64 false 19 2 }) ≡ hit a (a ∷ []))  -- radii by quadrant
    × (list_point (after (call.insert None (local 10 (is.Rounded fl.zero fl.zero (num 10) (num 10) (num 5) fl.zero fl.zero fl.zero) (pos 0)) ∷ settle ∷ [])) (flags 3) (record { x = (round binary64 false 1 2); y = (round binary64 false 1 2) }) ≡ a ∷ [])  -- listed
    × (tapped (node_with (whole 10) no_inset (shifted 20 0) (rounded5) (pos 0) 3 ∷ call.insert (Some a) (rec (whole 10) no_inset (shifted 5 0) (is.None) (pos 0) 3) ∷ settle ∷ []) (record { x = round binary64 false 119 4; y = round binary64 false 1 4 }) ≡ nothing)  -- ancestors clip under its inverse
    × (list_point (after (node_with (whole 10) no_inset (shifted 20 0) (rounded5) (pos 0) 3 ∷ call.insert (Some a) (rec (whole 10) no_inset (shifted 5 0) (is.None) (pos 0) 3) ∷ settle ∷ [])) (flags 3) (record { x = round binary64 false 119 4; y = round binary64 false 1 4 }) ≡ a ∷ b ∷ [])  -- listed
    × (tapped (node_with (whole 10) no_inset (shifted 20 0) (rounded5) (pos 0) 3 ∷ call.insert (Some a) (rec (whole 10) no_inset (shifted 5 0) (is.None) (pos 0) 3) ∷ settle ∷ []) (point 27 5) ≡ hit b (a ∷ b ∷ []))  -- inside
    × (tapped (node_with (whole 0) no_inset (record { a = small 200; b = fl.zero; c = big 200; d = big 200; e = big 200; f = big 200 }) (is.Rounded (neg (num 5)) (neg fl.one) (num 5) fl.one (round binary64 false 3 (4 * 2 ^ 53)) (round binary64 false 3 (4 * 2 ^ 53)) (round binary64 false 3 (4 * 2 ^ 53)) (round binary64 false 3 (4 * 2 ^ 53))) (pos 0) 3 ∷ call.insert (Some a) (rec (whole 10) no_inset (record { a = big 200; b = fl.zero; c = neg (big 200); d = small 200; e = fl.zero; f = neg fl.one }) is.None (pos 0) 3) ∷ settle ∷ []) (point 5 5) ≡ hit b (a ∷ b ∷ []))  -- nan quadrant
    × (tapped (node_with (rect (neg (num 5)) (neg (num 5)) (num 5) (num 5)) no_inset (identity) (is.Square (round binary64 false 1 5) (neg fl.one) (round binary64 false 1 2) fl.one) (pos 0) 3 ∷ settle ∷ []) (record { x = round binary64 false 1 2; y = fl.zero }) ≡ nothing)  -- a square clip, measured from its centre
    × (tapped (node_with (whole 10) no_inset (shifted 20 0) (rounded5) (pos 0) 3 ∷ call.insert (Some a) (rec (whole 10) no_inset (identity) (is.None) (pos 0) 3) ∷ call.insert (Some b) (rec (whole 10) no_inset (shifted 5 0) (is.None) (pos 0) 3) ∷ settle ∷ []) (record { x = round binary64 false 119 4; y = round binary64 false 1 4 }) ≡ nothing)  -- grandparents clip
    × (tapped (call.insert None (grown (num 5)) ∷ settle ∷ []) (point 12 5) ≡ hit a (a ∷ []))  -- slop taps
    × (list_point (after (call.insert None (grown (num 5)) ∷ settle ∷ [])) (flags 3) (point 12 5) ≡ [])  -- slop not listed
    × (list_rect (after (call.insert None (grown (num 5)) ∷ settle ∷ [])) (flags 3) (rect (num 11) fl.zero (num 13) (num 10)) ≡ [])  -- slop not listed
    × (list_rect (after (call.insert None (grown (neg (num 6))) ∷ settle ∷ [])) (flags 3) (rect fl.zero fl.zero fl.one fl.one) ≡ [])  -- negative slop rect
    × (tapped (root ∷ child a ∷ root ∷ call.remove c ∷ root ∷ settle ∷ []) (point 5 5) ≡ hit b (a ∷ b ∷ []))  -- depth before generation
    × (tapped (root ∷ child a ∷ child b ∷ child a ∷ settle ∷ []) (point 5 5) ≡ hit c (a ∷ b ∷ c ∷ []))  -- depth three
    × (tapped (node_with (whole 10) no_inset (identity) (is.None) (pos 0) 1 ∷ settle ∷ []) (point 5 5) ≡ nothing)  -- one flag missing tap
    × (list_point (after (node_with (whole 10) no_inset (identity) (is.None) (pos 0) 1 ∷ settle ∷ [])) (flags 3) (point 5 5) ≡ [])  -- one flag missing list
    × (list_rect (after (node_with (whole 10) no_inset (identity) (is.None) (pos 0) 1 ∷ settle ∷ [])) (flags 3) (whole 5) ≡ [])  -- by a rectangle
    × (list_point (after (node_with (whole 10) no_inset (identity) (is.None) (pos 0) 1 ∷ settle ∷ [])) (flags 1) (point 5 5) ≡ a ∷ [])  -- asked 1
    × (tapped (node_with (whole 10) no_inset (identity) (is.None) (pos 0) 7 ∷ settle ∷ []) (point 5 5) ≡ hit a (a ∷ []))  -- more flags
    × (tap (after (node_with (whole 10) no_inset (identity) (is.None) (pos 0) 0 ∷ settle ∷ [])) (flags 0) (point 5 5) ≡ hit a (a ∷ []))  -- asked 0
    × (world_bounds (after (node_with (whole 10) no_inset (identity) (is.Square fl.zero fl.zero (num 6) (num 6)) (pos 0) 3 ∷ call.insert (Some a) (rec (whole 10) no_inset (identity) (is.Square (num 4) (num 4) (num 10) (num 10)) (pos 0) 3) ∷ [])) 1 ≡ rect (num 4) (num 4) (num 6) (num 6))  -- own and parents clip
    × (world_bounds (after (node_with (whole 10) no_inset (shifted 20 0) (is.Square fl.zero fl.zero (num 4) (num 4)) (pos 0) 3 ∷ [])) 0 ≡ rect (num 20) fl.zero (num 24) (num 4))  -- clip under world transform
    × (world_bounds (after (node_with (whole 10) no_inset (shifted 20 0) (is.None) (pos 0) 3 ∷ call.insert (Some a) (rec (whole 10) no_inset (shifted 3 0) (is.Square fl.zero fl.zero (num 4) (num 4)) (pos 0) 3) ∷ [])) 1 ≡ rect (num 23) fl.zero (num 27) (num 4))  -- the child's clip
    × (world_hit_bounds (after (call.insert None (grown (num 5)) ∷ [])) 0 ≡ rect (neg (num 5)) (neg (num 5)) (num 15) (num 15))  -- hit box with slop
    × (tapped (root ∷ child a ∷ settle ∷ call.set_local_transform a (shifted 20 0) ∷ settle ∷ call.set_local_transform a (shifted 40 0) ∷ settle ∷ []) (point 45 5) ≡ hit b (a ∷ b ∷ []))  -- second commit
    × (tapped (root ∷ child a ∷ settle ∷ call.set_local_transform a (shifted 20 0) ∷ settle ∷ call.set_local_transform a (shifted 40 0) ∷ settle ∷ []) (point 25 5) ≡ nothing)  -- old place
unfolding computed
worlds = (refl, refl, refl, refl, refl, refl, refl, refl, refl, refl, refl, refl, refl, refl, refl, refl, refl, refl, refl, refl, refl, refl, refl, refl, refl, refl, refl, refl, refl, refl, refl, refl, refl, refl, refl, refl, refl, refl, refl, refl, refl, refl, refl, refl, refl, refl, refl, refl, refl, refl, refl, refl)

-- what counts as changed
pub changed : ((after (root ∷ [])).mark 0 ≡ record { marked = true; transform = true; clip = true })  -- new in both
    × ((after (root ∷ settle ∷ call.reparent a None ∷ [])).mark 0 ≡ record { marked = true; transform = true; clip = true })  -- moved in both
unfolding computed
changed = (refl, refl)

-- redaction, as whole records
pub redacted : (redact_local (flags 3) (rec (whole 10) (record { x0 = num 5; y0 = num 5; x1 = num 5; y1 = num 5 }) (shifted 1 0) (is.Square fl.zero fl.zero (num 10) (num 10)) (pos 9) 1) ≡ rec (whole 0) no_inset (shifted 1 0) (is.Square fl.zero fl.zero (num 10) (num 10)) (pos 0) 1)  -- redacted
    × (redact_local (flags 1) (rec (whole 10) (record { x0 = num 5; y0 = num 5; x1 = num 5; y1 = num 5 }) (shifted 1 0) (is.Square fl.zero fl.zero (num 10) (num 10)) (pos 9) 1) ≡ rec (whole 10) (record { x0 = num 5; y0 = num 5; x1 = num 5; y1 = num 5 }) (shifted 1 0) (is.Square fl.zero fl.zero (num 10) (num 10)) (pos 9) 1)  -- shown
unfolding computed
redacted = (refl, refl)

-- outcomes: an id is told where a call is accepted; a refusal is judged on the plan
pub handed_out : (outcomes step outcome empty (root ∷ child b ∷ child a ∷ call.commit (floats 0) ∷ []) ≡ record { refused = 0; told = call.id a } ∷ record { refused = 3; told = call.nothing } ∷ record { refused = 0; told = call.id b } ∷ record { refused = 8; told = call.nothing } ∷ [])  -- outcomes
    × (answer (after (root ∷ child a ∷ settle ∷ call.set_flags b (flags 1) ∷ [])) (flags 3) (words 512) (call.hit_test_point (point 5 5)) ≡ demand.tapped (hit a (a ∷ [])))  -- answer
    × (answer (after (root ∷ [])) (flags 3) (words 512) (call.hit_test_point (point 5 5)) ≡ demand.refused 7)  -- answer
    × (answer (after (root ∷ root ∷ settle ∷ [])) (flags 3) (words 512) (call.intersect_rect (whole 5)) ≡ demand.listed (a ∷ b ∷ []))  -- answer
unfolding computed
handed_out = (refl, refl, refl, refl)

-- limits
pub many : ((twice 16).entries.entry 0 ≡ number 16)  -- sixteen removed and sixteen new
    × ((twice 16).entries.used ≡ 32)  -- their entries
unfolding computed
many = (refl, refl)

-- what calls for a commit, and what is refused meanwhile
pub requests : (needs (root ∷ settle ∷ call.set_local_bounds a (rect fl.zero fl.zero fl.one fl.one) ∷ []) ≡ true)  -- need after bounds
    × (told (root ∷ settle ∷ call.set_local_bounds a (rect fl.zero fl.zero fl.one fl.one) ∷ []) (call.request (call.intersect_rect (whole 5)) (flags 3) (words 512)) ≡ 7)  -- request 7 after bounds
    × (needs (root ∷ settle ∷ call.set_hit_slop a (record { x0 = num 5; y0 = num 5; x1 = num 5; y1 = num 5 }) ∷ []) ≡ true)  -- need after slop
    × (told (root ∷ settle ∷ call.set_hit_slop a (record { x0 = num 5; y0 = num 5; x1 = num 5; y1 = num 5 }) ∷ []) (call.request (call.intersect_rect (whole 5)) (flags 3) (words 512)) ≡ 7)  -- request 7 after slop
    × (needs (root ∷ settle ∷ call.set_local_clip a (is.Square fl.zero fl.zero (num 10) (num 10)) ∷ []) ≡ true)  -- need after clip
    × (told (root ∷ settle ∷ call.set_local_clip a (is.Square fl.zero fl.zero (num 10) (num 10)) ∷ []) (call.request (call.intersect_rect (whole 5)) (flags 3) (words 512)) ≡ 7)  -- request 7 after clip
    × (needs (root ∷ settle ∷ call.set_local_transform a (shifted 1 0) ∷ []) ≡ true)  -- need after transform
    × (told (root ∷ settle ∷ call.set_local_transform a (shifted 1 0) ∷ []) (call.request (call.intersect_rect (whole 5)) (flags 3) (words 512)) ≡ 7)  -- request 7 after transform
    × (needs (root ∷ settle ∷ call.reparent a None ∷ []) ≡ true)  -- need after move
    × (told (root ∷ settle ∷ call.reparent a None ∷ []) (call.request (call.intersect_rect (whole 5)) (flags 3) (words 512)) ≡ 7)  -- request 7 after move
    × (told (root ∷ []) (call.read (call.world_transform a)) ≡ 7)  -- world transform
    × (told (root ∷ []) (call.read (call.world_transform b)) ≡ 2)  -- world transform
    × (told (root ∷ []) (call.read (call.world_hit_bounds a)) ≡ 7)  -- world hit bounds
    × (told (root ∷ []) (call.read (call.world_hit_bounds b)) ≡ 2)  -- world hit bounds
    × (told (root ∷ []) (call.read (call.local_transform b)) ≡ 2)  -- local transform
    × (told (root ∷ []) (call.read (call.local_transform a)) ≡ 0)  -- local transform
    × (told (root ∷ []) (call.read (call.local_clip b)) ≡ 2)  -- local clip
    × (told (root ∷ []) (call.read (call.local_clip a)) ≡ 0)  -- local clip
    × (told (root ∷ []) (call.read (call.local_bounds b)) ≡ 2)  -- local bounds
    × (told (root ∷ []) (call.read (call.local_bounds a)) ≡ 0)  -- local bounds
    × (told (root ∷ []) (call.read (call.hit_slop b)) ≡ 2)  -- hit slop
    × (told (root ∷ []) (call.read (call.hit_slop a)) ≡ 0)  -- hit slop
    × (told (root ∷ []) (call.read (call.z_index b)) ≡ 2)  -- z index
    × (told (root ∷ []) (call.read (call.z_index a)) ≡ 0)  -- z index
    × (told (root ∷ []) (call.read (call.flags b)) ≡ 2)  -- flags
    × (told (root ∷ []) (call.read (call.flags a)) ≡ 0)  -- flags
    × (told (root ∷ []) (call.read (call.parent_of b)) ≡ 2)  -- parent of
    × (told (root ∷ []) (call.read (call.parent_of a)) ≡ 0)  -- parent of
    × (told (root ∷ []) (call.read (call.next_depth_first b)) ≡ 2)  -- next depth first
    × (told (root ∷ []) (call.read (call.next_depth_first a)) ≡ 0)  -- next depth first
    × (told (root ∷ []) (call.read (call.prev_depth_first b)) ≡ 2)  -- prev depth first
    × (told (root ∷ []) (call.read (call.prev_depth_first a)) ≡ 0)  -- prev depth first
    × (told (root ∷ []) (call.read (call.children_of a (words 512))) ≡ 0)  -- children
unfolding computed
requests = (refl, refl, refl, refl, refl, refl, refl, refl, refl, refl, refl, refl, refl, refl, refl, refl, refl, refl, refl, refl, refl, refl, refl, refl, refl, refl, refl, refl, refl, refl, refl, refl, refl)

-- the whole local record after each setter
pub records : ((after (call.insert None (rec (rect fl.one fl.one (num 8) (num 9)) (record { x0 = num 1; y0 = num 2; x1 = num 3; y1 = num 4 }) (shifted 7 8) (is.Square (num 20) (num 20) (num 30) (num 30)) (pos 6) 5) ∷ call.set_local_bounds a (rect fl.zero fl.zero fl.one fl.one) ∷ [])).local 0 ≡ rec (rect fl.zero fl.zero fl.one fl.one) (record { x0 = num 1; y0 = num 2; x1 = num 3; y1 = num 4 }) (shifted 7 8) (is.Square (num 20) (num 20) (num 30) (num 30)) (pos 6) 5)  -- bounds only
    × ((after (call.insert None (rec (rect fl.one fl.one (num 8) (num 9)) (record { x0 = num 1; y0 = num 2; x1 = num 3; y1 = num 4 }) (shifted 7 8) (is.Square (num 20) (num 20) (num 30) (num 30)) (pos 6) 5) ∷ call.set_hit_slop a (record { x0 = num 5; y0 = num 5; x1 = num 5; y1 = num 5 }) ∷ [])).local 0 ≡ rec (rect fl.one fl.one (num 8) (num 9)) (record { x0 = num 5; y0 = num 5; x1 = num 5; y1 = num 5 }) (shifted 7 8) (is.Square (num 20) (num 20) (num 30) (num 30)) (pos 6) 5)  -- slop only
    × ((after (call.insert None (rec (rect fl.one fl.one (num 8) (num 9)) (record { x0 = num 1; y0 = num 2; x1 = num 3; y1 = num 4 }) (shifted 7 8) (is.Square (num 20) (num 20) (num 30) (num 30)) (pos 6) 5) ∷ call.set_local_transform a (turn 1 2) ∷ [])).local 0 ≡ rec (rect fl.one fl.one (num 8) (num 9)) (record { x0 = num 1; y0 = num 2; x1 = num 3; y1 = num 4 }) (turn 1 2) (is.Square (num 20) (num 20) (num 30) (num 30)) (pos 6) 5)  -- transform only
    × ((after (call.insert None (rec (rect fl.one fl.one (num 8) (num 9)) (record { x0 = num 1; y0 = num 2; x1 = num 3; y1 = num 4 }) (shifted 7 8) (is.Square (num 20) (num 20) (num 30) (num 30)) (pos 6) 5) ∷ call.set_local_clip a (is.Square fl.zero fl.zero (num 10) (num 10)) ∷ [])).local 0 ≡ rec (rect fl.one fl.one (num 8) (num 9)) (record { x0 = num 1; y0 = num 2; x1 = num 3; y1 = num 4 }) (shifted 7 8) (is.Square fl.zero fl.zero (num 10) (num 10)) (pos 6) 5)  -- clip only
    × ((after (call.insert None (rec (rect fl.one fl.one (num 8) (num 9)) (record { x0 = num 1; y0 = num 2; x1 = num 3; y1 = num 4 }) (shifted 7 8) (is.Square (num 20) (num 20) (num 30) (num 30)) (pos 6) 5) ∷ call.set_z_index a (negsuc 3) ∷ [])).local 0 ≡ rec (rect fl.one fl.one (num 8) (num 9)) (record { x0 = num 1; y0 = num 2; x1 = num 3; y1 = num 4 }) (shifted 7 8) (is.Square (num 20) (num 20) (num 30) (num 30)) (negsuc 3) 5)  -- level only
    × ((after (call.insert None (rec (rect fl.one fl.one (num 8) (num 9)) (record { x0 = num 1; y0 = num 2; x1 = num 3; y1 = num 4 }) (shifted 7 8) (is.Square (num 20) (num 20) (num 30) (num 30)) (pos 6) 5) ∷ call.set_flags a (flags 2) ∷ [])).local 0 ≡ rec (rect fl.one fl.one (num 8) (num 9)) (record { x0 = num 1; y0 = num 2; x1 = num 3; y1 = num 4 }) (shifted 7 8) (is.Square (num 20) (num 20) (num 30) (num 30)) (pos 6) 2)  -- flags only
unfolding computed
records = (refl, refl, refl, refl, refl, refl)
