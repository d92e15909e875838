-- Worked rows of the definitions that both sides of demand 3 share, so that only rows can tell a wrong one: which fields an equality and a finiteness
-- look at, edges of listings, quadrants and centres of clips, the order of rounding.
use Rattle.std.specs.Prelude.{None}
use Prim.Native.Nat.{◌*◌, ◌^◌}
use mathlib.Core.Path.{◌≡◌, refl}
use mathlib.Core.Bool.{true, false}
use mathlib.Core.List.{[], ◌∷◌}
use lib.IntN.{pos, negsuc}
use lib.Ieee.{nan, inf, fin, binary64, round, neg}
use Rattle.numbers.specs.Rounded as fl
use Rattle.geometry.specs.Rectangle.{rect, contains, plus_insets, rect_eq, insets_eq, zero_insets, finite_rect, finite_insets}
use Rattle.geometry.specs.Transform.{identity, mapped, product, inverse, affine_eq, finite_affine}
use Rattle.geometry.specs.bbox.Bbox.{transform_rect_bbox}
use Rattle.geometry_clips.specs.declared.clip.Clip.TheVariants as is
use Rattle.geometry_clips.specs.Clips.{constructed, inside, clip_eq, finite_clip}
use Rattle.tree_types.specs.Local.{asking, also_asking, default_local, flags, no_inset}
use Rattle.plan.specs.Afresh.{list_rect, list_point}
use Rattle.plan.specs.Calls as call
use Rattle.plan.proofs.Cases as cases
use Rattle.plan.proofs.Cases.{rec, whole, big, rounded5}
use Rattle.plan.proofs.Rows.{num, point, local, shifted, grown, root, settle, after, needs, told, a}
use Rattle.geometry_clips.specs.rounded_rect_radii.Radii.{quadrant}

pub pinned : (told [] (call.insert None (rec (rect nan fl.zero fl.zero fl.zero) no_inset identity is.None (pos 0) 3)) ≡ 5)  -- insert 5: bounds
    × (told [] (call.insert None (grown nan)) ≡ 5)  -- insert 5: slop
    × (told [] (call.insert None (local 10 (is.Square fl.zero fl.zero (num 10) (inf false)) (pos 0))) ≡ 5)  -- insert 5: clip
    × (told [] (call.insert None (local 10 (is.Rounded fl.zero fl.zero (num 10) (num 10) (inf false) fl.one fl.one fl.one) (pos 0))) ≡ 5)  -- insert 5: a radius, as handed over
    × (finite_rect (rect nan fl.zero fl.zero fl.zero) ≡ false)  -- edge 0
    × (finite_insets (record { x0 = nan; y0 = fl.zero; x1 = fl.zero; y1 = fl.zero }) ≡ false)  -- inset 0
    × (finite_clip (is.Rounded fl.zero fl.zero (num 10) (num 10) nan fl.zero fl.zero fl.zero) ≡ false)  -- radius 0
    × (finite_clip (is.Square nan fl.zero fl.zero fl.zero) ≡ false)  -- clip edge 0
    × (rect_eq (rect fl.one fl.zero fl.zero fl.zero) (whole 0) ≡ false)  -- rect_eq 0
    × (insets_eq (record { x0 = fl.one; y0 = fl.zero; x1 = fl.zero; y1 = fl.zero }) no_inset ≡ false)  -- insets_eq 0
    × (zero_insets (record { x0 = fl.one; y0 = fl.zero; x1 = fl.zero; y1 = fl.zero }) ≡ false)  -- zero_insets 0
    × (clip_eq (is.Rounded fl.zero fl.zero (num 10) (num 10) fl.one fl.zero fl.zero fl.zero) (is.Square fl.zero fl.zero (num 10) (num 10)) ≡ false)  -- clip_eq radius 0
    × (finite_rect (rect fl.zero nan fl.zero fl.zero) ≡ false)  -- edge 1
    × (finite_insets (record { x0 = fl.zero; y0 = nan; x1 = fl.zero; y1 = fl.zero }) ≡ false)  -- inset 1
    × (finite_clip (is.Rounded fl.zero fl.zero (num 10) (num 10) fl.zero nan fl.zero fl.zero) ≡ false)  -- radius 1
    × (finite_clip (is.Square fl.zero nan fl.zero fl.zero) ≡ false)  -- clip edge 1
    × (rect_eq (rect fl.zero fl.one fl.zero fl.zero) (whole 0) ≡ false)  -- rect_eq 1
    × (insets_eq (record { x0 = fl.zero; y0 = fl.one; x1 = fl.zero; y1 = fl.zero }) no_inset ≡ false)  -- insets_eq 1
    × (zero_insets (record { x0 = fl.zero; y0 = fl.one; x1 = fl.zero; y1 = fl.zero }) ≡ false)  -- zero_insets 1
    × (clip_eq (is.Rounded fl.zero fl.zero (num 10) (num 10) fl.zero fl.one fl.zero fl.zero) (is.Square fl.zero fl.zero (num 10) (num 10)) ≡ false)  -- clip_eq radius 1
    × (finite_rect (rect fl.zero fl.zero nan fl.zero) ≡ false)  -- edge 2
    × (finite_insets (record { x0 = fl.zero; y0 = fl.zero; x1 = nan; y1 = fl.zero }) ≡ false)  -- inset 2
    × (finite_clip (is.Rounded fl.zero fl.zero (num 10) (num 10) fl.zero fl.zero nan fl.zero) ≡ false)  -- radius 2
    × (finite_clip (is.Square fl.zero fl.zero nan fl.zero) ≡ false)  -- clip edge 2
    × (rect_eq (rect fl.zero fl.zero fl.one fl.zero) (whole 0) ≡ false)  -- rect_eq 2
    × (insets_eq (record { x0 = fl.zero; y0 = fl.zero; x1 = fl.one; y1 = fl.zero }) no_inset ≡ false)  -- insets_eq 2
    × (zero_insets (record { x0 = fl.zero; y0 = fl.zero; x1 = fl.one; y1 = fl.zero }) ≡ false)  -- zero_insets 2
    × (clip_eq (is.Rounded fl.zero fl.zero (num 10) (num 10) fl.zero fl.zero fl.one fl.zero) (is.Square fl.zero fl.zero (num 10) (num 10)) ≡ false)  -- clip_eq radius 2
    × (finite_rect (rect fl.zero fl.zero fl.zero nan) ≡ false)  -- edge 3
    × (finite_insets (record { x0 = fl.zero; y0 = fl.zero; x1 = fl.zero; y1 = nan }) ≡ false)  -- inset 3
    × (finite_clip (is.Rounded fl.zero fl.zero (num 10) (num 10) fl.zero fl.zero fl.zero nan) ≡ false)  -- radius 3
    × (finite_clip (is.Square fl.zero fl.zero fl.zero nan) ≡ false)  -- clip edge 3
    × (rect_eq (rect fl.zero fl.zero fl.zero fl.one) (whole 0) ≡ false)  -- rect_eq 3
    × (insets_eq (record { x0 = fl.zero; y0 = fl.zero; x1 = fl.zero; y1 = fl.one }) no_inset ≡ false)  -- insets_eq 3
    × (zero_insets (record { x0 = fl.zero; y0 = fl.zero; x1 = fl.zero; y1 = fl.one }) ≡ false)  -- zero_insets 3
    × (clip_eq (is.Rounded fl.zero fl.zero (num 10) (num 10) fl.zero fl.zero fl.zero fl.one) (is.Square fl.zero fl.zero (num 10) (num 10)) ≡ false)  -- clip_eq radius 3
    × (finite_affine (record { a = inf true; b = fl.zero; c = fl.zero; d = fl.one; e = fl.zero; f = fl.zero }) ≡ false)  -- coefficient a
    × (affine_eq (record { a = num 2; b = fl.zero; c = fl.zero; d = fl.one; e = fl.zero; f = fl.zero }) identity ≡ false)  -- affine_eq a
    × (finite_affine (record { a = fl.one; b = inf true; c = fl.zero; d = fl.one; e = fl.zero; f = fl.zero }) ≡ false)  -- coefficient b
    × (affine_eq (record { a = fl.one; b = num 2; c = fl.zero; d = fl.one; e = fl.zero; f = fl.zero }) identity ≡ false)  -- affine_eq b
    × (finite_affine (record { a = fl.one; b = fl.zero; c = inf true; d = fl.one; e = fl.zero; f = fl.zero }) ≡ false)  -- coefficient c
    × (affine_eq (record { a = fl.one; b = fl.zero; c = num 2; d = fl.one; e = fl.zero; f = fl.zero }) identity ≡ false)  -- affine_eq c
    × (finite_affine (record { a = fl.one; b = fl.zero; c = fl.zero; d = inf true; e = fl.zero; f = fl.zero }) ≡ false)  -- coefficient d
    × (affine_eq (record { a = fl.one; b = fl.zero; c = fl.zero; d = num 2; e = fl.zero; f = fl.zero }) identity ≡ false)  -- affine_eq d
    × (finite_affine (record { a = fl.one; b = fl.zero; c = fl.zero; d = fl.one; e = inf true; f = fl.zero }) ≡ false)  -- coefficient e
    × (affine_eq (record { a = fl.one; b = fl.zero; c = fl.zero; d = fl.one; e = num 2; f = fl.zero }) identity ≡ false)  -- affine_eq e
    × (finite_affine (record { a = fl.one; b = fl.zero; c = fl.zero; d = fl.one; e = fl.zero; f = inf true }) ≡ false)  -- coefficient f
    × (affine_eq (record { a = fl.one; b = fl.zero; c = fl.zero; d = fl.one; e = fl.zero; f = num 2 }) identity ≡ false)  -- affine_eq f
    × (clip_eq (is.Square fl.zero fl.zero fl.zero fl.zero) is.None ≡ false)  -- a clip is not none
    × (list_point (after (root ∷ settle ∷ [])) (flags 3) (record { x = neg fl.one; y = num 5 }) ≡ [])  -- left of it
    × (list_point (after (root ∷ settle ∷ [])) (flags 3) (record { x = num 5; y = neg fl.one }) ≡ [])  -- above it
    × (list_point (after (root ∷ settle ∷ [])) (flags 3) (point 11 5) ≡ [])  -- right of it
    × (list_point (after (root ∷ settle ∷ [])) (flags 3) (point 5 11) ≡ [])  -- below it
    × (list_point (after (root ∷ settle ∷ [])) (flags 3) (point 0 0) ≡ a ∷ [])  -- low edges in
    × (list_point (after (root ∷ settle ∷ [])) (flags 3) (point 10 10) ≡ a ∷ [])  -- high edges in
    × (list_rect (after (root ∷ settle ∷ [])) (flags 3) (rect (neg (num 2)) fl.zero (neg fl.one) (num 10)) ≡ [])  -- left of it
    × (list_rect (after (root ∷ settle ∷ [])) (flags 3) (rect (num 11) fl.zero (num 12) (num 10)) ≡ [])  -- right of it
    × (list_rect (after (root ∷ settle ∷ [])) (flags 3) (rect fl.zero (neg (num 2)) (num 10) (neg fl.one)) ≡ [])  -- above it
    × (list_rect (after (root ∷ settle ∷ [])) (flags 3) (rect fl.zero (num 11) (num 10) (num 12)) ≡ [])  -- below it
    × (list_rect (after (root ∷ settle ∷ [])) (flags 3) (rect (neg (num 5)) fl.zero fl.zero (num 10)) ≡ a ∷ [])  -- its low x edge
    × (list_rect (after (root ∷ settle ∷ [])) (flags 3) (rect fl.zero (neg (num 5)) (num 10) fl.zero) ≡ a ∷ [])  -- its low y edge
    × (inside (is.Square (big 308) fl.zero (round binary64 false (17 * 10 ^ 307) 1) fl.one) (record { x = round binary64 false (13 * 10 ^ 307) 1; y = round binary64 false 1 2 }) ≡ false)  -- a centre that overflows: nothing inside
    × (inside (is.Square fl.zero (big 308) fl.one (round binary64 false (17 * 10 ^ 307) 1)) (record { x = round binary64 false 1 2; y = round binary64 false (13 * 10 ^ 307) 1 }) ≡ false)  -- likewise in y
    × (quadrant (record { top_left = num 1; top_right = num 2; bottom_right = num 3; bottom_left = num 4 }) fl.one nan ≡ fl.zero)  -- any NaN: 0
    × (quadrant (record { top_left = num 1; top_right = num 2; bottom_right = num 3; bottom_left = num 4 }) nan fl.one ≡ fl.zero)  -- any NaN: 0
    × (quadrant (record { top_left = num 1; top_right = num 2; bottom_right = num 3; bottom_left = num 4 }) fl.zero (neg fl.one) ≡ num 2)  -- a zero offset is right
    × (quadrant (record { top_left = num 1; top_right = num 2; bottom_right = num 3; bottom_left = num 4 }) (neg fl.zero) (neg fl.one) ≡ num 2)  -- of either sign
    × (quadrant (record { top_left = num 1; top_right = num 2; bottom_right = num 3; bottom_left = num 4 }) (neg fl.one) fl.zero ≡ num 4)  -- a zero offset is bottom
    × (quadrant (record { top_left = num 1; top_right = num 2; bottom_right = num 3; bottom_left = num 4 }) fl.one (neg fl.zero) ≡ num 3)  -- of either sign
    × (quadrant (record { top_left = num 1; top_right = num 2; bottom_right = num 3; bottom_left = num 4 }) (neg fl.one) (neg fl.one) ≡ num 1)  -- top left
    × (quadrant (record { top_left = num 1; top_right = num 2; bottom_right = num 3; bottom_left = num 4 }) fl.one fl.one ≡ num 3)  -- bottom right
    × (inside rounded5 (point 8 9) ≡ true)  -- on the arc: 3 and 4 of 5
    × (inside (is.Square fl.zero fl.zero (num 10) (num 4)) (record { x = num 5; y = round binary64 false 9 2 }) ≡ false)  -- height, not width
    × (inside (is.Rounded fl.zero fl.zero (num 10) (num 10) (num 7) (num 7) (num 7) (num 7)) (point 11 5) ≡ true)  -- as given, not constructed: no straight part
    × (inside (is.Rounded (neg (num (2 ^ 53))) (neg fl.one) (num (2 ^ 53)) fl.one (round binary64 false 3 4) (round binary64 false 3 4) (round binary64 false 3 4) (round binary64 false 3 4)) (record { x = num (2 ^ 53); y = fl.zero }) ≡ false)  -- width/2 − R is rounded first
    × (constructed (is.Rounded fl.zero fl.zero (num 10) (num 4) (num 9) (num 9) (num 9) (num 9)) ≡ is.Rounded fl.zero fl.zero (num 10) (num 4) (num 2) (num 2) (num 2) (num 2))  -- half the shorter side, if that is the height
    × (constructed (is.Rounded fl.zero fl.zero (num 10) (num 10) fl.zero (num 5) fl.zero fl.zero) ≡ is.Rounded fl.zero fl.zero (num 10) (num 10) fl.zero (num 5) fl.zero fl.zero)  -- one radius is enough
    × (needs (call.insert None (local 10 (is.Square fl.zero fl.zero (num 10) (num 10)) (pos 0)) ∷ settle ∷ call.set_local_clip a rounded5 ∷ []) ≡ true)  -- radii count
    × (needs (call.insert None (local 10 (is.Square fl.zero fl.zero (num 10) (num 10)) (pos 0)) ∷ settle ∷ call.set_local_clip a is.None ∷ []) ≡ true)  -- none over a clip
unfolding cases.computed
pinned = (refl, refl, refl, refl, refl, refl, refl, refl, refl, refl, refl, refl, refl, refl, refl, refl, refl, refl, refl, refl, refl, refl, refl, refl, refl, refl, refl, refl, refl, refl, refl, refl, refl, refl, refl, refl, refl, refl, refl, refl, refl, refl, refl, refl, refl, refl, refl, refl, refl, refl, refl, refl, refl, refl, refl, refl, refl, refl, refl, refl, refl, refl, refl, refl, refl, refl, refl, refl, refl, refl, refl, refl, refl, refl, refl, refl, refl, refl, refl)

pub pinned_2 : (mapped (record { a = fl.one; b = fl.one; c = fl.one; d = fl.one; e = fin true 1 (pos 53); f = fin true 1 (pos 53) }) (record { x = fl.one; y = fin false 1 (pos 53) }) ≡ record { x = fl.zero; y = fl.zero })  -- left to right: (1 + 2^53) − 2^53
    × (product (record { a = fl.one; b = fl.one; c = fl.one; d = fl.one; e = fin true 1 (pos 53); f = fin true 1 (pos 53) }) (record { a = fl.one; b = fl.zero; c = fl.zero; d = fl.one; e = fl.one; f = fin false 1 (pos 53) }) ≡ record { a = fl.one; b = fl.one; c = fl.one; d = fl.one; e = fl.zero; f = fl.zero })  -- likewise in a product
    × (transform_rect_bbox (record { a = fl.one; b = fl.one; c = fl.one; d = fl.one; e = fin true 1 (pos 53); f = fin true 1 (pos 53) }) (rect fl.one (fin false 1 (pos 53)) fl.one (fin false 1 (pos 53))) ≡ whole 0)  -- likewise in an image
    × ((inverse (record { a = fl.one; b = fl.zero; c = fl.zero; d = num 49; e = fl.zero; f = fl.zero })).a ≡ fin false 9007199254740991 (negsuc 52))  -- r·d, not d / det
    × (contains (whole 10) (record { x = num 5; y = neg fl.one }) ≡ false)  -- below the low y edge
    × (contains (whole 10) (record { x = neg fl.one; y = num 5 }) ≡ false)  -- below the low x edge
    × (plus_insets (whole 10) (record { x0 = num 1; y0 = num 2; x1 = num 3; y1 = num 4 }) ≡ rect (neg (num 1)) (neg (num 2)) (num 13) (num 14))  -- each inset at its edge
    × (needs (root ∷ settle ∷ call.set_hit_slop a (record { x0 = neg fl.zero; y0 = fl.zero; x1 = fl.zero; y1 = fl.zero }) ∷ []) ≡ false)  -- −0 over +0: slop
    × (((after (root ∷ call.set_hit_slop a (record { x0 = neg fl.zero; y0 = fl.zero; x1 = fl.zero; y1 = fl.zero }) ∷ [])).local 0).hit_slop ≡ no_inset)  -- old bits kept: slop
    × (((after (call.insert None (local 10 (is.Square fl.zero fl.zero (num 10) (num 10)) (pos 0)) ∷ call.set_local_clip a (is.Square (neg fl.zero) fl.zero (num 10) (num 10)) ∷ [])).local 0).local_clip ≡ is.Square fl.zero fl.zero (num 10) (num 10))  -- old bits kept: clip
    × ((after (root ∷ settle ∷ call.set_local_clip a (is.Square fl.zero fl.zero fl.one fl.one) ∷ [])).mark 0 ≡ record { marked = true; transform = false; clip = true })  -- changed in clip alone
    × ((after (root ∷ settle ∷ call.set_local_transform a (shifted 1 0) ∷ [])).mark 0 ≡ record { marked = true; transform = true; clip = false })  -- in transform alone
    × ((after (root ∷ settle ∷ call.set_local_bounds a (whole 9) ∷ [])).mark 0 ≡ record { marked = true; transform = false; clip = false })  -- in neither
    × (also_asking (also_asking (asking 0) 1) 4 ≡ asking 5)  -- visible and focusable
    × (default_local ≡ rec (whole 0) no_inset identity is.None (pos 0) 3)  -- defaults
unfolding cases.computed
pinned_2 = (refl, refl, refl, refl, refl, refl, refl, refl, refl, refl, refl, refl, refl, refl, refl)
