-- The redaction lemma: what is withheld shows in no answer. A node that lacks an asked flag is no candidate and is not listed, and no other
-- node's world records read its bounds, slop or level.
use Prim.Native.Nat.{ℕ}
use mathlib.Core.Path.{◌≡◌, refl}
use mathlib.Core.Bool.{Bool, true, false, ◌&&◌}
use mathlib.Core.List.{List, [], ◌∷◌}
use Rattle.geometry.specs.declared.point.Point.{Point}
use Rattle.geometry.specs.declared.rect.Rect.{Rect}
use Rattle.tree_types.specs.declared.NodeFlags.{NodeFlags}
use Rattle.tree_types.specs.Local.{has_all}
use Rattle.link_forest.specs.Forest.{above}
use Rattle.plan.specs.Lists.{keep}
use Rattle.plan.specs.Plan.{Plan, nodes}
use Rattle.plan.specs.Afresh.{placed_on, world_place, world_bounds, world_hit_bounds, in_clips, candidate, larger, Hit, nothing, node, better, largest, tap_of, tap, meets_rect, meets_point, in_entry_order, list_rect, list_point, redact_local, redact}
use Rattle.plan.specs.Calls as call
use Rattle.plan.specs.Calls.{Request}
use Rattle.plan.specs.Demand.{defined}

-- ---- lists

keep_same : (p q : ℕ → Bool) → ((x : ℕ) → p x ≡ q x) → (xs : List ℕ) → keep p xs ≡ keep q xs
unfolding keep
keep_same p q e [] = refl
keep_same p q e (x ∷ xs) = rw (e x, keep_same p q e xs)

module _ (asked : NodeFlags) (p : Plan) where
  abbrev r : Plan
  r = redact asked p

  abbrev shown : ℕ → Bool
  shown x = has_all (p.local x).flags asked

  -- ---- what redaction leaves of a local record

  whole : (x : ℕ) → shown x ≡ true → r.local x ≡ p.local x
  unfolding redact redact_local
  whole x e = rw e

  flags_kept : (x : ℕ) → (r.local x).flags ≡ (p.local x).flags
  unfolding redact redact_local
  flags_kept x = go (shown x) refl
    where
      go : (b : Bool) → shown x ≡ b → (r.local x).flags ≡ (p.local x).flags
      go true e = rw e
      go false e = rw e

  transform_kept : (x : ℕ) → (r.local x).local_transform ≡ (p.local x).local_transform
  unfolding redact redact_local
  transform_kept x = go (shown x) refl
    where
      go : (b : Bool) → shown x ≡ b → (r.local x).local_transform ≡ (p.local x).local_transform
      go true e = rw e
      go false e = rw e

  clip_kept : (x : ℕ) → (r.local x).local_clip ≡ (p.local x).local_clip
  unfolding redact redact_local
  clip_kept x = go (shown x) refl
    where
      go : (b : Bool) → shown x ≡ b → (r.local x).local_clip ≡ (p.local x).local_clip
      go true e = rw e
      go false e = rw e

  -- ---- world records

  placed_kept : (l : List ℕ) → placed_on r.local l ≡ placed_on p.local l
  unfolding placed_on
  placed_kept [] = refl
  placed_kept (x ∷ l) = rw (placed_kept l, transform_kept x, clip_kept x)

  clips_kept : (l : List ℕ) (pt : Point) → in_clips r.local l pt ≡ in_clips p.local l pt
  unfolding in_clips
  clips_kept [] pt = refl
  clips_kept (x ∷ l) pt = rw (placed_kept (x ∷ l), clip_kept x, clips_kept l pt)

  above_kept : (x : ℕ) → above x r.links ≡ above x p.links
  unfolding redact
  above_kept x = refl

  place_kept : (x : ℕ) → world_place r x ≡ world_place p x
  unfolding redact
  place_kept x = placed_kept (x ∷ above x p.links)

  bounds_kept : (x : ℕ) → shown x ≡ true → world_bounds r x ≡ world_bounds p x
  unfolding world_bounds
  bounds_kept x e = rw (place_kept x, whole x e)

  hit_bounds_kept : (x : ℕ) → shown x ≡ true → world_hit_bounds r x ≡ world_hit_bounds p x
  unfolding world_hit_bounds
  hit_bounds_kept x e = rw (place_kept x, whole x e)

  -- ---- candidates and what is listed: a withheld node is none, and a shown one has its own record

  candidate_kept : (pt : Point) (x : ℕ) → candidate r asked pt x ≡ candidate p asked pt x
  unfolding candidate
  candidate_kept pt x = go (shown x) refl
    where
      hidden : (a c d : Bool) → (a && false && c && d) ≡ false
      hidden true c d = refl
      hidden false c d = refl

      go : (b : Bool) → shown x ≡ b → candidate r asked pt x ≡ candidate p asked pt x
      go true e = rw (candidate, hit_bounds_kept x e, place_kept x, whole x e, above_kept x, clips_kept (above x p.links) pt)
      go false e = rw (candidate, flags_kept x, e, hidden, hidden)

  rect_kept : (q : Rect) (x : ℕ) → meets_rect r asked q x ≡ meets_rect p asked q x
  unfolding meets_rect
  rect_kept q x = go (shown x) refl
    where
      go : (b : Bool) → shown x ≡ b → meets_rect r asked q x ≡ meets_rect p asked q x
      go true e = rw (meets_rect, hit_bounds_kept x e, bounds_kept x e, flags_kept x)
      go false e = rw (meets_rect, flags_kept x, e)

  point_kept : (pt : Point) (x : ℕ) → meets_point r asked pt x ≡ meets_point p asked pt x
  unfolding meets_point
  point_kept pt x = go (shown x) refl
    where
      go : (b : Bool) → shown x ≡ b → meets_point r asked pt x ≡ meets_point p asked pt x
      go true e = rw (meets_point, hit_bounds_kept x e, bounds_kept x e, flags_kept x)
      go false e = rw (meets_point, flags_kept x, e)

  -- ---- the largest of the candidates: only shown nodes' levels are compared

  candidate_shown : (pt : Point) (x : ℕ) → candidate p asked pt x ≡ true → shown x ≡ true
  unfolding candidate
  candidate_shown pt x e = go (shown x) refl
    where
      hidden : (a c d : Bool) → (a && false && c && d) ≡ false
      hidden true c d = refl
      hidden false c d = refl

      go : (b : Bool) → shown x ≡ b → b ≡ true
      go true d = refl
      go false d = rw (d, hidden) at e

  abbrev ShownHit : Hit → Type 0
  ShownHit nothing = Unit {0}
  ShownHit (node y) = shown y ≡ true

  larger_kept : (x y : ℕ) → shown x ≡ true → shown y ≡ true → larger r x y ≡ larger p x y
  unfolding redact larger
  larger_kept x y d e = rw (whole x d, whole y e)

  better_kept : (x : ℕ) → shown x ≡ true → (h : Hit) → ShownHit h → better r x h ≡ better p x h
  better_kept x d nothing t = refl
  better_kept x d (node y) e = rw (larger_kept x y d e)

  better_shown : (x : ℕ) → shown x ≡ true → (h : Hit) → ShownHit h → ShownHit (better p x h)
  better_shown x d nothing t = d
  better_shown x d (node y) e = go (larger p x y) refl
    where
      go : (b : Bool) → larger p x y ≡ b → ShownHit (better p x (node y))
      go true q = rw q d
      go false q = rw q e

  largest_kept : (c : ℕ → Bool) → ((x : ℕ) → c x ≡ true → shown x ≡ true) → (xs : List ℕ)
      → (largest r (keep c xs) ≡ largest p (keep c xs)) × ShownHit (largest p (keep c xs))
  unfolding keep largest
  largest_kept c h [] = (refl, tt)
  largest_kept c h (x ∷ xs) = go (c x) refl (largest_kept c h xs)
    where
      go : (b : Bool) → c x ≡ b → (largest r (keep c xs) ≡ largest p (keep c xs)) × ShownHit (largest p (keep c xs))
          → (largest r (keep c (x ∷ xs)) ≡ largest p (keep c (x ∷ xs))) × ShownHit (largest p (keep c (x ∷ xs)))
      go true e q =
          (rw (e, q.0) (better_kept x (h x e) (largest p (keep c xs)) q.1), rw e (better_shown x (h x e) (largest p (keep c xs)) q.1))
      go false e q = rw e q

  -- ---- the three requests

  tap_of_kept : (h : Hit) → tap_of r h ≡ tap_of p h
  unfolding redact
  tap_of_kept nothing = refl
  tap_of_kept (node x) = refl

  tap_kept : (pt : Point) → tap r asked pt ≡ tap p asked pt
  unfolding redact tap
  tap_kept pt =
      rw (
        keep_same (candidate r asked pt) (candidate p asked pt) (candidate_kept pt) (nodes p),
        (largest_kept (candidate p asked pt) (candidate_shown pt) (nodes p)).0,
      )
      (tap_of_kept (largest p (keep (candidate p asked pt) (nodes p))))

  rect_listing_kept : (q : Rect) → list_rect r asked q ≡ list_rect p asked q
  unfolding redact list_rect in_entry_order
  rect_listing_kept q = rw (keep_same (meets_rect r asked q) (meets_rect p asked q) (rect_kept q) (in_entry_order p))

  point_listing_kept : (pt : Point) → list_point r asked pt ≡ list_point p asked pt
  unfolding redact list_point in_entry_order
  point_listing_kept pt = rw (keep_same (meets_point r asked pt) (meets_point p asked pt) (point_kept pt) (in_entry_order p))

  -- every request finds the same on a plan and on its redaction
  pub redacted_same : (q : Request) → defined (redact asked p) asked q ≡ defined p asked q
  redacted_same (call.hit_test_point pt) = rw (tap_kept pt)
  redacted_same (call.intersect_rect q) = rw (rect_listing_kept q)
  redacted_same (call.containing_point pt) = rw (point_listing_kept pt)
