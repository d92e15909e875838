-- Taps: the path, the local tests over stored records, and the strongest of the candidates in entry order are the plan's.
use mathlib.Core.Path.{◌≡◌, refl, sym, ap, ◌∙◌, subst}
use mathlib.Core.Bool.{Bool, true, false, ◌&&◌, ◌||◌, cond}
use mathlib.Core.List.{List, [], ◌∷◌, ◌++◌, map, reverse, append-nil}
use Prim.Native.Nat.{ℕ}
use native.Mathlib.Omega.{arith}
use lib.Dec.{eqb, ltb}
use lib.Signed.{lt_z}
use Rattle.geometry.specs.declared.point.Point.{Point}
use Rattle.counting.specs.Times.{times}
use Rattle.counting.proofs.Counting.{hit, times_append}
use Rattle.geometry.specs.Transform.{mapped, inverse}
use Rattle.geometry_clips.specs.declared.clip.Clip.{Clip}
use Rattle.geometry_clips.specs.Clips.{inside}
use Rattle.index_types.specs.Boxes.{contains_point}
use Rattle.tree_worlds.specs.declared.Placed.{Placed}
use Rattle.tree_worlds.specs.World.{reached}
use Rattle.tree_types.specs.declared.NodeFlags.{NodeFlags}
use Rattle.tree_types.specs.declared.LocalNode.{LocalNode}
use Rattle.tree_types.specs.Local.{has_all, rect_to_aabb}
use Rattle.link_forest.specs.Forest.{Forest, has, above, path, depth, Distinct}
use Rattle.link_forest.proofs.Holds.{Parent, Above, parent_above}
use Rattle.index_state.specs.Index.{point_slots}
use Rattle.tree_state.specs.declared.Tree.{Tree}
use Rattle.tree_state.specs.Tree.{position_of, id_at, local_at, clip_of, key_at, stored_place}
use Rattle.tree_steps.specs.Commit.{ancestors}
use Rattle.tree_steps.specs.Requests.{in_stored_clips, fine, stronger, Best, nobody, best, next, strongest, hit_node, path_to}
use Rattle.tree_laws.proofs.Ground.{ancestors_above, depth_at_place}
use Rattle.plan.specs.Lists.{keep}
use Rattle.plan.specs.Plan.{Plan, nodes, id_of, needs_commit}
use Rattle.plan.specs.Afresh as afresh
use Rattle.plan.specs.Afresh.{placed_on, world_place, world_hit_bounds, in_clips, candidate, same_level, larger, Hit, nothing, node, better, largest, Tap, tap, in_entry_order}
use Rattle.plan.proofs.Sorting.{Strict}
use Rattle.agreement.proofs.Same.{Known}
use Rattle.agreement_calls.proofs.requests.Boxes.{fair_point}
use Rattle.agreement_calls.proofs.requests.Lists.{In, Every, in_every, every_keep, kept_in, kept_out, joined_in, map_same}
use Rattle.agreement_calls.proofs.requests.Largest.{strict_slots, ranks_numbers, ranks_levels, first_place, or_same, Top, top_one, top_of, top_same}
use Rattle.agreement_calls.proofs.requests.Quiet as quiet
use Rattle.agreement_calls.proofs.requests.Listing.{numbered, numbered_owner, in_order_live, kept_in_order}

-- what a tap answers: the node's id, and its path from the root
abbrev pub tap_of : Tree → Best → Tap
tap_of t nobody = afresh.nothing
tap_of t (best x) = afresh.hit (id_at t x) (path_to t x)

-- ---- what is above a node: each of it is there, and above it stands the rest

abbrev pub Up : Forest → List ℕ → Type 0
Up f [] = Unit {0}
Up f (q ∷ qs) = (has q f ≡ true) × (above q f ≡ qs) × Up f qs

up_from : (f : Forest) → Distinct f → (l : List ℕ) (x : ℕ) → has x f ≡ true → above x f ≡ l → Up f l
up_from f o [] x h e = tt
up_from f o (q ∷ qs) x h e =
    let A : Parent (Above f) (q ∷ qs) = subst (Parent (Above f)) e (parent_above f o x h) in
    (A.0, A.1, up_from f o qs q A.0 A.1)

pub up : (f : Forest) → Distinct f → (x : ℕ) → has x f ≡ true → Up f (above x f)
up f o x h = up_from f o (above x f) x h refl

-- ---- the plan's order is strict

abbrev by_index : ℕ → ℕ → Bool
by_index x y = ltb y x

pub strict : (p : Plan) → Strict (larger p)
unfolding larger
strict p =
    first_place (λ x y. lt_z (p.local y).z_index (p.local x).z_index) (λ x y. same_level (p.local x).z_index (p.local y).z_index) (ranks_levels (λ x. (p.local x).z_index)) _
    (first_place (λ x y. ltb (depth y p.links) (depth x p.links)) (λ x y. eqb (depth x p.links) (depth y p.links)) (ranks_numbers (λ x. depth x p.links)) _
    (first_place (λ x y. ltb (p.slots.generation y) (p.slots.generation x)) (λ x y. eqb (p.slots.generation x) (p.slots.generation y)) (ranks_numbers p.slots.generation) by_index strict_slots))

module _ (t : Tree) (p : Plan) (K : Known t p) (Q : needs_commit p ≡ false) where
  abbrev f : Forest
  f = p.links

  -- ---- the path

  pub path_same : (x : ℕ) → has x f ≡ true → path_to t x ≡ map (id_of p) (path x f)
  unfolding path_to
  path_same x h =
      ap (λ (l : List ℕ). map (id_at t) (reverse (x ∷ l))) (ancestors_above t f K.same.links x h)
      ∙ map_same (id_at t) (id_of p) (quiet.ids t p K Q) (path x f)

  -- ---- the local tests

  clip_same : (x : ℕ) → has x f ≡ true → clip_of t x ≡ (p.local x).local_clip
  unfolding local_at
  clip_same x h = ap (λ (v : LocalNode). v.local_clip) (K.same.local x h)

  clips_same : (pt : Point) (l : List ℕ) → Up f l → in_stored_clips t l pt ≡ in_clips p.local l pt
  unfolding in_stored_clips in_clips
  clips_same pt [] U = refl
  clips_same pt (q ∷ qs) U =
      let w : stored_place t q ≡ placed_on p.local (q ∷ qs) = quiet.place t p K Q q U.0 ∙ ap (λ (l : List ℕ). placed_on p.local (q ∷ l)) U.1 in
      ap (λ (P : Placed). inside (clip_of t q) (mapped (inverse P.transform) pt) && in_stored_clips t qs pt) w
      ∙ ap (λ (c : Clip). inside c (mapped (inverse (placed_on p.local (q ∷ qs)).transform) pt) && in_stored_clips t qs pt) (clip_same q U.0)
      ∙ ap (λ (b : Bool). inside (p.local q).local_clip (mapped (inverse (placed_on p.local (q ∷ qs)).transform) pt) && b) (clips_same pt qs U.2)

  pub fine_same : (asked : NodeFlags) (pt : Point) (x : ℕ) → has x f ≡ true
      → contains_point (rect_to_aabb (world_hit_bounds p x)) pt.x pt.y && fine t asked pt x ≡ candidate p asked pt x
  unfolding fine candidate
  fine_same asked pt x h =
      let inner : in_stored_clips t (ancestors t (position_of t x)) pt ≡ in_clips p.local (above x f) pt =
      ap (λ (l : List ℕ). in_stored_clips t l pt) (ancestors_above t f K.same.links x h) ∙ clips_same pt (above x f) (up f K.same.links.once x h) in
      let W = (world_place p x).transform in
      let v = p.local x in
      ap (λ (u : LocalNode). contains_point (rect_to_aabb (world_hit_bounds p x)) pt.x pt.y && (has_all u.flags asked && (reached (inverse (stored_place t x).transform) u.local_bounds u.hit_slop u.local_clip pt && in_stored_clips t (ancestors t (position_of t x)) pt))) (K.same.local x h)
      ∙ ap (λ (P : Placed). contains_point (rect_to_aabb (world_hit_bounds p x)) pt.x pt.y && (has_all v.flags asked && (reached (inverse P.transform) v.local_bounds v.hit_slop v.local_clip pt && in_stored_clips t (ancestors t (position_of t x)) pt))) (quiet.place t p K Q x h)
      ∙ rw inner
      (four_flat (contains_point (rect_to_aabb (world_hit_bounds p x)) pt.x pt.y) (has_all v.flags asked) (reached (inverse W) v.local_bounds v.hit_slop v.local_clip pt) (in_clips p.local (above x f) pt))
    where
      four_flat : (a b c d : Bool) → a && (b && (c && d)) ≡ a && b && c && d
      four_flat true true c d = refl
      four_flat true false c d = refl
      four_flat false b c d = refl

  -- ---- the order

  pub stronger_same : (x y : ℕ) → has x f ≡ true → has y f ≡ true → stronger t x y ≡ larger p x y
  unfolding stronger larger
  stronger_same x y h g =
      let L = K.same.links in
      let rest =
      ltb (depth y f) (depth x f)
      || (eqb (depth x f) (depth y f)
      && (ltb (p.slots.generation y) (p.slots.generation x) || (eqb (p.slots.generation x) (p.slots.generation y) && ltb y x))) in
      rw (stronger, K.same.local x h, K.same.local y g, depth_at_place t f L x h, depth_at_place t f L y g, K.same.generation x, K.same.generation y)
      (or_same (p.local x).z_index (p.local y).z_index rest)

  abbrev hit_of : Best → Hit
  hit_of nobody = nothing
  hit_of (best x) = node x

  abbrev LiveBest : Best → Type 0
  LiveBest nobody = Unit {0}
  LiveBest (best x) = has x f ≡ true

  abbrev IsTop : List ℕ → Hit → Type 0
  IsTop xs h = Top (larger p) (strict p) xs h

  -- one more candidate, on either side
  better_top : (x : ℕ) (xs : List ℕ) (h : Hit) → IsTop xs h → IsTop (x ∷ xs) (better p x h)
  better_top x xs nothing T = top_one (larger p) (strict p) x xs nothing T
  better_top x xs (node y) T = top_one (larger p) (strict p) x xs (node y) T

  next_better : (x : ℕ) → has x f ≡ true → (b : Best) → LiveBest b → hit_of (next t x b) ≡ better p x (hit_of b)
  next_better x h nobody l = refl
  next_better x h (best y) g = rw (stronger_same x y h g)

  next_live : (x : ℕ) → has x f ≡ true → (b : Best) → LiveBest b → LiveBest (next t x b)
  next_live x h nobody l = h
  next_live x h (best y) g = go (stronger t x y)
    where
      go : (b : Bool) → has (cond b x y) f ≡ true
      go true = h
      go false = g

  -- over a list: from its end, and from its front with what was seen before
  top_largest : (xs : List ℕ) → IsTop xs (largest p xs)
  unfolding largest times
  top_largest [] = λ y i. omega arith
  top_largest (x ∷ xs) = better_top x xs (largest p xs) (top_largest xs)

  top_strongest : (xs seen : List ℕ) (b : Best) → Every (λ x. has x f ≡ true) xs → LiveBest b → IsTop seen (hit_of b) → IsTop (xs ++ seen) (hit_of (strongest t b xs))
  unfolding strongest times
  top_strongest [] seen b e l T = T
  top_strongest (x ∷ xs) seen b e l T =
      top_of (larger p) (strict p) (xs ++ (x ∷ seen)) (x ∷ (xs ++ seen))
      (λ y i. omega (arith, times_append y xs (x ∷ seen), times_append y xs seen))
      (λ y i. omega (arith, times_append y xs (x ∷ seen), times_append y xs seen))
      (hit_of (strongest t (next t x b) xs))
      (top_strongest xs (x ∷ seen) (next t x b) e.1 (next_live x e.0 b l) (subst (IsTop (x ∷ seen)) (sym (next_better x e.0 b l)) (better_top x seen (hit_of b) T)))

  -- ---- the candidates: the same nodes in two orders

  module _ (asked : NodeFlags) (pt : Point) where
    abbrev candidates : List ℕ
    candidates = keep (candidate p asked pt) (nodes p)

    abbrev candidates_in_order : List ℕ
    candidates_in_order = keep (candidate p asked pt) (in_entry_order p)

    in_order_has : (x : ℕ) → In x candidates_in_order → has x f ≡ true
    in_order_has x i = in_every (λ y. has y f ≡ true) (in_entry_order p) (in_order_live t p K Q) x (kept_out (candidate p asked pt) (in_entry_order p) x i).0

    from_order : (x : ℕ) → In x candidates_in_order → In x candidates
    from_order x i =
        kept_in (candidate p asked pt) (nodes p) x (omega (arith, quiet.node_once t p K Q x (in_order_has x i))) (kept_out (candidate p asked pt) (in_entry_order p) x i).1

    entered : (x : ℕ) → has x f ≡ true → In x (in_entry_order p)
    unfolding in_entry_order times
    entered x h =
        joined_in (numbered t p K Q) x (key_at t x).0 p.entries.used (quiet.entry_used t p K Q (key_at t x).0 (λ z. omega (arith, (quiet.owns t p K Q x h).unmarked)))
        (rw (numbered_owner t p K Q x h) (omega (arith, hit x)))

    into_order : (x : ℕ) → In x candidates → In x candidates_in_order
    into_order x i =
        let o = kept_out (candidate p asked pt) (nodes p) x i in
        kept_in (candidate p asked pt) (in_entry_order p) x (entered x (quiet.node_has t p K Q x o.0)) o.1

    hit_node_lem : hit_node t asked pt ≡ strongest t nobody candidates_in_order
    unfolding hit_node point_slots
    hit_node_lem = ap (strongest t nobody) (kept_in_order t p K Q (λ b. contains_point b pt.x pt.y) (fair_point pt.x pt.y) (fine t asked pt) (candidate p asked pt) (fine_same asked pt))

    top_hit : IsTop candidates_in_order (hit_of (hit_node t asked pt))
    unfolding times
    top_hit =
        subst (λ (b : Best). IsTop candidates_in_order (hit_of b)) (sym hit_node_lem)
        (subst (λ (l : List ℕ). IsTop l (hit_of (strongest t nobody candidates_in_order))) (append-nil candidates_in_order)
        (top_strongest candidates_in_order [] nobody (every_keep (λ x. has x f ≡ true) (candidate p asked pt) (in_entry_order p) (in_order_live t p K Q)) tt (λ y i. omega arith)))

    pub hit_same : hit_of (hit_node t asked pt) ≡ largest p candidates
    hit_same = top_same (larger p) (strict p) candidates_in_order candidates from_order into_order (hit_of (hit_node t asked pt)) (largest p candidates) top_hit (top_largest candidates)

    -- ---- the answer

    answer_same : (b : Best) → IsTop candidates_in_order (hit_of b) → tap_of t b ≡ afresh.tap_of p (hit_of b)
    answer_same nobody T = refl
    answer_same (best x) T = rw (quiet.ids t p K Q x, path_same x (in_order_has x T.0))

    pub tap_same : tap_of t (hit_node t asked pt) ≡ tap p asked pt
    unfolding tap
    tap_same = answer_same (hit_node t asked pt) top_hit ∙ ap (afresh.tap_of p) hit_same
