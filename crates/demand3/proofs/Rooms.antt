-- Lent room after a call that follows any list of calls from fresh: a call that the plan refuses leaves it as it was; a commit that it accepts
-- leaves the damage there, as its answer counts it; behind the ids of an accepted tap, listing or `children_of` it is as it was, and it is as long.
-- (Which ids stand in front demand 3 has, and Links of children.)
use Rattle.std.specs.Prelude.{Ok, Err}
use mathlib.Core.Path.{◌≡◌, refl, sym, ap, ◌∙◌}
use mathlib.Core.Bool.{Bool, true, false, not}
use mathlib.Core.List.{List, [], ◌∷◌, ◌++◌, reverse, map}
use Prim.Native.Nat.{ℕ, zero, suc, ◌+◌, ◌-◌, ◌*◌, ◌≤◌}
use native.Mathlib.Omega.{arith}
use native.Mathlib.Decide.{dec_lt}
use borrow.Author.Tests.{le-ltb, ltb-false, not-true}
use lib.Dec.{eqb, ltb}
use lib.Ieee.{Float}
use lib.ListN.{length, get_or, take, drop, length-append, length-drop, length-map, length-reverse, get_or-eq_default}
use lib.Seq.{length-take-le, drop-append_seam}
use Rattle.geometry.specs.declared.point.Point.{Point}
use Rattle.geometry.specs.declared.rect.Rect.{Rect}
use Rattle.index_types.specs.declared.NodeId.{NodeId}
use Rattle.index_types.proofs.rooms.Rooms.{numbers_length}
use Rattle.index_query.specs.Query.{slots}
use Rattle.link_forest.specs.Table.{less_deep, at_depth}
use Rattle.link_table.specs.Links.{end_of, between}
use Rattle.tree_types.specs.declared.NodeFlags.{NodeFlags}
use Rattle.tree_types.specs.Local.{rect_to_aabb}
use Rattle.tree_state.specs.declared.Tree.{Tree}
use Rattle.tree_state.specs.declared.Refusal.{Refusal}
use Rattle.tree_state.specs.declared.Refusal.TheVariants as no
use Rattle.tree_state.specs.Tree.{number_in, position_of, id_at, needs_commit, Verdict}
use Rattle.tree_steps.specs.Commit.{ancestors, commit_verdict, commit_tree}
use Rattle.tree_steps.specs.Requests.{request_verdict, numbers_of, ids_in_front, room_if, rect_nodes, point_nodes, Best, nobody, best, hit_node, path_to, path_of}
use Rattle.tree_steps.specs.Readings.{children_of, children_verdict}
use Rattle.tree_steps.specs.Setters.{of_node}
use Rattle.tree_state.specs.Whole.{Whole}
use Rattle.tree_verdicts.specs.Held.{Held}
use Rattle.tree_verdicts.proofs.requests.Accepted.{Accepted, accepted}
use Rattle.tree_listings.proofs.entries.Entries.{id_of, takes, taken_few, rect_listed, point_listed}
use Rattle.tree_taps.proofs.paths.Climb.{path_length}
use Rattle.tree_invariant.proofs.calls.Accepted.{checked_both}
use Rattle.tree_readings.specs.Answers.{children_room}
use Rattle.tree_commit.specs.Commit.{commit_call, commit_room}
use Rattle.tree_listings.specs.Listings.{intersect_room, containing_room}
use Rattle.tree_taps.specs.Taps.{tap_room}
use Rattle.tree_run.specs.Told.{damage_told}
use Rattle.tree_run.proofs.Verdicts.{verdict, damage_if, damage_is, ids_left, rects_left}
use Rattle.plan.specs.Plan.{Plan}
use Rattle.plan.specs.Calls as call
use Rattle.plan.specs.Calls.{Call, Request, refusal}
use Rattle.demand3.proofs.Theorem.{refused_same, zero_accepted}
use Rattle.demand3.proofs.Soundness.{meets_after}
use Rattle.demand3.specs.Claims.{after, Behind}
use Rattle.demand3.proofs.Readings.{plan_after}

-- ---- 256 ids are the most

less_short : (d : ℕ) (xs ds : List ℕ) → length (less_deep d xs ds) ≤ length xs
unfolding less_deep
less_short d [] ds = omega arith
less_short d (x ∷ xs) [] = omega arith
less_short d (x ∷ xs) (e ∷ es) = go (ltb e d) (less_short e xs es) (less_short d xs es)
  where
    go : (b : Bool) → length (less_deep e xs es) ≤ length xs → length (less_deep d xs es) ≤ length xs
        → length {A = ℕ} (elim b [ true ↦ x ∷ less_deep e xs es | false ↦ less_deep d xs es ]) ≤ suc (length xs)
    go true h k = omega arith
    go false h k = omega arith

-- nothing is less deep than 0
less_none : (xs ds : List ℕ) → less_deep 0 xs ds ≡ []
unfolding less_deep
less_none [] ds = refl
less_none (x ∷ xs) [] = refl
less_none (x ∷ xs) (e ∷ es) = rw (less_deep, le-ltb e 0 (omega arith)) (less_none xs es)

path_few : (t : Tree) → Whole t → (b : Best) → length (path_of t b) ≤ 256
unfolding path_to ancestors
path_few t w nobody = omega arith
path_few t w (best x) =
    let i = position_of t x in
    let xs = reverse (take i t.links.order) in
    let ds = reverse (take i t.links.depth) in
    rw (path_length (id_at t) x (less_deep (get_or t.links.depth i 0) xs ds))
    (elim (dec_lt i 256) [
      | yes l ↦
          let m = length-take-le i t.links.order (omega (arith, w.links.order)) in
          omega (arith, less_short (get_or t.links.depth i 0) xs ds, length-reverse (take i t.links.order), m)
      | no g ↦
          let z : get_or t.links.depth i 0 ≡ 0 = get_or-eq_default t.links.depth 0 (omega (arith, w.links.depth)) in
          rw (z, less_none xs ds) (omega arith)
    ])

rect_few : (t : Tree) → Held t → needs_commit t ≡ false → (asked : NodeFlags) (r : Rect) → length (rect_nodes t asked r) ≤ 256
rect_few t H q asked r =
    rw (rect_listed t asked r, length-map (slots 512 (takes t asked (rect_to_aabb r))) (id_of t)) (taken_few t (rect_to_aabb r) asked (record { held = H; no_need = q }) 512 (omega arith))

point_few : (t : Tree) → Held t → needs_commit t ≡ false → (asked : NodeFlags) (pt : Point) → length (point_nodes t asked pt) ≤ 256
point_few t H q asked pt = rw (point_listed t asked pt) (rect_few t H q asked _)

at_short : (k : ℕ) (xs ds : List ℕ) → length (at_depth k xs ds) ≤ length xs
unfolding at_depth
at_short k [] ds = omega arith
at_short k (x ∷ xs) [] = omega arith
at_short k (x ∷ xs) (d ∷ ds) = go (eqb d k) (at_short k xs ds)
  where
    go : (b : Bool) → length (at_depth k xs ds) ≤ length xs → length {A = ℕ} (elim b [ true ↦ x ∷ at_depth k xs ds | false ↦ at_depth k xs ds ]) ≤ suc (length xs)
    go true h = omega arith
    go false h = omega arith

take_short : (m : ℕ) (l : List ℕ) → length (take m l) ≤ length l
take_short zero l = omega arith
take_short (suc m) [] = omega arith
take_short (suc m) (x ∷ l) = omega (arith, take_short m l)

below_few : (id : ℕ → NodeId) (k m i : ℕ) (order ds : List ℕ) → length order ≡ 256 → length (map id (at_depth k (take m (drop i order)) ds)) ≤ 256
below_few id k m i order ds w =
    rw (length-map (at_depth k (take m (drop i order)) ds) id)
    (omega (arith, at_short k (take m (drop i order)) ds, take_short m (drop i order), length-drop i order))

children_few : (t : Tree) → Whole t → (x : ℕ) → length (children_of t x) ≤ 256
unfolding children_of
children_few t w x =
    let i = position_of t x in
    let e = end_of t.links i in
    below_few (id_at t) (get_or t.links.depth i 0 + 1) (e - i) i t.links.order (between i e t.links.depth) w.links.order

-- ids in front of a room that holds 256
ids_behind : (v : Verdict) (l : List NodeId) (room : List ℕ) → v ≡ Ok tt → length l ≤ 256 → 512 ≤ length room → Behind l room (room_if v l room)
unfolding room_if ids_in_front
ids_behind v l room e few long = rw e (record { few = few; behind = behind; as_long = as_long })
  where
    behind : drop (2 * length l) (numbers_of l ++ drop (length (numbers_of l)) room) ≡ drop (2 * length l) room
    behind = rw (← numbers_length l) (drop-append_seam (numbers_of l) (drop (length (numbers_of l)) room))

    as_long : length (numbers_of l ++ drop (length (numbers_of l)) room) ≡ length room
    as_long = omega (arith, length-append (numbers_of l) (drop (length (numbers_of l)) room), length-drop (length (numbers_of l)) room, numbers_length l, long, few)

module _ (calls : List Call) where
  abbrev t : Tree
  t = after calls

  abbrev p : Plan
  p = plan_after calls

  number_same : (c : Call) → number_in (verdict t c) ≡ refusal p c
  number_same c = refused_same t p (meets_after calls).known c

  refused_by : (c : Call) → (refusal p c ≡ 0 → ⊥) → (r : Refusal) × (verdict t c ≡ Err r)
  unfolding number_in
  refused_by c h = go (verdict t c) refl
    where
      go : (v : Verdict) → verdict t c ≡ v → (r : Refusal) × (verdict t c ≡ Err r)
      go (Ok tt) e = absurd (h (sym (number_same c) ∙ ap number_in e))
      go (Err r) e = (r, e)

  -- ---- rectangles
  pub commit_left : (room : List Float) → (refusal p (call.commit room) ≡ 0 → ⊥) → commit_room t room ≡ room
  unfolding verdict
  commit_left room h = let q = refused_by (call.commit room) h in rects_left q.0 t room q.1

  pub commit_damage : (room : List Float) → refusal p (call.commit room) ≡ 0
      → damage_told (commit_call t (length room)).answer (commit_room t room) ≡ (commit_tree t).damage
  unfolding verdict
  commit_damage room h =
      damage_is t room
      ∙ ap (λ (v : Verdict). damage_if v (commit_tree t).damage) (zero_accepted (commit_verdict t (length room)) (number_same (call.commit room) ∙ h))

  -- ---- ids
  pub children_left : (i : NodeId) (room : List ℕ) → (refusal p (call.read (call.children_of i room)) ≡ 0 → ⊥) → children_room t i room ≡ room
  unfolding verdict
  children_left i room h =
      let q = refused_by (call.read (call.children_of i room)) h in
      ids_left q.0 (children_verdict t i (length room)) (children_of t i.0) room q.1

  pub children_behind : (i : NodeId) (room : List ℕ) → refusal p (call.read (call.children_of i room)) ≡ 0 → Behind (children_of t i.0) room (children_room t i room)
  unfolding verdict
  children_behind i room h =
      let e = zero_accepted (children_verdict t i (length room)) (number_same (call.read (call.children_of i room)) ∙ h) in
      let b = (checked_both (of_node t i) (not (ltb (length room) 512)) no.ShortRoom e).1 in
      ids_behind (children_verdict t i (length room)) (children_of t i.0) room e (children_few t (meets_after calls).known.whole i.0)
      (ltb-false (length room) 512 (not-true (ltb (length room) 512) b))

  module _ (asked : NodeFlags) (room : List ℕ) where
    pub tap_left : (pt : Point) → (refusal p (call.request (call.hit_test_point pt) asked room) ≡ 0 → ⊥) → tap_room t asked pt room ≡ room
    unfolding verdict
    tap_left pt h =
        let q = refused_by (call.request (call.hit_test_point pt) asked room) h in
        ids_left q.0 (request_verdict t asked (length room)) (path_of t (hit_node t asked pt)) room q.1

    pub intersect_left : (r : Rect) → (refusal p (call.request (call.intersect_rect r) asked room) ≡ 0 → ⊥) → intersect_room t asked r room ≡ room
    unfolding verdict
    intersect_left r h =
        let q = refused_by (call.request (call.intersect_rect r) asked room) h in
        ids_left q.0 (request_verdict t asked (length room)) (rect_nodes t asked r) room q.1

    pub containing_left : (pt : Point) → (refusal p (call.request (call.containing_point pt) asked room) ≡ 0 → ⊥) → containing_room t asked pt room ≡ room
    unfolding verdict
    containing_left pt h =
        let q = refused_by (call.request (call.containing_point pt) asked room) h in
        ids_left q.0 (request_verdict t asked (length room)) (point_nodes t asked pt) room q.1

    -- an accepted one's room is as it was behind the ids
    yes_to : (q : Request) → refusal p (call.request q asked room) ≡ 0 → request_verdict t asked (length room) ≡ Ok tt
    unfolding verdict
    yes_to q h = zero_accepted (request_verdict t asked (length room)) (number_same (call.request q asked room) ∙ h)

    given : request_verdict t asked (length room) ≡ Ok tt → Accepted t (length room)
    given e = accepted t (meets_after calls).known.whole asked (length room) e

    pub tap_behind : (pt : Point) → refusal p (call.request (call.hit_test_point pt) asked room) ≡ 0 → Behind (path_of t (hit_node t asked pt)) room (tap_room t asked pt room)
    tap_behind pt h =
        let e = yes_to (call.hit_test_point pt) h in
        ids_behind (request_verdict t asked (length room)) (path_of t (hit_node t asked pt)) room e (path_few t (meets_after calls).known.whole (hit_node t asked pt)) (given e).long

    pub intersect_behind : (r : Rect) → refusal p (call.request (call.intersect_rect r) asked room) ≡ 0 → Behind (rect_nodes t asked r) room (intersect_room t asked r room)
    intersect_behind r h =
        let e = yes_to (call.intersect_rect r) h in
        let a = given e in
        ids_behind (request_verdict t asked (length room)) (rect_nodes t asked r) room e (rect_few t a.held a.no_need asked r) a.long

    pub containing_behind : (pt : Point) → refusal p (call.request (call.containing_point pt) asked room) ≡ 0 → Behind (point_nodes t asked pt) room (containing_room t asked pt room)
    containing_behind pt h =
        let e = yes_to (call.containing_point pt) h in
        let a = given e in
        ids_behind (request_verdict t asked (length room)) (point_nodes t asked pt) room e (point_few t a.held a.no_need asked pt) a.long
