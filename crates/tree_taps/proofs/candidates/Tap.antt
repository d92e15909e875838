-- The loop over the entries that keeps the strongest of the candidates.
use mathlib.Core.Path.{◌≡◌, refl, sym, ap, ◌∙◌}
use mathlib.Core.Bool.{Bool, true, false, not, ◌&&◌}
use mathlib.Core.List.{List, [], ◌∷◌, ◌++◌, map, map-append, append-nil}
use Prim.Native.Nat.{ℕ, zero, suc, ◌+◌, ◌-◌, ◌≤◌, ◌<◌}
use native.Mathlib.Omega.{arith}
use borrow.Author.Tests.{ltb-true}
use lib.Dec.{eqb}
use Rattle.index_types.specs.Slots.{entry, stored}
use Rattle.numbers.proofs.Bools.{and_left}
use Rattle.geometry.specs.declared.point.Point.{Point}
use Rattle.index_types.specs.declared.Aabb2D.{Aabb2D}
use Rattle.index_types.specs.Boxes.{aabb, overlaps}
use Rattle.tree_types.specs.declared.NodeFlags.{NodeFlags}
use Rattle.index_query.specs.Query.{slots}
use Rattle.index_query.proofs.Visits.{slots_next, point_slots_lem}
use Rattle.index_state.specs.Index.{point_slots}
use Rattle.tree_state.specs.declared.Tree.{Tree}
use Rattle.tree_state.specs.Tree.{position_of}
use Rattle.tree_state.specs.Sound.{Live}
use Rattle.tree_steps.specs.Requests.{Best, nobody, keep_of, payloads, fine, next, strongest, hit_node}
use Rattle.tree_verdicts.specs.Held.{Held, Asked}
use Rattle.tree_listings.proofs.entries.Entries.{node_of, visited, visits_used, carries_live, keep_slots}
use Rattle.tree_taps.specs.fine.Fine.{Shown, Tappable}
use Rattle.tree_taps.specs.candidates.Candidates.{candidate}

unseen : (p m o f : Bool) → m ≡ false → p && (m && o) && f ≡ false
unseen true m o f e = rw e
unseen false m o f e = refl

module _ (t : Tree) where
  strongest_snoc : (b : Best) (l : List ℕ) (x : ℕ) → strongest t b (l ++ (x ∷ [])) ≡ next t x (strongest t b l)
  unfolding strongest
  strongest_snoc b [] x = refl
  strongest_snoc b (y ∷ l) x = strongest_snoc (next t y b) l x

  -- a live slot of a sound tree
  pub live_shown : Held t → (x : ℕ) → Live t x → Shown t x
  live_shown H x l = record { low = H.low x l; place_fits = ltb-true (position_of t x) t.links.count l }

  -- the node of a visited entry
  pub seen_shown : (here : Aabb2D) → Tappable t → (k : ℕ) → k < 512 → visited t here k ≡ true → Shown t (node_of t k)
  seen_shown here T k h e = T.carried k h (visits_used t.index here k e)

  -- a sound tree that needs no commit
  pub tappable : Asked t → Tappable t
  tappable A =
      let H = A.held in
      record {
        ranged = H.ranged;
        depths = H.whole.links.depth;
        carried = λ k h n. live_shown H (node_of t k) (carries_live t H A.no_need k h n);
      }

  module _ (asked : NodeFlags) (pt : Point) (here : Aabb2D) where
    abbrev taken : ℕ → Bool
    taken = candidate t asked pt here

    -- its node, of a candidate
    pub taken_shown : Tappable t → (k : ℕ) → k < 512 → taken k ≡ true → Shown t (node_of t k)
    taken_shown A k h e = seen_shown here A k h (and_left (visited t here k) (fine t asked pt (node_of t k)) e)

    -- the strongest of the candidates among the first k entries
    abbrev pub Tapping : Best → ℕ → Type 0
    Tapping b k = b ≡ strongest t nobody (map (node_of t) (slots k taken))

    pub tap_none : Tapping nobody 0
    unfolding slots strongest
    tap_none = refl

    pub tap_past : (b : Best) (k : ℕ) → taken k ≡ false → Tapping b k → Tapping b (k + 1)
    tap_past b k e T =
        let s : slots (k + 1) taken ≡ slots k taken = rw (slots_next k taken, e) (append-nil (slots k taken)) in
        rw s T

    pub tap_take : (b : Best) (k : ℕ) → taken k ≡ true → Tapping b k → Tapping (next t (node_of t k) b) (k + 1)
    tap_take b k e T =
        let s : slots (k + 1) taken ≡ slots k taken ++ (k ∷ []) = rw (slots_next k taken, e) in
        rw (s, map-append (node_of t) (slots k taken) (k ∷ []), strongest_snoc nobody (map (node_of t) (slots k taken)) (node_of t k), ← T)

    -- nothing is visited beyond what is used
    tap_beyond : (b : Best) (u d : ℕ) → ((k : ℕ) → u ≤ k → (entry t.index k).mark ≡ 0) → Tapping b u → Tapping b (u + d)
    tap_beyond b u zero h T = let e : u + 0 ≡ u = omega arith in rw e T
    tap_beyond b u (suc d) h T =
        let x = u + d in
        let e : u + suc d ≡ x + 1 = omega arith in
        rw e
        (tap_past b x
        (unseen (not (eqb (stored t.index x).present 0)) (not (eqb (entry t.index x).mark 0)) (overlaps (stored t.index x).aabb here) (fine t asked pt (node_of t x)) (rw (h x (omega arith))))
        (tap_beyond b u d h T))

  -- all entries that are used are looked at
  pub tap_ends : (asked : NodeFlags) (pt : Point) (here : Aabb2D) (b : Best) (k : ℕ) → Tappable t → here ≡ aabb pt.x pt.y pt.x pt.y → k ≡ t.index.used → Tapping asked pt here b k → b ≡ hit_node t asked pt
  unfolding hit_node point_slots
  tap_ends asked pt here b k H g u T =
      let point = aabb pt.x pt.y pt.x pt.y in
      let d = 512 - k in
      let e : k + d ≡ 512 = omega (arith, H.ranged.used_fits) in
      let W : Tapping asked pt point b 512 = rw (← e, ← g) (tap_beyond asked pt here b k d (λ j h. H.ranged.beyond j (omega arith)) T) in
      W
      ∙ ap (strongest t nobody)
      (sym (keep_slots (node_of t) (visited t point) (fine t asked pt) 512)
      ∙ ap (λ (l : List ℕ). keep_of (fine t asked pt) (payloads t l)) (point_slots_lem t.index pt.x pt.y))
