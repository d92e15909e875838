-- The entries of a sound tree that needs no commit: the nodes that they carry, and the loop that lists some of them.
use mathlib.Core.Path.{◌≡◌, refl, sym, ap, ◌∙◌}
use mathlib.Core.Bool.{Bool, true, false, not, ◌&&◌, ◌||◌, cond}
use mathlib.Core.List.{List, [], ◌∷◌, ◌++◌, map, map-append, append-nil}
use Prim.Native.Nat.{ℕ, zero, suc, ◌+◌, ◌≤◌, ◌<◌}
use native.Mathlib.Omega.{arith}
use native.Mathlib.Decide.{ℕ_discrete, dec_lt}
use borrow.Author.Tests.{eq-eqb, not-true}
use lib.Dec.{eqb, ltb}
use lib.ListN.{length, length-append, length-map}
use Rattle.numbers.proofs.Bools.{and_left, and_right}
use Rattle.counting.specs.Times.{tally, times}
use Rattle.counting.proofs.Counting.{hit, miss, times_append, shorter}
use Rattle.counting.proofs.Kit.{contra}
use Rattle.geometry.specs.declared.point.Point.{Point}
use Rattle.geometry.specs.declared.rect.Rect.{Rect}
use Rattle.geometry.specs.Rectangle.{rect}
use Rattle.index_types.specs.declared.Aabb2D.{Aabb2D}
use Rattle.index_types.specs.declared.NodeId.{NodeId}
use Rattle.index_types.specs.declared.Index.{Index}
use Rattle.index_types.specs.Slots.{entry, stored}
use Rattle.index_types.specs.Boxes.{aabb, contains_point, overlaps}
use Rattle.index_types.specs.rooms.Tables.{put_id}
use Rattle.index_types.proofs.rooms.Rooms.{front_one, front_none}
use Rattle.tree_types.specs.declared.NodeFlags.{NodeFlags}
use Rattle.tree_types.specs.Local.{has_all, rect_to_aabb}
use Rattle.index_query.specs.Query.{visits, slots}
use Rattle.index_query.proofs.Visits.{slots_next, point_rect, point_slots_lem}
use Rattle.index_state.specs.Index.{rect_slots, point_slots}
use Rattle.tree_state.specs.declared.Tree.{Tree}
use Rattle.tree_state.specs.Tree.{live_slots, id_at, local_at, stored_bounds, key_at, entry_mark, marked_at, is_removed, some, any_of, needs_commit}
use Rattle.tree_state.specs.Sound.{Live}
use Rattle.tree_steps.specs.Requests.{keep_of, payloads, rect_nodes, point_nodes, ids_in_front}
use Rattle.tree_verdicts.specs.Held.{Held, Asked, Accepted}
pub use Rattle.tree_listings.specs.entries.Entries.{node_of, visited, meets, takes}

or_left : (a b : Bool) → a || b ≡ false → a ≡ false
or_left true b e = e
or_left false b e = refl

or_right : (a b : Bool) → a || b ≡ false → b ≡ false
or_right true b e = absurd (contra refl e)
or_right false b e = e

-- ---- the node that an entry carries

some_none : (p : ℕ → Bool) (n : ℕ) → some n p ≡ false → (k : ℕ) → k < n → p k ≡ false
unfolding some
some_none p zero e k h = absurd (omega arith)
some_none p (suc n) e k h =
    elim (ℕ_discrete k n) [
      | yes q ↦ rw q (or_right (some n p) (p n) e)
      | no m ↦ some_none p n (or_left (some n p) (p n) e) k (omega arith)
    ]

module _ (t : Tree) (H : Held t) (q : needs_commit t ≡ false) where
  none_removed : (k : ℕ) → k < 512 → is_removed (entry_mark t k) ≡ false
  unfolding needs_commit
  none_removed k h =
      let a = any_of (marked_at t) (live_slots t) in
      let b = some 512 (λ k. is_removed (entry_mark t k)) in
      some_none (λ k. is_removed (entry_mark t k)) 512 (or_right a b (or_left (a || b) (ltb 0 t.pending.count) q)) k h

  module _ (k : ℕ) (h : k < 512) (n : entry_mark t k ≡ 0 → ⊥) where
    pub carries_live : Live t (node_of t k)
    carries_live =
        let W = H.sound.owned k h n (none_removed k h) in
        rw (ap (λ (i : NodeId). i.0) W.3.carries) W.1

    carries_own : (key_at t (node_of t k)).0 ≡ k
    carries_own =
        let W = H.sound.owned k h n (none_removed k h) in
        rw (ap (λ (i : NodeId). i.0) W.3.carries) W.3.slot

-- a visited entry is in use
pub visits_used : (ix : Index) (rect : Aabb2D) (k : ℕ) → visits ix rect k ≡ true → (entry ix k).mark ≡ 0 → ⊥
visits_used ix rect k e z =
    let m = not (eqb (entry ix k).mark 0) in
    let o = overlaps (stored ix k).aabb rect in
    let f : m ≡ true = and_left m o (and_right (not (eqb (stored ix k).present 0)) (m && o) e) in
    contra (eq-eqb (entry ix k).mark 0 z) (not-true (eqb (entry ix k).mark 0) f)

-- ---- which nodes are listed

keep_append : (p : ℕ → Bool) (a b : List ℕ) → keep_of p (a ++ b) ≡ keep_of p a ++ keep_of p b
unfolding keep_of
keep_append p [] b = refl
keep_append p (x ∷ a) b = by_case (p x) (keep_append p a b)
  where
    by_case : (c : Bool) → keep_of p (a ++ b) ≡ keep_of p a ++ keep_of p b → cond c (x ∷ keep_of p (a ++ b)) (keep_of p (a ++ b)) ≡ cond c (x ∷ keep_of p a) (keep_of p a) ++ keep_of p b
    by_case true e = rw e
    by_case false e = e

keep_same : (p q : ℕ → Bool) → ((x : ℕ) → p x ≡ q x) → (l : List ℕ) → keep_of p l ≡ keep_of q l
unfolding keep_of
keep_same p q h [] = refl
keep_same p q h (x ∷ l) = rw (h x, keep_same p q h l)

module _ (g : ℕ → ℕ) (v p : ℕ → Bool) where
  keep_one : (n : ℕ) (c : Bool) → keep_of p (map g (cond c (n ∷ []) [])) ≡ map g (cond (c && p (g n)) (n ∷ []) [])
  unfolding keep_of
  keep_one n false = refl
  keep_one n true = by_case (p (g n))
    where
      by_case : (c : Bool) → cond c (g n ∷ []) [] ≡ map g (cond c (n ∷ []) [])
      by_case true = refl
      by_case false = refl

  -- of those that pass the first test the nodes that pass the second: the nodes of those that pass both
  pub keep_slots : (n : ℕ) → keep_of p (map g (slots n v)) ≡ map g (slots n (λ k. v k && p (g k)))
  unfolding slots keep_of
  keep_slots zero = refl
  keep_slots (suc n) =
      rw (map-append g (slots n v) (cond (v n) (n ∷ []) []), keep_append p (map g (slots n v)) (map g (cond (v n) (n ∷ []) [])), keep_slots n, keep_one n (v n))
      (sym (map-append g (slots n (λ k. v k && p (g k))) (cond (v n && p (g n)) (n ∷ []) [])))

-- ---- they are few: no two entries carry one node

module _ (entry g : ℕ → ℕ) (p : ℕ → Bool) (own : (k : ℕ) → k < 512 → p k ≡ true → (g k < 256) × (entry (g k) ≡ k)) where
  times_taken : (x k : ℕ) (l : List ℕ) (b : Bool) → times x (map g (l ++ cond b (k ∷ []) [])) ≡ times x (map g l) + times x (map g (cond b (k ∷ []) []))
  times_taken x k l b = rw (map-append g l (cond b (k ∷ []) [])) (times_append x (map g l) (map g (cond b (k ∷ []) [])))

  record Once (x n : ℕ) : Type 0 where
    once : times x (map g (slots n p)) ≤ 1
    later : n ≤ entry x → times x (map g (slots n p)) ≡ 0
    low : 256 ≤ x → times x (map g (slots n p)) ≡ 0

  step : (x n : ℕ) (b : Bool) → p n ≡ b → n < 512 → Once x n → times x (map g (slots (suc n) p)) ≡ times x (map g (slots n p)) + times x (map g (cond b (n ∷ []) [])) → Once x (suc n)
  unfolding times
  step x n false e h O s =
      let o = O.once in
      record { once = omega (arith, s); later = λ l. omega (arith, s, O.later (omega arith)); low = λ l. omega (arith, s, O.low l) }
  step x n true e h O s =
      let w = own n h e in
      elim (ℕ_discrete x (g n)) [
        | yes q ↦
            let z : entry x ≡ n = rw q w.1 in
            let o = one_hit x q in
            record {
              once = omega (arith, s, o, O.later (omega arith));
              later = λ l. absurd (omega (arith, z));
              low = λ l. absurd (omega (arith, w.0, q));
            }
        | no m ↦
            let o = miss x (g n) m in
            let u = O.once in
            record { once = omega (arith, s, o); later = λ l. omega (arith, s, o, O.later (omega arith)); low = λ l. omega (arith, s, o, O.low l) }
      ]
    where
      one_hit : (y : ℕ) → y ≡ g n → tally (eqb y (g n)) ≡ 1
      one_hit y q = rw q (hit (g n))

  each : (x n : ℕ) → n ≤ 512 → Once x n
  unfolding slots times
  each x zero h = record { once = omega arith; later = λ l. refl; low = λ l. refl }
  each x (suc n) h = step x n (p n) refl (omega arith) (each x n (omega arith)) (times_taken x n (slots n p) (p n))

  pub few : (n : ℕ) → n ≤ 512 → length (slots n p) ≤ 256
  few n h =
      let l = map g (slots n p) in
      omega (arith, length-map (slots n p) g, shorter 257 256 l (λ x. (each x n h).once) (λ x m. (each x n h).low (omega arith)) (omega arith) ((each 256 n h).low (omega arith)))

-- ---- the loop: one more entry is looked at

pub record Listing (id : ℕ → NodeId) (p : ℕ → Bool) (room₀ room : List ℕ) (n k : ℕ) : Type 0 where
  pub lies : room ≡ ids_in_front (map id (slots k p)) room₀
  pub many : n ≡ length (slots k p)

module _ (id : ℕ → NodeId) (p : ℕ → Bool) (room₀ : List ℕ) where
  pub listing_none : Listing id p room₀ room₀ 0 0
  unfolding slots
  listing_none = record { lies = sym (front_none room₀); many = refl }

  pub slots_more : (k : ℕ) → p k ≡ true → length (slots (k + 1) p) ≡ length (slots k p) + 1
  slots_more k e = rw (slots_next k p, e) (length-append (slots k p) (k ∷ []))

  pub listing_takes : (room : List ℕ) (n k : ℕ) → Listing id p room₀ room n k → 512 ≤ length room₀ → length (slots (k + 1) p) ≤ 256 → p k ≡ true
      → Listing id p room₀ (put_id room n (id k)) (n + 1) (k + 1)
  listing_takes room n k L h f e =
      let s : slots (k + 1) p ≡ slots k p ++ (k ∷ []) = rw (slots_next k p, e) in
      let m : length (map id (slots k p)) ≡ n = length-map (slots k p) id ∙ sym L.many in
      let g = slots_more k e in
      record {
        lies = rw (L.lies, ← m, s, map-append id (slots k p) (k ∷ [])) (front_one (map id (slots k p)) room₀ (omega (arith, L.many)) (id k));
        many = rw (L.many, g);
      }

  pub listing_passes : (room : List ℕ) (n k : ℕ) → Listing id p room₀ room n k → p k ≡ false → Listing id p room₀ room n (k + 1)
  listing_passes room n k L e =
      let s : slots (k + 1) p ≡ slots k p = rw (slots_next k p, e) (append-nil (slots k p)) in
      record { lies = rw s L.lies; many = rw s L.many }

  -- nothing is taken beyond what is used
  slots_used : (u n : ℕ) → u ≤ n → ((k : ℕ) → u ≤ k → p k ≡ false) → slots u p ≡ slots n p
  unfolding slots
  slots_used u zero h f = let e : u ≡ 0 = omega arith in rw e
  slots_used u (suc n) h f =
      elim (dec_lt n u) [
        | yes l ↦ (let e : u ≡ suc n = omega arith in rw e)
        | no g ↦ slots_used u n (omega arith) f ∙ sym (rw (f n (omega arith)) (append-nil (slots n p)))
      ]

  pub listing_used : (room : List ℕ) (n u : ℕ) → u ≤ 512 → ((k : ℕ) → u ≤ k → p k ≡ false) → Listing id p room₀ room n u → Listing id p room₀ room n 512
  listing_used room n u h f L =
      let e = slots_used u 512 h f in
      record { lies = rw (← e) L.lies; many = rw (← e) L.many }

-- ---- a tree's listing by a rectangle

unmet : (p m o q : Bool) → m ≡ false → p && (m && o) && q ≡ false
unmet true m o q e = rw e
unmet false m o q e = refl

map_map : {A B C : Type 0} (f : B → C) (g : A → B) (l : List A) → map f (map g l) ≡ map (λ x. f (g x)) l
map_map f g [] = refl
map_map f g (x ∷ l) = rw (map_map f g l)

abbrev pub asked_of : {t : Tree} {n : ℕ} → Accepted t n → Asked t
asked_of a = record { held = a.held; no_need = a.no_need }

module _ (t : Tree) where
  abbrev pub id_of : ℕ → NodeId
  id_of k = id_at t (node_of t k)

  module _ (rect : Aabb2D) where
    -- a visited entry is in use, so its node is live
    seen_used : (k : ℕ) → visited t rect k ≡ true → entry_mark t k ≡ 0 → ⊥
    seen_used k = visits_used t.index rect k

    pub seen_live : Asked t → (k : ℕ) → k < 512 → visited t rect k ≡ true → Live t (node_of t k)
    seen_live A k h e = carries_live t A.held A.no_need k h (seen_used k e)

    module _ (asked : NodeFlags) where
      -- an empty slot is not taken
      pub not_taken : (k : ℕ) → (entry t.index k).mark ≡ 0 → takes t asked rect k ≡ false
      not_taken k z = unmet (not (eqb (stored t.index k).present 0)) (not (eqb (entry t.index k).mark 0)) _ _ (rw z)

      taken_seen : (k : ℕ) → takes t asked rect k ≡ true → visited t rect k ≡ true
      taken_seen k e = and_left (visited t rect k) (meets t asked rect (node_of t k)) e

      module _ (A : Asked t) where
        -- what a taken entry gives
        pub taken_low : (k : ℕ) → k < 512 → takes t asked rect k ≡ true → node_of t k < 256
        taken_low k h e = A.held.low (node_of t k) (seen_live A k h (taken_seen k e))

        pub taken_few : (k : ℕ) → k ≤ 512 → length (slots k (takes t asked rect)) ≤ 256
        taken_few k h =
            few (λ x. (key_at t x).0) (node_of t) (takes t asked rect)
            (λ j l e. (taken_low j l e, carries_own t A.held A.no_need j l (seen_used j (taken_seen j e))))
            k
            h

        -- there is room for one more
        pub taken_fits : (k : ℕ) → k < 512 → takes t asked rect k ≡ true → length (slots k (takes t asked rect)) < 256
        taken_fits k h e = omega (arith, slots_more id_of (takes t asked rect) [] k e, taken_few (k + 1) (omega arith))

  pub rect_listed : (asked : NodeFlags) (r : Rect) → rect_nodes t asked r ≡ map id_of (slots 512 (takes t asked (rect_to_aabb r)))
  unfolding rect_nodes rect_slots
  rect_listed asked r =
      ap (map (id_at t)) (keep_slots (node_of t) (visited t (rect_to_aabb r)) (meets t asked (rect_to_aabb r)) 512)
      ∙ map_map (id_at t) (node_of t) (slots 512 (takes t asked (rect_to_aabb r)))

  -- all entries that are used are looked at
  pub listed : (asked : NodeFlags) (r : Rect) (given : Aabb2D) (room₀ room : List ℕ) (n k : ℕ) → Held t → given ≡ rect_to_aabb r → k ≡ t.index.used → Listing id_of (takes t asked given) room₀ room n k
      → (room ≡ ids_in_front (rect_nodes t asked r) room₀) × (n ≡ length (rect_nodes t asked r))
  listed asked r given room₀ room n k H g u L =
      let I = H.sound.index in
      let p = takes t asked given in
      let W = listing_used id_of p room₀ room n k (omega (arith, I.used_fits)) (λ j h. not_taken given asked j (I.beyond j (omega arith))) L in
      let e : rect_nodes t asked r ≡ map id_of (slots 512 p) = rw g (rect_listed asked r) in
      rw e (W.lies, W.many ∙ sym (length-map (slots 512 p) id_of))

  pub point_listed : (asked : NodeFlags) (pt : Point) → point_nodes t asked pt ≡ rect_nodes t asked (rect pt.x pt.y pt.x pt.y)
  unfolding point_nodes rect_nodes rect_slots point_slots
  point_listed asked pt =
      let flags : ℕ → Bool = λ x. has_all (local_at t x).flags asked in
      let box : ℕ → Aabb2D = λ x. rect_to_aabb (stored_bounds t x) in
      let point : ℕ → Bool = λ x. flags x && contains_point (box x) pt.x pt.y in
      let given : ℕ → Bool = λ x. flags x && overlaps (box x) (aabb pt.x pt.y pt.x pt.y) in
      ap (map (id_at t))
      (keep_same point given (λ x. ap (λ (b : Bool). flags x && b) (point_rect (box x) pt.x pt.y)) (payloads t (point_slots t.index pt.x pt.y))
      ∙ ap (λ (l : List ℕ). keep_of given (payloads t l)) (sym (point_slots_lem t.index pt.x pt.y)))
