-- The path to the root: how many places are less deep, and the loop that writes them.
use mathlib.Core.Path.{◌≡◌, sym, ap, ◌∙◌}
use mathlib.Core.Bool.{true, ◌&&◌}
use mathlib.Core.List.{List, [], ◌∷◌, ◌++◌, reverse, reverse-cons, map, map-append}
use Prim.Native.Nat.{ℕ, zero, suc, ◌+◌, ◌-◌, ◌≤◌, ◌<◌}
use native.Mathlib.Omega.{arith}
use native.Mathlib.Decide.{dec_lt}
use borrow.Author.Tests.{leb-true}
use lib.Dec.{leb}
use lib.ListN.{length, get_or, take, length-reverse, length-map}
use lib.Seq.{get_or-take, length-take-le}
use Rattle.numbers.proofs.Bools.{and_left, and_right}
use Rattle.link_forest.specs.Table.{less_deep, depths_from}
use Rattle.link_table.proofs.depths.Depths.{depth_small}
use Rattle.index_types.specs.declared.NodeId.{NodeId}
use Rattle.index_types.specs.rooms.Tables.{put_id}
use Rattle.index_types.proofs.rooms.Rooms.{back_one, front_none}
use Rattle.tree_state.specs.declared.Tree.{Tree}
use Rattle.tree_state.specs.Tree.{id_at, position_of}
use Rattle.tree_steps.specs.Commit.{ancestors}
use Rattle.tree_steps.specs.Requests.{ids_in_front, path_to}
use Rattle.tree_verdicts.specs.Held.{Held}
use Rattle.tree_taps.proofs.fine.Climb.{back_none, back_here, back_past, turn_here, turn_past}
pub use Rattle.tree_taps.proofs.fine.Climb.{back}

-- ---- the depths belong to some forest

shape_at : (b : ℕ) (ds : List ℕ) → depths_from b ds ≡ true → (j : ℕ) → j < length ds → (1 ≤ get_or ds j 0) × (get_or ds j 0 ≤ suc (get_or (b ∷ ds) j 0))
unfolding depths_from
shape_at b [] e j h = absurd (omega arith)
shape_at b (d ∷ ds) e zero h =
    let p = and_left (leb 1 d && leb d (suc b)) (depths_from d ds) e in
    (leb-true 1 d (and_left (leb 1 d) (leb d (suc b)) p), leb-true d (suc b) (and_right (leb 1 d) (leb d (suc b)) p))
shape_at b (d ∷ ds) e (suc j) h = shape_at d ds (and_right (leb 1 d && leb d (suc b)) (depths_from d ds) e) j (omega arith)

module _ (n : ℕ) (ds : List ℕ) (fits : n ≤ length ds) (shape : depths_from 0 (take n ds) ≡ true) where
  pub deep_one : (j : ℕ) → j < n → 1 ≤ get_or ds j 0
  deep_one j h = rw (← get_or-take n ds j 0 h) (shape_at 0 (take n ds) shape j (omega (arith, length-take-le n ds fits))).0

  pub deep_most : (j : ℕ) → j < n → get_or ds j 0 ≤ j + 1
  deep_most j h = rw (← get_or-take n ds j 0 h) (omega (arith, depth_small 0 (take n ds) shape j))

  deep_first : 0 < n → get_or ds 0 0 ≤ 1
  deep_first h = rw (← get_or-take n ds 0 0 h) (shape_at 0 (take n ds) shape 0 (omega (arith, length-take-le n ds fits))).1

  deep_next : (j : ℕ) → suc j < n → get_or ds (suc j) 0 ≤ suc (get_or ds j 0)
  deep_next j h = rw (← get_or-take n ds (suc j) 0 h, ← get_or-take n ds j 0 (omega arith)) (shape_at 0 (take n ds) shape (suc j) (omega (arith, length-take-le n ds fits))).1

  -- one less than the depth
  pub back_count : (xs : List ℕ) → n ≤ length xs → (j d : ℕ) → j < n → 1 ≤ d → d ≤ get_or ds j 0 → suc (length (back d xs ds j)) ≡ d
  back_count xs lx zero d h o l = rw (back_none d xs ds) (omega (arith, deep_first h))
  back_count xs lx (suc j) d h o l =
      elim (dec_lt (get_or ds j 0) d) [
        | yes y ↦
            rw (back_here d j xs ds (omega arith) (omega arith) y)
            (omega (arith, deep_next j h, back_count xs lx j (get_or ds j 0) (omega arith) (deep_one j (omega arith)) (omega arith)))
        | no m ↦ rw (back_past d j xs ds (omega arith) (omega arith) (omega arith)) (back_count xs lx j d (omega arith) o (omega arith))
      ]

-- ---- the path: what is still to be written stands in front of the room

pub path_none : (id : ℕ → NodeId) (room : List ℕ) (d : ℕ) (xs ds : List ℕ) → ids_in_front (map id (reverse (back d xs ds 0))) room ≡ room
unfolding less_deep
path_none id room d xs ds = front_none room

module _ (id : ℕ → NodeId) (room : List ℕ) (long : 512 ≤ length room) where
  -- one more is written, at the place of its depth
  pub path_one : (y : ℕ) (l : List ℕ) (e : ℕ) → suc (length l) ≡ e → e ≤ 256
      → ids_in_front (map id (reverse (y ∷ l))) room ≡ ids_in_front (map id (reverse l)) (put_id room (e - 1) (id y))
  path_one y l e h f =
      let is = map id (reverse l) in
      let m : length is ≡ e - 1 = length-map (reverse l) id ∙ length-reverse l ∙ omega arith in
      let s : map id (reverse (y ∷ l)) ≡ is ++ (id y ∷ []) = ap (map id) (reverse-cons y l) ∙ map-append id (reverse l) (y ∷ []) in
      rw (s, ← m) (sym (back_one is room (omega arith) (id y)))

pub path_length : (id : ℕ → NodeId) (y : ℕ) (l : List ℕ) → length (map id (reverse (y ∷ l))) ≡ suc (length l)
path_length id y l = length-map (reverse (y ∷ l)) id ∙ length-reverse (y ∷ l)

-- the loop that writes it, over the table
module _ (id : ℕ → NodeId) (n : ℕ) (xs ds : List ℕ) (small : n ≤ 256) (lx : n ≤ length xs) (ld : n ≤ length ds) (shape : depths_from 0 (take n ds) ≡ true) where
  -- what is still to be written when the place j is reached at the depth d
  abbrev pub rest : ℕ → ℕ → List NodeId
  rest d j = map id (reverse (back d xs ds j))

  count_at : (j : ℕ) → j < n → suc (length (back (get_or ds j 0) xs ds j)) ≡ get_or ds j 0
  count_at j h = back_count n ds ld shape xs lx j (get_or ds j 0) h (deep_one n ds ld shape j h) (omega arith)

  pub path_turn : (room goal : List ℕ) (d j : ℕ) → 0 < j → j < n → get_or ds (j - 1) 0 < d → 512 ≤ length room → ids_in_front (rest d j) room ≡ goal
      → ids_in_front (rest (get_or ds (j - 1) 0) (j - 1)) (put_id room (get_or ds (j - 1) 0 - 1) (id (get_or xs (j - 1) 0))) ≡ goal
  path_turn room goal d j p h m long inv =
      let y = get_or xs (j - 1) 0 in
      let k = get_or ds (j - 1) 0 in
      sym (path_one id room long y (back k xs ds (j - 1)) k (count_at (j - 1) (omega arith)) (omega (arith, deep_most n ds ld shape (j - 1) (omega arith))))
      ∙ ap (λ (q : List ℕ). ids_in_front (map id (reverse q)) room) (sym (turn_here d j xs ds p (omega arith) (omega arith) m))
      ∙ inv

  pub path_skip : (room goal : List ℕ) (d j : ℕ) → 0 < j → j < n → d ≤ get_or ds (j - 1) 0 → ids_in_front (rest d j) room ≡ goal → ids_in_front (rest d (j - 1)) room ≡ goal
  path_skip room goal d j p h m inv = ap (λ (q : List ℕ). ids_in_front (map id (reverse q)) room) (sym (turn_past d j xs ds p (omega arith) (omega arith) m)) ∙ inv

-- ---- over a sound tree

module _ (t : Tree) (H : Held t) where
  long_order : t.links.count ≤ length t.links.order
  long_order = omega (arith, H.count_fits, H.whole.links.order)

  long_depth : t.links.count ≤ length t.links.depth
  long_depth = omega (arith, H.count_fits, H.whole.links.depth)

  pub depth_one : (j : ℕ) → j < t.links.count → 1 ≤ get_or t.links.depth j 0
  depth_one j h = deep_one t.links.count t.links.depth long_depth H.depths j h

  pub depth_most : (j : ℕ) → j < t.links.count → get_or t.links.depth j 0 ≤ 256
  depth_most j h = omega (arith, H.count_fits, deep_most t.links.count t.links.depth long_depth H.depths j h)

  -- what is still to be written when the place j is reached at the depth d
  abbrev pub left : ℕ → ℕ → List NodeId
  left d j = map (id_at t) (reverse (back d t.links.order t.links.depth j))

  module _ (room : List ℕ) (long : 512 ≤ length room) where
    pub path_begins : (x at : ℕ) → at ≡ position_of t x → at < t.links.count
        → ids_in_front (left (get_or t.links.depth at 0) at) (put_id room (get_or t.links.depth at 0 - 1) (id_at t x)) ≡ ids_in_front (path_to t x) room
    unfolding path_to ancestors
    path_begins x at e h =
        let k = get_or t.links.depth at 0 in
        rw (← e)
        (sym (path_one (id_at t) room long x (back k t.links.order t.links.depth at) k (count_at (id_at t) t.links.count t.links.order t.links.depth H.count_fits long_order long_depth H.depths at h) (depth_most at h)))

    pub path_written : (goal : List ℕ) (d j : ℕ) → 0 < j → j < t.links.count → get_or t.links.depth (j - 1) 0 < d → ids_in_front (left d j) room ≡ goal
        → ids_in_front (left (get_or t.links.depth (j - 1) 0) (j - 1)) (put_id room (get_or t.links.depth (j - 1) 0 - 1) (id_at t (get_or t.links.order (j - 1) 0))) ≡ goal
    path_written goal d j p h m inv = path_turn (id_at t) t.links.count t.links.order t.links.depth H.count_fits long_order long_depth H.depths room goal d j p h m long inv

  pub path_skipped : (room goal : List ℕ) (d j : ℕ) → 0 < j → j < t.links.count → d ≤ get_or t.links.depth (j - 1) 0 → ids_in_front (left d j) room ≡ goal → ids_in_front (left d (j - 1)) room ≡ goal
  path_skipped room goal d j p h m inv = path_skip (id_at t) t.links.count t.links.order t.links.depth H.count_fits long_order long_depth H.depths room goal d j p h m inv

  pub path_ends : (room goal : List ℕ) (d j : ℕ) → j ≤ 0 → ids_in_front (left d j) room ≡ goal → room ≡ goal
  path_ends room goal d j h inv = let e : j ≡ 0 = omega arith in sym (path_none (id_at t) room d t.links.order t.links.depth) ∙ (rw e at inv)

  pub path_deep : (x at : ℕ) → at ≡ position_of t x → at < t.links.count → get_or t.links.depth at 0 ≡ length (path_to t x)
  unfolding path_to ancestors
  path_deep x at e h =
      let k = get_or t.links.depth at 0 in
      rw (← e)
      (sym (path_length (id_at t) x (back k t.links.order t.links.depth at) ∙ count_at (id_at t) t.links.count t.links.order t.links.depth H.count_fits long_order long_depth H.depths at h))
