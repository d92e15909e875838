-- Lent room: one more box in front.
use mathlib.Core.Path.{◌≡◌, refl, sym}
use mathlib.Core.List.{List, [], ◌∷◌, ◌++◌}
use Prim.Native.Nat.{ℕ, ◌+◌, ◌*◌, ◌≤◌}
use native.Mathlib.Nat.{mul-suc}
use native.Mathlib.Omega.{arith}
use lib.ListN.{length, drop, length-append, length-drop}
use lib.Seq.{sets-eq, take_at, drop_at, drop-drop}
use lib.Ieee.{Float}
use Rattle.index_types.specs.declared.Aabb2D.{Aabb2D}
use Rattle.index_types.specs.rooms.Tables.{of_box, put_box}
use Rattle.index_types.proofs.rooms.Laws.{box_length}
use Rattle.std.specs.Prelude.{Option, Some, None}
use Rattle.index_commit.specs.Commit.{flat, boxes_in_front, boxes_with, room_with, count_with}

flat_length : (bs : List Aabb2D) → length (flat bs) ≡ 4 * length bs
unfolding flat
flat_length [] = refl
flat_length (b ∷ bs) = rw (length-append (of_box b) (flat bs), flat_length bs, mul-suc 4 (length bs)) (omega arith)

flat_append : (bs : List Aabb2D) (b : Aabb2D) → flat (bs ++ (b ∷ [])) ≡ flat bs ++ of_box b
unfolding flat
flat_append [] b = refl
flat_append (a ∷ bs) b = rw (flat_append bs b)

more : (bs : List Aabb2D) (b : Aabb2D) → length (bs ++ (b ∷ [])) ≡ length bs + 1
more bs b = length-append bs (b ∷ [])

-- no box leaves the room as it was
pub front_none : (room : List Float) → room ≡ boxes_in_front [] room
unfolding boxes_in_front flat
front_none room = refl

module _ (bs : List Aabb2D) (room : List Float) (h : 4 * length bs + 4 ≤ length room) where
  front_one : (b : Aabb2D) → put_box (boxes_in_front bs room) (length bs) b ≡ boxes_in_front (bs ++ (b ∷ [])) room
  unfolding put_box boxes_in_front
  front_one b =
      let n = 4 * length bs in
      let l = flat bs ++ drop n room in
      let fl = flat_length bs in
      let long : n + 4 ≤ length l = rw (length-append (flat bs) (drop n room), fl, length-drop n room) (omega arith) in
      let e : 4 * (length bs + 1) ≡ n + 4 = omega arith in
      rw (sets-eq (of_box b) l n long, take_at (flat bs) (drop n room) n fl, ← drop-drop 4 n l, drop_at (flat bs) (drop n room) n fl, drop-drop 4 n room, flat_append bs b, more bs b, e)

  pub front_push : (p : Option Aabb2D) → room_with (boxes_in_front bs room) (length bs) p ≡ boxes_in_front (boxes_with bs p) room
  front_push None = refl
  front_push (Some b) = front_one b

pub count_push : (bs : List Aabb2D) (p : Option Aabb2D) → count_with (length bs) p ≡ length (boxes_with bs p)
count_push bs None = refl
count_push bs (Some b) = sym (more bs b)

pub count_small : (n i : ℕ) (p : Option Aabb2D) → n ≤ i → count_with n p ≤ i + 1
count_small n i None h = omega arith
count_small n i (Some b) h = omega arith

pub push_length : (room : List Float) (n : ℕ) (p : Option Aabb2D) → length (room_with room n p) ≡ length room
push_length room n None = refl
push_length room n (Some b) = box_length room n b
