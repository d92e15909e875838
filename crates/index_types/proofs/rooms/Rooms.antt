-- Ids in front of lent room: one more behind them.
use mathlib.Core.Path.{◌≡◌, refl, sym, ap, ◌∙◌}
use mathlib.Core.Bool.{Bool, true, false, cond}
use mathlib.Core.List.{List, [], ◌∷◌, ◌++◌, append_assoc}
use Prim.Native.Nat.{ℕ, ◌+◌, ◌*◌, ◌≤◌}
use native.Mathlib.Nat.{mul-suc}
use native.Mathlib.Omega.{arith}
use lib.ListN.{length, take, drop, length-append, length-drop}
use lib.Seq.{sets-eq, take_at, drop_at, drop-drop, length-take-le, length-sets}
use Rattle.index_types.specs.declared.NodeId.{NodeId}
use Rattle.index_types.specs.rooms.Tables.{of_id, put_id}
use Rattle.index_types.specs.rooms.Rooms.{numbers_of, ids_in_front}

pub numbers_length : (is : List NodeId) → length (numbers_of is) ≡ 2 * length is
numbers_length [] = refl
numbers_length (i ∷ is) = rw (numbers_length is, mul-suc 2 (length is)) (omega arith)

numbers_append : (is : List NodeId) (i : NodeId) → numbers_of (is ++ (i ∷ [])) ≡ numbers_of is ++ of_id i
numbers_append [] i = refl
numbers_append (j ∷ is) i = rw (numbers_append is i)

pub front_none : (room : List ℕ) → ids_in_front [] room ≡ room
unfolding ids_in_front
front_none room = refl

module _ (is : List NodeId) (room : List ℕ) (h : 2 * length is + 2 ≤ length room) (i : NodeId) where
  abbrev n : ℕ
  n = 2 * length is

  abbrev fl : length (numbers_of is) ≡ n
  fl = numbers_length is

  more : length (numbers_of is ++ of_id i) ≡ n + 2
  more = rw (length-append (numbers_of is) (of_id i), fl)

  -- written behind those that stand there
  pub front_one : put_id (ids_in_front is room) (length is) i ≡ ids_in_front (is ++ (i ∷ [])) room
  unfolding ids_in_front put_id
  front_one =
      let l = numbers_of is ++ drop n room in
      let long : n + 2 ≤ length l = rw (length-append (numbers_of is) (drop n room), fl, length-drop n room) (omega arith) in
      rw (fl, sets-eq (of_id i) l n long, take_at (numbers_of is) (drop n room) n fl, ← drop-drop 2 n l, drop_at (numbers_of is) (drop n room) n fl, drop-drop 2 n room, numbers_append is i, more)

  -- written before those that are to stand in front of it
  pub back_one : ids_in_front is (put_id room (length is) i) ≡ ids_in_front (is ++ (i ∷ [])) room
  unfolding ids_in_front put_id
  back_one =
      let rest = of_id i ++ drop (n + 2) room in
      let tl : length (take n room) ≡ n = length-take-le n room (omega arith) in
      let e : drop n (put_id room (length is) i) ≡ rest = ap (drop n) (sets-eq (of_id i) room n h ∙ append_assoc (take n room) (of_id i) (drop (n + 2) room)) ∙ drop_at (take n room) rest n tl in
      rw (fl, e, numbers_append is i, more) (sym (append_assoc (numbers_of is) (of_id i) (drop (n + 2) room)))

-- an id leaves the room's length
pub put_length : (room : List ℕ) (n : ℕ) (i : NodeId) → length (put_id room n i) ≡ length room
unfolding put_id
put_length room n i = length-sets room (2 * n) (of_id i)

pub push_length : (b : Bool) (room : List ℕ) (n : ℕ) (i : NodeId) → length (cond b (put_id room n i) room) ≡ length room
push_length true room n i = put_length room n i
push_length false room n i = refl
