-- Joining one box more, what the union tells, and rooms that are long enough.
use mathlib.Core.Path.{◌≡◌, refl, sym, ◌∙◌}
use mathlib.Core.Bool.{Bool, true, false, ◌||◌}
use mathlib.Core.List.{List, [], ◌∷◌, ◌++◌, foldl}
use mathlib.Core.Option.{some}
use Prim.Native.Nat.{ℕ, ◌+◌, ◌*◌, ◌/◌, ◌≤◌}
use native.Mathlib.Nat.{le-div_iff_mul-le}
use native.Mathlib.Numerals.{add-one}
use native.Mathlib.Omega.{arith}
use borrow.Author.Tests.{ltb-false}
use lib.Dec.{ltb}
use lib.ListN.{length}
use lib.Ieee.{Float}
use Rattle.counting.specs.Conditions.{lowest, refused, gives}
use Rattle.counting.specs.Joined.{joined}
use Rattle.counting.proofs.Conditions.{told_refused, told_accepted}
use Rattle.index_types.specs.declared.Aabb2D.{Aabb2D}
use Rattle.index_types.specs.Boxes as box
use Rattle.index_types.specs.rooms.Tables.{box_at}
use Rattle.std.specs.Prelude as code
use Rattle.std.specs.Prelude.{Ok}
use Rattle.index_damage.specs.Damage.{with_box, join_all, boxes_in, moves_in, any_short_of, boxes_of, union_of, joined_told}

join_append : (u : code.Option Aabb2D) (bs cs : List Aabb2D) → join_all u (bs ++ cs) ≡ join_all (join_all u bs) cs
unfolding join_all
join_append u [] cs = refl
join_append u (b ∷ bs) cs = join_append (with_box u b) bs cs

-- code's union is the boxes joined one after the other
from_some : (a : Aabb2D) (bs : List Aabb2D) → joined_told (Ok (join_all (code.Some a) bs)) ≡ gives (some (foldl box.union a bs))
unfolding join_all with_box
from_some a [] = refl
from_some a (b ∷ bs) = from_some (box.union a b) bs

from_none : (bs : List Aabb2D) → joined_told (Ok (join_all code.None bs)) ≡ gives (joined box.union bs)
unfolding join_all with_box joined
from_none [] = refl
from_none (a ∷ bs) = from_some a bs

pub short_told : (added : List Float) (a : ℕ) (removed : List Float) (r : ℕ) (old new : List Float) (m : ℕ)
    → any_short_of (length added) a (length removed) r (length old) (length new) m ≡ true → refused 8 ≡ union_of added a removed r old new m
unfolding union_of lowest
short_told added a removed r old new m h = told_refused 7 _ (rw h) (joined box.union (boxes_of added a removed r old new m))

pub union_told : (added : List Float) (a : ℕ) (removed : List Float) (r : ℕ) (old new : List Float) (m : ℕ)
    → any_short_of (length added) a (length removed) r (length old) (length new) m ≡ false
    → joined_told (Ok (join_all (join_all (join_all code.None (boxes_in added a)) (boxes_in removed r)) (moves_in old new m))) ≡ union_of added a removed r old new m
unfolding union_of lowest
union_told added a removed r old new m h =
    rw (← join_append (join_all code.None (boxes_in added a)) (boxes_in removed r) (moves_in old new m), ← join_append code.None (boxes_in added a) (boxes_in removed r ++ moves_in old new m))
    (from_none (boxes_of added a removed r old new m) ∙ told_accepted _ (rw h) (joined box.union (boxes_of added a removed r old new m)))

pub boxes_next : (u : code.Option Aabb2D) (room : List Float) (i : ℕ) → join_all u (boxes_in room (i + 1)) ≡ with_box (join_all u (boxes_in room i)) (box_at room i)
unfolding boxes_in join_all
boxes_next u room i = rw (add-one i) (join_append u (boxes_in room i) (box_at room i ∷ []))

pub moves_next : (u : code.Option Aabb2D) (old new : List Float) (i : ℕ) → join_all u (moves_in old new (i + 1)) ≡ with_box (with_box (join_all u (moves_in old new i)) (box_at old i)) (box_at new i)
unfolding moves_in join_all
moves_next u old new i = rw (add-one i) (join_append u (moves_in old new i) (box_at old i ∷ box_at new i ∷ []))

or_none : (a b : Bool) → a || b ≡ false → (a ≡ false) × (b ≡ false)
or_none false false h = (refl, refl)
or_none false true h = (refl, h)
or_none true b h = (h, sym (cc))

holds : (len n : ℕ) → ltb (len / 4) n ≡ false → 4 * n ≤ len
holds len n h = let m : n * 4 ≤ len = (le-div_iff_mul-le {k = 4} {x = n} {y = len} (omega arith)).0 (ltb-false (len / 4) n h) in omega arith

pub long : (added a removed r old new m : ℕ) → any_short_of added a removed r old new m ≡ false → (4 * a ≤ added) × (4 * r ≤ removed) × (4 * m ≤ old) × (4 * m ≤ new)
long added a removed r old new m h =
    let p = or_none (ltb (added / 4) a || ltb (removed / 4) r) (ltb (old / 4) m || ltb (new / 4) m) h in
    let q = or_none (ltb (added / 4) a) (ltb (removed / 4) r) p.0 in
    let s = or_none (ltb (old / 4) m) (ltb (new / 4) m) p.1 in
    (holds added a q.0, holds removed r q.1, holds old m s.0, holds new m s.1)
