-- Joining one rectangle more.
use mathlib.Core.Path.{◌≡◌, refl}
use mathlib.Core.List.{List, [], ◌∷◌, ◌++◌}
use Rattle.std.specs.Prelude.{Option, None}
use Prim.Native.Nat.{ℕ, ◌+◌}
use native.Mathlib.Numerals.{add-one}
use lib.Ieee.{Float}
use Rattle.geometry.specs.declared.rect.Rect.{Rect}
use Rattle.tree_types.specs.rooms.Rooms.{rect_at}
use Rattle.tree_steps.specs.Commit.{rects_of}
use Rattle.tree_damage.specs.Damage.{with_rect, join_all, joined}

join_append : (u : Option Rect) (rs ss : List Rect) → join_all u (rs ++ ss) ≡ join_all (join_all u rs) ss
unfolding join_all
join_append u [] ss = refl
join_append u (r ∷ rs) ss = join_append (with_rect u r) rs ss

pub rects_none : (room : List Float) → joined (rects_of room 0) ≡ None
unfolding rects_of join_all
rects_none room = refl

pub rects_next : (room : List Float) (i : ℕ) → joined (rects_of room (i + 1)) ≡ with_rect (joined (rects_of room i)) (rect_at room i)
unfolding rects_of join_all
rects_next room i = rw (add-one i) (join_append _ (rects_of room i) (rect_at room i ∷ []))
