-- The union over the room of a commit is that of the commit's damage.
use mathlib.Core.Path.{◌≡◌, refl, sym, ap, ◌∙◌}
use mathlib.Core.Bool.{false}
use mathlib.Core.List.{List, [], ◌∷◌, ◌++◌}
use Prim.Native.Nat.{ℕ, zero, suc, ◌+◌, ◌*◌, ◌/◌, ◌≤◌, ◌<◌}
use native.Mathlib.Nat.{mul-suc, le-div_iff_mul-le}
use native.Mathlib.Omega.{arith}
use borrow.Author.Tests.{le-ltb}
use lib.Dec.{ltb}
use lib.ListN.{length, get_or, take, drop, length-append}
use lib.Seq.{take-suc, take-length, drop-drop}
use lib.Ieee.{Float}
use Rattle.std.specs.Prelude.{Ok}
use Rattle.geometry.specs.declared.rect.Rect.{Rect}
use Rattle.tree_types.specs.rooms.Rooms.{of_rect, rect_of, rect_at}
use Rattle.tree_steps.specs.Commit.{rects_of, numbers_of, rects_in_front}
use Rattle.tree_damage.specs.Damage.{joined, union_rect}

-- ---- the rectangle at a place

first : (r : Rect) (l : List Float) → rect_at (of_rect r ++ l) 0 ≡ r
unfolding rect_at
first r l = refl

later : (r : Rect) (l : List Float) (j : ℕ) → rect_at (of_rect r ++ l) (suc j) ≡ rect_at l j
unfolding rect_at
later r l j =
    let e : 4 * suc j ≡ 4 + 4 * j = mul-suc 4 j ∙ omega arith in
    ap (λ (v : List Float). rect_of (take 4 v)) (ap (λ (k : ℕ). drop k (of_rect r ++ l)) e ∙ sym (drop-drop (4 * j) 4 (of_rect r ++ l)))

rect_there : (rs : List Rect) (l : List Float) (d : Rect) (j : ℕ) → j < length rs → rect_at (numbers_of rs ++ l) j ≡ get_or rs j d
rect_there [] l d j h = absurd (omega (arith, h))
rect_there (r ∷ rs) l d zero h = first r (numbers_of rs ++ l)
rect_there (r ∷ rs) l d (suc j) h = later r (numbers_of rs ++ l) j ∙ rect_there rs l d j (omega (arith, h))

-- ---- the first n of them

rects_there : (rs : List Rect) (l : List Float) (d : Rect) (n : ℕ) → n ≤ length rs → rects_of (numbers_of rs ++ l) n ≡ take n rs
unfolding rects_of
rects_there rs l d zero h = refl
rects_there rs l d (suc n) h =
    rw (rects_there rs l d n (omega (arith, h)), rect_there rs l d n (omega (arith, h))) (sym (take-suc rs n d (omega (arith, h))))

-- what stands in front is read back
pub rects_front : (rs : List Rect) (room : List Float) → rects_of (rects_in_front rs room) (length rs) ≡ rs
unfolding rects_in_front
rects_front rs room = rects_there rs (drop (length (numbers_of rs)) room) (rect_at [] 0) (length rs) (omega arith) ∙ take-length rs

-- ---- the union

pub numbers_length : (rs : List Rect) → length (numbers_of rs) ≡ 4 * length rs
numbers_length [] = refl
numbers_length (r ∷ rs) = rw (length-append (of_rect r) (numbers_of rs), numbers_length rs, mul-suc 4 (length rs)) (omega arith)

front_long : (rs : List Rect) (room : List Float) → ltb (length (rects_in_front rs room) / 4) (length rs) ≡ false
unfolding rects_in_front
front_long rs room =
    let l = numbers_of rs ++ drop (length (numbers_of rs)) room in
    let h : length rs * 4 ≤ length l = omega (arith, length-append (numbers_of rs) (drop (length (numbers_of rs)) room), numbers_length rs) in
    le-ltb (length l / 4) (length rs) ((le-div_iff_mul-le {k = 4} {x = length rs} {y = length l} (omega arith)).1 h)

pub union_front : (rs : List Rect) (room : List Float) → union_rect (rects_in_front rs room) (length rs) ≡ Ok (joined rs)
unfolding union_rect
union_front rs room = rw (front_long rs room, rects_front rs room)
