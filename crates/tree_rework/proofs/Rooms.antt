-- Damage in lent room: one rectangle after the other is the list of them in front.
use Prim.Native.Nat.{ℕ, ◌+◌, ◌-◌, ◌*◌, ◌≤◌, ◌<◌}
use mathlib.Core.Path.{◌≡◌, refl, sym, ap, ◌∙◌}
use mathlib.Core.Bool.{true, false}
use mathlib.Core.List.{List, [], ◌∷◌, ◌++◌, append_assoc, append-nil}
use native.Mathlib.Nat.{mul-suc}
use native.Mathlib.Omega.{arith}
use lib.ListN.{length, drop, length-append, length-drop}
use lib.Seq.{sets-eq, take_at, drop_at, drop-drop}
use lib.Ieee.{Float}
use Rattle.geometry.specs.declared.rect.Rect.{Rect}
use Rattle.geometry.specs.Rectangle.{has_area}
use Rattle.tree_types.specs.rooms.Rooms.{of_rect, put_rect}
use Rattle.tree_types.proofs.rooms.Laws.{rect_length}
use Rattle.tree_steps.specs.Commit.{if_area, numbers_of, rects_in_front}
use Rattle.tree_rework.specs.Damage.{laid}

-- ---- one after the other

pub laid_length : (room : List Float) (n : ℕ) (rs : List Rect) → length (laid room n rs) ≡ length room
unfolding laid
laid_length room n [] = refl
laid_length room n (r ∷ rs) = laid_length (put_rect room n r) (n + 1) rs ∙ rect_length room n r

pub laid_append : (room : List Float) (n : ℕ) (rs ss : List Rect) → laid (laid room n rs) (n + length rs) ss ≡ laid room n (rs ++ ss)
unfolding laid
laid_append room n [] ss = let e : n + 0 ≡ n = omega arith in rw e
laid_append room n (r ∷ rs) ss =
    let e : n + length (r ∷ rs) ≡ n + 1 + length rs = omega arith in
    rw e (laid_append (put_rect room n r) (n + 1) rs ss)

-- ---- what is shown of a rectangle, and of a box that has changed

pub area_yes : (r : Rect) → has_area r ≡ true → if_area r ≡ r ∷ []
area_yes r h = rw h

pub area_no : (r : Rect) → has_area r ≡ false → if_area r ≡ []
area_no r h = rw h

pub laid_two : (room : List Float) (n m : ℕ) (rs ss : List Rect) → m ≡ n + length rs → laid (laid room n rs) m ss ≡ laid room n (rs ++ ss)
laid_two room n m rs ss e = rw e (laid_append room n rs ss)

-- ---- in front

numbers_length : (rs : List Rect) → length (numbers_of rs) ≡ 4 * length rs
numbers_length [] = refl
numbers_length (r ∷ rs) = rw (length-append (of_rect r) (numbers_of rs), numbers_length rs, mul-suc 4 (length rs)) (omega arith)

pub numbers_append : (rs ss : List Rect) → numbers_of (rs ++ ss) ≡ numbers_of rs ++ numbers_of ss
numbers_append [] ss = refl
numbers_append (r ∷ rs) ss = rw (numbers_append rs ss)

pub front_length : (rs : List Rect) (room : List Float) → length (rects_in_front rs room) ≡ 4 * length rs + (length room - 4 * length rs)
unfolding rects_in_front
front_length rs room =
    rw (length-append (numbers_of rs) (drop (length (numbers_of rs)) room), length-drop (length (numbers_of rs)) room, numbers_length rs)

-- one rectangle more
pub front_one : (rs : List Rect) (room : List Float) (r : Rect) → 4 * length rs + 4 ≤ length room
    → put_rect (rects_in_front rs room) (length rs) r ≡ rects_in_front (rs ++ (r ∷ [])) room
unfolding put_rect rects_in_front
front_one rs room r h =
    let n = 4 * length rs in
    let l = numbers_of rs ++ drop n room in
    let fl = numbers_length rs in
    let long : n + 4 ≤ length l = rw (length-append (numbers_of rs) (drop n room), fl, length-drop n room) (omega arith) in
    let more : length (numbers_of rs ++ of_rect r) ≡ n + 4 = length-append (numbers_of rs) (of_rect r) ∙ rw fl in
    rw (numbers_append rs (r ∷ []), fl, sets-eq (of_rect r) l n long, take_at (numbers_of rs) (drop n room) n fl, ← drop-drop 4 n l, drop_at (numbers_of rs) (drop n room) n fl, drop-drop 4 n room, more)

front_laid : (rs ss : List Rect) (room : List Float) → (0 < length ss → 4 * (length rs + length ss) ≤ length room)
    → laid (rects_in_front rs room) (length rs) ss ≡ rects_in_front (rs ++ ss) room
unfolding laid
front_laid rs [] room h = ap (λ (l : List Rect). rects_in_front l room) (sym (append-nil rs))
front_laid rs (r ∷ ss) room h =
    let e : length (rs ++ (r ∷ [])) ≡ length rs + 1 = length-append rs (r ∷ []) in
    let l = h (omega arith) in
    rw (front_one rs room r (omega arith), ← e) (front_laid (rs ++ (r ∷ [])) ss room (λ q. omega (arith, e)) ∙ ap (λ (l : List Rect). rects_in_front l room) (append_assoc rs (r ∷ []) ss))

-- lent room of at least 512 rectangles, of which some stand in front
pub front_grows : (rs ss : List Rect) (room₀ room : List Float) (n : ℕ) → room ≡ rects_in_front rs room₀ → n ≡ length rs → 2048 ≤ length room → n + length ss ≤ 512
    → laid room n ss ≡ rects_in_front (rs ++ ss) room₀
front_grows rs ss room₀ room n e en long few = rw (e, en) (front_laid rs ss room₀ (λ q. omega (arith, front_length rs room₀, ap length e)))
