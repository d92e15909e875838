-- The pending rectangles, stored one after the other, stand in front of the room.
use Prim.Native.Nat.{ℕ, ◌+◌, ◌*◌, ◌≤◌, ◌<◌}
use mathlib.Core.Path.{◌≡◌, sym, ap, ◌∙◌}
use mathlib.Core.List.{List}
use native.Mathlib.Omega.{arith}
use lib.ListN.{length, take, get_or}
use lib.Seq.{length-take-le}
use lib.Ieee.{Float}
use Rattle.std.proofs.lemmas.List.{take_more}
use Rattle.geometry.specs.declared.rect.Rect.{Rect}
use Rattle.tree_types.specs.rooms.Rooms.{put_rect}
use Rattle.tree_state.specs.Worlds.{no_rect}
use Rattle.tree_steps.specs.Commit.{rects_in_front}
use Rattle.tree_rework.proofs.Rooms.{front_one}

-- one more of them
pub next : (rects : List Rect) (room now : List Float) (i : ℕ) → i < length rects → 4 * length rects ≤ length room → now ≡ rects_in_front (take i rects) room
    → put_rect now i (get_or rects i no_rect) ≡ rects_in_front (take (i + 1) rects) room
next rects room now i h long e =
    let r = get_or rects i no_rect in
    let many : length (take i rects) ≡ i = length-take-le i rects (omega arith) in
    ap (λ (l : List Float). put_rect l i r) e
    ∙ ap (λ (n : ℕ). put_rect (rects_in_front (take i rects) room) n r) (sym many)
    ∙ front_one (take i rects) room r (omega (arith, many))
    ∙ ap (λ (l : List Rect). rects_in_front l room) (sym (take_more rects i no_rect h))
