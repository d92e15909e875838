-- The union of a commit's damage (damage.rs: `union_rect`).
use Rattle.std.specs.Prelude.{ℕ, ◌/◌, Bool, cond, List, [], ◌∷◌, ltb, length, Float, Result, Ok, Err, Option, Some, None}
use Rattle.geometry.specs.declared.rect.Rect.{Rect}
use Rattle.geometry.specs.Rectangle.{union}
use Rattle.tree_state.specs.declared.Refusal.{Refusal}
use Rattle.tree_state.specs.declared.Refusal.TheVariants as no
use Rattle.tree_steps.specs.Commit.{rects_of}

-- one rectangle more: the first starts the union, and each is then taken in order
unfoldable pub with_rect : Option Rect → Rect → Option Rect
with_rect None r = Some r
with_rect (Some a) r = Some (union a r)

unfoldable pub join_all : Option Rect → List Rect → Option Rect
join_all u [] = u
join_all u (r ∷ rs) = join_all (with_rect u r) rs

abbrev pub joined : List Rect → Option Rect
joined rs = join_all None rs

-- the room is shorter than its count says
abbrev pub short_of : ℕ → ℕ → Bool
short_of len n = ltb (len / 4) n

unfoldable pub union_rect : List Float → ℕ → Result (Option Rect) Refusal
union_rect room n = cond (short_of (length room) n) (Err no.ShortRoom) (Ok (joined (rects_of room n)))
