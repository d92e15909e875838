-- What `commit` answers, the tree and the room after it.
use Rattle.std.specs.Prelude.{ℕ, List, length, Float, Ok, Err}
use Rattle.geometry.specs.declared.rect.Rect.{Rect}
use Rattle.tree_state.specs.declared.Tree.{Tree}
use Rattle.tree_state.specs.Tree.{Verdict, After}
use Rattle.tree_steps.specs.Commit.{Work, commit_verdict, commit_tree, rects_in_front}

-- accepted: how many rectangles, and the tree that the work leaves
abbrev pub done : Work → After ℕ
done w = record { answer = Ok (length w.damage); tree = w.tree }

-- refused: the tree as it was
unfoldable pub after_work : Verdict → Tree → Work → After ℕ
after_work (Ok tt) t w = done w
after_work (Err r) t w = record { answer = Err r; tree = t }

-- of a tree, and room of that length
unfoldable pub commit_call : Tree → ℕ → After ℕ
commit_call t len = after_work (commit_verdict t len) t (commit_tree t)

-- refused: the room as it was
unfoldable pub room_after : Verdict → List Rect → List Float → List Float
room_after (Ok tt) rs room = rects_in_front rs room
room_after (Err r) rs room = room

unfoldable pub commit_room : Tree → List Float → List Float
commit_room t room = room_after (commit_verdict t (length room)) (commit_tree t).damage room
