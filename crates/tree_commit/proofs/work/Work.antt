-- The work from its parts: what each finds in a sound tree.
use mathlib.Core.Path.{◌≡◌, refl, sym, ap, subst}
use mathlib.Core.Bool.{true, false}
use mathlib.Core.List.{List, []}
use Prim.Native.Nat.{ℕ, ◌*◌, ◌≤◌}
use native.Mathlib.Omega.{arith}
use lib.ListN.{length, take}
use lib.Ieee.{Float}
use Rattle.geometry.specs.declared.rect.Rect.{Rect}
use Rattle.link_table.specs.Links.{in_front}
use Rattle.index_sound.specs.Sound.{SoundOf}
use Rattle.tree_state.specs.declared.Tree.{Tree}
use Rattle.tree_state.specs.Sound.{SoundTree}
use Rattle.tree_state.specs.Tree.{needs_commit}
use Rattle.tree_state.specs.Whole.{Whole, WholeIndex}
use Rattle.tree_steps.specs.Commit.{Work, visits_of, rework_all, begun, commit_tree, rects_in_front}
use Rattle.tree_visits.proofs.Whole.{front_take}
use Rattle.tree_rework.specs.preconditions.Fits.{Ready}
use Rattle.tree_rework.proofs.Rooms.{front_length}
use Rattle.tree_invariant.proofs.commit.Keep.{ready, index_ready}

-- the tree and the damage once every position is reworked
abbrev pub worked : Tree → Work
worked t = rework_all (begun t) (visits_of t)

-- the positions that stand in front of a list
pub positions_are : (t : Tree) (out l : List ℕ) (n : ℕ) → length l ≡ 256 → l ≡ in_front (visits_of t) out → n ≡ length (visits_of t) → take n l ≡ visits_of t
positions_are t out l n long p q = (front_take (visits_of t) out l n p long q).1

pub positions_ready : (t : Tree) (l : List ℕ) → Whole t → SoundTree t → l ≡ visits_of t → Ready t (begun t).damage l
positions_ready t l W S e = subst (Ready t (begun t).damage) (sym e) (ready t W S)

-- room with rectangles in front of it is as long
pub front_same : (rs : List Rect) (room room' : List Float) → room' ≡ rects_in_front rs room → 4 * length rs ≤ length room → length room' ≡ length room
front_same rs room room' e h = omega (arith, ap length e, front_length rs room)

-- the reworked tree's index can be committed
abbrev Committable : Tree → Type 0
Committable t = WholeIndex t.index × SoundOf t.index.entries t.index.free t.index.frees t.index.dirty t.index.queued t.index.used

pub finish_ready : (t w : Tree) → Whole t → SoundTree t → w ≡ (worked t).tree → Committable w
finish_ready t w W S e = subst Committable (sym e) (index_ready t W S)

-- ---- what the commit of a tree that needs one leaves

pub front_none : (room : List Float) → room ≡ rects_in_front [] room
unfolding rects_in_front
front_none room = refl

-- the damage
pub damage_of : (t : Tree) → needs_commit t ≡ true → (commit_tree t).damage ≡ (worked t).damage
unfolding commit_tree
damage_of t e = rw e

pub no_damage : (t : Tree) → needs_commit t ≡ false → (commit_tree t).damage ≡ []
unfolding commit_tree
no_damage t e = rw e
