-- A fresh tree and the empty plan agree.
use mathlib.Core.Path.{◌≡◌, refl}
use mathlib.Core.Bool.{true}
use Prim.Native.Nat.{ℕ, zero, suc}
use native.Mathlib.Omega.{arith}
use lib.ListN.{get_or, replicate}
use Rattle.counting.specs.Times.{times, every}
use Rattle.counting.specs.Lists.{once_below}
use Rattle.link_forest.specs.Table.{depths_from}
use Rattle.link_forest.proofs.Clauses.{has_nothing}
use Rattle.link_forest.proofs.Sound.{sound_empty}
use Rattle.index_sound.specs.Sound.{sound_of}
use Rattle.index_state.specs.Index.{fresh_index}
use Rattle.index_state.proofs.Backend.{fresh_own}
use Rattle.tree_state.specs.Tree.{fresh_tree}
use Rattle.tree_state.specs.Sound.{SoundTree, count_of, count_below, every_of, slots_right, entry_right, counts_right, sound_tree}
use Rattle.tree_sound.proofs.Exact.{decides}
use Rattle.tree_laws.proofs.Whole.{sized, whole_fresh}
use Rattle.plan.specs.Plan.{empty}
use Rattle.agreement.proofs.Same.{Same, Right, Queued, Backed, Known}

same_everywhere : (n x a : ℕ) → get_or (replicate n a) x a ≡ a
same_everywhere zero x a = refl
same_everywhere (suc n) zero a = refl
same_everywhere (suc n) (suc x) a = same_everywhere n x a

passes : sound_tree fresh_tree ≡ true
unfolding sound_tree slots_right once_below every times depths_from sound_of every_of entry_right counts_right count_below count_of fresh_tree fresh_index
passes = refl

pub sound_fresh : SoundTree fresh_tree
sound_fresh = (decides fresh_tree (sized fresh_tree whole_fresh)).0 passes

same_fresh : Same fresh_tree empty
unfolding fresh_tree fresh_index
same_fresh =
    record {
      links = sound_empty (replicate 256 0) (replicate 256 0) refl refl;
      used = refl;
      generation = λ x. same_everywhere 256 x 0;
      free = refl;
      local = λ x h. has_nothing x h;
      mark = λ x h. has_nothing x h;
      entry = λ x h. has_nothing x h;
      removed = refl;
      entries_used = refl;
      entries_free = refl;
    }

right_fresh : Right fresh_tree empty
right_fresh = record { place = λ x h. has_nothing x h; boxes = λ x h. has_nothing x h }

queued_fresh : Queued fresh_tree
unfolding fresh_tree fresh_index times
queued_fresh k h = absurd (omega arith)

backed_fresh : Backed fresh_tree
unfolding fresh_tree
backed_fresh = fresh_own

pub known_fresh : Known fresh_tree empty
known_fresh = record { whole = whole_fresh; sound = sound_fresh; same = same_fresh; queue = queued_fresh; backed = backed_fresh; right = right_fresh }
