-- The tree of the first places of a good sheet: held, and what the insert of one more place has and leaves. Assumes nothing.
use Rattle.std.specs.Prelude.{Ok, Option}
use Prim.Native.Nat.{ℕ, suc, ◌<◌}
use mathlib.Core.Path.{◌≡◌, refl, sym}
use mathlib.Core.Bool.{true}
use mathlib.Core.List.{[]}
use lib.Dec.{ltb}
use lib.IntN.{nat_abs}
use lib.ListN.{length, take, get_or}
use Rattle.geometry_clips.specs.declared.clip.Clip.{Clip}
use Rattle.tree_laws.proofs.Whole.{whole_fresh}
use Rattle.index_types.specs.declared.NodeId.{NodeId}
use Rattle.tree_types.specs.declared.LocalNode.{LocalNode}
use Rattle.tree_types.specs.Local.{finite_local, known}
use Rattle.tree_state.specs.declared.Tree.{Tree}
use Rattle.tree_state.specs.declared.Refusal.TheVariants as no
use Rattle.tree_state.specs.Tree.{fresh_tree, checked}
use Rattle.tree_steps.specs.Setters.{held}
use Rattle.tree_steps.specs.Structure.{parent_live, insert_verdict, insert_tree}
use Rattle.tree_steps.specs.Commit.{commit_tree}
use Rattle.tree_run.proofs.Verdicts.{verdict, accepted}
use Rattle.tree_verdicts.specs.Held.{Held}
use Rattle.tree_verdicts.proofs.nodes.Nodes.{sound_held, checked_accepted}
use Rattle.tree_insert.specs.Insert.{Room}
use Rattle.tree_insert.proofs.Accepted.{room_told}
use Rattle.agreement_calls.proofs.Fresh.{sound_fresh}
use Rattle.demand3.proofs.Soundness.{run_keeps}
use Rattle.sheet_format.specs.declared.PlaceLine.{PlaceLine}
use Rattle.sheet_format.specs.Sheet.{Sheet, place_of}
use Rattle.sheet_calls.specs.Calls.{parent_at, local_of, clip_for, insert_of, inserts_from}
use Rattle.sheet_calls.specs.Good.{Good}
use Rattle.sheet_laws.specs.Built.{tree_up_to, tree_of}
use Rattle.sheet_laws.proofs.Tree.{sound_up_to, insert_accepted, insert_next, commit_last}

pub held_up_to : (s : Sheet) (j : ℕ) → Held (tree_up_to s j)
unfolding tree_up_to
held_up_to s j =
    sound_held (tree_up_to s j) (run_keeps (inserts_from s.clips 1 (take j s.places)) fresh_tree whole_fresh sound_fresh).0 (sound_up_to s j)

-- what an accepted insert of a held tree has
room_accepted : (t : Tree) (parent : Option NodeId) (v : LocalNode) → Held t → insert_verdict t parent v ≡ Ok tt → Room t parent
room_accepted t parent v H e =
    let linked = checked (held t) (parent_live t parent) no.DeadParent in
    let finite = checked linked (finite_local v) no.NotFinite in
    let f = checked_accepted (checked finite (known v.flags) no.UnknownFlags) (ltb t.links.count 256) no.Full e in
    let k = checked_accepted finite (known v.flags) no.UnknownFlags f.0 in
    let n = checked_accepted linked (finite_local v) no.NotFinite k.0 in
    let p = checked_accepted (held t) (parent_live t parent) no.DeadParent n.0 in
    room_told t parent H (rw p.1) true (Ok tt) refl (sym f.1)

module _ (s : Sheet) (g : Good s) (j : ℕ) (h : j < length s.places) where
  abbrev p : PlaceLine
  p = place_of (get_or s.places j [])

  abbrev own : Clip
  own = clip_for s.clips (suc j)

  verdict_accepted : insert_verdict (tree_up_to s j) (parent_at (nat_abs p.parent)) (local_of p own) ≡ Ok tt
  unfolding verdict insert_of
  verdict_accepted = insert_accepted s g j h

  pub room_up_to : Room (tree_up_to s j) (parent_at (nat_abs p.parent))
  room_up_to = room_accepted (tree_up_to s j) (parent_at (nat_abs p.parent)) (local_of p own) (held_up_to s j) verdict_accepted

  pub one_more : tree_up_to s (suc j) ≡ insert_tree (tree_up_to s j) (parent_at (nat_abs p.parent)) (local_of p own)
  unfolding accepted insert_of
  one_more = insert_next s g j h

-- the commit is the last call
pub committed : (s : Sheet) → Good s → (commit_tree (tree_up_to s (length s.places))).tree ≡ tree_of s
unfolding accepted
committed s g = sym (commit_last s g)
