-- What an accepted call has: a slot to take, room in the links, and a place for the parent.
use Rattle.std.specs.Prelude.{Ok, None, Some, Option, OnOk}
use mathlib.Core.Path.{◌≡◌, sym}
use mathlib.Core.Bool.{Bool, true, false}
use Prim.Native.Nat.{◌<◌}
use borrow.Author.Tests.{ltb-true}
use lib.Dec.{ltb}
use Rattle.index_types.specs.declared.NodeId.{NodeId}
use Rattle.tree_state.specs.declared.Tree.{Tree}
use Rattle.tree_state.specs.declared.Refusal.TheVariants as no
use Rattle.tree_state.specs.Tree.{checked_next, Verdict}
use Rattle.tree_steps.specs.Structure.{parent_live}
use Rattle.tree_laws.proofs.Taken.{new_low}
use Rattle.tree_verdicts.specs.Held.{Held}
use Rattle.tree_verdicts.proofs.nodes.Nodes.{checked_accepted, live_node}
use Rattle.tree_insert.specs.Insert.{Placed, Room}

parent_placed : (t : Tree) (parent : Option NodeId) → Held t → parent_live t parent ≡ true → Placed t.links parent
parent_placed t None H p = tt
parent_placed t (Some h) H p = (live_node t H h p).place_fits

module _ (t : Tree) (parent : Option NodeId) (H : Held t) (live : ◌≡◌ {A = Verdict} (Ok tt) (checked_next (parent_live t parent) no.DeadParent)) where
  room : t.links.count < 256 → Room t parent
  room l =
      record {
        slots = record { used_fits = H.sound.used_fits; free_fits = H.sound.free_fits; slot_low = new_low t H.whole H.sound l };
        links =
            record {
              count_low = l;
              depths = H.depths;
              placed = parent_placed t parent H (checked_accepted (Ok tt) (parent_live t parent) no.DeadParent (sym live)).1;
            };
      }

  pub room_told : (b : Bool) (v : Verdict) → v ≡ checked_next b no.Full → b ≡ ltb t.links.count 256 → OnOk v (Room t parent)
  room_told true v e f = rw e (room (ltb-true t.links.count 256 (sym f)))
  room_told false v e f = rw e tt
