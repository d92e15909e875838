-- What an accepting test gives to the call that made it.
use Rattle.std.specs.Prelude.{Ok, Err, Some, OnOk}
use mathlib.Core.Path.{◌≡◌, refl, sym, ◌∙◌}
use mathlib.Core.Bool.{Bool, true, false, ◌&&◌}
use native.Mathlib.Omega.{arith}
use borrow.Author.Tests.{ltb-true, eqb-true}
use lib.Dec.{eqb}
use lib.ListN.{take}
use Rattle.numbers.proofs.Bools.{and_left, and_right}
use Rattle.link_forest.specs.Table.{depths_from}
use Rattle.index_sound.specs.Sound.{sound_of}
use Rattle.counting.specs.Times.{every}
use Rattle.index_types.specs.declared.NodeId.{NodeId}
use Rattle.tree_state.specs.declared.Tree.{Tree}
use Rattle.tree_state.specs.declared.Refusal.{Refusal}
use Rattle.tree_state.specs.declared.Refusal.TheVariants as no
use Rattle.tree_state.specs.Tree.{live_slots, position_of, is_live, generation_at, live, checked, checked_next, Verdict}
use Rattle.tree_state.specs.Sound.{every_of, slots_right, node_right, entry_right, counts_right, sound_tree}
use Rattle.tree_sound.specs.Parts.{Sized}
use Rattle.tree_sound.proofs.Exact.{decides, live_low}
use Rattle.tree_steps.specs.Setters.{held, of_node}
use Rattle.tree_steps.specs.Structure.{parent_live}
use Rattle.tree_verdicts.specs.Held.{Held, Node}
use Rattle.tree_verdicts.proofs.need.Walks.{sound_places}
use Rattle.tree_state.specs.Whole.{Whole}

-- ---- conditions one after the other

pub not_accepted : (r : Refusal) → ◌≡◌ {A = Verdict} (Err r) (Ok tt) → ⊥
not_accepted r e = grind (arith, e)

-- accepted: the tests before accept, and the condition holds
pub checked_accepted : (v : Verdict) (b : Bool) (r : Refusal) → checked v b r ≡ Ok tt → (v ≡ Ok tt) × (b ≡ true)
checked_accepted (Ok tt) true r e = (refl, refl)
checked_accepted (Ok tt) false r e = absurd (not_accepted r e)
checked_accepted (Err q) b r e = absurd (not_accepted q e)

-- and the other way
pub checked_both : (v : Verdict) (b : Bool) (r : Refusal) → v ≡ Ok tt → b ≡ true → checked v b r ≡ Ok tt
checked_both v b r e f = rw (e, f)

-- refused before: by the same
pub checked_stays : (v : Verdict) (b : Bool) (r q : Refusal) → v ≡ Err q → checked v b r ≡ Err q
checked_stays v b r q e = rw e

-- accepted before, and the condition fails
pub checked_fails : (v : Verdict) (b : Bool) (r : Refusal) → v ≡ Ok tt → b ≡ false → checked v b r ≡ Err r
checked_fails v b r e f = rw (e, f)

-- what a call answers as soon as a test before has refused
pub checked_stopped : (v w : Verdict) (b : Bool) (r q : Refusal) → w ≡ v → w ≡ Err q → w ≡ checked v b r
checked_stopped v w b r q e f = f ∙ sym (checked_stays v b r q (sym e ∙ f))

-- ---- a sound tree

pub sound_depths : (t : Tree) → sound_tree t ≡ true → depths_from 0 (take t.links.count t.links.depth) ≡ true
unfolding sound_tree
sound_depths t h =
    let X = t.index in
    let a = slots_right t.links.order t.links.count t.slots.free t.slots.frees t.slots.used in
    let b = depths_from 0 (take t.links.count t.links.depth) in
    let c = sound_of X.entries X.free X.frees X.dirty X.queued X.used && (every_of (node_right t) (live_slots t) && (every 512 (entry_right t) && counts_right t)) in
    and_left b c (and_right a (b && c) h)

pub sizes : (t : Tree) → Whole t → Sized t
sizes t w =
    record {
      order = w.links.order;
      depth = w.links.depth;
      free = w.slots.free;
      entries = w.index.entries;
      entries_free = w.index.free;
      dirty = w.index.dirty;
    }

module _ (t : Tree) (w : Whole t) where
  pub sound_held : sound_tree t ≡ true → Held t
  sound_held h =
      let s = sizes t w in
      let S = (decides t s).0 h in
      record {
        test = h;
        sound = S;
        whole = w;
        listed = record { count_fits = S.count_fits; low = live_low t s S };
        ranged =
            record {
              count_fits = S.count_fits;
              orders = w.links.order;
              low = (sound_places t s h).2;
              used_fits = S.index.used_fits;
              beyond = S.index.beyond;
            };
        count_fits = S.count_fits;
        depths = sound_depths t h;
        low = live_low t s S;
      }

  pub held_accepted : held t ≡ Ok tt → Held t
  held_accepted e = sound_held (checked_accepted (Ok tt) (sound_tree t) no.Unsound e).1

-- ---- a live node of it

pub live_node : (t : Tree) → Held t → (i : NodeId) → live t i ≡ true → Node t i
unfolding live
live_node t H i h =
    let l = and_left (is_live t i.0) (eqb (generation_at t i.0) i.1) h in
    record {
      held = H;
      alive = h;
      is_live_lem = l;
      generation_is = eqb-true (generation_at t i.0) i.1 (and_right (is_live t i.0) (eqb (generation_at t i.0) i.1) h);
      slot_low = H.low i.0 l;
      place_fits = ltb-true (position_of t i.0) t.links.count l;
    }

module _ (t : Tree) (w : Whole t) where
  pub node_accepted : (i : NodeId) → of_node t i ≡ Ok tt → Node t i
  node_accepted i e =
      let p = checked_accepted (held t) (live t i) no.DeadNode e in
      live_node t (held_accepted t w p.0) i p.1

  -- a live parent, after tests that have found the tree sound
  pub parent_accepted : Held t → (v : Verdict) (h : NodeId) → checked v (parent_live t (Some h)) no.DeadParent ≡ Ok tt → Node t h
  parent_accepted H v h e = live_node t H h (checked_accepted v (live t h) no.DeadParent e).1

-- ---- what the tests tell where they accept

module _ (t : Tree) (w : Whole t) where
  pub held_told : (b : Bool) (v : Verdict) → v ≡ checked_next b no.Unsound → b ≡ sound_tree t → OnOk v (Held t)
  held_told true v f e = rw f (sound_held t w (sym e))
  held_told false v f e = rw f tt

pub node_told : (t : Tree) → Held t → (i : NodeId) (b : Bool) (v : Verdict) → v ≡ checked_next b no.DeadNode → b ≡ live t i → OnOk v (Node t i)
node_told t H i true v f e = rw f (live_node t H i (sym e))
node_told t H i false v f e = rw f tt
