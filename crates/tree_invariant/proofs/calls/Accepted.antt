-- What an accepted call tells: each condition that its verdict checks holds.
use Rattle.std.specs.Prelude.{Ok, Err, Option}
use mathlib.Core.Path.{◌≡◌, refl}
use mathlib.Core.Bool.{Bool, true, false, not}
use Prim.Native.Nat.{ℕ, ◌<◌}
use native.Mathlib.Omega.{arith}
use borrow.Author.Tests.{ltb-true, not-true}
use lib.Dec.{eqb, ltb}
use Rattle.numbers.proofs.Bools.{and_left}
use Rattle.index_types.specs.declared.NodeId.{NodeId}
use Rattle.tree_types.specs.declared.LocalNode.{LocalNode}
use Rattle.tree_types.specs.Local.{finite_local, known}
use Rattle.tree_state.specs.declared.Tree.{Tree}
use Rattle.tree_state.specs.declared.Refusal.{Refusal}
use Rattle.tree_state.specs.declared.Refusal.TheVariants as no
use Rattle.tree_state.specs.Tree.{is_live, generation_at, live, position_of, checked, Verdict}
use Rattle.tree_steps.specs.Setters.{held, of_node, of_value}
use Rattle.tree_steps.specs.Structure.{parent_live, at_or_below, insert_verdict, reparent_verdict}

refused : (r : Refusal) → ◌≡◌ {A = Verdict} (Err r) (Ok tt) → ⊥
refused r e = let z : ◌≡◌ {A = ℕ} 0 1 = cc in omega arith

pub checked_both : (v : Verdict) (b : Bool) (r : Refusal) → checked v b r ≡ Ok tt → (v ≡ Ok tt) × (b ≡ true)
checked_both (Ok tt) true r e = (refl, refl)
checked_both (Ok tt) false r e = absurd (refused r e)
checked_both (Err q) b r e = absurd (refused q e)

module _ (t : Tree) (i : NodeId) where
  pub live_slot : live t i ≡ true → is_live t i.0 ≡ true
  unfolding live
  live_slot h = and_left (is_live t i.0) (eqb (generation_at t i.0) i.1) h

  pub of_node_lem : of_node t i ≡ Ok tt → is_live t i.0 ≡ true
  of_node_lem e = live_slot (checked_both (held t) (live t i) no.DeadNode e).1

  pub of_value_lem : (finite : Bool) → of_value t i finite ≡ Ok tt → (is_live t i.0 ≡ true) × (finite ≡ true)
  of_value_lem finite e = let c = checked_both (of_node t i) finite no.NotFinite e in (of_node_lem c.0, c.1)

pub record InsertHolds (t : Tree) (parent : Option NodeId) (v : LocalNode) : Type 0 where
  pub parent_live_lem : parent_live t parent ≡ true
  pub finite : finite_local v ≡ true
  pub flags_known : known v.flags ≡ true
  pub room : t.links.count < 256

pub insert_accepted : (t : Tree) (parent : Option NodeId) (v : LocalNode) → insert_verdict t parent v ≡ Ok tt → InsertHolds t parent v
insert_accepted t parent v e =
    let a = checked (held t) (parent_live t parent) no.DeadParent in
    let b = checked a (finite_local v) no.NotFinite in
    let c = checked b (known v.flags) no.UnknownFlags in
    let p = checked_both c (ltb t.links.count 256) no.Full e in
    let q = checked_both b (known v.flags) no.UnknownFlags p.0 in
    let r = checked_both a (finite_local v) no.NotFinite q.0 in
    record {
      parent_live_lem = (checked_both (held t) (parent_live t parent) no.DeadParent r.0).1;
      finite = r.1;
      flags_known = q.1;
      room = ltb-true t.links.count 256 p.1;
    }

pub record ReparentHolds (t : Tree) (i : NodeId) (parent : Option NodeId) : Type 0 where
  pub is_live_lem : is_live t i.0 ≡ true
  pub parent_live_lem : parent_live t parent ≡ true
  pub not_below : at_or_below t (position_of t i.0) parent ≡ false

pub reparent_accepted : (t : Tree) (i : NodeId) (parent : Option NodeId) → reparent_verdict t i parent ≡ Ok tt → ReparentHolds t i parent
reparent_accepted t i parent e =
    let below = at_or_below t (position_of t i.0) parent in
    let a = checked (of_node t i) (parent_live t parent) no.DeadParent in
    let p = checked_both a (not below) no.BelowItself e in
    let q = checked_both (of_node t i) (parent_live t parent) no.DeadParent p.0 in
    record { is_live_lem = of_node_lem t i q.0; parent_live_lem = q.1; not_below = not-true below p.1 }
