-- Each call is refused alike on a tree and a plan that agree, and an insert hands out the same id.
use Rattle.std.specs.Prelude.{Ok, Err, Option}
use mathlib.Core.Path.{◌≡◌, refl, sym, ap, ◌∙◌}
use mathlib.Core.Bool.{Bool, true, false, not}
use mathlib.Core.List.{List, [], ◌∷◌, reverse, reverse-append}
use Prim.Native.Nat.{ℕ, zero, suc, ◌-◌, ◌≤◌, ◌<◌}
use native.Mathlib.Numerals.{add-one}
use native.Mathlib.Omega.{arith}
use borrow.Author.Tests.{ne_eqb}
use lib.Dec.{eqb, ltb}
use lib.Ieee.{Float}
use lib.IntN.{ℤ}
use lib.ListN.{length, get_or, take}
use lib.Seq.{take-suc}
use Rattle.numbers.proofs.Bools.{and_left}
use Rattle.geometry.specs.declared.rect.Rect.{Rect}
use Rattle.geometry.specs.declared.insets.Insets.{Insets}
use Rattle.geometry.specs.Rectangle.{finite_rect, finite_insets}
use Rattle.geometry.specs.declared.affine.Affine.{Affine}
use Rattle.geometry.specs.Transform.{finite_affine}
use Rattle.geometry_clips.specs.declared.clip.Clip.{Clip}
use Rattle.geometry_clips.specs.Clips.{finite_clip}
use Rattle.index_types.specs.declared.NodeId.{NodeId}
use Rattle.tree_types.specs.declared.NodeFlags.{NodeFlags}
use Rattle.tree_types.specs.declared.LocalNode.{LocalNode}
use Rattle.tree_types.specs.Local.{finite_local, known}
use Rattle.link_forest.specs.Forest.{has}
use Rattle.tree_state.specs.declared.Tree.{Tree}
use Rattle.tree_state.specs.declared.Refusal.{Refusal}
use Rattle.tree_state.specs.declared.Refusal.TheVariants as no
use Rattle.tree_state.specs.Tree as tree
use Rattle.tree_state.specs.Tree.{position_of, number_of, number_in, checked, Verdict}
use Rattle.tree_steps.specs.Setters as set
use Rattle.tree_steps.specs.Setters.{held}
use Rattle.tree_steps.specs.Structure as structure
use Rattle.tree_steps.specs.Commit as commit
use Rattle.tree_steps.specs.Requests as request
use Rattle.plan.specs.Plan as plan
use Rattle.plan.specs.Plan.{Plan}
use Rattle.plan.specs.Calls as call
use Rattle.plan.specs.Calls.{Conditions, accept, ◌else◌then◌, lowest, refusal}
use Rattle.agreement.proofs.Same.{Known}
use Rattle.agreement_calls.proofs.Tests.{live_same, parent_live_same, at_or_below_same, room_same, held_accepted, needs_same}

-- ---- conditions checked one behind the other: the number of the first that fails

-- the number of a verdict, and where it is accepted that of the conditions still to come
abbrev onward : Verdict → Conditions → ℕ
onward (Ok tt) c = lowest c
onward (Err r) c = number_of r

checked_next_lem : (v : Verdict) (b : Bool) (r : Refusal) (c : Conditions) → onward (checked v b r) c ≡ onward v (b else number_of r then c)
unfolding lowest
checked_next_lem (Ok tt) true r c = refl
checked_next_lem (Ok tt) false r c = refl
checked_next_lem (Err q) b r c = refl

number_onward : (v : Verdict) → number_in v ≡ onward v accept
unfolding number_in lowest
number_onward (Ok tt) = refl
number_onward (Err r) = refl

module _ (v : Verdict) (h : v ≡ Ok tt) where
  accepted_onward : (c : Conditions) → onward v c ≡ lowest c
  accepted_onward c = rw h

  pub one_check : (a : Bool) (q : Refusal) → number_in (checked v a q) ≡ lowest (a else number_of q then accept)
  one_check a q = number_onward (checked v a q) ∙ checked_next_lem v a q accept ∙ accepted_onward (a else number_of q then accept)

  pub two_checks : (a : Bool) (q : Refusal) (b : Bool) (r : Refusal) → number_in (checked (checked v a q) b r) ≡ lowest (a else number_of q then b else number_of r then accept)
  two_checks a q b r =
      number_onward (checked (checked v a q) b r) ∙ checked_next_lem (checked v a q) b r accept ∙ checked_next_lem v a q (b else number_of r then accept)
      ∙ accepted_onward (a else number_of q then b else number_of r then accept)

  pub three_checks : (a : Bool) (q : Refusal) (b : Bool) (r : Refusal) (c : Bool) (s : Refusal)
      → number_in (checked (checked (checked v a q) b r) c s) ≡ lowest (a else number_of q then b else number_of r then c else number_of s then accept)
  three_checks a q b r c s =
      number_onward (checked (checked (checked v a q) b r) c s) ∙ checked_next_lem (checked (checked v a q) b r) c s accept
      ∙ checked_next_lem (checked v a q) b r (c else number_of s then accept) ∙ checked_next_lem v a q (b else number_of r then c else number_of s then accept)
      ∙ accepted_onward (a else number_of q then b else number_of r then c else number_of s then accept)

  pub four_checks : (a : Bool) (q : Refusal) (b : Bool) (r : Refusal) (c : Bool) (s : Refusal) (d : Bool) (u : Refusal)
      → number_in (checked (checked (checked (checked v a q) b r) c s) d u)
      ≡ lowest (a else number_of q then b else number_of r then c else number_of s then d else number_of u then accept)
  four_checks a q b r c s d u =
      number_onward (checked (checked (checked (checked v a q) b r) c s) d u) ∙ checked_next_lem (checked (checked (checked v a q) b r) c s) d u accept
      ∙ checked_next_lem (checked (checked v a q) b r) c s (d else number_of u then accept)
      ∙ checked_next_lem (checked v a q) b r (c else number_of s then d else number_of u then accept)
      ∙ checked_next_lem v a q (b else number_of r then c else number_of s then d else number_of u then accept)
      ∙ accepted_onward (a else number_of q then b else number_of r then c else number_of s then d else number_of u then accept)

-- the third of three tests is asked only where the first holds
first_holds : (a b c d : Bool) → (a ≡ true → c ≡ d) → lowest (a else 2 then b else 3 then c else 4 then accept) ≡ lowest (a else 2 then b else 3 then d else 4 then accept)
unfolding lowest
first_holds true b c d h = rw (h refl)
first_holds false b c d h = refl

-- ---- the last freed

last_first_lem : (l : List ℕ) (m : ℕ) → m < length l → reverse (take (suc m) l) ≡ get_or l m 0 ∷ reverse (take m l)
last_first_lem l m h = ap reverse (take-suc l m 0 h) ∙ reverse-append (take m l) (get_or l m 0 ∷ [])

-- a free list is empty, or its last stands first in the plan's
pub data Freed (l : List ℕ) (n : ℕ) (free : List ℕ) : Type 0 where
  nothing : n ≡ 0 → free ≡ [] → Freed l n free
  last : (m : ℕ) → n ≡ suc m → free ≡ get_or l m 0 ∷ reverse (take m l) → Freed l n free

pub freed : (l : List ℕ) (n : ℕ) (free : List ℕ) → n ≤ length l → reverse (take n l) ≡ free → Freed l n free
freed l zero free h e = nothing refl (sym e)
freed l (suc m) free h e = last m refl (sym e ∙ last_first_lem l m (omega arith))

pub some_freed : (m : ℕ) → eqb (suc m) 0 ≡ false
some_freed m = ne_eqb (suc m) 0 (λ e. omega arith)

module _ (t : Tree) (p : Plan) (K : Known t p) where
  pub slots_freed : Freed t.slots.free t.slots.frees p.slots.free
  slots_freed = freed t.slots.free t.slots.frees p.slots.free (omega (arith, K.whole.slots.free, K.sound.free_fits)) K.same.free

  pub slot_same : structure.slot_of t.slots ≡ plan.new_slot p
  slot_same = go slots_freed
    where
      go : Freed t.slots.free t.slots.frees p.slots.free → structure.slot_of t.slots ≡ plan.new_slot p
      go (nothing z e) = rw (z, e, K.same.used)
      go (last m z e) = let w : suc m - 1 ≡ m = omega arith in rw (z, e, some_freed m, w)

  pub generation_same : structure.generation_of t.slots ≡ plan.generation_from p.slots.free p.slots.generation
  generation_same = go slots_freed
    where
      go : Freed t.slots.free t.slots.frees p.slots.free → structure.generation_of t.slots ≡ plan.generation_from p.slots.free p.slots.generation
      go (nothing z e) = rw (z, e)
      go (last m z e) = let w : suc m - 1 ≡ m = omega arith in rw (z, e, some_freed m, w, K.same.generation (get_or t.slots.free m 0), add-one)

  pub new_id_same : structure.new_id t ≡ plan.new_id p
  new_id_same = rw (generation_same, slot_same)

  -- ---- the calls
  accepts : held t ≡ Ok tt
  accepts = held_accepted t p K

  pub none_refused : number_in (held t) ≡ 0
  unfolding number_in
  none_refused = rw accepts

  -- 2
  pub of_node_refused : (i : NodeId) → number_in (set.of_node t i) ≡ lowest (call.of_node p i)
  unfolding number_of
  of_node_refused i = one_check (held t) accepts (tree.live t i) no.DeadNode ∙ rw (live_same t p K i)

  -- 2, and one other
  of_node_and : (i : NodeId) (b : Bool) (r : Refusal)
      → number_in (checked (set.of_node t i) b r) ≡ lowest (plan.live p i else 2 then b else number_of r then accept)
  unfolding number_of
  of_node_and i b r = two_checks (held t) accepts (tree.live t i) no.DeadNode b r ∙ rw (live_same t p K i)

  pub insert_refused : (o : Option NodeId) (v : LocalNode) → number_in (structure.insert_verdict t o v) ≡ refusal p (call.insert o v)
  unfolding refusal number_of
  insert_refused o v =
      four_checks (held t) accepts (structure.parent_live t o) no.DeadParent (finite_local v) no.NotFinite (known v.flags) no.UnknownFlags
      (ltb t.links.count 256) no.Full
      ∙ rw (parent_live_same t p K o, room_same t p K)

  pub remove_refused : (i : NodeId) → number_in (set.of_node t i) ≡ refusal p (call.remove i)
  unfolding refusal
  remove_refused i = of_node_refused i

  pub reparent_refused : (i : NodeId) (o : Option NodeId) → number_in (structure.reparent_verdict t i o) ≡ refusal p (call.reparent i o)
  unfolding refusal number_of
  reparent_refused i o =
      three_checks (held t) accepts (tree.live t i) no.DeadNode (structure.parent_live t o) no.DeadParent
      (not (structure.at_or_below t (position_of t i.0) o)) no.BelowItself
      ∙ rw (live_same t p K i, parent_live_same t p K o)
      (first_holds (plan.live p i) (plan.parent_live p o) (not (structure.at_or_below t (position_of t i.0) o)) (not (plan.at_or_below p i.0 o))
      (λ e. ap not (at_or_below_same t p K i.0 (and_left (has i.0 p.links) (eqb (p.slots.generation i.0) i.1) e) o)))

  pub transform_refused : (i : NodeId) (a : Affine) → number_in (set.transform_verdict t i a) ≡ refusal p (call.set_local_transform i a)
  unfolding refusal number_of
  transform_refused i a = of_node_and i (finite_affine a) no.NotFinite

  pub clip_refused : (i : NodeId) (c : Clip) → number_in (set.clip_verdict t i c) ≡ refusal p (call.set_local_clip i c)
  unfolding refusal number_of
  clip_refused i c = of_node_and i (finite_clip c) no.NotFinite

  pub bounds_refused : (i : NodeId) (r : Rect) → number_in (set.bounds_verdict t i r) ≡ refusal p (call.set_local_bounds i r)
  unfolding refusal number_of
  bounds_refused i r = of_node_and i (finite_rect r) no.NotFinite

  pub slop_refused : (i : NodeId) (s : Insets) → number_in (set.slop_verdict t i s) ≡ refusal p (call.set_hit_slop i s)
  unfolding refusal number_of
  slop_refused i s = of_node_and i (finite_insets s) no.NotFinite

  pub level_refused : (i : NodeId) (z : ℤ) → number_in (set.of_node t i) ≡ refusal p (call.set_z_index i z)
  unfolding refusal
  level_refused i z = of_node_refused i

  pub flags_refused : (i : NodeId) (f : NodeFlags) → number_in (set.flags_verdict t i f) ≡ refusal p (call.set_flags i f)
  unfolding refusal number_of
  flags_refused i f = of_node_and i (known f) no.UnknownFlags

  pub commit_refused : (room : List Float) → number_in (commit.commit_verdict t (length room)) ≡ refusal p (call.commit room)
  unfolding refusal number_of
  commit_refused room = one_check (held t) accepts (not (ltb (length room) 2048)) no.ShortRoom

  pub request_refused : (q : call.Request) (asked : NodeFlags) (room : List ℕ) → number_in (request.request_verdict t asked (length room)) ≡ refusal p (call.request q asked room)
  unfolding refusal number_of
  request_refused q asked room =
      three_checks (held t) accepts (known asked) no.UnknownFlags (not (tree.needs_commit t)) no.NeedsCommit (not (ltb (length room) 512)) no.ShortRoom
      ∙ rw (needs_same t p K)

  -- ---- readings: of the tree, of a node, of a node's world record, and of its children with the room for their ids
  pub reading_refused : (r : call.Reading) → call.conditions_of_reading p r ≡ accept → number_in (held t) ≡ refusal p (call.read r)
  unfolding refusal lowest
  reading_refused r e = none_refused ∙ rw e

  pub node_reading_refused : (r : call.Reading) (i : NodeId) → call.conditions_of_reading p r ≡ call.of_node p i → number_in (set.of_node t i) ≡ refusal p (call.read r)
  unfolding refusal
  node_reading_refused r i e = of_node_refused i ∙ rw e

  pub world_reading_refused : (r : call.Reading) (i : NodeId) → call.conditions_of_reading p r ≡ call.of_world p i
      → number_in (checked (set.of_node t i) (not (tree.needs_commit t)) no.NeedsCommit) ≡ refusal p (call.read r)
  unfolding refusal number_of
  world_reading_refused r i e = of_node_and i (not (tree.needs_commit t)) no.NeedsCommit ∙ rw (e, needs_same t p K)

  pub children_reading_refused : (i : NodeId) (room : List ℕ)
      → number_in (checked (set.of_node t i) (not (ltb (length room) 512)) no.ShortRoom) ≡ refusal p (call.read (call.children_of i room))
  unfolding refusal number_of
  children_reading_refused i room = of_node_and i (not (ltb (length room) 512)) no.ShortRoom
