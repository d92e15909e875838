-- An accepted insert leaves a tree and a plan that agree.
use Rattle.index_types.specs.declared.Key.{Key}
use Rattle.index_types.specs.declared.NodeId.{NodeId}
use Rattle.std.specs.Prelude.{Ok, None, Some, Option}
use mathlib.Core.Path.{◌≡◌, sym, ap, subst, ◌∙◌}
use mathlib.Core.Bool.{true, false, ◌&&◌, ◌||◌, cond}
use mathlib.Core.List.{reverse}
use Prim.Native.Nat.{ℕ, suc, ◌+◌, ◌-◌, ◌<◌}
use native.Mathlib.Numerals.{add-one}
use native.Mathlib.Omega.{arith}
use native.Mathlib.Decide.{ℕ_discrete}
use lib.Dec.{eqb}
use lib.ListN.{take}
use lib.Seq.{get_or-set_same, get_or-set_other}
use Rattle.counting.specs.Times.{times}
use Rattle.counting.proofs.Counting.{hit}
use Rattle.counting.proofs.Kit.{contra}
use Rattle.tree_types.specs.declared.LocalNode.{LocalNode}
use Rattle.tree_types.specs.Local.{stored}
use Rattle.tree_state.specs.Locals.{record_of}
use Rattle.tree_state.proofs.Locals.{local_back, record_same, record_other}
use Rattle.link_forest.specs.Forest.{leaf, has}
use Rattle.tree_state.specs.declared.WorldNode.{WorldNode}
use Rattle.tree_state.specs.declared.Tree.{Tree}
use Rattle.tree_state.specs.Worlds.{place_of}
use Rattle.tree_state.specs.Tree.{local_at, generation_at}
use Rattle.tree_steps.specs.Structure.{parent_live, insert_verdict, slot_of, generation_of, insert_tree}
use Rattle.tree_invariant.proofs.calls.Accepted.{insert_accepted}
use Rattle.tree_invariant.proofs.calls.Insert.{insert_world_other, keep_insert, insert_key, insert_dirty_other, insert_committed_other, insert_dirty_new, insert_committed_new}
use Rattle.tree_invariant.proofs.calls.Links.{new_lacks, insert_links}
use Rattle.tree_laws.proofs.Taken.{new_low}
use Rattle.plan.specs.Lists.{put}
use Rattle.plan.specs.Plan.{Plan, Mark, without, changed_in_both, with_entry, onto, used_after, free_after, generation_from, inserted}
use Rattle.plan.specs.Visits.{counts_as_changed}
use Rattle.plan.specs.Afresh.{lineage}
use Rattle.plan.specs.Calls as call
use Rattle.plan.specs.Calls.{accepted}
use Rattle.agreement.proofs.Same.{Same, Settled, Known, mark_of, entry_of}
use Rattle.agreement_calls.proofs.Verdicts.{Freed, nothing, last, some_freed, slots_freed, slot_same, generation_same}
use Rattle.agreement_calls.proofs.Frame.{put_same, put_other, any_at, Kept, Unmoved, Still, still_right}
use Rattle.agreement_calls.proofs.Setters.{live_node}
use Rattle.agreement_calls.proofs.Onto.{Parent, leaf_onto, leaf_above}

pub parent_in_lem : (t : Tree) (p : Plan) → Known t p → (o : Option NodeId) → parent_live t o ≡ true → Parent o p.links
parent_in_lem t p K None e = tt
parent_in_lem t p K (Some h) e = live_node t p K h e

-- the plan with a new node at the slot x, of the generation g
abbrev at : Plan → Option NodeId → LocalNode → ℕ → ℕ → Plan
at p o v x g =
    record {
      links = onto o (leaf x) p.links;
      slots =
          record {
            used = used_after p.slots.free p.slots.used;
            generation = put p.slots.generation x g;
            free = free_after p.slots.free;
          };
      local = put p.local x (stored v);
      mark = put p.mark x changed_in_both;
      entries = with_entry p.entries x without;
    }

-- a node that is marked and changed in both is not settled
pub changed_unsettled : (p : Plan) (x : ℕ) → p.mark x ≡ changed_in_both → counts_as_changed p x ≡ false → ⊥
changed_unsettled p x e c = contra (ap (λ (q : Mark). q.marked && (q.transform || q.clip)) e) c

pub settled_itself : (p : Plan) (y : ℕ) → Settled p y → counts_as_changed p y ≡ false
unfolding times
settled_itself p y s = any_at (counts_as_changed p) (lineage p y) s y (omega (arith, hit y))

module _ (t : Tree) (p : Plan) (K : Known t p) (o : Option NodeId) (v : LocalNode) (e : insert_verdict t o v ≡ Ok tt) where
  abbrev x : ℕ
  x = slot_of t.slots

  abbrev T : Tree
  T = insert_tree t o v

  abbrev P : Plan
  P = at p o v x (generation_of t.slots)

  low : x < 256
  low = new_low t K.whole K.sound (insert_accepted t o v e).room

  new : has x p.links ≡ false
  new = new_lacks t K.whole K.sound p.links K.same.links

  parent : Parent o p.links
  parent = parent_in_lem t p K o (insert_accepted t o v e).parent_live_lem

  -- ---- the slots
  used_same : T.slots.used ≡ used_after p.slots.free p.slots.used
  unfolding insert_tree
  used_same = go (slots_freed t p K)
    where
      go : Freed t.slots.free t.slots.frees p.slots.free → cond (eqb t.slots.frees 0) (t.slots.used + 1) t.slots.used ≡ used_after p.slots.free p.slots.used
      go (nothing z f) = rw (z, f, K.same.used, add-one)
      go (last m z f) = rw (z, f, some_freed m, K.same.used)

  free_same : reverse (take T.slots.frees T.slots.free) ≡ free_after p.slots.free
  unfolding insert_tree
  free_same = go (slots_freed t p K)
    where
      go : Freed t.slots.free t.slots.frees p.slots.free → reverse (take (t.slots.frees - 1) t.slots.free) ≡ free_after p.slots.free
      go (nothing z f) = rw (z, f)
      go (last m z f) = let w : suc m - 1 ≡ m = omega arith in rw (z, f, w)

  generation_at_lem : (y : ℕ) → generation_at T y ≡ P.slots.generation y
  unfolding insert_tree
  generation_at_lem y =
      elim (ℕ_discrete y x) [
        | yes w ↦
            rw w
            (get_or-set_same t.slots.generation x (generation_of t.slots) 0 (omega (arith, low, K.whole.slots.generation))
            ∙ sym (put_same p.slots.generation x (generation_of t.slots)))
        | no n ↦
            get_or-set_other t.slots.generation x y (generation_of t.slots) 0 n ∙ K.same.generation y
            ∙ sym (put_other p.slots.generation x (generation_of t.slots) y n)
      ]

  -- ---- the new node's records, and the others'
  local_here : local_at T x ≡ stored v
  unfolding insert_tree local_at
  local_here = record_same t.locals x (record_of (stored v)) K.whole.locals low ∙ local_back (stored v)

  local_there : (y : ℕ) → (y ≡ x → ⊥) → local_at T y ≡ local_at t y
  unfolding insert_tree local_at
  local_there y n = record_other t.locals x (record_of (stored v)) y n

  mark_here : mark_of T x ≡ changed_in_both
  mark_here = rw (insert_dirty_new t o v K.whole K.sound e)

  mark_there : (y : ℕ) → (y ≡ x → ⊥) → mark_of T y ≡ mark_of t y
  mark_there y n = rw (insert_dirty_other t o v y n)

  entry_here : entry_of T x ≡ without
  entry_here = rw (insert_committed_new t o v K.whole K.sound e)

  entry_there : (y : ℕ) → (y ≡ x → ⊥) → entry_of T y ≡ entry_of t y
  entry_there y n = rw (insert_committed_other t o v y n, insert_key t o v y)

  pub was : (y : ℕ) → (y ≡ x → ⊥) → has y P.links ≡ true → has y p.links ≡ true
  was y n h = leaf_onto o x p.links parent new y n h

  same : Same T P
  same =
      let I = K.same in
      record {
        links = insert_links t K.whole K.sound p.links I.links o v e;
        used = used_same;
        generation = generation_at_lem;
        free = free_same;
        local = λ y h. elim (ℕ_discrete y x) [
          | yes w ↦ rw w (local_here ∙ sym (put_same p.local x (stored v)))
          | no n ↦ local_there y n ∙ I.local y (was y n h) ∙ sym (put_other p.local x (stored v) y n)
        ];
        mark = λ y h. elim (ℕ_discrete y x) [
          | yes w ↦ rw w (mark_here ∙ sym (put_same p.mark x changed_in_both))
          | no n ↦ mark_there y n ∙ I.mark y (was y n h) ∙ sym (put_other p.mark x changed_in_both y n)
        ];
        entry = λ y h. elim (ℕ_discrete y x) [
          | yes w ↦ rw w (entry_here ∙ sym (put_same p.entries.entry x without))
          | no n ↦ entry_there y n ∙ I.entry y (was y n h) ∙ sym (put_other p.entries.entry x without y n)
        ];
        removed = unfold insert_tree in I.removed;
        entries_used = unfold insert_tree in I.entries_used;
        entries_free = unfold insert_tree in I.entries_free;
      }

  -- ---- the world records
  other : (y : ℕ) → counts_as_changed P y ≡ false → y ≡ x → ⊥
  other y c w = changed_unsettled P x (put_same p.mark x changed_in_both) (subst (λ (z : ℕ). counts_as_changed P z ≡ false) w c)

  kept : (y : ℕ) → counts_as_changed P y ≡ false → Kept p P y
  kept y c =
      let n = other y c in
      let l = put_other p.local x (stored v) y n in
      record {
        unchanged = ap (λ (q : Mark). q.marked && (q.transform || q.clip)) (sym (put_other p.mark x changed_in_both y n)) ∙ c;
        transform = ap (λ (w : LocalNode). w.local_transform) l;
        clip = ap (λ (w : LocalNode). w.local_clip) l;
      }

  unmoved : (y : ℕ) → counts_as_changed P y ≡ false → (P.mark y).marked ≡ false → Unmoved t p T P y
  unfolding insert_tree
  unmoved y c u =
      let n = other y c in
      let l = put_other p.local x (stored v) y n in
      record {
        unmarked = ap (λ (q : Mark). q.marked) (sym (put_other p.mark x changed_in_both y n)) ∙ u;
        bounds = ap (λ (w : LocalNode). w.local_bounds) l;
        slop = ap (λ (w : LocalNode). w.hit_slop) l;
        stored_bounds_lem = ap (λ (w : WorldNode). w.bounds) (insert_world_other t o v y n);
        stored_hit_bounds_lem = ap (λ (w : WorldNode). w.hit_bounds) (insert_world_other t o v y n);
        entry = rw (ap (λ (k : Key). k.0) (insert_key t o v y));
      }

  still : Still t p T P
  unfolding insert_tree
  still =
      record {
        path = λ y h s. let w = was y (other y (settled_itself P y s)) h in (w, leaf_above o x p.links parent new K.same.links.once y w);
        kept = kept;
        place = λ y h c. ap place_of (insert_world_other t o v y (other y c));
        boxes = λ y h c u. unmoved y c u;
      }

  known_at : Known T P
  unfolding insert_tree
  known_at = let k = keep_insert t o v K.whole K.sound e in record { whole = k.0; sound = k.1; same = same; queue = K.queue; backed = K.backed; right = still_right t p T P still K.right }

  -- the plan's slot and generation are the tree's
  pub insert_known : Known (insert_tree t o v) (accepted p (call.insert o v))
  unfolding accepted inserted
  insert_known =
      subst (λ (z : ℕ). Known T (at p o v z (generation_from p.slots.free p.slots.generation))) (slot_same t p K)
      (subst (λ (g : ℕ). Known T (at p o v (slot_of t.slots) g)) (generation_same t p K) known_at)
