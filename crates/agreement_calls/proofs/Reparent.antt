-- An accepted reparent leaves a tree and a plan that agree.
use Rattle.std.specs.Prelude.{Ok, None, Some, Option}
use mathlib.Core.Path.{◌≡◌, refl, sym, ap, subst, ◌∙◌}
use mathlib.Core.Bool.{Bool, true, false, ◌&&◌, ◌||◌}
use Prim.Native.Nat.{ℕ}
use native.Mathlib.Omega.{arith}
use native.Mathlib.Decide.{ℕ_discrete}
use Rattle.counting.specs.Times.{times}
use Rattle.index_types.specs.declared.NodeId.{NodeId}
use Rattle.link_forest.specs.Forest.{Forest, has, Distinct, remove, part}
use Rattle.link_forest.proofs.Counting.{remove_has}
use Rattle.tree_state.specs.declared.Tree.{Tree}
use Rattle.tree_state.specs.Tree.{local_at}
use Rattle.tree_steps.specs.Structure.{reparent_verdict, reparent_tree}
use Rattle.tree_invariant.proofs.calls.Accepted.{reparent_accepted}
use Rattle.tree_invariant.proofs.calls.Reparent.{keep_reparent, reparent_dirty_new, reparent_dirty_other}
use Rattle.tree_invariant.proofs.calls.Links.{reparent_links}
use Rattle.tree_laws.proofs.Ground.{live_has, low}
use Rattle.plan.specs.Lists.{put}
use Rattle.plan.specs.Plan as plan
use Rattle.plan.specs.Plan.{Plan, Mark, changed_in_both, onto, moved}
use Rattle.plan.specs.Visits.{counts_as_changed}
use Rattle.plan.specs.Afresh.{lineage}
use Rattle.plan.specs.Calls as call
use Rattle.plan.specs.Calls.{accepted}
use Rattle.agreement.proofs.Same.{Same, Settled, Known, mark_of}
use Rattle.agreement_calls.proofs.Tests.{at_or_below_same}
use Rattle.agreement_calls.proofs.Frame.{put_same, put_other, any_at, Still, still_right}
use Rattle.agreement_calls.proofs.Insert.{parent_in_lem, changed_unsettled, settled_itself}
use Rattle.agreement_calls.proofs.Onto.{Parent, moved_has, moved_above, moved_below}

-- a parent that is not the node or below it stays when the node is taken out
parent_stays : (o : Option NodeId) (x : ℕ) (p : Plan) → has x p.links ≡ true → Parent o p.links → plan.at_or_below p x o ≡ false → Parent o (remove x p.links)
parent_stays None x p live q b = tt
parent_stays (Some h) x p live q b = remove_has h.0 x p.links live q b

module _ (t : Tree) (p : Plan) (K : Known t p) (i : NodeId) (o : Option NodeId) (e : reparent_verdict t i o ≡ Ok tt) where
  abbrev x : ℕ
  x = i.0

  abbrev f : Forest
  f = p.links

  abbrev T : Tree
  T = reparent_tree t x o

  abbrev P : Plan
  P = record { links = onto o (part x f) (remove x f); slots = p.slots; local = p.local; mark = put p.mark x changed_in_both; entries = p.entries }

  once : Distinct f
  once = K.same.links.once

  live : has x f ≡ true
  live = sym (live_has t f K.same.links x) ∙ (reparent_accepted t i o e).is_live_lem

  parent : Parent o (remove x f)
  parent =
      let A = reparent_accepted t i o e in
      parent_stays o x p live (parent_in_lem t p K o A.parent_live_lem) (sym (at_or_below_same t p K x live o) ∙ A.not_below)

  pub was : (y : ℕ) → has y P.links ≡ true → has y f ≡ true
  was y h = sym (moved_has o x f once live parent y) ∙ h

  mark_here : mark_of T x ≡ changed_in_both
  mark_here = rw (reparent_dirty_new t x o K.whole (low t f K.same.links x live))

  mark_there : (y : ℕ) → (y ≡ x → ⊥) → mark_of T y ≡ mark_of t y
  mark_there y n = rw (reparent_dirty_other t x o K.whole (low t f K.same.links x live) y n)

  same : Same T P
  unfolding local_at
  same =
      let I = K.same in
      record {
        links = reparent_links t f I.links i o e;
        used = unfold reparent_tree in I.used;
        generation = unfold reparent_tree in I.generation;
        free = unfold reparent_tree in I.free;
        local = λ y h. unfold reparent_tree in I.local y (was y h);
        mark = λ y h. elim (ℕ_discrete y x) [
          | yes w ↦ rw w (mark_here ∙ sym (put_same p.mark x changed_in_both))
          | no n ↦ mark_there y n ∙ I.mark y (was y h) ∙ sym (put_other p.mark x changed_in_both y n)
        ];
        entry = λ y h. unfold reparent_tree in I.entry y (was y h);
        removed = unfold reparent_tree in I.removed;
        entries_used = unfold reparent_tree in I.entries_used;
        entries_free = unfold reparent_tree in I.entries_free;
      }

  -- ---- the world records
  changed : counts_as_changed P x ≡ false → ⊥
  changed c = changed_unsettled P x (put_same p.mark x changed_in_both) c

  other : (y : ℕ) → counts_as_changed P y ≡ false → y ≡ x → ⊥
  other y c w = changed (subst (λ (z : ℕ). counts_as_changed P z ≡ false) w c)

  -- a settled node is not below the moved one
  outside : (y : ℕ) → has y f ≡ true → Settled P y → has y (part x f) ≡ false
  unfolding times
  outside y h s = go (has y (part x f)) refl
    where
      go : (b : Bool) → has y (part x f) ≡ b → b ≡ false
      go true g =
          let n = other y (settled_itself P y s) in
          absurd (changed (any_at (counts_as_changed P) (lineage P y) s x (omega (arith, moved_below o x f once live parent y h g n))))
      go false g = refl

  still : Still t p T P
  unfolding reparent_tree
  still =
      record {
        path = λ y h s. let w = was y h in (w, moved_above o x f once live parent y w (outside y w s));
        kept = λ y c. record {
          unchanged = ap (λ (q : Mark). q.marked && (q.transform || q.clip)) (sym (put_other p.mark x changed_in_both y (other y c))) ∙ c;
          transform = refl;
          clip = refl;
        };
        place = λ y h c. refl;
        boxes = λ y h c u. record {
          unmarked = ap (λ (q : Mark). q.marked) (sym (put_other p.mark x changed_in_both y (other y c))) ∙ u;
          bounds = refl;
          slop = refl;
          stored_bounds_lem = refl;
          stored_hit_bounds_lem = refl;
          entry = refl;
        };
      }

  pub reparent_known : Known (reparent_tree t i.0 o) (accepted p (call.reparent i o))
  unfolding accepted moved reparent_tree
  reparent_known = let k = keep_reparent t i o K.whole K.sound e in record { whole = k.0; sound = k.1; same = same; queue = K.queue; backed = K.backed; right = still_right t p T P still K.right }
