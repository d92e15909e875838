-- An accepted remove keeps the agreement of a tree and a plan.
use Rattle.index_types.specs.declared.Slot.{Slot}
use Rattle.index_types.specs.Slots.{entry_in}
use Rattle.std.specs.Prelude.{Ok}
use mathlib.Core.Path.{◌≡◌, refl, sym, ap, ◌∙◌, subst}
use mathlib.Core.Bool.{true}
use mathlib.Core.List.{List, ◌∷◌, ◌++◌, reverse}
use Prim.Native.Nat.{ℕ, ◌≤◌}
use native.Mathlib.Omega.{arith}
use native.Mathlib.Decide.{dec_lt}
use lib.ListN.{take}
use Rattle.counting.specs.Times.{times}
use Rattle.counting.proofs.Counting.{times_append}
use Rattle.counting.proofs.Kit.{contra}
use Rattle.index_types.specs.declared.NodeId.{NodeId}
use Rattle.link_forest.specs.Forest.{has, above, remove}
use Rattle.link_forest.proofs.Holds.{above_remove}
use Rattle.index_sound.proofs.Exact.{counted}
use Rattle.index_commit.specs.Agree.{unseen}
use Rattle.geometry.specs.declared.rect.Rect.{Rect}
use Rattle.tree_worlds.specs.declared.Placed.{Placed}
use Rattle.tree_worlds.specs.World.{world_box, hit_box}
use Rattle.tree_types.specs.Local.{rect_to_aabb}
use Rattle.tree_state.specs.declared.Tree.{Tree}
use Rattle.tree_state.specs.Tree.{position_of, local_at, key_at, entry_mark, is_removed}
use Rattle.tree_steps.specs.Setters.{of_node}
use Rattle.tree_steps.specs.Structure.{remove_tree}
use Rattle.tree_state.specs.Whole.{Whole}
use Rattle.tree_laws.proofs.Ground.{live_has}
use Rattle.plan.specs.Lists.{any, joined}
use Rattle.plan.specs.Plan.{Plan, numbers, removed}
use Rattle.plan.specs.Visits.{counts_as_changed}
use Rattle.plan.specs.Afresh.{placed_on, world_place, world_bounds, world_hit_bounds}
use Rattle.agreement.proofs.Same.{Same, Settled, Right, Queued, Backed, Known, entry_of}
use Rattle.agreement.specs.Afresh.{Alike}
use Rattle.tree_invariant.proofs.remove.Counts.{joined_same, reverse_append}
use Rattle.tree_invariant.proofs.remove.Entries.{rest_stays, mark_stays, mark_removed, queued_keys}
use Rattle.tree_invariant.specs.remove.Removals.{Plain}
use Rattle.tree_invariant.proofs.remove.Keep as kept
use Rattle.tree_invariant.proofs.remove.Keep.{node_live}

module _ (t : Tree) (p : Plan) (K : Known t p) (x : ℕ) (h : has x p.links ≡ true) where
  abbrev gone : List ℕ
  gone = kept.gone t K.whole K.sound p.links K.same.links x h

  abbrev keys : List ℕ
  keys = kept.keys t K.whole K.sound p.links K.same.links x h

  abbrev after : Tree
  after = kept.after t K.whole K.sound p.links K.same.links x h

  plain : Plain t.index.entries keys
  plain = kept.plain t K.whole K.sound p.links K.same.links x h

  whole_after : Whole after
  whole_after = kept.whole_after t K.whole K.sound p.links K.same.links x h

  rest_has : (y : ℕ) → has y (remove x p.links) ≡ true → has y p.links ≡ true
  rest_has = kept.rest_has t K.whole K.sound p.links K.same.links x h

  -- ---- entries

  -- an entry stays as it was, or is among the keys and marked removed now
  mark_cases : {A : Type 0} (k : ℕ) → (entry_mark after k ≡ entry_mark t k → A) → (entry_mark after k ≡ 4 → entry_mark t k ≡ 1 → A) → A
  mark_cases k stays goes =
      elim (dec_lt (times k keys) 1) [
        | yes l ↦ stays (mark_stays t.index.entries keys k (omega arith))
        | no n ↦ goes (mark_removed t.index.entries keys K.whole.index.entries plain k (omega arith)) (plain.unmarked k (omega arith))
      ]

  box_stays : (k : ℕ) → (entry_in after.index.entries k).aabb ≡ (entry_in t.index.entries k).aabb
  box_stays k = ap (λ (e : Slot). e.aabb) (rest_stays t.index.entries keys k)

  -- an entry without a mark is not queued
  out : (k : ℕ) → 1 ≤ times k keys → times k (take t.index.queued t.index.dirty) ≡ 0
  out k n =
      elim (dec_lt (times k (take t.index.queued t.index.dirty)) 1) [
        | yes l ↦ omega arith
        | no m ↦ absurd (contra (sym (ap is_removed (plain.unmarked k n)) ∙ K.queue k (omega arith)) refl)
      ]

  queue_is : take after.index.queued after.index.dirty ≡ take t.index.queued t.index.dirty ++ keys
  queue_is =
      let X = t.index in
      let W = K.whole.index in
      queued_keys X.free X.frees X.used W.free X.entries X.dirty X.queued keys W.entries W.dirty plain
      (counted X.entries X.free X.frees X.dirty X.queued X.used W.entries W.free W.dirty K.sound.index) out

  -- the plan's entries of what goes are those keys
  keys_are : keys ≡ joined (λ y. numbers (p.entries.entry y)) gone
  keys_are =
      joined_same (λ y. numbers (entry_of t y)) (λ y. numbers (p.entries.entry y)) gone
      (λ y n. ap numbers (K.same.entry y (kept.gone_has t K.whole K.sound p.links K.same.links x h y n)))

  queue_after : Queued after
  queue_after k n =
      let m = rw (queue_is, times_append k (take t.index.queued t.index.dirty) keys) at n in
      elim (dec_lt (times k keys) 1) [
        | yes l ↦ ap is_removed (mark_stays t.index.entries keys k (omega arith)) ∙ K.queue k (omega arith)
        | no g ↦ ap is_removed (mark_removed t.index.entries keys K.whole.index.entries plain k (omega arith))
      ]

  backed_after : Backed after
  backed_after =
      let B = K.backed in
      record {
        entries_whole = whole_after.index.entries;
        stored_whole = B.stored_whole;
        own = λ k e. let H = mark_cases k (λ q. B.own k (sym q ∙ e)) (λ q u. B.own k u) in (H.0, H.1 ∙ sym (box_stays k));
        none = λ k. mark_cases k (λ q. B.none k ∙ ap unseen (sym q)) (λ q u. B.none k ∙ ap unseen u ∙ ap unseen (sym q));
      }

  -- ---- records

  same_after : Same after (removed p x)
  unfolding removed local_at
  same_after =
      let M = K.same in
      record {
        links = kept.linked_after t K.whole K.sound p.links K.same.links x h;
        used = M.used;
        generation = M.generation;
        free =
            ap reverse (kept.free_after t K.whole K.sound p.links K.same.links x h)
            ∙ reverse_append (take t.slots.frees t.slots.free) gone
            ∙ ap (λ (l : List ℕ). reverse gone ++ l) M.free;
        local = λ y g. M.local y (rest_has y g);
        mark = λ y g. M.mark y (rest_has y g);
        entry = λ y g. M.entry y (rest_has y g);
        removed = queue_is ∙ ap (λ (l : List ℕ). l ++ keys) M.removed ∙ ap (λ (l : List ℕ). p.entries.removed ++ l) keys_are;
        entries_used = M.entries_used;
        entries_free = M.entries_free;
      }

  -- ---- world records: what is above a node that stays is as it was

  above_is : (y : ℕ) → has y (remove x p.links) ≡ true → above y (remove x p.links) ≡ above y p.links
  above_is y g = above_remove p.links K.same.links.once x y g (rest_has y g)

  settled_was : (y : ℕ) → has y (remove x p.links) ≡ true → Settled (removed p x) y → Settled p y
  unfolding removed
  settled_was y g s = ap (λ (l : List ℕ). any (counts_as_changed p) (y ∷ l)) (sym (above_is y g)) ∙ s

  place_is : (y : ℕ) → has y (remove x p.links) ≡ true → world_place p y ≡ world_place (removed p x) y
  unfolding removed
  place_is y g = ap (λ (l : List ℕ). placed_on p.local (y ∷ l)) (sym (above_is y g))

  bounds_are : (y : ℕ) → has y (remove x p.links) ≡ true → world_bounds p y ≡ world_bounds (removed p x) y
  unfolding removed world_bounds
  bounds_are y g = ap (λ (q : Placed). world_box q (p.local y).local_bounds) (place_is y g)

  hit_bounds_are : (y : ℕ) → has y (remove x p.links) ≡ true → world_hit_bounds p y ≡ world_hit_bounds (removed p x) y
  unfolding removed world_hit_bounds
  hit_bounds_are y g = ap (λ (q : Placed). hit_box q (p.local y).local_bounds (p.local y).hit_slop) (place_is y g)

  right_after : Right after (removed p x)
  unfolding removed
  right_after =
      let R = K.right in
      record {
        place = λ y g s. R.place y (rest_has y g) (settled_was y g s) ∙ place_is y g;
        boxes = λ y g s m.
            let B = R.boxes y (rest_has y g) (settled_was y g s) m in
            record {
              bounds = B.bounds ∙ bounds_are y g;
              hit_bounds = B.hit_bounds ∙ hit_bounds_are y g;
              entry = rw (box_stays (key_at t y).0) (subst (λ (r : Rect). Alike (entry_in t.index.entries (key_at t y).0).aabb (rect_to_aabb r)) (hit_bounds_are y g) B.entry);
            };
      }

  pub known_after : Known after (removed p x)
  known_after =
      record {
        whole = whole_after;
        sound = kept.sound_after t K.whole K.sound p.links K.same.links x h;
        same = same_after;
        queue = queue_after;
        backed = backed_after;
        right = right_after;
      }

pub same_remove : (t : Tree) (p : Plan) (i : NodeId) → Known t p → of_node t i ≡ Ok tt → Known (remove_tree t (position_of t i.0)) (removed p i.0)
same_remove t p i K ok =
    let L = K.same.links in
    let h : has i.0 p.links ≡ true = sym (live_has t p.links L i.0) ∙ node_live t i ok in
    subst (λ (u : Tree). Known u (removed p i.0)) (sym (kept.removes_to t K.whole K.sound p.links L i.0 h)) (known_after t p K i.0 h)
