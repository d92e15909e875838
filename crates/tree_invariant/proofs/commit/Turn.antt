-- One turn of a commit: what it needs holds before it, and what it leaves is what the next one needs.
use mathlib.Core.Path.{◌≡◌, refl, sym, ap, ◌∙◌}
use mathlib.Core.Bool.{Bool, true, false, cond}
use mathlib.Core.List.{List, [], ◌∷◌, ◌++◌}
use Prim.Native.Nat.{ℕ, suc, ◌+◌, ◌≤◌, ◌<◌}
use native.Mathlib.Omega.{arith}
use native.Mathlib.Decide.{ℕ_discrete}
use borrow.Author.Tests.{lt-ltb, ne_eqb, eq-eqb}
use lib.ListN.{length, get_or, length-append}
use Rattle.geometry.specs.declared.rect.Rect.{Rect}
use Rattle.geometry.specs.Rectangle.{rect_eq, has_area}
use Rattle.index_types.specs.declared.Aabb2D.{Aabb2D}
use Rattle.counting.specs.Times.{tally, times}
use Rattle.counting.proofs.Counting.{tally_small, hit}
use Rattle.tree_types.specs.Local.{rect_to_aabb}
use Rattle.link_forest.specs.Forest.{Forest, has}
use Rattle.link_forest.proofs.Bools.{never}
use Rattle.index_entries.specs.Entries.{stands}
use Rattle.index_entries.proofs.Finding.{used_unused, used_last}
use Rattle.index_entries.proofs.Keep.{slot_fits, queue_of, queue_room}
use Rattle.index_types.specs.declared.Index.{Index}
use Rattle.index_types.specs.Slots.{entry_in}
use Rattle.index_state.specs.Index.{slot_of}
use Rattle.tree_worlds.specs.declared.Placed.{Placed}
use Rattle.tree_state.specs.declared.WorldNode.{WorldNode}
use Rattle.tree_state.specs.declared.IndexKey.{IndexKey}
use Rattle.tree_state.specs.declared.Tree.{Tree}
use Rattle.tree_state.specs.Tree.{committed_at, key_at, entry_mark, stored_bounds, stored_hit_bounds}
use Rattle.tree_state.specs.Sound.{count_of}
use Rattle.tree_laws.proofs.Ground.{Linked, small, low, slot_live}
use Rattle.tree_steps.specs.Commit.{Work, damage_of, enter_index, new_place, new_bounds, new_hit_bounds, rework}
use Rattle.tree_rework.specs.preconditions.Fits.{Fits}
use Rattle.tree_visits.proofs.Parents.{slots_at}
use Rattle.agreement.proofs.worlds.Turn.{whole_worlds, world_stays}
use Rattle.agreement.proofs.worlds.Keyed.{keys_stay}
use Rattle.tree_invariant.proofs.commit.Filed.{FiledTree, filed_turn, committed_now}

-- ---- the damage of one place: at most its old box, if that has an area, and its new one
damage_by : (e a b : Bool) (r s : Rect) → length (cond e [] (cond a (r ∷ []) [] ++ cond b (s ∷ []) [])) ≤ tally a + 1
damage_by true a b r s = omega arith
damage_by false true true r s = omega arith
damage_by false true false r s = omega arith
damage_by false false true r s = omega arith
damage_by false false false r s = omega arith

damage_few : (old new : Rect) (c : Bool) → (c ≡ false → has_area old ≡ false) → length (damage_of old new) ≤ tally c + 1
damage_few old new c h = omega (arith, damage_by (rect_eq old new) (has_area old) (has_area new) old new, at c h)
  where
    at : (c : Bool) → (c ≡ false → has_area old ≡ false) → tally (has_area old) ≤ tally c
    at true g = tally_small (has_area old)
    at false g = rw (g refl) (omega arith)

-- ---- a turn takes at most one slot of the index
slots_left : (t : Tree) (x n : ℕ) → t.index.used + suc n ≤ t.index.frees + 512 → (b c : Bool) (r : Aabb2D) → (enter_index b c t x r).used + n ≤ (enter_index b c t x r).frees + 512
slots_left t x n h true true r = omega arith
slots_left t x n h true false r = omega arith
slots_left t x n h false c r =
    let ix = t.index in
    elim (ℕ_discrete ix.frees 0) [
      | yes e ↦ omega (arith, used_unused ix.entries ix.free ix.frees ix.used e)
      | no m ↦ omega (arith, used_last ix.entries ix.free ix.frees ix.used m)
    ]

-- ---- what holds before the places vs are reworked; c tells which nodes were committed at the start
pub record Before (c : ℕ → Bool) (f : Forest) (k : Work) (vs : List ℕ) : Type 0 where
  pub links : Linked k.tree f
  pub filed : FiledTree k.tree f
  pub worlds : length k.tree.worlds ≡ 256
  pub no_box : (x : ℕ) → has x f ≡ true → committed_at k.tree x ≡ false → has_area (stored_bounds k.tree x) ≡ false
  pub inside : (i : ℕ) → 1 ≤ times i vs → i < k.tree.links.count
  pub once : (y : ℕ) → times y (slots_at k.tree.links.order vs) ≤ 1
  pub same : (y : ℕ) → 1 ≤ times y (slots_at k.tree.links.order vs) → committed_at k.tree y ≡ c y
  -- slots of the index that are left, and rectangles
  pub room : k.tree.index.used + length vs ≤ k.tree.index.frees + 512
  pub damage : length k.damage + (length vs + count_of c (slots_at k.tree.links.order vs)) ≤ 512

module _ (c : ℕ → Bool) (f : Forest) (k : Work) (i : ℕ) (vs : List ℕ) (B : Before c f k (i ∷ vs)) where
  abbrev t : Tree
  t = k.tree

  abbrev ix : Index
  ix = k.tree.index

  abbrev x : ℕ
  x = get_or k.tree.links.order i 0

  abbrev w : Placed
  w = new_place t i x

  abbrev rest : List ℕ
  rest = slots_at k.tree.links.order vs

  place : i < k.tree.links.count
  unfolding times
  place = B.inside i (omega (arith, hit i))

  live : has x f ≡ true
  live = slot_live t f B.links i place

  below : x < 256
  below = low t f B.links x live

  slot_there : slot_of ix < 512
  slot_there =
      let C = B.filed.counts in
      let W = B.filed.index in
      let r = B.room in
      slot_fits ix.entries ix.free ix.frees ix.dirty ix.queued ix.used C W.entries W.free W.dirty (λ e. omega arith)

  queue_left : (e : ℕ) → e < 512 → stands e ix.dirty ix.queued ≡ false → ix.queued < 512
  queue_left e l =
      let C = B.filed.counts in
      let W = B.filed.index in
      queue_room ix.dirty ix.queued (queue_of ix.entries ix.free ix.frees ix.dirty ix.queued ix.used C W.entries) W.dirty e l

  as_before : committed_at t x ≡ c x
  unfolding times
  as_before = B.same x (omega (arith, hit x))

  damaged : length (damage_of (stored_bounds t x) (new_bounds t x w)) ≤ tally (c x) + 1
  damaged = rw as_before at (damage_few (stored_bounds t x) (new_bounds t x w) (committed_at t x) (B.no_box x live))

  -- the place i can be reworked
  pub turn_fits : Fits k i
  unfolding rework count_of
  turn_fits =
      let C = B.filed.counts in
      record {
        place = place;
        count_fits = small t f B.links;
        slots_low = λ j l. low t f B.links (get_or t.links.order j 0) (slot_live t f B.links j l);
        used_fits = C.used_fits;
        frees_fit = C.free_fits;
        queue_fits = C.queue_fits;
        slot_fits = λ e. slot_there;
        slot_queued = λ e s. queue_left (slot_of ix) slot_there s;
        key_lives = λ e.
            let H = B.filed.held x live e in
            rw (lt-ltb (key_at t x).0 512 H.0, ne_eqb (entry_mark t (key_at t x).0) 0 H.1, eq-eqb (entry_in ix.entries (key_at t x).0).generation (key_at t x).1 (B.filed.owned.owns x live e).under_key);
        key_queued = λ e s. queue_left (key_at t x).0 (B.filed.held x live e).0 s;
        damage_fits = rw length-append (omega (arith, damaged, B.damage));
      }

  -- the visited node is committed then, and one that was stays so
  pub turn_now : committed_at (rework k i).tree x ≡ true
  unfolding rework
  turn_now = committed_now t x below B.filed.keys (committed_at t x) refl

  others : (y : ℕ) → (y ≡ x → ⊥) → committed_at (rework k i).tree y ≡ committed_at t y
  unfolding rework
  others y n = ap (λ (i : IndexKey). i.committed) (keys_stay t x y n (committed_at t x))

  pub turn_stays : (y : ℕ) → committed_at t y ≡ true → committed_at (rework k i).tree y ≡ true
  turn_stays y e = elim (ℕ_discrete y x) [ yes q ↦ rw q turn_now | no n ↦ others y n ∙ e ]

  apart : (y : ℕ) → 1 ≤ times y rest → y ≡ x → ⊥
  unfolding times
  apart y h e = omega (arith, B.once x, hit x, rw e at h)

  -- and the next one is ready
  pub turn_next : Before c f (rework k i) vs
  unfolding rework times count_of
  turn_next =
      let b = new_hit_bounds t x w in
      record {
        links = B.links;
        filed = filed_turn t f (low t f B.links) B.filed x live (rect_to_aabb b) (committed_at t x) (rect_eq (stored_hit_bounds t x) b) refl (λ e. slot_there);
        worlds = whole_worlds t x w B.worlds below;
        no_box = λ y h e. elim (ℕ_discrete y x) [
          | yes q ↦ never turn_now (rw q at e)
          | no n ↦ ap (λ (v : WorldNode). has_area v.bounds) (world_stays t x w y n) ∙ B.no_box y h (sym (others y n) ∙ e)
        ];
        inside = λ j l. B.inside j (omega arith);
        once = λ y. omega (arith, B.once y);
        same = λ y l. others y (apart y l) ∙ B.same y (omega arith);
        room = slots_left t x (length vs) B.room (committed_at t x) (rect_eq (stored_hit_bounds t x) b) (rect_to_aabb b);
        damage = rw length-append (omega (arith, damaged, B.damage));
      }
