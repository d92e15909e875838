-- A tree and a plan that agree and need no commit: every live node's stored records are the plan's, it owns an entry whose box is its hit
-- box or equal to it as numbers, and every entry is one of these.
use mathlib.Core.Path.{◌≡◌, refl, sym, ap, ◌∙◌}
use mathlib.Core.Bool.{Bool, true, false, not, ◌&&◌, ◌||◌}
use mathlib.Core.List.{List, [], ◌∷◌}
use Prim.Native.Nat.{ℕ, ◌≤◌, ◌<◌}
use native.Mathlib.Omega.{arith}
use native.Mathlib.Decide.{dec_lt}
use borrow.Author.Tests.{ne_eqb, lt-leb}
use lib.Dec.{eqb}
use lib.ListN.{length, take}
use Rattle.index_types.specs.Slots.{entry_in, stored_in}
use Rattle.numbers.proofs.Bools.{or_true}
use Rattle.counting.specs.Times.{times}
use Rattle.counting.proofs.Kit.{contra}
use Rattle.counting.proofs.Words.{seen}
use Rattle.index_types.specs.declared.Aabb2D.{Aabb2D}
use Rattle.index_types.specs.declared.NodeId.{NodeId}
use Rattle.tree_types.specs.Local.{rect_to_aabb}
use Rattle.link_forest.specs.Forest.{Forest, pre, has, above}
use Rattle.link_forest.proofs.Counting.{count_pre, count_has, has_count, above_has}
use Rattle.tree_state.specs.declared.Tree.{Tree}
use Rattle.tree_state.specs.Tree.{id_at, marked_at, committed_at, key_at, stored_place, is_live, entry_mark}
use Rattle.tree_state.specs.Sound.{Owns}
use Rattle.tree_laws.proofs.Ground.{live_has}
use Rattle.plan.specs.Lists.{any}
use Rattle.tree_types.specs.declared.LocalNode.{LocalNode}
use Rattle.plan.specs.Plan.{Plan, Slots, Mark, Entry, number, nodes, id_of, needs_commit}
use Rattle.plan.specs.Visits.{counts_as_changed}
use Rattle.plan.specs.Afresh.{lineage, world_place, world_hit_bounds}
use Rattle.agreement.proofs.Same.{Known, Settled}
use Rattle.agreement.specs.Afresh.{Boxed}
use Rattle.agreement.specs.Read.{entry_if}
use Rattle.agreement_calls.proofs.requests.Lists.{In, Every, every_in, any_false, any_none}
use Rattle.agreement_calls.proofs.requests.Boxes.{Fair}

-- ---- what no need of a commit tells

-- no live node is marked, and no entry is marked removed
pub unneeded : (p : Plan) → needs_commit p ≡ false → (any (λ x. (p.mark x).marked) (nodes p) ≡ false) × (p.entries.removed ≡ [])
unfolding needs_commit
unneeded p e = go p.links p.slots p.local p.mark p.entries.entry p.entries.removed p.entries.used p.entries.free e
  where
    go : (f : Forest) (s : Slots) (v : ℕ → LocalNode) (m : ℕ → Mark) (n : ℕ → Entry) (r : List ℕ) (u : ℕ) (w : List ℕ)
        → needs_commit (record { links = f; slots = s; local = v; mark = m; entries = record { entry = n; removed = r; used = u; free = w } }) ≡ false → (any (λ x. (m x).marked) (pre f) ≡ false) × (r ≡ [])
    go f s v m n [] u w h = (neither (any (λ x. (m x).marked) (pre f)) h, refl)
      where
        neither : (a : Bool) → a || false ≡ false → a ≡ false
        neither true e = e
        neither false e = refl
    go f s v m n (k ∷ r) u w h = absurd (contra (or_true (any (λ x. (m x).marked) (pre f))) h)

module _ (t : Tree) (p : Plan) (K : Known t p) (quiet : needs_commit p ≡ false) where
  abbrev f : Forest
  f = p.links

  -- ---- live nodes

  pub node_has : (x : ℕ) → In x (nodes p) → has x f ≡ true
  node_has x n = count_has x f (omega (arith, count_pre x f))

  pub node_once : (x : ℕ) → has x f ≡ true → times x (nodes p) ≡ 1
  node_once x h = omega (arith, count_pre x f, has_count x f h, K.same.links.once x)

  pub nodes_live : Every (λ x. has x f ≡ true) (nodes p)
  nodes_live = every_in (λ x. has x f ≡ true) (nodes p) node_has

  pub ids : (x : ℕ) → id_at t x ≡ id_of p x
  ids x = ap (λ (g : ℕ). record { 0 = x; 1 = g }) (K.same.generation x)

  live : (x : ℕ) → has x f ≡ true → is_live t x ≡ true
  live x h = live_has t f K.same.links x ∙ h

  unmarked : (x : ℕ) → has x f ≡ true → (p.mark x).marked ≡ false
  unmarked x h = any_false (λ x. (p.mark x).marked) (nodes p) (unneeded p quiet).0 x (omega (arith, node_once x h))

  -- ---- their stored world records

  settled : (x : ℕ) → has x f ≡ true → Settled p x
  settled x h =
      any_none (counts_as_changed p) (lineage p x)
      (not_changed x h, every_in (λ y. counts_as_changed p y ≡ false) (above x f) (λ y i. not_changed y (above_has y x f h i)))
    where
      not_changed : (y : ℕ) → has y f ≡ true → counts_as_changed p y ≡ false
      not_changed y g = rw (unmarked y g)

  pub place : (x : ℕ) → has x f ≡ true → stored_place t x ≡ world_place p x
  place x h = K.right.place x h (settled x h)

  pub boxed : (x : ℕ) → has x f ≡ true → Boxed t p x
  boxed x h = K.right.boxes x h (settled x h) (unmarked x h)

  -- ---- their entries

  committed : (x : ℕ) → has x f ≡ true → committed_at t x ≡ true
  committed x h = go (committed_at t x) refl
    where
      go : (b : Bool) → committed_at t x ≡ b → b ≡ true
      go true e = refl
      go false e =
          let marked : marked_at t x ≡ true = K.sound.transform_marked x (live x h) (K.sound.uncommitted x (live x h) e).in_transform in
          absurd (contra marked (ap (λ (m : Mark). m.marked) (K.same.mark x h) ∙ unmarked x h))

  pub owns : (x : ℕ) → has x f ≡ true → Owns t x (key_at t x).0
  owns x h = K.sound.committed x (live x h) (committed x h)

  pub entry : (x : ℕ) → has x f ≡ true → p.entries.entry x ≡ number (key_at t x).0
  entry x h = sym (K.same.entry x h) ∙ ap (λ (b : Bool). entry_if b (key_at t x).0) (committed x h)

  -- an entry carries its owner's slot
  pub carried : (x : ℕ) → has x f ≡ true → (entry_in t.index.entries (key_at t x).0).payload.0 ≡ x
  carried x h = ap (λ (i : NodeId). i.0) (owns x h).carries

  -- ---- every entry

  pub entry_used : (k : ℕ) → (entry_mark t k ≡ 0 → ⊥) → k < p.entries.used
  entry_used k n =
      elim (dec_lt k t.index.used) [
        | yes l ↦ omega (arith, K.same.entries_used)
        | no g ↦ absurd (n (K.sound.index.beyond k (omega arith)))
      ]

  pub beyond_empty : (k : ℕ) → p.entries.used ≤ k → entry_mark t k ≡ 0
  beyond_empty k l = K.sound.index.beyond k (omega (arith, K.same.entries_used))

  pub used_few : p.entries.used ≤ 512
  used_few = omega (arith, K.sound.index.used_fits, K.same.entries_used)

  no_queue : take t.index.queued t.index.dirty ≡ []
  no_queue = K.same.removed ∙ (unneeded p quiet).1

  entry_plain : (k : ℕ) → entry_mark t k < 2
  unfolding times
  entry_plain k =
      elim (dec_lt (entry_mark t k) 2) [
        | yes l ↦ l
        | no n ↦
            let fits : t.index.queued ≤ length t.index.dirty = omega (arith, K.sound.index.queue_fits, K.whole.index.dirty) in
            absurd (omega (arith, rw no_queue at (seen t.index.dirty t.index.queued fits k (K.sound.index.marked_queued k (omega arith)))))
      ]

  pub owner : (k : ℕ) → (entry_mark t k ≡ 0 → ⊥) → (x : ℕ) × (has x f ≡ true) × ((key_at t x).0 ≡ k)
  owner k n =
      let low : k < 512 = omega (arith, entry_used k n, used_few) in
      let W = K.sound.owned k low n (lt-leb 4 (entry_mark t k) (omega (arith, entry_plain k))) in
      (W.0, sym (live_has t f K.same.links W.0) ∙ W.1, W.3.slot)

  -- ---- which entries a query visits

  abbrev pub visit : (Aabb2D → Bool) → ℕ → Bool
  visit q k = not (eqb (stored_in t.index.backend.entries k).present 0) && (not (eqb (entry_in t.index.entries k).mark 0) && q (stored_in t.index.backend.entries k).aabb)

  pub visit_empty : (q : Aabb2D → Bool) (k : ℕ) → entry_mark t k ≡ 0 → visit q k ≡ false
  visit_empty q k z = rw (K.backed.none k, z)

  pub visit_owner : (q : Aabb2D → Bool) → Fair q → (x : ℕ) → has x f ≡ true → visit q (key_at t x).0 ≡ q (rect_to_aabb (world_hit_bounds p x))
  visit_owner q F x h =
      let k = (key_at t x).0 in
      let m = (owns x h).unmarked in
      let B = K.backed.own k m in
      rw (ne_eqb (stored_in t.index.backend.entries k).present 0 B.0, m, B.1) (F (entry_in t.index.entries k).aabb (rect_to_aabb (world_hit_bounds p x)) (boxed x h).entry)
