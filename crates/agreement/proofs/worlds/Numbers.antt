-- Entry numbers: the reworks of a commit give the tree's nodes the entries that the plan gives them, and the index's commit frees the entries
-- marked removed in their order.
use mathlib.Core.Path.{◌≡◌, refl, sym, ap, ap₂, ◌∙◌, subst}
use mathlib.Core.Logic.{◌⊎◌, inl, inr}
use mathlib.Core.Bool.{Bool, true, false, cond}
use mathlib.Core.List.{List, [], ◌∷◌, ◌++◌, map, reverse, reverse-append, append_assoc}
use Prim.Native.Nat.{ℕ, zero, suc, ◌+◌, ◌-◌, ◌≤◌, ◌<◌}
use native.Mathlib.Numerals.{add-one}
use native.Mathlib.Omega.{arith}
use native.Mathlib.Decide.{ℕ_discrete}
use borrow.Author.Tests.{eq-eqb, ne_eqb}
use lib.ListN.{length, get_or, set, take}
use lib.Seq.{take-suc, take-suc-set, get_or-set_same, get_or-set_other}
use Rattle.index_types.specs.declared.Slot.{Slot}
use Rattle.index_types.specs.Slots.{no_entry, entry_in}
use Rattle.geometry.specs.declared.rect.Rect.{Rect}
use Rattle.geometry.specs.Rectangle.{rect_eq}
use Rattle.index_types.specs.declared.Aabb2D.{Aabb2D}
use Rattle.index_types.specs.declared.NodeId.{NodeId}
use Rattle.counting.specs.Times.{times}
use Rattle.counting.proofs.Counting.{miss, times_append}
use Rattle.tree_types.specs.Local.{rect_to_aabb}
use Rattle.link_forest.specs.Forest.{Forest, has}
use Rattle.index_entries.specs.declared.reads.Mark.{Mark}
use Rattle.index_entries.specs.declared.reads.Mark.TheVariants as is
use Rattle.index_entries.specs.Entries.{stands, queue_with, length_with, slot_for, used_for, unmarked, updated_mark, updated_entry}
use Rattle.index_entries.proofs.Keep.{queue_stays, queue_grows, queue_room, queue_of}
use Rattle.index_types.specs.declared.Index.{Index}
use Rattle.index_state.specs.Index.{slot_of, insert_of, update_of, mark_at}
use Rattle.tree_state.specs.declared.IndexKey.{IndexKey}
use Rattle.tree_state.specs.declared.WorldNode.{WorldNode}
use Rattle.tree_state.specs.declared.Tree.{Tree}
use Rattle.tree_state.specs.Tree.{index_key, committed_at, key_at, stored_hit_bounds}
use Rattle.tree_state.specs.Tree as tree
use Rattle.tree_laws.proofs.Ground.{Linked, low, slot_live}
use Rattle.tree_steps.specs.Commit.{Work, enter_keys, enter_index, new_place, new_hit_bounds, rework, rework_all}
use Rattle.plan.specs.Plan.{Entry, number, Entries, slot_from, free_after, used_after}
use Rattle.plan.specs.Visits.{take_entry, enter_as, enter}
use Rattle.agreement.specs.Read.{entry_if}
use Rattle.agreement.proofs.Same.{as_entry}
use Rattle.agreement.proofs.worlds.Visits.{slot_at}
use Rattle.agreement.proofs.worlds.Keyed.{Keyed, KeyedTree, Committed, entry, entered, entered_here, entered_there, vacant}
use Rattle.agreement.proofs.worlds.Entries.{Fitting, Inside, turn_keyed}
use Rattle.agreement.proofs.worlds.Owned.{Owned, OwnedTree, owned_turn}

-- ---- a free list as the table has it, the last freed last, and as the plan has it
data Freed (l : List ℕ) : ℕ → List ℕ → Type 0 where
  empty : Freed l 0 []
  last : (m : ℕ) → Freed l (suc m) (get_or l m 0 ∷ reverse (take m l))

freed : (l : List ℕ) (n : ℕ) → n ≤ length l → Freed l n (reverse (take n l))
freed l zero h = empty
freed l (suc m) h = subst (Freed l (suc m)) (sym (ap reverse (take-suc l m 0 (omega arith)) ∙ reverse-append (take m l) (get_or l m 0 ∷ []))) (last m)

taken : (l : List ℕ) (used : ℕ) {n : ℕ} {free : List ℕ} → Freed l n free
    → (slot_for l n used ≡ slot_from free used) × (used_for n used ≡ used_after free used) × (reverse (take (n - 1) l) ≡ free_after free)
unfolding slot_for used_for
taken l used empty = (refl, add-one used, refl)
taken l used (last m) =
    let e : suc m - 1 ≡ m = omega arith in
    let z = ne_eqb (suc m) 0 (λ q. omega arith) in
    (rw (z, e), rw z, rw e)

-- ---- the queue with one more
module _ (dirty : List ℕ) (n a : ℕ) (first rest : List ℕ) where
  record Longer (d : List ℕ) (m : ℕ) : Type 0 where
    behind : List ℕ
    is : take m d ≡ first ++ behind
    members : (y : ℕ) → 1 ≤ times y behind → (1 ≤ times y rest) ⊎ (y ≡ a)

  longer_same : take n dirty ≡ first ++ rest → Longer dirty n
  longer_same e = record { behind = rest; is = e; members = λ y h. inl h }

  longer : take n dirty ≡ first ++ rest → (stands a dirty n ≡ false → n < length dirty) → Longer (queue_with dirty n a) (length_with dirty n a)
  unfolding times
  longer e room = go (stands a dirty n) refl
    where
      joins : stands a dirty n ≡ false → Longer (set dirty n a) (n + 1)
      joins s =
          record {
            behind = rest ++ (a ∷ []);
            is = ap (λ (m : ℕ). take m (set dirty n a)) (add-one n) ∙ take-suc-set dirty n a (room s) ∙ ap (λ (l : List ℕ). l ++ (a ∷ [])) e ∙ append_assoc first rest (a ∷ []);
            members = λ y h. elim (ℕ_discrete y a) [ yes q ↦ inr q | no q ↦ inl (omega (arith, times_append y rest (a ∷ []), miss y a q)) ];
          }

      go : (b : Bool) → stands a dirty n ≡ b → Longer (queue_with dirty n a) (length_with dirty n a)
      go true s = let q = queue_stays dirty n a s in rw (q.0, q.1) (longer_same e)
      go false s = let q = queue_grows dirty n a s in rw (q.0, q.1) (joins s)

-- ---- the tree's entries are the plan's
pub record Numbered (k : List IndexKey) (ix : Index) (e : Entries) (f : Forest) : Type 0 where
  pub entry_is : (x : ℕ) → has x f ≡ true → as_entry (index_key k x) ≡ e.entry x
  pub used_is : ix.used ≡ e.used
  pub free_is : reverse (take ix.frees ix.free) ≡ e.free
  -- the queue: the removed entries, then others
  pub rest : List ℕ
  pub queue_is : take ix.queued ix.dirty ≡ e.removed ++ rest
  pub removed : (y : ℕ) → 1 ≤ times y e.removed → 4 ≤ (entry_in ix.entries y).mark
  pub others : (y : ℕ) → 1 ≤ times y rest → (1 ≤ (entry_in ix.entries y).mark) × ((entry_in ix.entries y).mark ≤ 3)

-- what the plan has of a committed node, and of another
entry_of : (b c : Bool) (n : ℕ) (w : Entry) → entry_if b n ≡ w → b ≡ c → w ≡ entry_if c n
entry_of b c n w e d = sym e ∙ ap (λ (z : Bool). entry_if z n) d

-- another entry at a slot, that is not removed
module _ (entries : List Slot) (a : ℕ) (u : Slot) (l : a < length entries) (v1 : 1 ≤ u.mark) (v3 : u.mark ≤ 3) where
  set_others : (y : ℕ) → ((1 ≤ (entry_in entries y).mark) × ((entry_in entries y).mark ≤ 3)) ⊎ (y ≡ a) → (1 ≤ (entry_in (set entries a u) y).mark) × ((entry_in (set entries a u) y).mark ≤ 3)
  set_others y w =
      elim (ℕ_discrete y a) [
        | yes e ↦ rw (e, get_or-set_same entries a u no_entry l) (v1, v3)
        | no n ↦ rw (get_or-set_other entries a y u no_entry n) (elim w [ inl h ↦ h | inr e ↦ absurd (n e) ])
      ]

  set_removed : (entry_in entries a).mark ≤ 3 → (y : ℕ) → 4 ≤ (entry_in entries y).mark → 4 ≤ (entry_in (set entries a u) y).mark
  set_removed h y g =
      elim (ℕ_discrete y a) [ yes e ↦ absurd (omega (arith, rw e at g)) | no n ↦ rw (get_or-set_other entries a y u no_entry n) g ]

updated_low : (m : Mark) → 1 ≤ updated_mark m
updated_low is.Unmarked = omega arith
updated_low is.Added = omega arith
updated_low is.Updated = omega arith
updated_low is.Removed = omega arith

updated_high : (m : Mark) → updated_mark m ≤ 3
updated_high is.Unmarked = omega arith
updated_high is.Added = omega arith
updated_high is.Updated = omega arith
updated_high is.Removed = omega arith

-- ---- one turn
module _ (k : List IndexKey) (ix : Index) (s : List WorldNode) (ids : ℕ → NodeId) (f : Forest) (below : (y : ℕ) → has y f ≡ true → y < 256) (K : Keyed k ix s f) (O : Owned k ix ids f) (e : Entries) (N : Numbered k ix e f) (x : ℕ) (h : has x f ≡ true) (b : Aabb2D) where
  room : (a : ℕ) → a < 512 → stands a ix.dirty ix.queued ≡ false → ix.queued < length ix.dirty
  room a l s =
      let q = queue_room ix.dirty ix.queued (queue_of ix.entries ix.free ix.frees ix.dirty ix.queued ix.used K.counts K.index.entries) K.index.dirty a l s in
      omega (arith, K.index.dirty)

  update_numbered : Committed k x → Numbered k (update_of ix (entry k x) b) e f
  update_numbered c =
      record {
        entry_is = N.entry_is;
        used_is = N.used_is;
        free_is = N.free_is;
        rest = Q.behind;
        queue_is = Q.is;
        removed = λ y g. set_removed ix.entries a u fits (updated_low (mark_at ix a)) (updated_high (mark_at ix a)) (O.owns x h c).kept y (N.removed y g);
        others = λ y g. set_others ix.entries a u fits (updated_low (mark_at ix a)) (updated_high (mark_at ix a)) y (elim (Q.members y g) [ inl u ↦ inl (N.others y u) | inr u ↦ inr u ]);
      }
    where
      a : ℕ
      a = entry k x

      u : Slot
      u = updated_entry (entry_in ix.entries a) b

      fits : a < length ix.entries
      fits = omega (arith, (K.held x h c).0, K.index.entries)

      any : (q : Bool) → Longer ix.dirty ix.queued a e.removed N.rest (cond q (queue_with ix.dirty ix.queued a) ix.dirty) (cond q (length_with ix.dirty ix.queued a) ix.queued)
      any true = longer ix.dirty ix.queued a e.removed N.rest N.queue_is (room a (K.held x h c).0)
      any false = longer_same ix.dirty ix.queued a e.removed N.rest N.queue_is

      Q : Longer ix.dirty ix.queued a e.removed N.rest (cond (unmarked (mark_at ix a)) (queue_with ix.dirty ix.queued a) ix.dirty) (cond (unmarked (mark_at ix a)) (length_with ix.dirty ix.queued a) ix.queued)
      Q = any (unmarked (mark_at ix a))

  module _ (c : (index_key k x).committed ≡ false) (fits : slot_of ix < 512) (free : (entry_in ix.entries (slot_of ix)).mark ≡ 0) where
    T : (slot_of ix ≡ slot_from e.free e.used) × (used_for ix.frees ix.used ≡ used_after e.free e.used) × (reverse (take (ix.frees - 1) ix.free) ≡ free_after e.free)
    T =
        let F = taken ix.free ix.used (freed ix.free ix.frees (omega (arith, K.counts.free_fits, K.index.free))) in
        (F.0 ∙ ap₂ slot_from N.free_is N.used_is, F.1 ∙ ap₂ used_after N.free_is N.used_is, F.2 ∙ ap free_after N.free_is)

    insert_numbered : Numbered (entered k ix x) (insert_of ix b (ids x)) (take_entry e x) f
    insert_numbered = record {
      entry_is = λ y g. elim (ℕ_discrete y x) [
        | yes q ↦ rw (q, eq-eqb x x refl) (ap as_entry (entered_here k ix x K.keys (below x h)) ∙ ap number T.0)
        | no n ↦ rw (ne_eqb y x n) (ap as_entry (entered_there k ix x y n) ∙ N.entry_is y g)
      ];
      used_is = T.1;
      free_is = T.2;
      rest = Q.behind;
      queue_is = Q.is;
      removed = λ y g. set_removed ix.entries (slot_of ix) _ inside (omega arith) (omega arith) (rw free (omega arith)) y (N.removed y g);
      others = λ y g. set_others ix.entries (slot_of ix) _ inside (omega arith) (omega arith) y (elim (Q.members y g) [ inl u ↦ inl (N.others y u) | inr u ↦ inr u ]);
    }
      where
        inside : slot_of ix < length ix.entries
        inside = omega (arith, K.index.entries)

        Q : Longer ix.dirty ix.queued (slot_of ix) e.removed N.rest (queue_with ix.dirty ix.queued (slot_of ix)) (length_with ix.dirty ix.queued (slot_of ix))
        Q = longer ix.dirty ix.queued (slot_of ix) e.removed N.rest N.queue_is (room (slot_of ix) fits)

-- ---- the turn, by its tests
abbrev pub NumberedTree : Tree → Entries → Forest → Type 0
NumberedTree t e f = Numbered t.keys t.index e f

module _ (t : Tree) (f : Forest) (below : (y : ℕ) → has y f ≡ true → y < 256) (K : KeyedTree t f) (O : OwnedTree t f) (e : Entries) (N : NumberedTree t e f) (x : ℕ) (h : has x f ≡ true) (r : Rect) where
  numbered_turn : (b c : Bool) → committed_at t x ≡ b → (b ≡ false → slot_of t.index < 512) → Numbered (enter_keys b t x) (enter_index b c t x (rect_to_aabb r)) (enter_as (e.entry x) e x) f
  numbered_turn false c d fits =
      rw (entry_of (committed_at t x) false (key_at t x).0 (e.entry x) (N.entry_is x h) d)
      (insert_numbered t.keys t.index t.worlds (tree.id_at t) f below K O e N x h (rect_to_aabb r) d (fits refl)
      (vacant t.keys t.index t.worlds f below K x h (tree.world_at t x) (tree.id_at t x) d (fits refl)))
  numbered_turn true true d fits = rw (entry_of (committed_at t x) true (key_at t x).0 (e.entry x) (N.entry_is x h) d) N
  numbered_turn true false d fits =
      rw (entry_of (committed_at t x) true (key_at t x).0 (e.entry x) (N.entry_is x h) d)
      (update_numbered t.keys t.index t.worlds (tree.id_at t) f below K O e N x h (rect_to_aabb r) d)

-- ---- the fold
pub numbered_ran : (f : Forest) (is : List ℕ) (k : Work) (e : Entries) → Linked k.tree f → KeyedTree k.tree f → Inside k.tree.links is → Fitting k is → OwnedTree k.tree f
    → NumberedTree k.tree e f → NumberedTree (rework_all k is).tree (enter e (map (slot_at k.tree.links) is)) f
unfolding rework_all rework enter
numbered_ran f [] k e L K I F O N = N
numbered_ran f (i ∷ is) k e L K I F O N =
    let t = k.tree in
    let x = slot_at t.links i in
    let h = slot_live t f L i I.0 in
    let b = new_hit_bounds t x (new_place t i x) in
    let s = rect_eq (stored_hit_bounds t x) b in
    numbered_ran f is (rework k i) (enter_as (e.entry x) e x) L (turn_keyed t f L K i x h F.0) I.1 F.1
    (owned_turn t f (low t f L) K O x h b (committed_at t x) s refl F.0)
    (numbered_turn t f (low t f L) K O e N x h b (committed_at t x) s refl F.0)
