-- Whose an entry is, through the reworks of a commit: a committed live node's entry is not removed, stands under the node's key and carries
-- its id, and every entry that is not removed is such a node's.
use mathlib.Core.Path.{◌≡◌, refl, sym, ap, ◌∙◌}
use mathlib.Core.Bool.{Bool, true, false}
use mathlib.Core.List.{List, [], ◌∷◌}
use Prim.Native.Nat.{ℕ, ◌≤◌, ◌<◌}
use native.Mathlib.Omega.{arith}
use native.Mathlib.Decide.{dec_lt, ℕ_discrete}
use borrow.Author.Tests.{lt-leb, le-ltb, ne_eqb}
use lib.ListN.{length, length-set, get_or-eq_default}
use lib.Seq.{get_or-set_same, get_or-set_other}
use mathlib.Core.Logic.{◌⊎◌, inl, inr}
use Rattle.geometry.specs.declared.rect.Rect.{Rect}
use Rattle.geometry.specs.Rectangle.{rect_eq}
use Rattle.index_types.specs.declared.Aabb2D.{Aabb2D}
use Rattle.index_types.specs.declared.NodeId.{NodeId}
use Rattle.index_types.specs.declared.Slot.{Slot}
use Rattle.index_types.specs.Slots.{no_entry, entry_in}
use Rattle.index_types.proofs.Slots.{part_stays}
use Rattle.tree_types.specs.Local.{rect_to_aabb}
use Rattle.link_forest.specs.Forest.{Forest, has}
use Rattle.link_forest.proofs.Bools.{never}
use Rattle.index_entries.specs.declared.reads.Mark.{Mark}
use Rattle.index_entries.specs.declared.reads.Mark.TheVariants as is
use Rattle.index_entries.specs.Entries.{updated_mark, inserted_entry, updated_entry}
use Rattle.index_entries.proofs.Keep.{Kind, plain, new, moved, gone, kind}
use Rattle.index_commit.specs.Commit as commit
use Rattle.index_commit.specs.Commit.{act_of, committed_entry, entries_step, work, work_step}
use Rattle.index_commit.proofs.Keep.{other}
use Rattle.index_types.specs.declared.Index.{Index}
use Rattle.index_state.specs.Index.{slot_of, generation_of, insert_of, update_of, mark_at}
use Rattle.tree_state.specs.declared.IndexKey.{IndexKey}
use Rattle.tree_state.specs.declared.WorldNode.{WorldNode}
use Rattle.tree_state.specs.declared.Tree.{Tree}
use Rattle.tree_state.specs.Tree.{index_key, committed_at, stored_hit_bounds}
use Rattle.tree_state.specs.Tree as tree
use Rattle.tree_state.specs.Sound.{SoundTree}
use Rattle.tree_laws.proofs.Ground.{Linked, low, slot_live, live_has}
use Rattle.tree_steps.specs.Commit.{Work, new_key, enter_keys, enter_index, new_place, new_hit_bounds, rework, rework_all}
use Rattle.agreement.proofs.worlds.Visits.{slot_at}
use Rattle.agreement.proofs.worlds.Keyed.{Keyed, KeyedTree, Committed, entry, entered, entered_here, entered_there, entry_there, committed_there, vacant}
use Rattle.agreement.proofs.worlds.Entries.{Fitting, Inside, turn_keyed}

-- the entry e is node x's
pub record Belongs (k : List IndexKey) (ix : Index) (ids : ℕ → NodeId) (x e : ℕ) : Type 0 where
  pub kept : (entry_in ix.entries e).mark ≤ 3
  pub under_key : (entry_in ix.entries e).generation ≡ (index_key k x).key.1
  pub carries : (entry_in ix.entries e).payload ≡ ids x

pub record Owned (k : List IndexKey) (ix : Index) (ids : ℕ → NodeId) (f : Forest) : Type 0 where
  pub owns : (x : ℕ) → has x f ≡ true → Committed k x → Belongs k ix ids x (entry k x)
  pub owner : (e : ℕ) → e < 512 → ((entry_in ix.entries e).mark ≡ 0 → ⊥) → (entry_in ix.entries e).mark ≤ 3 → (x : ℕ) × (has x f ≡ true) × Committed k x × (entry k x ≡ e)

updated_kept : (m : Mark) → updated_mark m ≤ 3
updated_kept is.Unmarked = omega arith
updated_kept is.Added = omega arith
updated_kept is.Updated = omega arith
updated_kept is.Removed = omega arith

-- ---- one turn
module _ (k : List IndexKey) (ix : Index) (s : List WorldNode) (ids : ℕ → NodeId) (f : Forest) (below : (y : ℕ) → has y f ≡ true → y < 256) (K : Keyed k ix s f) (O : Owned k ix ids f) (x : ℕ) (h : has x f ≡ true) (b : Aabb2D) where
  update_owned : Committed k x → Owned k (update_of ix (entry k x) b) ids f
  update_owned c =
      record {
        owns = λ y g d. let B = O.owns y g d in record {
          kept = elim (ℕ_discrete (entry k y) a) [
            | yes q ↦ rw (q, get_or-set_same ix.entries a u no_entry fits) (updated_kept (mark_at ix a))
            | no n ↦ rw (get_or-set_other ix.entries a (entry k y) u no_entry n) B.kept
          ];
          under_key = part_stays no_entry (λ (e : Slot). e.generation) ix.entries a u refl (entry k y) ∙ B.under_key;
          carries = part_stays no_entry (λ (e : Slot). e.payload) ix.entries a u refl (entry k y) ∙ B.carries;
        };
        owner = λ e l m i. elim (ℕ_discrete e a) [
          | yes q ↦ (x, h, c, sym q)
          | no n ↦ let same = get_or-set_other ix.entries a e u no_entry n in O.owner e l (rw same at m) (rw same at i)
        ];
      }
    where
      a : ℕ
      a = entry k x

      u : Slot
      u = updated_entry (entry_in ix.entries a) b

      fits : a < length ix.entries
      fits = omega (arith, (K.held x h c).0, K.index.entries)

  module _ (c : (index_key k x).committed ≡ false) (fits : slot_of ix < 512) (free : (entry_in ix.entries (slot_of ix)).mark ≡ 0) where
    abbrev keys : List IndexKey
    keys = entered k ix x

    key_now : index_key keys x ≡ new_key ix
    key_now = entered_here k ix x K.keys (below x h)

    entry_now : entry keys x ≡ slot_of ix
    entry_now = ap (λ (i : IndexKey). i.key.0) key_now

    entry_stays : (y : ℕ) → (y ≡ x → ⊥) → entry keys y ≡ entry k y
    entry_stays y n = entry_there k ix x y n

    before : (y : ℕ) → (y ≡ x → ⊥) → Committed keys y → Committed k y
    before y n d = committed_there k ix x y n d

    abbrev new_entry : Slot
    new_entry = inserted_entry (entry_in ix.entries (slot_of ix)) (generation_of ix) b (ids x)

    new_there : entry_in (insert_of ix b (ids x)).entries (slot_of ix) ≡ new_entry
    new_there = get_or-set_same ix.entries (slot_of ix) new_entry no_entry (omega (arith, K.index.entries))

    old_there : (e : ℕ) → (e ≡ slot_of ix → ⊥) → entry_in (insert_of ix b (ids x)).entries e ≡ entry_in ix.entries e
    old_there e m = get_or-set_other ix.entries (slot_of ix) e new_entry no_entry m

    new_belongs : Belongs keys (insert_of ix b (ids x)) ids x (slot_of ix)
    new_belongs =
        record {
          kept = rw new_there (omega arith);
          under_key = rw new_there (ap (λ (i : IndexKey). i.key.1) (sym key_now));
          carries = rw new_there refl;
        }

    old_belongs : (y : ℕ) → (y ≡ x → ⊥) → (e : ℕ) → (e ≡ slot_of ix → ⊥) → Belongs k ix ids y e → Belongs keys (insert_of ix b (ids x)) ids y e
    old_belongs y n e m B =
        record {
          kept = rw (old_there e m) B.kept;
          under_key = rw (old_there e m) (B.under_key ∙ ap (λ (i : IndexKey). i.key.1) (sym (entered_there k ix x y n)));
          carries = rw (old_there e m) B.carries;
        }

    insert_owned : Owned keys (insert_of ix b (ids x)) ids f
    insert_owned =
        record {
          owns = λ y g d. elim (ℕ_discrete y x) [
            | yes q ↦ rw (q, entry_now) new_belongs
            | no n ↦
                let u = before y n d in
                rw (entry_stays y n) (old_belongs y n (entry k y) (λ e. (K.held y g u).1 (rw e free)) (O.owns y g u))
          ];
          owner = λ e l m i. elim (ℕ_discrete e (slot_of ix)) [
            | yes q ↦ (x, h, ap (λ (i : IndexKey). i.committed) key_now, entry_now ∙ sym q)
            | no n ↦
                let same = old_there e n in
                let w = O.owner e l (rw same at m) (rw same at i) in
                let apart : w.0 ≡ x → ⊥ = λ q. never w.2 (rw q c) in
                (w.0, w.1, ap (λ (i : IndexKey). i.committed) (entered_there k ix x w.0 apart) ∙ w.2, entry_stays w.0 apart ∙ w.3)
          ];
        }

-- ---- the turn, by its tests
abbrev pub OwnedTree : Tree → Forest → Type 0
OwnedTree t f = Owned t.keys t.index (tree.id_at t) f

module _ (t : Tree) (f : Forest) (below : (y : ℕ) → has y f ≡ true → y < 256) (K : KeyedTree t f) (O : OwnedTree t f) (x : ℕ) (h : has x f ≡ true) (r : Rect) where
  pub owned_turn : (b c : Bool) → committed_at t x ≡ b → (b ≡ false → slot_of t.index < 512) → Owned (enter_keys b t x) (enter_index b c t x (rect_to_aabb r)) (tree.id_at t) f
  owned_turn false c d fits =
      insert_owned t.keys t.index t.worlds (tree.id_at t) f below K O x h (rect_to_aabb r) d (fits refl)
      (vacant t.keys t.index t.worlds f below K x h (tree.world_at t x) (tree.id_at t x) d (fits refl))
  owned_turn true true d fits = O
  owned_turn true false d fits = update_owned t.keys t.index t.worlds (tree.id_at t) f below K O x h (rect_to_aabb r) d

-- ---- the fold
pub owned_ran : (f : Forest) (is : List ℕ) (k : Work) → Linked k.tree f → KeyedTree k.tree f → Inside k.tree.links is → Fitting k is → OwnedTree k.tree f → OwnedTree (rework_all k is).tree f
unfolding rework_all rework
owned_ran f [] k L K I F O = O
owned_ran f (i ∷ is) k L K I F O =
    let t = k.tree in
    let x = slot_at t.links i in
    let h = slot_live t f L i I.0 in
    let b = new_hit_bounds t x (new_place t i x) in
    owned_ran f is (rework k i) L (turn_keyed t f L K i x h F.0) I.1 F.1
    (owned_turn t f (low t f L) K O x h b (committed_at t x) (rect_eq (stored_hit_bounds t x) b) refl F.0)

-- ---- a sound tree's entries
pub owned_sound : (t : Tree) (f : Forest) → SoundTree t → Linked t f → OwnedTree t f
owned_sound t f S L =
    record {
      owns = λ x h c.
          let w = S.committed x (live_has t f L x ∙ h) c in
          record { kept = omega (arith, w.unmarked); under_key = w.under_key; carries = w.carries };
      owner = λ e l m i.
          let w = S.owned e l m (lt-leb 4 (tree.entry_mark t e) (omega arith)) in
          (w.0, sym (live_has t f L w.0) ∙ w.1, w.2, w.3.slot);
    }

-- ---- the index's own commit: an entry that is not removed stays, and no other does

-- what a slot's mark may become
pub record Comes (old new : ℕ) : Type 0 where
  pub empty : old ≡ 0 → new ≡ 0
  pub stays : 1 ≤ old → old ≤ 3 → (1 ≤ new) × (new ≤ 3)
  pub goes : 4 ≤ old → (4 ≤ new) ⊎ (new ≡ 0)

comes_on : (a b c : ℕ) → Comes a b → Comes b c → Comes a c
comes_on a b c P Q =
    record {
      empty = λ e. Q.empty (P.empty e);
      stays = λ l h. let w = P.stays l h in Q.stays w.0 w.1;
      goes = λ l. elim (P.goes l) [ inl g ↦ Q.goes g | inr e ↦ inr (Q.empty e) ];
    }

comes_same : (a : ℕ) → Comes a a
comes_same a = record { empty = λ e. e; stays = λ l h. (l, h); goes = λ l. inl l }

-- at the slot whose turn it is
comes_kind : {m : ℕ} {q : Mark} (e : Slot) → Kind m q → e.mark ≡ m → Comes m (committed_entry (act_of m) e).mark
unfolding act_of
comes_kind e plain w = rw w (comes_same 1)
comes_kind e new w = record { empty = λ z. absurd (omega arith); stays = λ a b. (omega arith, omega arith); goes = λ g. absurd (omega arith) }
comes_kind e moved w = record { empty = λ z. absurd (omega arith); stays = λ a b. (omega arith, omega arith); goes = λ g. absurd (omega arith) }
comes_kind e (gone {k = k} g) w =
    rw (le-ltb k 2 (omega arith), ne_eqb k 2 (λ z. omega arith), ne_eqb k 3 (λ z. omega arith))
    (record { empty = λ z. refl; stays = λ a b. absurd (omega arith); goes = λ h. inr refl })

comes_entry : (e : Slot) → Comes e.mark (committed_entry (act_of e.mark) e).mark
unfolding act_of
comes_entry e = elim (ℕ_discrete e.mark 0) [ yes z ↦ rw z (comes_same 0) | no n ↦ comes_kind e (kind e.mark n) refl ]

module _ (entries : List Slot) (x : ℕ) where
  abbrev now : List Slot
  now = entries_step (act_of (entry_in entries x).mark) entries x

  comes_at : Comes (entry_in entries x).mark (entry_in now x).mark
  comes_at =
      elim (dec_lt x (length entries)) [
        | yes l ↦ rw (get_or-set_same entries x (committed_entry (act_of (entry_in entries x).mark) (entry_in entries x)) no_entry l) (comes_entry (entry_in entries x))
        | no m ↦
            let past : length entries ≤ x = omega arith in
            let gone : length now ≤ x = omega (arith, length-set entries x (committed_entry (act_of (entry_in entries x).mark) (entry_in entries x))) in
            rw (get_or-eq_default now no_entry gone, get_or-eq_default entries no_entry past) (comes_same 0)
      ]

  pub comes_step : (y : ℕ) → Comes (entry_in entries y).mark (entry_in now y).mark
  comes_step y = elim (ℕ_discrete y x) [ yes e ↦ rw e comes_at | no n ↦ rw (other entries x (act_of (entry_in entries x).mark) y n) (comes_same (entry_in entries y).mark) ]

pub comes_work : (w : commit.Work) (xs : List ℕ) (y : ℕ) → Comes (entry_in w.entries y).mark (entry_in (work w xs).entries y).mark
unfolding work work_step
comes_work w [] y = comes_same (entry_in w.entries y).mark
comes_work w (x ∷ xs) y =
    comes_on (entry_in w.entries y).mark (entry_in (work_step w x).entries y).mark (entry_in (work (work_step w x) xs).entries y).mark
    (comes_step w.entries x y) (comes_work (work_step w x) xs y)
