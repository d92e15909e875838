-- Keys and entries through one rework: every committed live node has an entry of its own, and every entry that is not removed is such a
-- node's; a node without an entry gets an empty one, and a committed one keeps its own.
use mathlib.Core.Path.{◌≡◌, refl, sym, ap, ◌∙◌}
use mathlib.Core.Bool.{Bool, true, false}
use mathlib.Core.List.{List}
use Prim.Native.Nat.{ℕ, ◌≤◌, ◌<◌}
use native.Mathlib.Omega.{arith}
use native.Mathlib.Decide.{ℕ_discrete}
use lib.ListN.{length, length-set}
use lib.Seq.{get_or-set_same, get_or-set_other}
use Rattle.index_types.specs.declared.Aabb2D.{Aabb2D}
use Rattle.index_types.specs.declared.NodeId.{NodeId}
use Rattle.index_types.specs.declared.Slot.{Slot}
use Rattle.index_types.specs.Slots.{no_entry, entry_in}
use Rattle.index_types.proofs.Slots.{part_stays}
use Rattle.link_forest.specs.Forest.{Forest, has}
use Rattle.link_forest.proofs.Bools.{never}
use Rattle.index_entries.specs.declared.reads.Mark.{Mark}
use Rattle.index_entries.specs.declared.reads.Mark.TheVariants as is
use Rattle.index_entries.specs.Entries.{updated_mark, inserted_entry, updated_entry}
use Rattle.index_entries.proofs.Finding.{slot_unused}
use Rattle.index_entries.proofs.Keep.{slot_empty, keep_insert, keep_update}
use Rattle.index_sound.proofs.Exact.{counted}
use Rattle.index_types.specs.declared.Index.{Index}
use Rattle.index_state.specs.Index.{slot_of, generation_of, insert_of, update_of, mark_at}
use Rattle.index_state.proofs.Soundness.{Counts}
use Rattle.tree_state.specs.declared.IndexKey.{IndexKey}
use Rattle.tree_state.specs.declared.Tree.{Tree}
use Rattle.tree_state.specs.Tree.{index_key, committed_at}
use Rattle.tree_state.specs.Tree as tree
use Rattle.tree_state.specs.Sound.{SoundTree}
use Rattle.tree_state.specs.Whole.{Whole, WholeIndex}
use Rattle.tree_laws.proofs.Ground.{Linked, live_has}
use Rattle.tree_steps.specs.Commit.{new_key, enter_keys, enter_index}
use Rattle.agreement.proofs.worlds.Keyed.{Committed, entry, entered, entered_here, entered_there, entry_there, committed_there, whole_insert, whole_update}
use Rattle.agreement.proofs.worlds.Owned.{Belongs, Owned, owned_sound}

pub record Filed (k : List IndexKey) (ix : Index) (ids : ℕ → NodeId) (f : Forest) : Type 0 where
  pub keys : length k ≡ 256
  pub index : WholeIndex ix
  pub counts : Counts ix
  pub held : (x : ℕ) → has x f ≡ true → Committed k x → (entry k x < 512) × ((entry_in ix.entries (entry k x)).mark ≡ 0 → ⊥)
  pub owned : Owned k ix ids f

-- the number that an update leaves
updated_kept : (m : Mark) → (updated_mark m ≤ 3) × (updated_mark m ≡ 0 → ⊥)
updated_kept is.Unmarked = (omega arith, λ e. omega arith)
updated_kept is.Added = (omega arith, λ e. omega arith)
updated_kept is.Updated = (omega arith, λ e. omega arith)
updated_kept is.Removed = (omega arith, λ e. omega arith)

module _ (k : List IndexKey) (ix : Index) (ids : ℕ → NodeId) (f : Forest) (low : (y : ℕ) → has y f ≡ true → y < 256) (K : Filed k ix ids f) (x : ℕ) (h : has x f ≡ true) (b : Aabb2D) where
  -- ---- a committed node: its entry gets a box
  update_filed : Committed k x → Filed k (update_of ix (entry k x) b) ids f
  update_filed c =
      record {
        keys = K.keys;
        index = whole_update ix a b K.index;
        counts = keep_update ix.entries ix.free ix.frees ix.dirty ix.queued ix.used K.counts K.index.entries K.index.free K.index.dirty a H.0 H.1 u refl;
        held = λ y g d. (
          (K.held y g d).0,
          elim (ℕ_discrete (entry k y) a) [
            | yes q ↦ rw (q, get_or-set_same ix.entries a u no_entry fits) (updated_kept (mark_at ix a)).1
            | no n ↦ rw (get_or-set_other ix.entries a (entry k y) u no_entry n) (K.held y g d).1
          ],
        );
        owned = record { owns = owns; owner = owner };
      }
    where
      a : ℕ
      a = entry k x

      H : (a < 512) × ((entry_in ix.entries a).mark ≡ 0 → ⊥)
      H = K.held x h c

      u : Slot
      u = updated_entry (entry_in ix.entries a) b

      fits : a < length ix.entries
      fits = omega (arith, H.0, K.index.entries)

      owns : (y : ℕ) → has y f ≡ true → Committed k y → Belongs k (update_of ix a b) ids y (entry k y)
      owns y g d =
          let B = K.owned.owns y g d in
          record {
            kept = elim (ℕ_discrete (entry k y) a) [
              | yes q ↦ rw (q, get_or-set_same ix.entries a u no_entry fits) (updated_kept (mark_at ix a)).0
              | no n ↦ rw (get_or-set_other ix.entries a (entry k y) u no_entry n) B.kept
            ];
            under_key = part_stays no_entry (λ (e : Slot). e.generation) ix.entries a u refl (entry k y) ∙ B.under_key;
            carries = part_stays no_entry (λ (e : Slot). e.payload) ix.entries a u refl (entry k y) ∙ B.carries;
          }

      owner : (e : ℕ) → e < 512 → ((entry_in (update_of ix a b).entries e).mark ≡ 0 → ⊥) → (entry_in (update_of ix a b).entries e).mark ≤ 3
          → (y : ℕ) × (has y f ≡ true) × Committed k y × (entry k y ≡ e)
      owner e l m i =
          elim (ℕ_discrete e a) [
            | yes q ↦ (x, h, c, sym q)
            | no n ↦ let same = get_or-set_other ix.entries a e u no_entry n in K.owned.owner e l (rw same at m) (rw same at i)
          ]

  -- ---- a node without an entry: it gets an empty one
  module _ (c : (index_key k x).committed ≡ false) (fits : slot_of ix < 512) where
    abbrev keys_with : List IndexKey
    keys_with = entered k ix x

    key_now : index_key keys_with x ≡ new_key ix
    key_now = entered_here k ix x K.keys (low x h)

    room : ix.frees ≡ 0 → ix.used < 512
    room e = rw (slot_unused ix.entries ix.free ix.frees ix.used e) at fits

    vacant : (entry_in ix.entries (slot_of ix)).mark ≡ 0
    vacant = slot_empty ix.entries ix.free ix.frees ix.dirty ix.queued ix.used K.counts K.index.entries K.index.free K.index.dirty room

    entry_now : entry keys_with x ≡ slot_of ix
    entry_now = ap (λ (i : IndexKey). i.key.0) key_now

    entry_stays : (y : ℕ) → (y ≡ x → ⊥) → entry keys_with y ≡ entry k y
    entry_stays y n = entry_there k ix x y n

    before : (y : ℕ) → (y ≡ x → ⊥) → Committed keys_with y → Committed k y
    before y n d = committed_there k ix x y n d

    -- no other node's entry is the new one
    other : (y : ℕ) → has y f ≡ true → Committed k y → entry k y ≡ slot_of ix → ⊥
    other y g d e = (K.held y g d).1 (rw e vacant)

    abbrev new : Slot
    new = inserted_entry (entry_in ix.entries (slot_of ix)) (generation_of ix) b (ids x)

    new_there : entry_in (insert_of ix b (ids x)).entries (slot_of ix) ≡ new
    new_there = get_or-set_same ix.entries (slot_of ix) new no_entry (omega (arith, K.index.entries))

    old_there : (e : ℕ) → (e ≡ slot_of ix → ⊥) → entry_in (insert_of ix b (ids x)).entries e ≡ entry_in ix.entries e
    old_there e m = get_or-set_other ix.entries (slot_of ix) e new no_entry m

    new_belongs : Belongs keys_with (insert_of ix b (ids x)) ids x (slot_of ix)
    new_belongs =
        record {
          kept = rw new_there (omega arith);
          under_key = rw new_there (ap (λ (i : IndexKey). i.key.1) (sym key_now));
          carries = rw new_there refl;
        }

    old_belongs : (y : ℕ) → (y ≡ x → ⊥) → (e : ℕ) → (e ≡ slot_of ix → ⊥) → Belongs k ix ids y e → Belongs keys_with (insert_of ix b (ids x)) ids y e
    old_belongs y n e m B =
        record {
          kept = rw (old_there e m) B.kept;
          under_key = rw (old_there e m) (B.under_key ∙ ap (λ (i : IndexKey). i.key.1) (sym (entered_there k ix x y n)));
          carries = rw (old_there e m) B.carries;
        }

    insert_owned : Owned keys_with (insert_of ix b (ids x)) ids f
    insert_owned =
        record {
          owns = λ y g d. elim (ℕ_discrete y x) [
            | yes q ↦ rw (q, entry_now) new_belongs
            | no n ↦ let u = before y n d in rw (entry_stays y n) (old_belongs y n (entry k y) (other y g u) (K.owned.owns y g u))
          ];
          owner = λ e l m i. elim (ℕ_discrete e (slot_of ix)) [
            | yes q ↦ (x, h, ap (λ (i : IndexKey). i.committed) key_now, entry_now ∙ sym q)
            | no n ↦
                let same = old_there e n in
                let w = K.owned.owner e l (rw same at m) (rw same at i) in
                let apart : w.0 ≡ x → ⊥ = λ q. never w.2 (rw q c) in
                (w.0, w.1, ap (λ (i : IndexKey). i.committed) (entered_there k ix x w.0 apart) ∙ w.2, entry_stays w.0 apart ∙ w.3)
          ];
        }

    insert_filed : Filed keys_with (insert_of ix b (ids x)) ids f
    insert_filed =
        record {
          keys = length-set k x (new_key ix) ∙ K.keys;
          index = whole_insert ix b (ids x) K.index;
          counts = keep_insert ix.entries ix.free ix.frees ix.dirty ix.queued ix.used K.counts K.index.entries K.index.free K.index.dirty room new refl;
          held = λ y g d. elim (ℕ_discrete y x) [
            | yes q ↦ rw (q, entry_now, new_there) (fits, λ e. omega arith)
            | no n ↦ rw (entry_stays y n) (
              (K.held y g (before y n d)).0,
              rw (old_there (entry k y) (other y g (before y n d))) (K.held y g (before y n d)).1,
            )
          ];
          owned = insert_owned;
        }

-- ---- the turn, by its tests
abbrev pub FiledTree : Tree → Forest → Type 0
FiledTree t f = Filed t.keys t.index (tree.id_at t) f

pub filed_turn : (t : Tree) (f : Forest) → ((y : ℕ) → has y f ≡ true → y < 256) → FiledTree t f → (x : ℕ) → has x f ≡ true → (r : Aabb2D) (b c : Bool) → committed_at t x ≡ b
    → (b ≡ false → slot_of t.index < 512) → Filed (enter_keys b t x) (enter_index b c t x r) (tree.id_at t) f
filed_turn t f low K x h r false c d fits = insert_filed t.keys t.index (tree.id_at t) f low K x h r d (fits refl)
filed_turn t f low K x h r true true d fits = K
filed_turn t f low K x h r true false d fits = update_filed t.keys t.index (tree.id_at t) f low K x h r d

-- x is committed then
pub committed_now : (t : Tree) (x : ℕ) → x < 256 → length t.keys ≡ 256 → (b : Bool) → committed_at t x ≡ b → Committed (enter_keys b t x) x
committed_now t x l W true d = d
committed_now t x l W false d = ap (λ (i : IndexKey). i.committed) (entered_here t.keys t.index x W l)

-- ---- a sound tree's
pub filed_sound : (t : Tree) (f : Forest) → Whole t → SoundTree t → Linked t f → FiledTree t f
filed_sound t f W S L =
    record {
      keys = W.keys;
      index = W.index;
      counts = counted t.index.entries t.index.free t.index.frees t.index.dirty t.index.queued t.index.used W.index.entries W.index.free W.index.dirty S.index;
      held = λ x h c. let w = S.committed x (live_has t f L x ∙ h) c in (w.is_entry, λ e. omega (arith, w.unmarked));
      owned = owned_sound t f S L;
    }
