-- Keys and entries through a rework: every committed live node has an entry of its own, whose box is the stored hit box or equals it as
-- numbers; a node without an entry gets an empty one, and a committed one keeps its own.
use mathlib.Core.Path.{◌≡◌, refl, sym, ap, ◌∙◌}
use mathlib.Core.Bool.{Bool, true, false, cond}
use mathlib.Core.List.{List}
use Prim.Native.Nat.{ℕ, ◌<◌}
use native.Mathlib.Omega.{arith}
use native.Mathlib.Decide.{ℕ_discrete}
use lib.ListN.{length, get_or, set, length-set}
use lib.Seq.{get_or-set_same, get_or-set_other}
use Rattle.numbers.proofs.Order.{four_alike}
use Rattle.geometry.specs.declared.rect.Rect.{Rect}
use Rattle.geometry.specs.Rectangle.{rect_eq}
use Rattle.index_types.specs.declared.Aabb2D.{Aabb2D}
use Rattle.index_types.specs.declared.NodeId.{NodeId}
use Rattle.index_types.specs.Boxes.{aabb_eq}
use Rattle.index_types.specs.declared.Slot.{Slot}
use Rattle.index_types.specs.Slots.{no_entry, entry_in}
use Rattle.tree_types.specs.Local.{rect_to_aabb}
use Rattle.link_forest.specs.Forest.{Forest, has}
use Rattle.index_entries.specs.declared.reads.Mark.{Mark}
use Rattle.index_entries.specs.declared.reads.Mark.TheVariants as is
use Rattle.index_entries.specs.Entries.{queue_with, unmarked, updated_mark, inserted_entry, updated_entry}
use Rattle.index_entries.proofs.Finding.{slot_unused}
use Rattle.index_entries.proofs.Keep.{slot_empty, keep_insert, keep_update}
use Rattle.index_types.specs.declared.Index.{Index}
use Rattle.index_state.specs.Index.{slot_of, generation_of, insert_of, update_of, mark_at}
use Rattle.index_state.proofs.Soundness.{Counts, queue_length}
use Rattle.tree_state.specs.declared.IndexKey.{IndexKey}
use Rattle.tree_state.specs.declared.WorldNode.{WorldNode}
use Rattle.tree_state.specs.declared.Tree.{Tree}
use Rattle.tree_state.specs.Worlds.{no_world}
use Rattle.tree_state.specs.Tree.{no_key, index_key, committed_at, id_at, key_at, stored_hit_bounds}
use Rattle.tree_state.specs.Whole.{WholeIndex}
use Rattle.tree_steps.specs.Commit.{new_key, enter_keys, enter_index}
use Rattle.agreement.specs.Afresh.{Alike, itself, as_numbers}

-- ---- boxes alike

-- a box that is like a rectangle's is like that of every rectangle that equals it as numbers
pub alike_on : (a : Aabb2D) (r s : Rect) → Alike a (rect_to_aabb r) → rect_eq r s ≡ true → Alike a (rect_to_aabb s)
unfolding aabb_eq rect_eq
alike_on a r s (itself e) h = as_numbers (rw e h)
alike_on a r s (as_numbers e) h =
    as_numbers
    (four_alike a.min_x a.min_y a.max_x a.max_y r.x0 r.y0 r.x1 r.y1 e s.x0 s.y0 s.x1 s.y1 ∙ h)

-- ---- lengths
if_length : {A : Type 0} (b : Bool) (l m : List A) (n : ℕ) → length l ≡ n → length m ≡ n → length (cond b l m) ≡ n
if_length true l m n p q = p
if_length false l m n p q = q

pub whole_insert : (ix : Index) (b : Aabb2D) (i : NodeId) → WholeIndex ix → WholeIndex (insert_of ix b i)
whole_insert ix b i W =
    record {
      entries = length-set ix.entries (slot_of ix) _ ∙ W.entries;
      free = W.free;
      dirty = queue_length ix.dirty ix.queued (slot_of ix) ∙ W.dirty;
      stored = W.stored;
    }

pub whole_update : (ix : Index) (k : ℕ) (b : Aabb2D) → WholeIndex ix → WholeIndex (update_of ix k b)
whole_update ix k b W =
    record {
      entries = length-set ix.entries k _ ∙ W.entries;
      free = W.free;
      dirty =
          if_length (unmarked (mark_at ix k)) (queue_with ix.dirty ix.queued k) ix.dirty 512 (queue_length ix.dirty ix.queued k ∙ W.dirty) W.dirty;
      stored = W.stored;
    }

-- ---- the invariant, over the keys, the index, the world records and the live nodes

abbrev pub Committed : List IndexKey → ℕ → Type 0
Committed k x = (index_key k x).committed ≡ true

abbrev pub entry : List IndexKey → ℕ → ℕ
entry k x = (index_key k x).key.0

abbrev pub hit_box : List WorldNode → ℕ → Rect
hit_box s x = (get_or s x no_world).hit_bounds

pub record Keyed (k : List IndexKey) (ix : Index) (s : List WorldNode) (f : Forest) : Type 0 where
  pub keys : length k ≡ 256
  pub index : WholeIndex ix
  pub worlds : length s ≡ 256
  pub counts : Counts ix
  pub held : (x : ℕ) → has x f ≡ true → Committed k x → (entry k x < 512) × ((entry_in ix.entries (entry k x)).mark ≡ 0 → ⊥)
  pub apart : (x y : ℕ) → has x f ≡ true → has y f ≡ true → Committed k x → Committed k y → entry k x ≡ entry k y → x ≡ y
  pub boxed : (x : ℕ) → has x f ≡ true → Committed k x → Alike (entry_in ix.entries (entry k x)).aabb (rect_to_aabb (hit_box s x))

-- the keys once x has the entry that an insert into the index gives
abbrev pub entered : List IndexKey → Index → ℕ → List IndexKey
entered k ix x = set k x (new_key ix)

pub entered_here : (k : List IndexKey) (ix : Index) (x : ℕ) → length k ≡ 256 → x < 256 → index_key (entered k ix x) x ≡ new_key ix
entered_here k ix x w l = get_or-set_same k x (new_key ix) no_key (omega arith)

pub entered_there : (k : List IndexKey) (ix : Index) (x y : ℕ) → (y ≡ x → ⊥) → index_key (entered k ix x) y ≡ index_key k y
entered_there k ix x y n = get_or-set_other k x y (new_key ix) no_key n

pub entry_there : (k : List IndexKey) (ix : Index) (x y : ℕ) → (y ≡ x → ⊥) → entry (entered k ix x) y ≡ entry k y
entry_there k ix x y n = ap (λ (i : IndexKey). i.key.0) (entered_there k ix x y n)

pub committed_there : (k : List IndexKey) (ix : Index) (x y : ℕ) → (y ≡ x → ⊥) → Committed (entered k ix x) y → Committed k y
committed_there k ix x y n d = ap (λ (i : IndexKey). i.committed) (sym (entered_there k ix x y n)) ∙ d

updated_held : (m : Mark) → updated_mark m ≡ 0 → ⊥
updated_held is.Unmarked e = omega arith
updated_held is.Added e = omega arith
updated_held is.Updated e = omega arith
updated_held is.Removed e = omega arith

-- ---- through the rework of x, whose new world record is w

module _ (k : List IndexKey) (ix : Index) (s : List WorldNode) (f : Forest) (low : (y : ℕ) → has y f ≡ true → y < 256) (K : Keyed k ix s f) (x : ℕ) (h : has x f ≡ true) (w : WorldNode) where
  abbrev r : Rect
  r = w.hit_bounds

  abbrev stored : List WorldNode
  stored = set s x w

  stored_now : hit_box stored x ≡ r
  stored_now = ap (λ (v : WorldNode). v.hit_bounds) (get_or-set_same s x w no_world (omega (arith, K.worlds, low x h)))

  stored_stays : (y : ℕ) → (y ≡ x → ⊥) → hit_box stored y ≡ hit_box s y
  stored_stays y n = ap (λ (v : WorldNode). v.hit_bounds) (get_or-set_other s x y w no_world n)

  stored_whole : length stored ≡ 256
  stored_whole = length-set s x w ∙ K.worlds

  -- a committed node whose hit box is equal as numbers: the entry stays
  stay : Committed k x → rect_eq (hit_box s x) r ≡ true → Keyed k ix stored f
  stay c e =
      record {
        keys = K.keys;
        index = K.index;
        worlds = stored_whole;
        counts = K.counts;
        held = K.held;
        apart = K.apart;
        boxed = λ y g d. elim (ℕ_discrete y x) [
          | yes q ↦ rw (q, stored_now) (alike_on (entry_in ix.entries (entry k x)).aabb (hit_box s x) r (K.boxed x h c) e)
          | no n ↦ rw (stored_stays y n) (K.boxed y g d)
        ];
      }

  -- a committed node: its entry gets the new box
  update : Committed k x → Keyed k (update_of ix (entry k x) (rect_to_aabb r)) stored f
  update c =
      record {
        keys = K.keys;
        index = whole_update ix a (rect_to_aabb r) K.index;
        worlds = stored_whole;
        counts = keep_update ix.entries ix.free ix.frees ix.dirty ix.queued ix.used K.counts K.index.entries K.index.free K.index.dirty a H.0 H.1 u refl;
        held = λ y g d. (
          (K.held y g d).0,
          elim (ℕ_discrete (entry k y) a) [
            | yes q ↦ rw (q, entry_new) (updated_held (mark_at ix a))
            | no n ↦ rw (get_or-set_other ix.entries a (entry k y) u no_entry n) (K.held y g d).1
          ],
        );
        apart = K.apart;
        boxed = λ y g d. elim (ℕ_discrete y x) [
          | yes q ↦ rw (q, stored_now, entry_new) (itself refl)
          | no n ↦ rw (stored_stays y n, get_or-set_other ix.entries a (entry k y) u no_entry (λ e. n (K.apart y x g h d c e))) (K.boxed y g d)
        ];
      }
    where
      a : ℕ
      a = entry k x

      H : (a < 512) × ((entry_in ix.entries a).mark ≡ 0 → ⊥)
      H = K.held x h c

      u : Slot
      u = updated_entry (entry_in ix.entries a) (rect_to_aabb r)

      entry_new : entry_in (update_of ix a (rect_to_aabb r)).entries a ≡ u
      entry_new = get_or-set_same ix.entries a u no_entry (omega (arith, H.0, K.index.entries))

  -- a node without an entry: it gets an empty one
  module _ (i : NodeId) (c : (index_key k x).committed ≡ false) (fits : slot_of ix < 512) where
    abbrev now : List IndexKey
    now = entered k ix x

    room : ix.frees ≡ 0 → ix.used < 512
    room e = rw (slot_unused ix.entries ix.free ix.frees ix.used e) at fits

    pub vacant : (entry_in ix.entries (slot_of ix)).mark ≡ 0
    vacant = slot_empty ix.entries ix.free ix.frees ix.dirty ix.queued ix.used K.counts K.index.entries K.index.free K.index.dirty room

    abbrev new : Slot
    new = inserted_entry (entry_in ix.entries (slot_of ix)) (generation_of ix) (rect_to_aabb r) i

    new_there : entry_in (insert_of ix (rect_to_aabb r) i).entries (slot_of ix) ≡ new
    new_there = get_or-set_same ix.entries (slot_of ix) new no_entry (omega (arith, K.index.entries))

    entry_now : entry now x ≡ slot_of ix
    entry_now = ap (λ (i : IndexKey). i.key.0) (entered_here k ix x K.keys (low x h))

    entry_stays : (y : ℕ) → (y ≡ x → ⊥) → entry now y ≡ entry k y
    entry_stays y n = entry_there k ix x y n

    before : (y : ℕ) → (y ≡ x → ⊥) → Committed now y → Committed k y
    before y n d = committed_there k ix x y n d

    -- no other node's entry is the new one
    other : (y : ℕ) → has y f ≡ true → Committed k y → entry k y ≡ slot_of ix → ⊥
    other y g d e = (K.held y g d).1 (rw e vacant)

    insert : Keyed now (insert_of ix (rect_to_aabb r) i) stored f
    insert =
        record {
          keys = length-set k x (new_key ix) ∙ K.keys;
          index = whole_insert ix (rect_to_aabb r) i K.index;
          worlds = stored_whole;
          counts = keep_insert ix.entries ix.free ix.frees ix.dirty ix.queued ix.used K.counts K.index.entries K.index.free K.index.dirty room new refl;
          held = λ y g d. elim (ℕ_discrete y x) [
            | yes q ↦ rw (q, entry_now, new_there) (fits, λ e. omega arith)
            | no n ↦ rw (entry_stays y n) (
              (K.held y g (before y n d)).0,
              rw (get_or-set_other ix.entries (slot_of ix) (entry k y) new no_entry (other y g (before y n d))) (K.held y g (before y n d)).1,
            )
          ];
          apart = λ y z g u d e q. elim (ℕ_discrete y x) [
            | yes m ↦ elim (ℕ_discrete z x) [
              | yes o ↦ m ∙ sym o
              | no o ↦ absurd (other z u (before z o e) (sym (entry_stays z o) ∙ sym q ∙ rw m entry_now))
            ]
            | no m ↦ elim (ℕ_discrete z x) [
              | yes o ↦ absurd (other y g (before y m d) (sym (entry_stays y m) ∙ q ∙ rw o entry_now))
              | no o ↦ K.apart y z g u (before y m d) (before z o e) (sym (entry_stays y m) ∙ q ∙ entry_stays z o)
            ]
          ];
          boxed = λ y g d. elim (ℕ_discrete y x) [
            | yes q ↦ rw (q, stored_now, entry_now, new_there) (itself refl)
            | no n ↦ rw (stored_stays y n, entry_stays y n, get_or-set_other ix.entries (slot_of ix) (entry k y) new no_entry (other y g (before y n d))) (K.boxed y g (before y n d))
          ];
        }

-- ---- the turn, by its tests

abbrev pub KeyedTree : Tree → Forest → Type 0
KeyedTree t f = Keyed t.keys t.index t.worlds f

module _ (t : Tree) (f : Forest) (low : (y : ℕ) → has y f ≡ true → y < 256) (K : KeyedTree t f) (x : ℕ) (h : has x f ≡ true) (w : WorldNode) where
  abbrev new_box : Aabb2D
  new_box = rect_to_aabb w.hit_bounds

  pub keyed_turn : (b c : Bool) → committed_at t x ≡ b → rect_eq (stored_hit_bounds t x) w.hit_bounds ≡ c → (b ≡ false → slot_of t.index < 512)
      → Keyed (enter_keys b t x) (enter_index b c t x new_box) (set t.worlds x w) f
  keyed_turn false c d e fits = insert t.keys t.index t.worlds f low K x h w (id_at t x) d (fits refl)
  keyed_turn true true d e fits = stay t.keys t.index t.worlds f low K x h w d e
  keyed_turn true false d e fits = update t.keys t.index t.worlds f low K x h w d

  -- the boxes of the other committed live nodes' entries stay
  pub box_stays : (y : ℕ) → (y ≡ x → ⊥) → has y f ≡ true → committed_at t y ≡ true → (b c : Bool) → committed_at t x ≡ b → (b ≡ false → slot_of t.index < 512)
      → (entry_in (enter_index b c t x new_box).entries (key_at t y).0).aabb ≡ (entry_in t.index.entries (key_at t y).0).aabb
  box_stays y n g u false c d fits =
      ap (λ (e : Slot). e.aabb)
      (get_or-set_other t.index.entries (slot_of t.index) (key_at t y).0 _ no_entry (other t.keys t.index t.worlds f low K x h w (id_at t x) d (fits refl) y g u))
  box_stays y n g u true true d fits = refl
  box_stays y n g u true false d fits =
      ap (λ (e : Slot). e.aabb) (get_or-set_other t.index.entries (key_at t x).0 (key_at t y).0 _ no_entry (λ e. n (K.apart y x g h u d e)))

  -- x is committed then, and the others are as they were
  pub committed_now : (b : Bool) → committed_at t x ≡ b → Committed (enter_keys b t x) x
  committed_now true d = d
  committed_now false d = ap (λ (i : IndexKey). i.committed) (entered_here t.keys t.index x K.keys (low x h))

pub keys_stay : (t : Tree) (x y : ℕ) → (y ≡ x → ⊥) → (b : Bool) → index_key (enter_keys b t x) y ≡ index_key t.keys y
keys_stay t x y n true = refl
keys_stay t x y n false = entered_there t.keys t.index x y n
