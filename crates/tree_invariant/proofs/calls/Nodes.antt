-- Soundness put together again after a call that leaves the index and the pending rectangles: from the shape of the slots and what each live
-- node is.
use mathlib.Core.Path.{◌≡◌, sym, ap, subst, ◌∙◌}
use mathlib.Core.Bool.{true, false}
use Prim.Native.Nat.{ℕ, ◌+◌, ◌≤◌, ◌<◌}
use native.Mathlib.Omega.{arith}
use lib.ListN.{take}
use lib.IntN.{ℤ}
use Rattle.index_types.specs.Slots.{entry_in}
use Rattle.numbers.proofs.Bools.{four, all_four}
use Rattle.geometry.specs.declared.rect.Rect.{Rect}
use Rattle.geometry.specs.declared.insets.Insets.{Insets}
use Rattle.geometry.specs.Rectangle.{rect_eq, finite_rect, finite_insets}
use Rattle.geometry.specs.declared.affine.Affine.{Affine}
use Rattle.geometry.specs.Transform.{finite_affine}
use Rattle.geometry_clips.specs.declared.clip.Clip.{Clip}
use Rattle.geometry_clips.specs.Clips.{constructed, finite_clip}
use Rattle.index_types.specs.declared.Key.{Key}
use Rattle.tree_types.specs.declared.LocalNode.{LocalNode}
use Rattle.tree_types.specs.declared.NodeFlags.{NodeFlags}
use Rattle.tree_types.specs.Local.{finite_local, known, empty_rect, with_transform, with_clip, with_bounds, with_slop, with_level, with_flags}
use Rattle.counting.specs.Times.{times}
use Rattle.link_forest.specs.Forest.{Forest, pre, dep}
use Rattle.index_sound.specs.Sound.{SoundOf}
use Rattle.index_types.specs.declared.Index.{Index}
use Rattle.tree_state.specs.declared.Pending.{Pending}
use Rattle.tree_state.specs.declared.Tree.{Tree}
use Rattle.tree_state.specs.Tree as tree
use Rattle.tree_state.specs.Tree.{live_slots, local_at, clip_of, marked_at, transform_changed_at, clip_changed_at, committed_at, key_at, stored_bounds, stored_hit_bounds, entry_mark, is_removed}
use Rattle.tree_state.specs.Sound.{Live, Owns, Uncommitted, SoundTree, count_below, removed_entries, committed_nodes}

-- ---- values that pass

pub record Good (v : LocalNode) : Type 0 where
  pub bounds : finite_rect v.local_bounds ≡ true
  pub slop : finite_insets v.hit_slop ≡ true
  pub transform : finite_affine v.local_transform ≡ true
  pub clip : finite_clip v.local_clip ≡ true
  pub as_constructed_lem : constructed v.local_clip ≡ v.local_clip
  pub flags_known : known v.flags ≡ true

pub good : (v : LocalNode) → finite_local v ≡ true → constructed v.local_clip ≡ v.local_clip → known v.flags ≡ true → Good v
unfolding finite_local
good v h c k =
    let F = four (finite_rect v.local_bounds) (finite_insets v.hit_slop) (finite_affine v.local_transform) (finite_clip v.local_clip) h in
    record { bounds = F.first; slop = F.second; transform = F.third; clip = F.fourth; as_constructed_lem = c; flags_known = k }

pub good_finite : (v : LocalNode) → Good v → finite_local v ≡ true
unfolding finite_local
good_finite v G = all_four (record { first = G.bounds; second = G.slop; third = G.transform; fourth = G.clip })

-- with one field replaced
module _ (v : LocalNode) (G : Good v) where
  pub good_bounds : (r : Rect) → finite_rect r ≡ true → Good (with_bounds r v)
  good_bounds r f = record { bounds = f; slop = G.slop; transform = G.transform; clip = G.clip; as_constructed_lem = G.as_constructed_lem; flags_known = G.flags_known }

  pub good_slop : (s : Insets) → finite_insets s ≡ true → Good (with_slop s v)
  good_slop s f = record { bounds = G.bounds; slop = f; transform = G.transform; clip = G.clip; as_constructed_lem = G.as_constructed_lem; flags_known = G.flags_known }

  pub good_transform : (a : Affine) → finite_affine a ≡ true → Good (with_transform a v)
  good_transform a f = record { bounds = G.bounds; slop = G.slop; transform = f; clip = G.clip; as_constructed_lem = G.as_constructed_lem; flags_known = G.flags_known }

  pub good_clip : (c : Clip) → finite_clip c ≡ true → constructed c ≡ c → Good (with_clip c v)
  good_clip c f e = record { bounds = G.bounds; slop = G.slop; transform = G.transform; clip = f; as_constructed_lem = e; flags_known = G.flags_known }

  pub good_level : (z : ℤ) → Good (with_level z v)
  good_level z = record { bounds = G.bounds; slop = G.slop; transform = G.transform; clip = G.clip; as_constructed_lem = G.as_constructed_lem; flags_known = G.flags_known }

  pub good_flags : (f : NodeFlags) → known f ≡ true → Good (with_flags f v)
  good_flags f k = record { bounds = G.bounds; slop = G.slop; transform = G.transform; clip = G.clip; as_constructed_lem = G.as_constructed_lem; flags_known = k }

clip_constructed : (t : Tree) (y : ℕ) → Good (local_at t y) → constructed (clip_of t y) ≡ clip_of t y
unfolding local_at
clip_constructed t y G = G.as_constructed_lem

clip_good : (t : Tree) (y : ℕ) → constructed (clip_of t y) ≡ clip_of t y → constructed (local_at t y).local_clip ≡ (local_at t y).local_clip
unfolding local_at
clip_good t y e = e

pub good_of : (t : Tree) → SoundTree t → (y : ℕ) → Live t y → Good (local_at t y)
good_of t S y h = good (local_at t y) (S.finite y h) (clip_good t y (S.clips y h)) (S.flags_known y h)

-- ---- the slots and the links

pub record Shape (t : Tree) : Type 0 where
  pub used_fits : t.slots.used ≤ 256
  pub count_fits : t.links.count ≤ 256
  pub free_fits : t.slots.frees ≤ 256
  pub links : (f : Forest) × (live_slots t ≡ pre f) × (take t.links.count t.links.depth ≡ dep 1 f)
  pub once : (x : ℕ) → x < t.slots.used → times x (live_slots t) + times x (take t.slots.frees t.slots.free) ≡ 1
  pub beyond : (x : ℕ) → t.slots.used ≤ x → times x (live_slots t) + times x (take t.slots.frees t.slots.free) ≡ 0

-- ---- one live node

pub record Node (t : Tree) (x : ℕ) : Type 0 where
  pub values : Good (local_at t x)
  pub committed : committed_at t x ≡ true → Owns t x (key_at t x).0
  pub uncommitted : committed_at t x ≡ false → Uncommitted t x
  pub transform_marked : transform_changed_at t x ≡ true → marked_at t x ≡ true
  pub clip_marked : clip_changed_at t x ≡ true → marked_at t x ≡ true

-- a node's key, id and boxes stay, and what counts as changed still does
pub record Kept (t u : Tree) (x : ℕ) : Type 0 where
  pub committed : committed_at u x ≡ committed_at t x
  pub key : key_at u x ≡ key_at t x
  pub id : tree.id_at u x ≡ tree.id_at t x
  pub bounds : stored_bounds u x ≡ stored_bounds t x
  pub hit_bounds : stored_hit_bounds u x ≡ stored_hit_bounds t x
  pub transform_grows : transform_changed_at t x ≡ true → transform_changed_at u x ≡ true
  pub clip_grows : clip_changed_at t x ≡ true → clip_changed_at u x ≡ true

module _ (t u : Tree) (S : SoundTree t) (index : u.index ≡ t.index) where
  pub kept_owns : (x : ℕ) → Kept t u x → (k : ℕ) → Owns t x k → Owns u x k
  kept_owns x K k O =
      record {
        slot = ap (λ (key : Key). key.0) K.key ∙ O.slot;
        is_entry = O.is_entry;
        unmarked = ap (λ (ix : Index). (entry_in ix.entries k).mark) index ∙ O.unmarked;
        under_key = ap (λ (ix : Index). (entry_in ix.entries k).generation) index ∙ O.under_key ∙ sym (ap (λ (key : Key). key.1) K.key);
        carries = ap (λ (ix : Index). (entry_in ix.entries k).payload) index ∙ O.carries ∙ sym K.id;
      }

  -- a node that was live
  pub kept_node : (x : ℕ) → Live t x → Kept t u x → Good (local_at u x) → (transform_changed_at u x ≡ true → marked_at u x ≡ true)
      → (clip_changed_at u x ≡ true → marked_at u x ≡ true) → Node u x
  kept_node x h K G a b =
      record {
        values = G;
        committed = λ c. subst (λ (k : ℕ). Owns u x k) (sym (ap (λ (key : Key). key.0) K.key)) (kept_owns x K (key_at t x).0 (S.committed x h (sym K.committed ∙ c)));
        uncommitted =
            λ c. let N = S.uncommitted x h (sym K.committed ∙ c) in
            record {
              no_box = ap (λ (r : Rect). rect_eq r empty_rect) K.bounds ∙ N.no_box;
              no_hit_box = ap (λ (r : Rect). rect_eq r empty_rect) K.hit_bounds ∙ N.no_hit_box;
              in_transform = K.transform_grows N.in_transform;
              in_clip = K.clip_grows N.in_clip;
            };
        transform_marked = a;
        clip_marked = b;
      }

  pub assemble : u.pending ≡ t.pending → Shape u → ((x : ℕ) → Live u x → Node u x) → ((x : ℕ) → Live t x → Live u x × Kept t u x) → committed_nodes u ≡ committed_nodes t → SoundTree u
  assemble pending H nodes kept counted =
      record {
        used_fits = H.used_fits;
        count_fits = H.count_fits;
        free_fits = H.free_fits;
        pending_fits = subst (λ (p : Pending). p.count ≤ 256) (sym pending) S.pending_fits;
        links = H.links;
        once = H.once;
        beyond = H.beyond;
        finite = λ x h. good_finite (local_at u x) (nodes x h).values;
        flags_known = λ x h. (nodes x h).values.flags_known;
        clips = λ x h. clip_constructed u x (nodes x h).values;
        committed = λ x h. (nodes x h).committed;
        uncommitted = λ x h. (nodes x h).uncommitted;
        transform_marked = λ x h. (nodes x h).transform_marked;
        clip_marked = λ x h. (nodes x h).clip_marked;
        pending = let p = ap (λ (p : Pending). p.count) pending in let q = S.pending in omega (arith, p, q, removed);
        few = let q = S.few in omega (arith, q, removed, counted);
        owned = owner;
        index = subst (λ (ix : Index). SoundOf ix.entries ix.free ix.frees ix.dirty ix.queued ix.used) (sym index) S.index;
      }
    where
      removed : removed_entries u ≡ removed_entries t
      removed = ap (λ (ix : Index). count_below 512 (λ k. is_removed (entry_in ix.entries k).mark)) index

      owner : (k : ℕ) → k < 512 → (entry_mark u k ≡ 0 → ⊥) → is_removed (entry_mark u k) ≡ false → (x : ℕ) × Live u x × (committed_at u x ≡ true) × Owns u x k
      owner k l n r =
          let m : entry_mark u k ≡ entry_mark t k = ap (λ (ix : Index). (entry_in ix.entries k).mark) index in
          let O = S.owned k l (λ z. n (m ∙ z)) (sym (ap is_removed m) ∙ r) in
          let K = kept O.0 O.1 in
          (O.0, K.0, K.1.committed ∙ O.2, kept_owns O.0 K.1 k O.3)
