-- The other calls keep that each committed live node's entry has its stored hit box, or one equal as numbers: none of them writes either.
use Rattle.index_types.specs.declared.NodeId.{NodeId}
use Rattle.std.specs.Prelude.{Option}
use mathlib.Core.Path.{◌≡◌, refl, sym, ap, ◌∙◌}
use mathlib.Core.Bool.{Bool, true, false}
use mathlib.Core.List.{List, [], ◌∷◌}
use Prim.Native.Nat.{ℕ}
use native.Mathlib.Omega.{arith}
use native.Mathlib.Decide.{dec_lt}
use lib.IntN.{ℤ}
use lib.ListN.{length, set, get_or-eq_default, length-set}
use lib.Seq.{get_or-set_same, get_or-set_other}
use Rattle.geometry.specs.declared.rect.Rect.{Rect}
use Rattle.geometry.specs.declared.insets.Insets.{Insets}
use Rattle.geometry.specs.Rectangle.{rect_eq, insets_eq}
use Rattle.geometry.specs.Transform.{affine_eq}
use Rattle.geometry.specs.declared.affine.Affine.{Affine}
use Rattle.geometry_clips.specs.declared.clip.Clip.{Clip}
use Rattle.geometry_clips.specs.Clips.{constructed, clip_eq}
use Rattle.tree_types.specs.declared.NodeFlags.{NodeFlags}
use Rattle.tree_types.specs.declared.LocalNode.{LocalNode}
use Rattle.link_forest.specs.Forest.{Forest, none, has}
use Rattle.link_forest.proofs.Bools.{never}
use Rattle.index_types.specs.declared.Slot.{Slot}
use Rattle.index_types.specs.declared.Index.{Index}
use Rattle.index_types.specs.Slots.{no_entry, entry_in}
use Rattle.index_types.proofs.Slots.{part_stays}
use Rattle.tree_state.specs.declared.IndexKey.{IndexKey}
use Rattle.tree_state.specs.declared.WorldNode.{WorldNode}
use Rattle.tree_state.specs.declared.Tree.{Tree}
use Rattle.tree_state.specs.Worlds.{no_world}
use Rattle.tree_state.specs.Locals.{record_at}
use Rattle.tree_state.specs.Tree.{fresh_tree, no_key, index_key, clip_of, committed_at, key_at, world_at, stored_hit_bounds}
use Rattle.tree_steps.specs.Setters.{with_locals, unless, store_transform, store_clip, store_bounds, store_slop, mark_transform, mark_clip, mark_alone, set_transform, set_clip, set_bounds, set_slop, set_level, set_flags}
use Rattle.tree_steps.specs.Structure.{slot_of, clear_boxes, subtree_at, remove_entry, remove_node, remove_all, remove_tree, reparent_tree, insert_tree}
use Rattle.agreement.proofs.worlds.Entries.{Entered}

pub entered_fresh : Entered fresh_tree none
unfolding has
entered_fresh x h c = never h refl

-- ---- the setters
entered_unless : (b : Bool) (t u : Tree) (f : Forest) → Entered t f → Entered u f → Entered (unless b t u) f
entered_unless true t u f E F = E
entered_unless false t u f E F = F

module _ (t : Tree) (f : Forest) (E : Entered t f) (x : ℕ) where
  pub entered_transform : (a : Affine) → Entered (set_transform t x a) f
  unfolding set_transform
  entered_transform a =
      entered_unless (affine_eq (record_at t.locals x).transform a) t (with_locals t (store_transform t.locals x a) (mark_transform t.marks x)) f E E

  pub entered_clip : (c : Clip) → Entered (set_clip t x c) f
  unfolding set_clip
  entered_clip c =
      entered_unless (clip_eq (clip_of t x) (constructed c)) t (with_locals t (store_clip t.locals x (constructed c)) (mark_clip t.marks x)) f E E

  pub entered_bounds : (r : Rect) → Entered (set_bounds t x r) f
  unfolding set_bounds
  entered_bounds r =
      entered_unless (rect_eq (record_at t.locals x).bounds r) t (with_locals t (store_bounds t.locals x r) (mark_alone t.marks x)) f E E

  pub entered_slop : (s : Insets) → Entered (set_slop t x s) f
  unfolding set_slop
  entered_slop s =
      entered_unless (insets_eq (record_at t.locals x).slop s) t (with_locals t (store_slop t.locals x s) (mark_alone t.marks x)) f E E

  pub entered_level : (z : ℤ) → Entered (set_level t x z) f
  unfolding set_level
  entered_level z = E

  pub entered_flags : (b : NodeFlags) → Entered (set_flags t x b) f
  unfolding set_flags
  entered_flags b = E

-- ---- structure: g has no node that f has not, but a new one
module _ (t : Tree) (f g : Forest) (E : Entered t f) where
  pub entered_reparent : (x : ℕ) (parent : Option NodeId) → ((y : ℕ) → has y g ≡ true → has y f ≡ true) → Entered (reparent_tree t x parent) g
  unfolding reparent_tree
  entered_reparent x parent s y h c = E y (s y h) c

  pub entered_insert : (parent : Option NodeId) (v : LocalNode) → ((y : ℕ) → has y g ≡ true → (y ≡ slot_of t.slots → ⊥) → has y f ≡ true) → Entered (insert_tree t parent v) g
  unfolding insert_tree
  entered_insert parent v s y h c =
      let x = slot_of t.slots in
      let box : stored_hit_bounds (insert_tree t parent v) y ≡ stored_hit_bounds t y =
      ap (λ (w : WorldNode). w.hit_bounds) (get_or-set_other t.worlds x y (clear_boxes (world_at t x)) no_world new) in
      let same = get_or-set_other t.keys x y (unset t.keys x) no_key new in
      rw (box, ap (λ (i : IndexKey). i.key.0) same) (E y (s y h new) (ap (λ (i : IndexKey). i.committed) (sym same) ∙ c))
    where
      unset : List IndexKey → ℕ → IndexKey
      unset k x = record (index_key k x) { committed = false }

      -- the new node has no key
      without : (k : List IndexKey) (x : ℕ) → (index_key (set k x (unset k x)) x).committed ≡ false
      without k x =
          elim (dec_lt x (length k)) [
            | yes i ↦ ap (λ (j : IndexKey). j.committed) (get_or-set_same k x (unset k x) no_key i)
            | no n ↦ ap (λ (j : IndexKey). j.committed) (get_or-eq_default (set k x (unset k x)) no_key (omega (arith, length-set k x (unset k x))))
          ]

      new : y ≡ slot_of t.slots → ⊥
      new e = never c (rw e (without t.keys (slot_of t.slots)))

-- what a removal leaves of keys, world records and entries' boxes
entry_box : (b : Bool) (ix : Index) (k e : ℕ) → (entry_in (remove_entry b ix k).entries e).aabb ≡ (entry_in ix.entries e).aabb
entry_box true ix k e = part_stays no_entry (λ (s : Slot). s.aabb) ix.entries k _ refl e
entry_box false ix k e = refl

removed_all : (t : Tree) (xs : List ℕ) → ((remove_all t xs).keys ≡ t.keys) × ((remove_all t xs).worlds ≡ t.worlds)
    × ((e : ℕ) → (entry_in (remove_all t xs).index.entries e).aabb ≡ (entry_in t.index.entries e).aabb)
unfolding remove_all
removed_all t [] = (refl, refl, λ e. refl)
removed_all t (x ∷ xs) =
    let R = removed_all (remove_node t x) xs in
    (R.0, R.1, λ e. R.2 e ∙ entry_box (committed_at t x) t.index (key_at t x).0 e)

pub entered_remove : (t : Tree) (f g : Forest) → Entered t f → (i : ℕ) → ((y : ℕ) → has y g ≡ true → has y f ≡ true) → Entered (remove_tree t i) g
unfolding remove_tree
entered_remove t f g E i s y h c =
    let R = removed_all t (subtree_at t.links i) in
    rw (R.0, R.1, R.2 (key_at t y).0) (E y (s y h) (rw R.0 at c))
