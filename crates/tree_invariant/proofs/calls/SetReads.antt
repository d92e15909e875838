-- What is read after a setter: an equal value leaves the tree as it is; else the slot's record has the new value, its marks are set, and any
-- other slot is as it was.
use mathlib.Core.Path.{◌≡◌, refl, sym, ap, ◌∙◌}
use mathlib.Core.Bool.{Bool, true, false}
use mathlib.Core.List.{List}
use lib.ListN.{set}
use Prim.Native.Nat.{ℕ, ◌<◌}
use lib.IntN.{ℤ}
use Rattle.geometry.specs.declared.rect.Rect.{Rect}
use Rattle.geometry.specs.declared.insets.Insets.{Insets}
use Rattle.geometry.specs.Rectangle.{rect_eq, insets_eq}
use Rattle.geometry.specs.declared.affine.Affine.{Affine}
use Rattle.geometry.specs.Transform.{affine_eq}
use Rattle.geometry_clips.specs.declared.clip.Clip.{Clip}
use Rattle.geometry_clips.specs.Clips.{constructed, clip_eq}
use Rattle.tree_types.specs.declared.NodeFlags.{NodeFlags}
use Rattle.tree_types.specs.declared.LocalNode.{LocalNode}
use Rattle.tree_types.specs.Local.{with_transform, with_clip, with_bounds, with_slop, with_level, with_flags}
use Rattle.tree_state.specs.declared.Local.{Local}
use Rattle.tree_state.specs.declared.Dirty.{Dirty}
use Rattle.tree_state.specs.declared.Tree.{Tree}
use Rattle.tree_state.specs.Tree.{clip_of, local_at, dirty}
use Rattle.tree_steps.specs.Setters.{with_locals, unless, marked_alone, marked_transform, marked_clip, mark_alone, mark_transform, mark_clip, store_transform, store_clip, store_bounds, store_slop, store_level, store_flags, set_transform, set_clip, set_bounds, set_slop, set_level, set_flags}
use Rattle.tree_state.specs.Whole.{Whole}
use Rattle.tree_state.specs.Locals.{record_at, local_of, put_clip}
use Rattle.tree_state.proofs.Locals.{local_is, clip_stored, record_same, record_other}
use Rattle.tree_invariant.proofs.calls.Marks.{dirty_here, alone, in_transform, in_clip}

-- u is t but for local records and marks
pub record Rest (t u : Tree) : Type 0 where
  pub slots : u.slots ≡ t.slots
  pub links : u.links ≡ t.links
  pub worlds : u.worlds ≡ t.worlds
  pub keys : u.keys ≡ t.keys
  pub pending : u.pending ≡ t.pending
  pub index : u.index ≡ t.index

-- at the slot x the record v and the marks d, at any other what t has
pub record SetTo (t u : Tree) (x : ℕ) (v : LocalNode) (d : Dirty) : Type 0 where
  pub local : local_at u x ≡ v
  pub dirty_is : dirty u.marks x ≡ d
  pub local_other : (y : ℕ) → (y ≡ x → ⊥) → local_at u y ≡ local_at t y
  pub dirty_other : (y : ℕ) → (y ≡ x → ⊥) → dirty u.marks y ≡ dirty t.marks y

rest : (t : Tree) (l : List Local) (m : List Dirty) → Rest t (with_locals t l m)
rest t l m = record { slots = refl; links = refl; worlds = refl; keys = refl; pending = refl; index = refl }

rest_unless : (b : Bool) (t : Tree) (l : List Local) (m : List Dirty) → Rest t (unless b t (with_locals t l m))
rest_unless true t l m = record { slots = refl; links = refl; worlds = refl; keys = refl; pending = refl; index = refl }
rest_unless false t l m = rest t l m

unless_true : (b : Bool) (t u : Tree) → b ≡ true → unless b t u ≡ t
unless_true b t u e = ap (λ (c : Bool). unless c t u) e

unless_false : (b : Bool) (t u : Tree) → b ≡ false → unless b t u ≡ u
unless_false b t u e = ap (λ (c : Bool). unless c t u) e

module _ (t : Tree) (x : ℕ) where
  pub rest_transform : (a : Affine) → Rest t (set_transform t x a)
  unfolding set_transform
  rest_transform a = rest_unless (affine_eq (record_at t.locals x).transform a) t (store_transform t.locals x a) (mark_transform t.marks x)

  pub rest_clip : (c : Clip) → Rest t (set_clip t x c)
  unfolding set_clip
  rest_clip c =
      rest_unless (clip_eq (clip_of t x) (constructed c)) t (store_clip t.locals x (constructed c)) (mark_clip t.marks x)

  pub rest_bounds : (r : Rect) → Rest t (set_bounds t x r)
  unfolding set_bounds
  rest_bounds r = rest_unless (rect_eq (record_at t.locals x).bounds r) t (store_bounds t.locals x r) (mark_alone t.marks x)

  pub rest_slop : (s : Insets) → Rest t (set_slop t x s)
  unfolding set_slop
  rest_slop s = rest_unless (insets_eq (record_at t.locals x).slop s) t (store_slop t.locals x s) (mark_alone t.marks x)

  pub rest_level : (z : ℤ) → Rest t (set_level t x z)
  unfolding set_level
  rest_level z = rest t (store_level t.locals x z) t.marks

  pub rest_flags : (f : NodeFlags) → Rest t (set_flags t x f)
  unfolding set_flags
  rest_flags f = rest t (store_flags t.locals x f) t.marks

  -- ---- an equal value
  pub equal_transform : (a : Affine) → affine_eq (local_at t x).local_transform a ≡ true → set_transform t x a ≡ t
  unfolding set_transform local_at
  equal_transform a e = unless_true (affine_eq (record_at t.locals x).transform a) t (with_locals t (store_transform t.locals x a) (mark_transform t.marks x)) e

  pub equal_clip : (c : Clip) → clip_eq (local_at t x).local_clip (constructed c) ≡ true → set_clip t x c ≡ t
  unfolding set_clip local_at
  equal_clip c e =
      unless_true (clip_eq (clip_of t x) (constructed c)) t (with_locals t (store_clip t.locals x (constructed c)) (mark_clip t.marks x)) e

  pub equal_bounds : (r : Rect) → rect_eq (local_at t x).local_bounds r ≡ true → set_bounds t x r ≡ t
  unfolding set_bounds local_at
  equal_bounds r e = unless_true (rect_eq (record_at t.locals x).bounds r) t (with_locals t (store_bounds t.locals x r) (mark_alone t.marks x)) e

  pub equal_slop : (s : Insets) → insets_eq (local_at t x).hit_slop s ≡ true → set_slop t x s ≡ t
  unfolding set_slop local_at
  equal_slop s e = unless_true (insets_eq (record_at t.locals x).slop s) t (with_locals t (store_slop t.locals x s) (mark_alone t.marks x)) e

-- ---- another value
module _ (t : Tree) (w : Whole t) (x : ℕ) (low : x < 256) where
  -- its record is r
  module _ (r : Local) (m : List Dirty) where
    abbrev T : Tree
    T = with_locals t (set t.locals x r) m

    here : local_at T x ≡ local_of r
    here = local_is T x ∙ record_same t.locals x r w.locals low

    other : (y : ℕ) → (y ≡ x → ⊥) → local_at T y ≡ local_at t y
    other y n = local_is T y ∙ record_other t.locals x r y n ∙ sym (local_is t y)

  abbrev now : Local
  now = record_at t.locals x

  to_transform : (a : Affine) → SetTo t (with_locals t (store_transform t.locals x a) (mark_transform t.marks x)) x (with_transform a (local_at t x)) (marked_transform (dirty t.marks x))
  unfolding local_at
  to_transform a =
      let r = record now { transform = a } in
      let m = mark_transform t.marks x in
      let M = in_transform t.marks x w.marks low in
      record {
        local = here r m;
        dirty_is = dirty_here t.marks x w.marks low (marked_transform (dirty t.marks x));
        local_other = other r m;
        dirty_other = M.other;
      }

  to_clip : (c : Clip) → SetTo t (with_locals t (store_clip t.locals x c) (mark_clip t.marks x)) x (with_clip c (local_at t x)) (marked_clip (dirty t.marks x))
  unfolding local_at
  to_clip c =
      let r = put_clip c now in
      let m = mark_clip t.marks x in
      let M = in_clip t.marks x w.marks low in
      record {
        local = here r m ∙ clip_stored c now;
        dirty_is = dirty_here t.marks x w.marks low (marked_clip (dirty t.marks x));
        local_other = other r m;
        dirty_other = M.other;
      }

  -- marked alone
  to_alone : (r : Local) → SetTo t (with_locals t (set t.locals x r) (mark_alone t.marks x)) x (local_of r) (marked_alone (dirty t.marks x))
  to_alone r =
      let m = mark_alone t.marks x in
      let M = alone t.marks x w.marks low in
      record {
        local = here r m;
        dirty_is = dirty_here t.marks x w.marks low (marked_alone (dirty t.marks x));
        local_other = other r m;
        dirty_other = M.other;
      }

  -- no mark
  to_plain : (r : Local) → SetTo t (with_locals t (set t.locals x r) t.marks) x (local_of r) (dirty t.marks x)
  to_plain r =
      record {
        local = here r t.marks;
        dirty_is = refl;
        local_other = other r t.marks;
        dirty_other = λ y n. refl;
      }

  pub read_transform : (a : Affine) → affine_eq (local_at t x).local_transform a ≡ false → SetTo t (set_transform t x a) x (with_transform a (local_at t x)) (marked_transform (dirty t.marks x))
  unfolding set_transform local_at
  read_transform a e =
      rw (unless_false (affine_eq now.transform a) t (with_locals t (store_transform t.locals x a) (mark_transform t.marks x)) e) (to_transform a)

  pub read_clip : (c : Clip) → clip_eq (local_at t x).local_clip (constructed c) ≡ false → SetTo t (set_clip t x c) x (with_clip (constructed c) (local_at t x)) (marked_clip (dirty t.marks x))
  unfolding set_clip local_at
  read_clip c e =
      rw (unless_false (clip_eq (clip_of t x) (constructed c)) t (with_locals t (store_clip t.locals x (constructed c)) (mark_clip t.marks x)) e)
      (to_clip (constructed c))

  pub read_bounds : (r : Rect) → rect_eq (local_at t x).local_bounds r ≡ false
      → SetTo t (set_bounds t x r) x (with_bounds r (local_at t x)) (marked_alone (dirty t.marks x))
  unfolding set_bounds local_at
  read_bounds r e =
      rw (unless_false (rect_eq now.bounds r) t (with_locals t (store_bounds t.locals x r) (mark_alone t.marks x)) e)
      (to_alone (record now { bounds = r }))

  pub read_slop : (s : Insets) → insets_eq (local_at t x).hit_slop s ≡ false → SetTo t (set_slop t x s) x (with_slop s (local_at t x)) (marked_alone (dirty t.marks x))
  unfolding set_slop local_at
  read_slop s e =
      rw (unless_false (insets_eq now.slop s) t (with_locals t (store_slop t.locals x s) (mark_alone t.marks x)) e)
      (to_alone (record now { slop = s }))

  pub read_level : (z : ℤ) → SetTo t (set_level t x z) x (with_level z (local_at t x)) (dirty t.marks x)
  unfolding set_level local_at
  read_level z = to_plain (record now { level = z })

  pub read_flags : (f : NodeFlags) → SetTo t (set_flags t x f) x (with_flags f (local_at t x)) (dirty t.marks x)
  unfolding set_flags local_at
  read_flags f = to_plain (record now { flags = f })
