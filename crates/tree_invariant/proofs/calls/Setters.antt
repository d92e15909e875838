-- Every accepted setter keeps the tree sound and the lengths of its tables: one law for all, by what the slot's record and marks become.
use Rattle.std.specs.Prelude.{Ok, Err}
use mathlib.Core.Path.{◌≡◌, refl, sym, ap, subst, ◌∙◌}
use mathlib.Core.Bool.{Bool, true, false}
use mathlib.Core.List.{List}
use Prim.Native.Nat.{ℕ, ◌<◌}
use native.Mathlib.Decide.{ℕ_discrete}
use lib.IntN.{ℤ}
use lib.ListN.{length, set, length-set}
use Rattle.geometry.specs.declared.rect.Rect.{Rect}
use Rattle.geometry.specs.declared.insets.Insets.{Insets}
use Rattle.geometry.specs.Rectangle.{rect_eq, insets_eq, finite_rect, finite_insets}
use Rattle.geometry.specs.declared.affine.Affine.{Affine}
use Rattle.geometry.specs.Transform.{affine_eq, finite_affine}
use Rattle.geometry_clips.specs.declared.clip.Clip.{Clip}
use Rattle.geometry_clips.specs.Clips.{constructed, clip_eq, finite_clip}
use Rattle.geometry_clips.proofs.Construct.{construct_again, construct_finite}
use Rattle.index_types.specs.declared.NodeId.{NodeId}
use Rattle.tree_types.specs.declared.NodeFlags.{NodeFlags}
use Rattle.tree_types.specs.Local.{known}
use Rattle.tree_state.specs.declared.Local.{Local}
use Rattle.tree_state.specs.declared.Dirty.{Dirty}
use Rattle.tree_state.specs.declared.Tree.{Tree}
use Rattle.tree_state.specs.declared.Refusal.TheVariants as no
use Rattle.tree_state.specs.Tree.{clip_of, dirty, Verdict}
use Rattle.tree_state.specs.Sound.{Live, SoundTree}
use Rattle.tree_sound.proofs.Exact.{live_low}
use Rattle.tree_steps.specs.Setters.{of_node, tree_if, with_locals, unless, mark_alone, mark_transform, mark_clip, set_transform, set_clip, set_bounds, set_slop, set_level, set_flags, transform_verdict, clip_verdict, bounds_verdict, slop_verdict, flags_verdict}
use Rattle.tree_laws.proofs.Whole.{sized}
use Rattle.tree_state.specs.Whole.{Whole}
use Rattle.tree_invariant.proofs.calls.Accepted.{checked_both, of_node_lem, of_value_lem}
use Rattle.tree_invariant.proofs.calls.Nodes.{Good, good_of, Shape, Node, Kept, kept_node, assemble, good_bounds, good_slop, good_transform, good_clip, good_level, good_flags}
use Rattle.tree_state.specs.Locals.{record_at, local_of, put_clip, local_in}
use Rattle.tree_state.proofs.Locals.{local_is, clip_stored, record_same, record_other}
use Rattle.tree_invariant.proofs.calls.Marks.{Grown, Marking, grown, alone, in_transform, in_clip}

abbrev pub Keeps : Tree → Type 0
Keeps t = Whole t × SoundTree t

-- a refused call leaves the tree as it was given
pub keep_if : (r : Verdict) (done t : Tree) → (r ≡ Ok tt → Keeps done) → Keeps t → Keeps (tree_if r done t)
keep_if (Ok tt) done t k h = k refl
keep_if (Err q) done t k h = h

shape_of : (t : Tree) → SoundTree t → (l : List Local) (m : List Dirty) → Shape (with_locals t l m)
shape_of t S l m =
    record { used_fits = S.used_fits; count_fits = S.count_fits; free_fits = S.free_fits; links = S.links; once = S.once; beyond = S.beyond }

-- ---- one law: local records and marks in place of the tree's, right at every live slot
pub keep_locals : (t : Tree) (l : List Local) (m : List Dirty) → Whole t → SoundTree t → length l ≡ 256 → length m ≡ 256
    → ((y : ℕ) → Live t y → Good (local_in l y)) → ((y : ℕ) → Live t y → Grown (dirty t.marks y) (dirty m y)) → Keeps (with_locals t l m)
keep_locals t l m w S wl wm good marks = (
  record { slots = w.slots; links = w.links; locals = wl; worlds = w.worlds; marks = wm; keys = w.keys; pending = w.pending; index = w.index },
  assemble t (with_locals t l m) S refl refl (shape_of t S l m) node (λ y h. (h, kept y h)) refl,
)
  where
    kept : (y : ℕ) → Live t y → Kept t (with_locals t l m) y
    kept y h = record { committed = refl; key = refl; id = refl; bounds = refl; hit_bounds = refl; transform_grows = (marks y h).transform; clip_grows = (marks y h).clip }

    node : (y : ℕ) → Live t y → Node (with_locals t l m) y
    node y h =
        kept_node t (with_locals t l m) S refl y h (kept y h) (subst Good (sym (local_is (with_locals t l m) y)) (good y h)) (marks y h).transform_marked (marks y h).clip_marked

-- ---- at one live slot
module _ (t : Tree) (w : Whole t) (S : SoundTree t) (x : ℕ) (here : Live t x) where
  low : x < 256
  low = live_low t (sized t w) S x here

  before : (y : ℕ) → Live t y → Good (local_in t.locals y)
  before y h = subst Good (local_is t y) (good_of t S y h)

  marks_at : (m : List Dirty) → Marking t.marks m x → (y : ℕ) → Live t y → Grown (dirty t.marks y) (dirty m y)
  marks_at m M y h = grown t.marks m x M y (S.transform_marked y h) (S.clip_marked y h)

  as_they_are : (y : ℕ) → Live t y → Grown (dirty t.marks y) (dirty t.marks y)
  as_they_are y h = record { transform = λ e. e; clip = λ e. e; transform_marked = S.transform_marked y h; clip_marked = S.clip_marked y h }

  either : (b : Bool) (u : Tree) → Keeps u → Keeps (unless b t u)
  either true u K = (w, S)
  either false u K = K

  -- its record is r, and the others stay
  slot_keeps : (r : Local) (m : List Dirty) → length m ≡ 256 → Good (local_of r) → ((y : ℕ) → Live t y → Grown (dirty t.marks y) (dirty m y))
      → Keeps (with_locals t (set t.locals x r) m)
  slot_keeps r m wm G grown_lem = keep_locals t (set t.locals x r) m w S (length-set t.locals x r ∙ w.locals) wm good grown_lem
    where
      good : (y : ℕ) → Live t y → Good (local_in (set t.locals x r) y)
      good y h =
          elim (ℕ_discrete y x) [
            | yes q ↦ subst Good (sym (ap (local_in (set t.locals x r)) q ∙ record_same t.locals x r w.locals low)) G
            | no n ↦ subst Good (sym (record_other t.locals x r y n)) (before y h)
          ]

  abbrev now : Local
  now = record_at t.locals x

  was : Good (local_of now)
  was = before x here

  slot_transform : (a : Affine) → finite_affine a ≡ true → Keeps (set_transform t x a)
  unfolding set_transform
  slot_transform a f =
      let r = record now { transform = a } in
      let m = mark_transform t.marks x in
      let M = in_transform t.marks x w.marks low in
      either (affine_eq now.transform a) (with_locals t (set t.locals x r) m)
      (slot_keeps r m M.whole (good_transform (local_of now) was a f) (marks_at m M))

  slot_clip : (c : Clip) → finite_clip c ≡ true → Keeps (set_clip t x c)
  unfolding set_clip
  slot_clip c f =
      let d = constructed c in
      let r = put_clip d now in
      let m = mark_clip t.marks x in
      let M = in_clip t.marks x w.marks low in
      either (clip_eq (clip_of t x) d) (with_locals t (set t.locals x r) m)
      (slot_keeps r m M.whole (subst Good (sym (clip_stored d now)) (good_clip (local_of now) was d (construct_finite c f) (construct_again c))) (marks_at m M))

  slot_bounds : (b : Rect) → finite_rect b ≡ true → Keeps (set_bounds t x b)
  unfolding set_bounds
  slot_bounds b f =
      let r = record now { bounds = b } in
      let m = mark_alone t.marks x in
      let M = alone t.marks x w.marks low in
      either (rect_eq now.bounds b) (with_locals t (set t.locals x r) m)
      (slot_keeps r m M.whole (good_bounds (local_of now) was b f) (marks_at m M))

  slot_slop : (s : Insets) → finite_insets s ≡ true → Keeps (set_slop t x s)
  unfolding set_slop
  slot_slop s f =
      let r = record now { slop = s } in
      let m = mark_alone t.marks x in
      let M = alone t.marks x w.marks low in
      either (insets_eq now.slop s) (with_locals t (set t.locals x r) m)
      (slot_keeps r m M.whole (good_slop (local_of now) was s f) (marks_at m M))

  slot_level : (z : ℤ) → Keeps (set_level t x z)
  unfolding set_level
  slot_level z = slot_keeps (record now { level = z }) t.marks w.marks (good_level (local_of now) was z) as_they_are

  slot_flags : (f : NodeFlags) → known f ≡ true → Keeps (set_flags t x f)
  unfolding set_flags
  slot_flags f k = slot_keeps (record now { flags = f }) t.marks w.marks (good_flags (local_of now) was f k) as_they_are

-- ---- the six
module _ (t : Tree) (i : NodeId) where
  pub keep_set_transform : (a : Affine) → Whole t → SoundTree t → transform_verdict t i a ≡ Ok tt → Whole (set_transform t i.0 a) × SoundTree (set_transform t i.0 a)
  keep_set_transform a w S e = let A = of_value_lem t i (finite_affine a) e in slot_transform t w S i.0 A.0 a A.1

  pub keep_set_clip : (c : Clip) → Whole t → SoundTree t → clip_verdict t i c ≡ Ok tt → Whole (set_clip t i.0 c) × SoundTree (set_clip t i.0 c)
  keep_set_clip c w S e = let A = of_value_lem t i (finite_clip c) e in slot_clip t w S i.0 A.0 c A.1

  pub keep_set_bounds : (r : Rect) → Whole t → SoundTree t → bounds_verdict t i r ≡ Ok tt → Whole (set_bounds t i.0 r) × SoundTree (set_bounds t i.0 r)
  keep_set_bounds r w S e = let A = of_value_lem t i (finite_rect r) e in slot_bounds t w S i.0 A.0 r A.1

  pub keep_set_slop : (s : Insets) → Whole t → SoundTree t → slop_verdict t i s ≡ Ok tt → Whole (set_slop t i.0 s) × SoundTree (set_slop t i.0 s)
  keep_set_slop s w S e = let A = of_value_lem t i (finite_insets s) e in slot_slop t w S i.0 A.0 s A.1

  pub keep_set_level : (z : ℤ) → Whole t → SoundTree t → of_node t i ≡ Ok tt → Whole (set_level t i.0 z) × SoundTree (set_level t i.0 z)
  keep_set_level z w S e = slot_level t w S i.0 (of_node_lem t i e) z

  pub keep_set_flags : (f : NodeFlags) → Whole t → SoundTree t → flags_verdict t i f ≡ Ok tt → Whole (set_flags t i.0 f) × SoundTree (set_flags t i.0 f)
  keep_set_flags f w S e = let A = checked_both (of_node t i) (known f) no.UnknownFlags e in slot_flags t w S i.0 (of_node_lem t i A.0) f A.1
