-- The setters on the tree's record: the refusal that applies, in the order of the numbers, and what an accepted call leaves.
use Rattle.std.specs.Prelude.{ℕ, Bool, true, false, List, set, ℤ, Ok, Err}
use Rattle.geometry.specs.declared.rect.Rect.{Rect}
use Rattle.geometry.specs.declared.insets.Insets.{Insets}
use Rattle.geometry.specs.Rectangle.{rect_eq, insets_eq, finite_rect, finite_insets}
use Rattle.geometry.specs.declared.affine.Affine.{Affine}
use Rattle.geometry.specs.Transform.{affine_eq, finite_affine}
use Rattle.geometry_clips.specs.declared.clip.Clip.{Clip}
use Rattle.geometry_clips.specs.Clips.{constructed, clip_eq, finite_clip}
use Rattle.index_types.specs.declared.NodeId.{NodeId}
use Rattle.tree_types.specs.declared.NodeFlags.{NodeFlags}
use Rattle.tree_types.specs.Local.{known}
use Rattle.tree_state.specs.declared.Local.{Local}
use Rattle.tree_state.specs.declared.Dirty.{Dirty}
use Rattle.tree_state.specs.declared.Tree.{Tree}
use Rattle.tree_state.specs.declared.Refusal.TheVariants as no
use Rattle.tree_state.specs.Locals.{record_at, put_clip}
use Rattle.tree_state.specs.Tree.{live, clip_of, dirty, checked, Verdict, After}
use Rattle.tree_state.specs.Sound.{sound_tree}

-- ---- refusals

-- 1
abbrev pub held : Tree → Verdict
held t = checked (Ok tt) (sound_tree t) no.Unsound

-- 1, 2
abbrev pub of_node : Tree → NodeId → Verdict
of_node t i = checked (held t) (live t i) no.DeadNode

-- 1, 2, 5
abbrev pub of_value : Tree → NodeId → Bool → Verdict
of_value t i finite = checked (of_node t i) finite no.NotFinite

-- an accepted call's tree, or the tree as it was given
abbrev pub tree_if : Verdict → Tree → Tree → Tree
tree_if (Ok tt) done t = done
tree_if (Err r) done t = t

-- what such a call answers, and the tree after it
abbrev pub after : Verdict → Tree → Tree → After Unit
after v done t = record { answer = v; tree = tree_if v done t }

-- ---- local records and marks

abbrev pub with_locals : Tree → List Local → List Dirty → Tree
with_locals t l m =
    record { slots = t.slots; links = t.links; locals = l; worlds = t.worlds; marks = m; keys = t.keys; pending = t.pending; index = t.index }

-- "A change marks the node": alone, or as changed in transform, in clip
abbrev pub marked_alone : Dirty → Dirty
marked_alone d = record d { marked = true }

abbrev pub marked_transform : Dirty → Dirty
marked_transform d = record d { marked = true; transform = true }

abbrev pub marked_clip : Dirty → Dirty
marked_clip d = record d { marked = true; clip = true }

abbrev pub marked_both : Dirty
marked_both = record { marked = true; transform = true; clip = true }

abbrev pub mark_alone : List Dirty → ℕ → List Dirty
mark_alone m x = set m x (marked_alone (dirty m x))

abbrev pub mark_transform : List Dirty → ℕ → List Dirty
mark_transform m x = set m x (marked_transform (dirty m x))

abbrev pub mark_clip : List Dirty → ℕ → List Dirty
mark_clip m x = set m x (marked_clip (dirty m x))

abbrev pub mark_both : List Dirty → ℕ → List Dirty
mark_both m x = set m x marked_both

abbrev pub store_transform : List Local → ℕ → Affine → List Local
store_transform l x a = set l x (record (record_at l x) { transform = a })

abbrev pub store_clip : List Local → ℕ → Clip → List Local
store_clip l x c = set l x (put_clip c (record_at l x))

abbrev pub store_bounds : List Local → ℕ → Rect → List Local
store_bounds l x r = set l x (record (record_at l x) { bounds = r })

abbrev pub store_slop : List Local → ℕ → Insets → List Local
store_slop l x s = set l x (record (record_at l x) { slop = s })

abbrev pub store_level : List Local → ℕ → ℤ → List Local
store_level l x z = set l x (record (record_at l x) { level = z })

abbrev pub store_flags : List Local → ℕ → NodeFlags → List Local
store_flags l x f = set l x (record (record_at l x) { flags = f })

-- "Setters compare as numbers": an equal value leaves the tree as it is
abbrev pub unless : Bool → Tree → Tree → Tree
unless true t done = t
unless false t done = done

-- ---- the six

unfoldable pub set_transform : Tree → ℕ → Affine → Tree
set_transform t x a =
    unless (affine_eq (record_at t.locals x).transform a) t (with_locals t (store_transform t.locals x a) (mark_transform t.marks x))

-- the clip that is compared and stored is the constructed one
unfoldable pub set_clip : Tree → ℕ → Clip → Tree
set_clip t x c = unless (clip_eq (clip_of t x) (constructed c)) t (with_locals t (store_clip t.locals x (constructed c)) (mark_clip t.marks x))

unfoldable pub set_bounds : Tree → ℕ → Rect → Tree
set_bounds t x r = unless (rect_eq (record_at t.locals x).bounds r) t (with_locals t (store_bounds t.locals x r) (mark_alone t.marks x))

unfoldable pub set_slop : Tree → ℕ → Insets → Tree
set_slop t x s = unless (insets_eq (record_at t.locals x).slop s) t (with_locals t (store_slop t.locals x s) (mark_alone t.marks x))

-- level and flags "never call for a commit"
unfoldable pub set_level : Tree → ℕ → ℤ → Tree
set_level t x z = with_locals t (store_level t.locals x z) t.marks

unfoldable pub set_flags : Tree → ℕ → NodeFlags → Tree
set_flags t x f = with_locals t (store_flags t.locals x f) t.marks

abbrev pub transform_verdict : Tree → NodeId → Affine → Verdict
transform_verdict t i a = of_value t i (finite_affine a)

abbrev pub clip_verdict : Tree → NodeId → Clip → Verdict
clip_verdict t i c = of_value t i (finite_clip c)

abbrev pub bounds_verdict : Tree → NodeId → Rect → Verdict
bounds_verdict t i r = of_value t i (finite_rect r)

abbrev pub slop_verdict : Tree → NodeId → Insets → Verdict
slop_verdict t i s = of_value t i (finite_insets s)

abbrev pub flags_verdict : Tree → NodeId → NodeFlags → Verdict
flags_verdict t i f = checked (of_node t i) (known f) no.UnknownFlags

-- ---- the calls: what each answers, and the tree after it

abbrev pub transform_call : Tree → NodeId → Affine → After Unit
transform_call t i a = after (transform_verdict t i a) (set_transform t i.0 a) t

abbrev pub clip_call : Tree → NodeId → Clip → After Unit
clip_call t i c = after (clip_verdict t i c) (set_clip t i.0 c) t

abbrev pub bounds_call : Tree → NodeId → Rect → After Unit
bounds_call t i r = after (bounds_verdict t i r) (set_bounds t i.0 r) t

abbrev pub slop_call : Tree → NodeId → Insets → After Unit
slop_call t i s = after (slop_verdict t i s) (set_slop t i.0 s) t

abbrev pub level_call : Tree → NodeId → ℤ → After Unit
level_call t i z = after (of_node t i) (set_level t i.0 z) t

abbrev pub flags_call : Tree → NodeId → NodeFlags → After Unit
flags_call t i f = after (flags_verdict t i f) (set_flags t i.0 f) t
