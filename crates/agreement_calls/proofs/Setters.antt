-- An accepted setter leaves a tree and a plan that agree.
use Rattle.std.specs.Prelude.{Ok}
use mathlib.Core.Path.{◌≡◌, refl, sym, ap, subst, ◌∙◌}
use mathlib.Core.Bool.{Bool, true, false, ◌&&◌, ◌||◌}
use mathlib.Core.List.{List}
use Prim.Native.Nat.{ℕ, ◌<◌}
use native.Mathlib.Decide.{ℕ_discrete}
use lib.Dec.{eqb}
use mathlib.Core.List.{List}
use lib.IntN.{ℤ}
use Rattle.counting.proofs.Kit.{contra}
use Rattle.numbers.proofs.Bools.{and_left}
use Rattle.geometry.specs.declared.rect.Rect.{Rect}
use Rattle.geometry.specs.declared.insets.Insets.{Insets}
use Rattle.geometry.specs.Rectangle.{rect_eq, insets_eq, finite_rect, finite_insets}
use Rattle.geometry.specs.declared.affine.Affine.{Affine}
use Rattle.geometry.specs.Transform.{affine_eq, finite_affine}
use Rattle.geometry_clips.specs.declared.clip.Clip.{Clip}
use Rattle.geometry_clips.specs.Clips.{constructed, clip_eq, finite_clip}
use Rattle.index_types.specs.declared.NodeId.{NodeId}
use Rattle.tree_types.specs.declared.NodeFlags.{NodeFlags}
use Rattle.tree_types.specs.declared.LocalNode.{LocalNode}
use Rattle.tree_types.specs.Local.{known, with_transform, with_clip, with_bounds, with_slop, with_level, with_flags}
use Rattle.link_forest.specs.Forest.{has}
use Rattle.tree_state.specs.declared.Local.{Local}
use Rattle.tree_state.specs.declared.Dirty.{Dirty}
use Rattle.tree_state.specs.declared.Tree.{Tree}
use Rattle.tree_state.specs.declared.Refusal.{Refusal}
use Rattle.tree_state.specs.declared.Refusal.TheVariants as no
use Rattle.tree_state.specs.Locals.{record_at, put_clip}
use Rattle.tree_state.proofs.Locals.{clip_stored, record_same, record_other}
use Rattle.tree_state.specs.Tree as tree
use Rattle.tree_state.specs.Tree.{local_at, clip_of, dirty, checked}
use Rattle.tree_state.specs.Sound.{SoundTree}
use Rattle.tree_steps.specs.Setters as set
use Rattle.tree_steps.specs.Setters.{held, of_node, with_locals, store_transform, store_clip, store_bounds, store_slop, store_level, store_flags, unless, set_transform, set_clip, set_bounds, set_slop, set_level, set_flags, transform_verdict, clip_verdict, bounds_verdict, slop_verdict, flags_verdict}
use Rattle.tree_invariant.proofs.calls.Accepted.{checked_both}
use Rattle.tree_invariant.proofs.calls.Marks as marks
use Rattle.tree_invariant.proofs.calls.Setters.{keep_set_transform, keep_set_clip, keep_set_bounds, keep_set_slop, keep_set_level, keep_set_flags}
use Rattle.tree_state.specs.Whole.{Whole}
use Rattle.tree_laws.proofs.Ground.{low}
use Rattle.plan.specs.Plan as plan
use Rattle.plan.specs.Plan.{Plan, Mark, with_local, set_unless}
use Rattle.plan.specs.Visits.{counts_as_changed}
use Rattle.plan.specs.Calls as call
use Rattle.plan.specs.Calls.{accepted}
use Rattle.agreement.proofs.Same.{Same, Known, mark_of}
use Rattle.agreement_calls.proofs.Tests.{live_same}
use Rattle.agreement_calls.proofs.Frame.{put_same, put_other, Kept, Unmoved, Still, still_right}

-- ---- what an accepted call tells

module _ (t : Tree) (p : Plan) (K : Known t p) where
  pub live_node : (i : NodeId) → tree.live t i ≡ true → has i.0 p.links ≡ true
  live_node i e = and_left (has i.0 p.links) (eqb (p.slots.generation i.0) i.1) (sym (live_same t p K i) ∙ e)

  pub of_node_lem : (i : NodeId) → of_node t i ≡ Ok tt → has i.0 p.links ≡ true
  of_node_lem i e = live_node i (checked_both (held t) (tree.live t i) no.DeadNode e).1

  of_value_lem : (i : NodeId) (b : Bool) (r : Refusal) → checked (of_node t i) b r ≡ Ok tt → has i.0 p.links ≡ true
  of_value_lem i b r e = of_node_lem i (checked_both (of_node t i) b r e).0

-- ---- new local records and marks, of one node

pub record Sets (t : Tree) (p : Plan) (x : ℕ) (l : List Local) (m : List Dirty) (v : LocalNode) (k : Mark) : Type 0 where
  pub local_here : local_at (with_locals t l m) x ≡ v
  pub local_there : (y : ℕ) → (y ≡ x → ⊥) → local_at (with_locals t l m) y ≡ local_at t y
  pub mark_here : mark_of (with_locals t l m) x ≡ k
  pub mark_there : (y : ℕ) → (y ≡ x → ⊥) → mark_of (with_locals t l m) y ≡ mark_of t y
  -- if it does not count as changed now, it did not before, and hands down what it did
  pub kept : k.marked && (k.transform || k.clip) ≡ false
      → (counts_as_changed p x ≡ false) × (v.local_transform ≡ (p.local x).local_transform) × (v.local_clip ≡ (p.local x).local_clip)
  -- if it has no mark now, it had none before, and its bounds and slop are what they were
  pub unmoved : k.marked ≡ false
      → ((p.mark x).marked ≡ false) × (v.local_bounds ≡ (p.local x).local_bounds) × (v.hit_slop ≡ (p.local x).hit_slop)

module _ (t : Tree) (p : Plan) (K : Known t p) (x : ℕ) (l : List Local) (m : List Dirty) (v : LocalNode) (k : Mark) (S : Sets t p x l m v k) where
  abbrev T : Tree
  T = with_locals t l m

  abbrev P : Plan
  P = with_local p x v k

  set_same : Same T P
  set_same =
      let I = K.same in
      record {
        links = I.links;
        used = I.used;
        generation = I.generation;
        free = I.free;
        local = λ y h. elim (ℕ_discrete y x) [
          | yes e ↦ rw e (S.local_here ∙ sym (put_same p.local x v))
          | no n ↦ S.local_there y n ∙ I.local y h ∙ sym (put_other p.local x v y n)
        ];
        mark = λ y h. elim (ℕ_discrete y x) [
          | yes e ↦ rw e (S.mark_here ∙ sym (put_same p.mark x k))
          | no n ↦ S.mark_there y n ∙ I.mark y h ∙ sym (put_other p.mark x k y n)
        ];
        entry = I.entry;
        removed = I.removed;
        entries_used = I.entries_used;
        entries_free = I.entries_free;
      }

  -- the new plan's mark and record of a node
  mark_here : P.mark x ≡ k
  mark_here = put_same p.mark x k

  mark_there : (y : ℕ) → (y ≡ x → ⊥) → P.mark y ≡ p.mark y
  mark_there y n = put_other p.mark x k y n

  local_here : P.local x ≡ v
  local_here = put_same p.local x v

  local_there : (y : ℕ) → (y ≡ x → ⊥) → P.local y ≡ p.local y
  local_there y n = put_other p.local x v y n

  kept_here : counts_as_changed P x ≡ false → Kept p P x
  kept_here c =
      let H = S.kept (ap (λ (q : Mark). q.marked && (q.transform || q.clip)) (sym mark_here) ∙ c) in
      record {
        unchanged = H.0;
        transform = ap (λ (w : LocalNode). w.local_transform) local_here ∙ H.1;
        clip = ap (λ (w : LocalNode). w.local_clip) local_here ∙ H.2;
      }

  kept_there : (y : ℕ) → (y ≡ x → ⊥) → counts_as_changed P y ≡ false → Kept p P y
  kept_there y n c =
      record {
        unchanged = ap (λ (q : Mark). q.marked && (q.transform || q.clip)) (sym (mark_there y n)) ∙ c;
        transform = ap (λ (w : LocalNode). w.local_transform) (local_there y n);
        clip = ap (λ (w : LocalNode). w.local_clip) (local_there y n);
      }

  unmoved_here : (P.mark x).marked ≡ false → Unmoved t p T P x
  unmoved_here c =
      let H = S.unmoved (ap (λ (q : Mark). q.marked) (sym mark_here) ∙ c) in
      record {
        unmarked = H.0;
        bounds = ap (λ (w : LocalNode). w.local_bounds) local_here ∙ H.1;
        slop = ap (λ (w : LocalNode). w.hit_slop) local_here ∙ H.2;
        stored_bounds_lem = refl;
        stored_hit_bounds_lem = refl;
        entry = refl;
      }

  unmoved_there : (y : ℕ) → (y ≡ x → ⊥) → (P.mark y).marked ≡ false → Unmoved t p T P y
  unmoved_there y n c =
      record {
        unmarked = ap (λ (q : Mark). q.marked) (sym (mark_there y n)) ∙ c;
        bounds = ap (λ (w : LocalNode). w.local_bounds) (local_there y n);
        slop = ap (λ (w : LocalNode). w.hit_slop) (local_there y n);
        stored_bounds_lem = refl;
        stored_hit_bounds_lem = refl;
        entry = refl;
      }

  set_still : Still t p T P
  set_still =
      record {
        path = λ y h s. (h, refl);
        kept = λ q c. elim (ℕ_discrete q x) [ yes e ↦ subst (Kept p P) (sym e) (kept_here (subst (λ (z : ℕ). counts_as_changed P z ≡ false) e c)) | no n ↦ kept_there q n c ];
        place = λ y h c. refl;
        boxes = λ y h c u. elim (ℕ_discrete y x) [
          | yes e ↦ subst (Unmoved t p T P) (sym e) (unmoved_here (subst (λ (z : ℕ). (P.mark z).marked ≡ false) e u))
          | no n ↦ unmoved_there y n u
        ];
      }

  pub set_known : Whole T → SoundTree T → Known T P
  set_known w s =
      record { whole = w; sound = s; same = set_same; queue = K.queue; backed = K.backed; right = still_right t p T P set_still K.right }

-- an equal value changes nothing on both sides
unless_known : (t : Tree) (p : Plan) (K : Known t p) (x : ℕ) (l : List Local) (m : List Dirty) (v : LocalNode) (g : Mark → Mark)
    (S : Sets t p x l m v (g (p.mark x)))
    (a b : Bool) → a ≡ b → Whole (unless a t (with_locals t l m)) → SoundTree (unless a t (with_locals t l m))
    → Known (unless a t (with_locals t l m)) (set_unless b p x v g)
unless_known t p K x l m v g S true true e w s = K
unless_known t p K x l m v g S false false e w s = set_known t p K x l m v (g (p.mark x)) S w s
unless_known t p K x l m v g S true false e w s = absurd (contra refl e)
unless_known t p K x l m v g S false true e w s = absurd (contra refl (sym e))

-- ---- marks

changed_none : (a b c : Bool) → true && (b || c) ≡ false → a && (b || c) ≡ false
changed_none true b c e = e
changed_none false b c e = refl

in_transform : {A : Type 0} (c : Bool) → true && (true || c) ≡ false → A
in_transform c e = absurd (contra refl e)

in_clip : {A : Type 0} (b : Bool) → true && (b || true) ≡ false → A
in_clip true e = absurd (contra refl e)
in_clip false e = absurd (contra refl e)

marked : {A : Type 0} → ◌≡◌ {A = Bool} true false → A
marked e = absurd (contra refl e)

module _ (t : Tree) (w : Whole t) (x : ℕ) (h : x < 256) (l : List Local) where
  alone_here : mark_of (with_locals t l (set.mark_alone t.marks x)) x ≡ plan.mark_alone (mark_of t x)
  alone_here = rw (marks.dirty_here t.marks x w.marks h (set.marked_alone (dirty t.marks x)))

  transform_here : mark_of (with_locals t l (set.mark_transform t.marks x)) x ≡ plan.mark_transform (mark_of t x)
  transform_here = rw (marks.dirty_here t.marks x w.marks h (set.marked_transform (dirty t.marks x)))

  clip_here : mark_of (with_locals t l (set.mark_clip t.marks x)) x ≡ plan.mark_clip (mark_of t x)
  clip_here = rw (marks.dirty_here t.marks x w.marks h (set.marked_clip (dirty t.marks x)))

  alone_there : (y : ℕ) → (y ≡ x → ⊥) → mark_of (with_locals t l (set.mark_alone t.marks x)) y ≡ mark_of t y
  alone_there y n = rw ((marks.alone t.marks x w.marks h).other y n)

  transform_there : (y : ℕ) → (y ≡ x → ⊥) → mark_of (with_locals t l (set.mark_transform t.marks x)) y ≡ mark_of t y
  transform_there y n = rw ((marks.in_transform t.marks x w.marks h).other y n)

  clip_there : (y : ℕ) → (y ≡ x → ⊥) → mark_of (with_locals t l (set.mark_clip t.marks x)) y ≡ mark_of t y
  clip_there y n = rw ((marks.in_clip t.marks x w.marks h).other y n)

-- ---- the six

module _ (t : Tree) (p : Plan) (K : Known t p) (x : ℕ) (live : has x p.links ≡ true) where
  below : x < 256
  below = low t p.links K.same.links x live

  local : local_at t x ≡ p.local x
  local = K.same.local x live

  mark : mark_of t x ≡ p.mark x
  mark = K.same.mark x live

  abbrev now : Local
  now = record_at t.locals x

  sets_transform : (a : Affine)
      → Sets t p x (store_transform t.locals x a) (set.mark_transform t.marks x) (with_transform a (p.local x)) (plan.mark_transform (p.mark x))
  unfolding local_at
  sets_transform a =
      let r = record now { transform = a } in
      record {
        local_here = record_same t.locals x r K.whole.locals below ∙ ap (with_transform a) local;
        local_there = record_other t.locals x r;
        mark_here = transform_here t K.whole x below (store_transform t.locals x a) ∙ ap plan.mark_transform mark;
        mark_there = transform_there t K.whole x below (store_transform t.locals x a);
        kept = λ e. in_transform (p.mark x).clip e;
        unmoved = λ e. marked e;
      }

  sets_clip : (c : Clip) → Sets t p x (store_clip t.locals x c) (set.mark_clip t.marks x) (with_clip c (p.local x)) (plan.mark_clip (p.mark x))
  unfolding local_at
  sets_clip c =
      let r = put_clip c now in
      record {
        local_here = record_same t.locals x r K.whole.locals below ∙ clip_stored c now ∙ ap (with_clip c) local;
        local_there = record_other t.locals x r;
        mark_here = clip_here t K.whole x below (store_clip t.locals x c) ∙ ap plan.mark_clip mark;
        mark_there = clip_there t K.whole x below (store_clip t.locals x c);
        kept = λ e. in_clip (p.mark x).transform e;
        unmoved = λ e. marked e;
      }

  sets_bounds : (b : Rect) → Sets t p x (store_bounds t.locals x b) (set.mark_alone t.marks x) (with_bounds b (p.local x)) (plan.mark_alone (p.mark x))
  unfolding local_at
  sets_bounds b =
      let r = record now { bounds = b } in
      record {
        local_here = record_same t.locals x r K.whole.locals below ∙ ap (with_bounds b) local;
        local_there = record_other t.locals x r;
        mark_here = alone_here t K.whole x below (store_bounds t.locals x b) ∙ ap plan.mark_alone mark;
        mark_there = alone_there t K.whole x below (store_bounds t.locals x b);
        kept = λ e. (changed_none (p.mark x).marked (p.mark x).transform (p.mark x).clip e, refl, refl);
        unmoved = λ e. marked e;
      }

  sets_slop : (s : Insets) → Sets t p x (store_slop t.locals x s) (set.mark_alone t.marks x) (with_slop s (p.local x)) (plan.mark_alone (p.mark x))
  unfolding local_at
  sets_slop s =
      let r = record now { slop = s } in
      record {
        local_here = record_same t.locals x r K.whole.locals below ∙ ap (with_slop s) local;
        local_there = record_other t.locals x r;
        mark_here = alone_here t K.whole x below (store_slop t.locals x s) ∙ ap plan.mark_alone mark;
        mark_there = alone_there t K.whole x below (store_slop t.locals x s);
        kept = λ e. (changed_none (p.mark x).marked (p.mark x).transform (p.mark x).clip e, refl, refl);
        unmoved = λ e. marked e;
      }

  sets_level : (z : ℤ) → Sets t p x (store_level t.locals x z) t.marks (with_level z (p.local x)) (p.mark x)
  unfolding local_at
  sets_level z =
      let r = record now { level = z } in
      record {
        local_here = record_same t.locals x r K.whole.locals below ∙ ap (with_level z) local;
        local_there = record_other t.locals x r;
        mark_here = mark;
        mark_there = λ y n. refl;
        kept = λ e. (e, refl, refl);
        unmoved = λ e. (e, refl, refl);
      }

  sets_flags : (f : NodeFlags) → Sets t p x (store_flags t.locals x f) t.marks (with_flags f (p.local x)) (p.mark x)
  unfolding local_at
  sets_flags f =
      let r = record now { flags = f } in
      record {
        local_here = record_same t.locals x r K.whole.locals below ∙ ap (with_flags f) local;
        local_there = record_other t.locals x r;
        mark_here = mark;
        mark_there = λ y n. refl;
        kept = λ e. (e, refl, refl);
        unmoved = λ e. (e, refl, refl);
      }

  -- what is compared
  same_transform : (record_at t.locals x).transform ≡ (p.local x).local_transform
  unfolding local_at
  same_transform = ap (λ (w : LocalNode). w.local_transform) local

  same_clip : clip_of t x ≡ (p.local x).local_clip
  unfolding local_at
  same_clip = ap (λ (w : LocalNode). w.local_clip) local

  same_bounds : (record_at t.locals x).bounds ≡ (p.local x).local_bounds
  unfolding local_at
  same_bounds = ap (λ (w : LocalNode). w.local_bounds) local

  same_slop : (record_at t.locals x).slop ≡ (p.local x).hit_slop
  unfolding local_at
  same_slop = ap (λ (w : LocalNode). w.hit_slop) local

module _ (t : Tree) (p : Plan) (K : Known t p) (i : NodeId) where
  pub transform_known : (a : Affine) → transform_verdict t i a ≡ Ok tt
      → Known (set_transform t i.0 a) (accepted p (call.set_local_transform i a))
  unfolding set_transform accepted
  transform_known a e =
      let x = i.0 in
      let k = keep_set_transform t i a K.whole K.sound e in
      let live = of_value_lem t p K i (finite_affine a) no.NotFinite e in
      unless_known t p K x (store_transform t.locals x a) (set.mark_transform t.marks x) (with_transform a (p.local x)) plan.mark_transform
      (sets_transform t p K x live a) (affine_eq (record_at t.locals x).transform a) (affine_eq (p.local x).local_transform a)
      (ap (λ (b : Affine). affine_eq b a) (same_transform t p K x live)) k.0 k.1

  pub clip_known : (c : Clip) → clip_verdict t i c ≡ Ok tt
      → Known (set_clip t i.0 c) (accepted p (call.set_local_clip i c))
  unfolding set_clip accepted
  clip_known c e =
      let x = i.0 in
      let k = keep_set_clip t i c K.whole K.sound e in
      let live = of_value_lem t p K i (finite_clip c) no.NotFinite e in
      unless_known t p K x (store_clip t.locals x (constructed c)) (set.mark_clip t.marks x) (with_clip (constructed c) (p.local x)) plan.mark_clip
      (sets_clip t p K x live (constructed c)) (clip_eq (clip_of t x) (constructed c)) (clip_eq (p.local x).local_clip (constructed c))
      (ap (λ (b : Clip). clip_eq b (constructed c)) (same_clip t p K x live)) k.0 k.1

  pub bounds_known : (r : Rect) → bounds_verdict t i r ≡ Ok tt
      → Known (set_bounds t i.0 r) (accepted p (call.set_local_bounds i r))
  unfolding set_bounds accepted
  bounds_known r e =
      let x = i.0 in
      let k = keep_set_bounds t i r K.whole K.sound e in
      let live = of_value_lem t p K i (finite_rect r) no.NotFinite e in
      unless_known t p K x (store_bounds t.locals x r) (set.mark_alone t.marks x) (with_bounds r (p.local x)) plan.mark_alone
      (sets_bounds t p K x live r) (rect_eq ((record_at t.locals x).bounds) r) (rect_eq (p.local x).local_bounds r)
      (ap (λ (b : Rect). rect_eq b r) (same_bounds t p K x live)) k.0 k.1

  pub slop_known : (v : Insets) → slop_verdict t i v ≡ Ok tt
      → Known (set_slop t i.0 v) (accepted p (call.set_hit_slop i v))
  unfolding set_slop accepted
  slop_known v e =
      let x = i.0 in
      let k = keep_set_slop t i v K.whole K.sound e in
      let live = of_value_lem t p K i (finite_insets v) no.NotFinite e in
      unless_known t p K x (store_slop t.locals x v) (set.mark_alone t.marks x) (with_slop v (p.local x)) plan.mark_alone
      (sets_slop t p K x live v) (insets_eq ((record_at t.locals x).slop) v) (insets_eq (p.local x).hit_slop v)
      (ap (λ (b : Insets). insets_eq b v) (same_slop t p K x live)) k.0 k.1

  pub level_known : (z : ℤ) → of_node t i ≡ Ok tt
      → Known (set_level t i.0 z) (accepted p (call.set_z_index i z))
  unfolding set_level accepted
  level_known z e =
      let x = i.0 in
      let k = keep_set_level t i z K.whole K.sound e in
      set_known t p K x (store_level t.locals x z) t.marks (with_level z (p.local x)) (p.mark x) (sets_level t p K x (of_node_lem t p K i e) z) k.0 k.1

  pub flags_known : (f : NodeFlags) → flags_verdict t i f ≡ Ok tt
      → Known (set_flags t i.0 f) (accepted p (call.set_flags i f))
  unfolding set_flags accepted
  flags_known f e =
      let x = i.0 in
      let k = keep_set_flags t i f K.whole K.sound e in
      set_known t p K x (store_flags t.locals x f) t.marks (with_flags f (p.local x)) (p.mark x)
      (sets_flags t p K x (of_value_lem t p K i (known f) no.UnknownFlags e) f) k.0 k.1
