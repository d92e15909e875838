-- What a call leaves of the world records: if of every node that is settled now what is above it, what is handed down to it and what is
-- stored of it is as it was, the stored records are as right as they were.
use mathlib.Core.Path.{◌≡◌, refl, sym, ap, ◌∙◌}
use mathlib.Core.Bool.{Bool, true, false}
use mathlib.Core.List.{List, [], ◌∷◌}
use Prim.Native.Nat.{ℕ, ◌≤◌}
use native.Mathlib.Omega.{arith}
use native.Mathlib.Decide.{ℕ_discrete}
use borrow.Author.Tests.{eq-eqb, ne_eqb}
use Rattle.index_types.specs.Slots.{entry_in}
use Rattle.counting.specs.Times.{times}
use Rattle.counting.proofs.Counting.{hit, miss}
use Rattle.tree_types.specs.declared.LocalNode.{LocalNode}
use Rattle.link_forest.specs.Forest.{has, above}
use Rattle.tree_state.specs.declared.Tree.{Tree}
use Rattle.tree_state.specs.Tree.{key_at, stored_place, stored_bounds, stored_hit_bounds}
use Rattle.plan.specs.Lists.{put, any}
use Rattle.plan.specs.Plan.{Plan}
use Rattle.plan.specs.Visits.{counts_as_changed}
use Rattle.plan.specs.Afresh.{placed_on, lineage, world_place, world_bounds, world_hit_bounds}
use Rattle.agreement.proofs.Same.{Settled, Right}
use Rattle.agreement.specs.Afresh.{Boxed}
use Rattle.index_state.proofs.Calls.{or_none}

-- ---- a table with a new value

pub put_same : {A : Type 0} (f : ℕ → A) (x : ℕ) (v : A) → put f x v x ≡ v
put_same f x v = rw (eq-eqb x x refl)

pub put_other : {A : Type 0} (f : ℕ → A) (x : ℕ) (v : A) (y : ℕ) → (y ≡ x → ⊥) → put f x v y ≡ f y
put_other f x v y n = rw (ne_eqb y x n)

-- ---- tests over a list

pub any_at : (f : ℕ → Bool) (l : List ℕ) → any f l ≡ false → (q : ℕ) → 1 ≤ times q l → f q ≡ false
unfolding any times
any_at f [] e q h = absurd (omega arith)
any_at f (x ∷ l) e q h =
    let n = or_none (f x) (any f l) e in
    elim (ℕ_discrete q x) [ yes w ↦ rw w n.0 | no m ↦ any_at f l n.1 q (omega (arith, miss q x m)) ]

pub any_none : (f : ℕ → Bool) (l : List ℕ) → ((q : ℕ) → 1 ≤ times q l → f q ≡ false) → any f l ≡ false
unfolding any times
any_none f [] h = refl
any_none f (x ∷ l) h = rw (h x (omega (arith, hit x)), any_none f l (λ q n. h q (omega arith)))

pub placed_alike : (v w : ℕ → LocalNode) (l : List ℕ)
    → ((q : ℕ) → 1 ≤ times q l → ((v q).local_transform ≡ (w q).local_transform) × ((v q).local_clip ≡ (w q).local_clip)) → placed_on v l ≡ placed_on w l
unfolding placed_on times
placed_alike v w [] h = refl
placed_alike v w (x ∷ l) h = let e = h x (omega (arith, hit x)) in rw (e.0, e.1, placed_alike v w l (λ q n. h q (omega arith)))

-- ---- the frame

-- a node did not count as changed before either, and hands down what it did
pub record Kept (p p' : Plan) (q : ℕ) : Type 0 where
  pub unchanged : counts_as_changed p q ≡ false
  pub transform : (p'.local q).local_transform ≡ (p.local q).local_transform
  pub clip : (p'.local q).local_clip ≡ (p.local q).local_clip

-- a node was not marked before either, and its boxes are what they were
pub record Unmoved (t : Tree) (p : Plan) (t' : Tree) (p' : Plan) (y : ℕ) : Type 0 where
  pub unmarked : (p.mark y).marked ≡ false
  pub bounds : (p'.local y).local_bounds ≡ (p.local y).local_bounds
  pub slop : (p'.local y).hit_slop ≡ (p.local y).hit_slop
  pub stored_bounds_lem : stored_bounds t' y ≡ stored_bounds t y
  pub stored_hit_bounds_lem : stored_hit_bounds t' y ≡ stored_hit_bounds t y
  pub entry : (entry_in t'.index.entries (key_at t' y).0).aabb ≡ (entry_in t.index.entries (key_at t y).0).aabb

-- of a live node that does not count as changed now; above a settled one stands what stood there
pub record Still (t : Tree) (p : Plan) (t' : Tree) (p' : Plan) : Type 0 where
  pub path : (y : ℕ) → has y p'.links ≡ true → Settled p' y → (has y p.links ≡ true) × (above y p'.links ≡ above y p.links)
  pub kept : (q : ℕ) → counts_as_changed p' q ≡ false → Kept p p' q
  pub place : (y : ℕ) → has y p'.links ≡ true → counts_as_changed p' y ≡ false → stored_place t' y ≡ stored_place t y
  pub boxes : (y : ℕ) → has y p'.links ≡ true → counts_as_changed p' y ≡ false → (p'.mark y).marked ≡ false → Unmoved t p t' p' y

alike_boxes : (t : Tree) (p : Plan) (t' : Tree) (p' : Plan) (y : ℕ) → world_place p' y ≡ world_place p y → Unmoved t p t' p' y → Boxed t p y → Boxed t' p' y
unfolding world_bounds world_hit_bounds
alike_boxes t p t' p' y w U B =
    record {
      bounds = U.stored_bounds_lem ∙ B.bounds ∙ sym (rw (w, U.bounds));
      hit_bounds = U.stored_hit_bounds_lem ∙ B.hit_bounds ∙ sym (rw (w, U.bounds, U.slop));
      entry = rw (U.entry, w, U.bounds, U.slop) B.entry;
    }

module _ (t : Tree) (p : Plan) (t' : Tree) (p' : Plan) (F : Still t p t' p') where
  on_path : (y : ℕ) → has y p'.links ≡ true → Settled p' y → lineage p' y ≡ lineage p y
  on_path y h s = ap (λ (l : List ℕ). y ∷ l) (F.path y h s).1

  kept_on : (y : ℕ) → has y p'.links ≡ true → Settled p' y → (q : ℕ) → 1 ≤ times q (lineage p y) → Kept p p' q
  kept_on y h s q n = F.kept q (any_at (counts_as_changed p') (lineage p' y) s q (rw (on_path y h s) n))

  was_settled : (y : ℕ) → has y p'.links ≡ true → Settled p' y → Settled p y
  was_settled y h s = any_none (counts_as_changed p) (lineage p y) (λ q n. (kept_on y h s q n).unchanged)

  same_place : (y : ℕ) → has y p'.links ≡ true → Settled p' y → world_place p' y ≡ world_place p y
  same_place y h s =
      ap (placed_on p'.local) (on_path y h s)
      ∙ placed_alike p'.local p.local (lineage p y) (λ q n. let k = kept_on y h s q n in (k.transform, k.clip))

  itself_kept : (y : ℕ) → Settled p' y → counts_as_changed p' y ≡ false
  unfolding times
  itself_kept y s = any_at (counts_as_changed p') (lineage p' y) s y (omega (arith, hit y))

  pub still_right : Right t p → Right t' p'
  still_right R =
      record {
        place = λ y h s.
            F.place y h (itself_kept y s) ∙ R.place y (F.path y h s).0 (was_settled y h s) ∙ sym (same_place y h s);
        boxes = λ y h s m.
            let U = F.boxes y h (itself_kept y s) m in
            alike_boxes t p t' p' y (same_place y h s) U (R.boxes y (F.path y h s).0 (was_settled y h s) U.unmarked);
      }
