-- The reworks of a list of places, one after the other: the world records of every visited slot are right afterwards, and those of every
-- other slot are as they were.
use mathlib.Core.Path.{◌≡◌, refl, sym, ap, ◌∙◌, subst}
use mathlib.Core.Bool.{Bool, true, false}
use mathlib.Core.List.{List, [], ◌∷◌, map}
use Prim.Native.Nat.{ℕ, ◌≤◌, ◌<◌}
use native.Mathlib.Omega.{arith}
use native.Mathlib.Decide.{ℕ_discrete}
use lib.ListN.{length}
use Rattle.counting.specs.Times.{times}
use Rattle.counting.proofs.Counting.{hit, miss}
use Rattle.link_forest.specs.Forest.{Forest, has, above}
use Rattle.link_forest.proofs.Holds.{Parent, Above, parent_above}
use Rattle.tree_state.specs.declared.Tree.{Tree}
use Rattle.tree_state.specs.declared.WorldNode.{WorldNode}
use Rattle.tree_state.specs.Worlds.{place_of}
use Rattle.tree_state.specs.Tree.{local_at, world_at, stored_place, stored_bounds, stored_hit_bounds, any_of}
use Rattle.tree_laws.proofs.Ground.{Linked, low, slot_live, place_of_slot, ancestors_above}
use Rattle.tree_steps.specs.Commit.{Work, changed_at, ancestors, handed_down, new_place, reworked, rework, rework_all}
use Rattle.plan.specs.Plan.{Plan}
use Rattle.plan.specs.Afresh.{placed_on, world_place, world_bounds, world_hit_bounds}
use Rattle.agreement.proofs.worlds.Visits.{slot_at, Seen, Good}
use Rattle.agreement.proofs.worlds.Turn.{place_now, bounds_now, hit_now, whole_worlds, world_stays}

-- the stored world records of a node are those worked out afresh
pub record Fresh (t : Tree) (p : Plan) (x : ℕ) : Type 0 where
  pub place : stored_place t x ≡ world_place p x
  pub bounds : stored_bounds t x ≡ world_bounds p x
  pub hit_bounds : stored_hit_bounds t x ≡ world_hit_bounds p x

-- two trees store the same of x
abbrev pub Kept : Tree → Tree → ℕ → Type 0
Kept old new x = world_at new x ≡ world_at old x

-- what a rework does not touch
pub record Frame (old new : Tree) : Type 0 where
  pub slots : new.slots ≡ old.slots
  pub links : new.links ≡ old.links
  pub locals : new.locals ≡ old.locals
  pub marks : new.marks ≡ old.marks
  pub pending : new.pending ≡ old.pending

pub fresh_kept : (old new : Tree) (p : Plan) (x : ℕ) → Kept old new x → Fresh old p x → Fresh new p x
fresh_kept old new p x K F =
    record {
      place = ap place_of K ∙ F.place;
      bounds = ap (λ (v : WorldNode). v.bounds) K ∙ F.bounds;
      hit_bounds = ap (λ (v : WorldNode). v.hit_bounds) K ∙ F.hit_bounds;
    }

-- what the tree has of the plan, and a rework leaves alone
pub record Grounded (t : Tree) (p : Plan) : Type 0 where
  pub worlds : length t.worlds ≡ 256
  pub links : Linked t p.links
  pub local : (x : ℕ) → has x p.links ≡ true → local_at t x ≡ p.local x

-- the places are right where nothing at a node or above it counts as changed
abbrev pub Base : Tree → Plan → Type 0
Base t p = (y : ℕ) → has y p.links ≡ true → any_of (changed_at t) (y ∷ above y p.links) ≡ false → stored_place t y ≡ world_place p y

-- above the node of a place
pub above_place : (t : Tree) (f : Forest) → Linked t f → (i : ℕ) → i < t.links.count → ancestors t i ≡ above (slot_at t.links i) f
above_place t f L i h =
    ap (ancestors t) (sym (place_of_slot t f L i h)) ∙ ancestors_above t f L (slot_at t.links i) (slot_live t f L i h)

-- ---- one turn
module _ (t : Tree) (p : Plan) (G : Grounded t p) where
  abbrev f : Forest
  f = p.links

  -- the parent hands down what it should
  parent_right : (seen : List ℕ) → Base t p → ((y : ℕ) → 1 ≤ times y seen → Fresh t p y) → (l : List ℕ) → Parent (Above f) l → (any_of (changed_at t) l ≡ true → Seen seen l)
      → handed_down t l ≡ placed_on p.local l
  unfolding handed_down placed_on
  parent_right seen B D [] P S = refl
  parent_right seen B D (q ∷ qs) P S = go (any_of (changed_at t) (q ∷ qs)) refl
    where
      go : (b : Bool) → any_of (changed_at t) (q ∷ qs) ≡ b → stored_place t q ≡ placed_on p.local (q ∷ qs)
      go true e = subst (λ (k : List ℕ). stored_place t q ≡ placed_on p.local (q ∷ k)) P.1 (D q (S e)).place
      go false e = subst (λ (k : List ℕ). stored_place t q ≡ placed_on p.local (q ∷ k)) P.1 (B q P.0 (rw P.1 e))

  -- and so the node's own records are right
  module _ (i x : ℕ) (h : has x f ≡ true) (e : handed_down t (ancestors t i) ≡ placed_on p.local (above x f)) where
    new_place_lem : new_place t i x ≡ world_place p x
    unfolding placed_on local_at
    new_place_lem = rw (e, ← G.local x h)

    turned : Fresh (reworked t x (new_place t i x)) p x
    unfolding world_bounds world_hit_bounds local_at
    turned =
        let l = low t f G.links x h in
        record {
          place = place_now t x (new_place t i x) G.worlds l ∙ new_place_lem;
          bounds = bounds_now t x (new_place t i x) G.worlds l ∙ rw (new_place_lem, ← G.local x h);
          hit_bounds = hit_now t x (new_place t i x) G.worlds l ∙ rw (new_place_lem, ← G.local x h);
        }

-- ---- the fold
pub record Ran (t : Tree) (p : Plan) (seen vs : List ℕ) (r : Tree) : Type 0 where
  pub frame : Frame t r
  pub worlds : length r.worlds ≡ 256
  pub kept : (y : ℕ) → 1 ≤ times y seen → Fresh r p y
  pub fresh : (y : ℕ) → 1 ≤ times y vs → Fresh r p y
  pub rest : (y : ℕ) → times y vs ≡ 0 → Kept t r y

frame_on : (a b c : Tree) → Frame a b → Frame b c → Frame a c
frame_on a b c F G =
    record {
      slots = G.slots ∙ F.slots;
      links = G.links ∙ F.links;
      locals = G.locals ∙ F.locals;
      marks = G.marks ∙ F.marks;
      pending = G.pending ∙ F.pending;
    }

-- one turn more in front
module _ (p : Plan) (t u r : Tree) (x : ℕ) (seen vs : List ℕ) where
  ran_on : Frame t u → Fresh u p x → ((y : ℕ) → (y ≡ x → ⊥) → Kept t u y) → Ran u p (x ∷ seen) vs r → Ran t p seen (x ∷ vs) r
  unfolding times
  ran_on F now same R =
      record {
        frame = frame_on t u r F R.frame;
        worlds = R.worlds;
        kept = λ y h. R.kept y (omega arith);
        fresh = λ y h. elim (ℕ_discrete y x) [ yes e ↦ R.kept y (rw e (omega (arith, hit x))) | no n ↦ R.fresh y (omega (arith, miss y x n)) ];
        rest = λ y h. elim (ℕ_discrete y x) [
          | yes e ↦ absurd (omega (arith, hit x, rw e at h))
          | no n ↦ R.rest y (omega arith) ∙ same y n
        ];
      }

pub ran : (p : Plan) (is seen : List ℕ) (k : Work) → Grounded k.tree p → Base k.tree p → ((y : ℕ) → 1 ≤ times y seen → Fresh k.tree p y)
    → Good k.tree.links (changed_at k.tree) p.links seen is
    → Ran k.tree p seen (map (slot_at k.tree.links) is) (rework_all k is).tree
unfolding rework_all rework times local_at
ran p [] seen k G B D g =
    record {
      frame = record { slots = refl; links = refl; locals = refl; marks = refl; pending = refl };
      worlds = G.worlds;
      kept = D;
      fresh = λ y h. absurd (omega arith);
      rest = λ y h. refl;
    }
ran p (i ∷ is) seen k G B D g =
    ran_on p t (rework k i).tree (rework_all k (i ∷ is)).tree x seen (map (slot_at t.links) is) frame now same
    (ran p is (x ∷ seen) (rework k i) ground base done g.2)
  where
    t : Tree
    t = k.tree

    x : ℕ
    x = slot_at k.tree.links i

    live : has x p.links ≡ true
    live = slot_live k.tree p.links G.links i g.0

    now : Fresh (rework k i).tree p x
    now =
        turned k.tree p G i x live
        (rw (above_place k.tree p.links G.links i g.0) (parent_right k.tree p G seen B D (above x p.links) (parent_above p.links G.links.once x live) g.1))

    same : (y : ℕ) → (y ≡ x → ⊥) → Kept k.tree (rework k i).tree y
    same y n = world_stays k.tree x (new_place k.tree i x) y n

    frame : Frame k.tree (rework k i).tree
    frame = record { slots = refl; links = refl; locals = refl; marks = refl; pending = refl }

    ground : Grounded (rework k i).tree p
    ground =
        record {
          worlds = whole_worlds k.tree x (new_place k.tree i x) G.worlds (low k.tree p.links G.links x live);
          links = G.links;
          local = G.local;
        }

    base : Base (rework k i).tree p
    base y h c = elim (ℕ_discrete y x) [ yes e ↦ rw e now.place | no n ↦ ap place_of (same y n) ∙ B y h c ]

    done : (y : ℕ) → 1 ≤ times y (x ∷ seen) → Fresh (rework k i).tree p y
    done y h =
        elim (ℕ_discrete y x) [ yes e ↦ rw e now | no n ↦ fresh_kept k.tree (rework k i).tree p y (same y n) (D y (omega (arith, miss y x n))) ]
