-- After a commit every live node's stored place and boxes are those worked out afresh, and its entry has its hit box.
use mathlib.Core.Path.{◌≡◌, refl, sym, ap, ap₂, ◌∙◌, subst}
use mathlib.Core.Bool.{Bool, true, false, ◌&&◌, ◌||◌}
use mathlib.Core.List.{List, [], ◌∷◌}
use Prim.Native.Nat.{ℕ, ◌≤◌}
use native.Mathlib.Omega.{arith}
use native.Mathlib.Decide.{dec_lt, ℕ_discrete}
use Rattle.counting.specs.Times.{times}
use Rattle.counting.proofs.Counting.{hit, miss}
use Rattle.link_forest.specs.Forest.{Forest, has, above}
use Rattle.link_forest.proofs.Bools.{never}
use Rattle.link_forest.proofs.Counting.{above_has, has_count}
use Rattle.link_forest.proofs.Rep.{rep_times}
use Rattle.index_types.specs.declared.Aabb2D.{Aabb2D}
use Rattle.index_types.specs.declared.Slot.{Slot}
use Rattle.index_types.specs.declared.Index.{Index}
use Rattle.index_types.specs.Slots.{entry_in}
use Rattle.index_commit.proofs.Loop.{commit_bare}
use Rattle.index_state.specs.Index.{work_of, commit_of}
use Rattle.tree_types.specs.Local.{rect_to_aabb}
use Rattle.tree_state.specs.declared.Tree.{Tree}
use Rattle.tree_state.specs.Tree.{is_live, live_slots, marked_at, committed_at, key_at, stored_hit_bounds, any_of, needs_commit}
use Rattle.tree_laws.proofs.Ground.{live_has}
use Rattle.tree_steps.specs.Commit.{changed_at, visits_of, rework_all, begun, finished, work_for, commit_tree}
use Rattle.plan.specs.Lists.{any}
use Rattle.plan.specs.Plan.{Plan, Mark}
use Rattle.plan.specs.Visits.{counts_as_changed, committed}
use Rattle.plan.specs.Afresh.{lineage, world_bounds, world_hit_bounds}
use Rattle.agreement.specs.Afresh.{Alike, Afresh}
use Rattle.agreement.proofs.Same.{Known, Settled, Right}
use Rattle.agreement.proofs.worlds.Visits.{Visited, visited}
use Rattle.agreement.proofs.worlds.Fold.{Fresh, fresh_kept, Ran, ran}
use Rattle.agreement.proofs.worlds.Entries.{Entered, Fitting, Inside, Entries, keyed_sound, good_inside, entries_ran}
use Rattle.agreement.proofs.worlds.Keyed.{KeyedTree}
use Rattle.agreement.proofs.worlds.Room.{sound_fitting}

pub afresh_right : (t : Tree) (p : Plan) → Afresh t p → Right t p
afresh_right t p A = record { place = λ x h s. A.place x h; boxes = λ x h s m. A.boxes x h }

-- none of a list passes a test
none_passes : (q : ℕ → Bool) (l : List ℕ) → any_of q l ≡ false → (y : ℕ) → 1 ≤ times y l → q y ≡ false
unfolding any_of times
none_passes q [] e y h = absurd (omega arith)
none_passes q (x ∷ l) e y h = go (q x) refl e (λ d n. none_passes q l d y n)
  where
    go : (b : Bool) → q x ≡ b → b || any_of q l ≡ false → (any_of q l ≡ false → 1 ≤ times y l → q y ≡ false) → q y ≡ false
    go true d e u = never refl e
    go false d e u = elim (ℕ_discrete y x) [ yes i ↦ rw (i, d) | no n ↦ u e (omega (arith, miss y x n)) ]

none_of : (q : ℕ → Bool) (l : List ℕ) → ((y : ℕ) → 1 ≤ times y l → q y ≡ false) → any q l ≡ false
unfolding any times
none_of q [] h = refl
none_of q (x ∷ l) h = rw (h x (omega (arith, hit x))) (none_of q l (λ y n. h y (omega arith)))

module _ (t : Tree) (p : Plan) (K : Known t p) where
  abbrev f : Forest
  f = p.links

  -- ---- what counts as changed, in the tree and in the plan
  changed_same : (x : ℕ) → has x f ≡ true → counts_as_changed p x ≡ changed_at t x
  changed_same x h = ap (λ (m : Mark). m.marked && (m.transform || m.clip)) (sym (K.same.mark x h))

  any_same : (l : List ℕ) → ((q : ℕ) → 1 ≤ times q l → has q f ≡ true) → any (counts_as_changed p) l ≡ any_of (changed_at t) l
  unfolding any any_of times
  any_same [] h = refl
  any_same (x ∷ l) h = ap₂ (λ (a b : Bool). a || b) (changed_same x (h x (omega (arith, hit x)))) (any_same l (λ q n. h q (omega arith)))

  lineage_live : (x : ℕ) → has x f ≡ true → (q : ℕ) → 1 ≤ times q (x ∷ above x f) → has q f ≡ true
  unfolding times
  lineage_live x h q n = elim (ℕ_discrete q x) [ yes e ↦ rw e h | no m ↦ above_has q x f h (omega (arith, miss q x m)) ]

  settled_same : (x : ℕ) → has x f ≡ true → any (counts_as_changed p) (lineage p x) ≡ any_of (changed_at t) (x ∷ above x f)
  settled_same x h = any_same (x ∷ above x f) (lineage_live x h)

  mark_same : (x : ℕ) → has x f ≡ true → (p.mark x).marked ≡ marked_at t x
  mark_same x h = ap (λ (m : Mark). m.marked) (sym (K.same.mark x h))

  -- a live node without a mark is committed
  unmarked_committed : (x : ℕ) → has x f ≡ true → marked_at t x ≡ false → committed_at t x ≡ true
  unmarked_committed x h m = go (committed_at t x) refl
    where
      live : is_live t x ≡ true
      live = live_has t f K.same.links x ∙ h

      go : (b : Bool) → committed_at t x ≡ b → b ≡ true
      go true c = refl
      go false c = never (K.sound.transform_marked x live (K.sound.uncommitted x live c).in_transform) m

  -- ---- a commit's reworks
  module _ (E : Entered t f) (Vs : Visited t f) where
    abbrev pub done : Tree
    done = (rework_all (begun t) (visits_of t)).tree

    pub worlds_ran : Ran t p [] (visited t) done
    unfolding times
    worlds_ran =
        ran p (visits_of t) [] (begun t)
        (record { worlds = K.whole.worlds; links = K.same.links; local = K.same.local })
        (λ y h e. K.right.place y h (settled_same y h ∙ e))
        (λ y h. absurd (omega arith)) Vs.good

    pub inside : Inside t.links (visits_of t)
    inside = good_inside t.links (changed_at t) f [] (visits_of t) Vs.good

    pub keyed : KeyedTree t f
    keyed = keyed_sound t f K.whole K.sound K.same.links E

    pub fits : Fitting (begun t) (visits_of t)
    fits = sound_fitting f (visits_of t) (begun t) K.whole K.sound K.same.links keyed inside Vs.once

    pub entries_done : Entries t f (visited t) done
    entries_done = entries_ran f (visits_of t) (begun t) K.same.links keyed inside fits

    -- a live node that is not visited was right before
    unvisited : (x : ℕ) → has x f ≡ true → times x (visited t) ≡ 0 → Fresh t p x × (committed_at t x ≡ true)
    unvisited x h z = go (any_of (changed_at t) (x ∷ above x f)) refl (marked_at t x) refl
      where
        go : (b : Bool) → any_of (changed_at t) (x ∷ above x f) ≡ b → (c : Bool) → marked_at t x ≡ c → Fresh t p x × (committed_at t x ≡ true)
        go true e c m = absurd (omega (arith, Vs.covers.changed x h e))
        go false e true m = absurd (omega (arith, Vs.covers.marked x h m))
        go false e false m =
            let s = settled_same x h ∙ e in
            let B = K.right.boxes x h s (mark_same x h ∙ m) in
            (record { place = K.right.place x h s; bounds = B.bounds; hit_bounds = B.hit_bounds }, unmarked_committed x h m)

    pub fresh_done : (x : ℕ) → has x f ≡ true → Fresh done p x × (committed_at done x ≡ true)
    fresh_done x h =
        elim (dec_lt 0 (times x (visited t))) [
          | yes l ↦ (worlds_ran.fresh x l, entries_done.visited x l)
          | no n ↦
              let z : times x (visited t) ≡ 0 = omega arith in
              let U = unvisited x h z in
              (fresh_kept t done p x (worlds_ran.rest x z) U.0, entries_done.stays x U.1)
        ]

    -- every live node is right after the reworks
    pub committed_right : Afresh done p
    committed_right =
        record {
          place = λ x h. (fresh_done x h).0.place;
          boxes = λ x h.
              let U = fresh_done x h in
              record { bounds = U.0.bounds; hit_bounds = U.0.hit_bounds; entry = rw U.0.hit_bounds at (entries_done.keyed.boxed x h U.1) };
        }

  -- ---- a tree that needs no commit has no mark
  module _ (calm : needs_commit t ≡ false) where
    pub unmarked : (x : ℕ) → has x f ≡ true → marked_at t x ≡ false
    unfolding needs_commit
    unmarked x h =
        none_passes (marked_at t) (live_slots t) (first (any_of (marked_at t) (live_slots t)) _ (first _ _ calm)) x
        (omega (arith, rep_times K.same.links.rep x, has_count x f h))
      where
        first : (a b : Bool) → a || b ≡ false → a ≡ false
        first true b e = e
        first false b e = refl

    settled : (x : ℕ) → has x f ≡ true → Settled p x
    settled x h =
        none_of (counts_as_changed p) (lineage p x)
        (λ q n. let l = lineage_live x h q n in changed_same q l ∙ rw (unmarked q l))

    pub calm_right : Afresh t p
    calm_right =
        record {
          place = λ x h. K.right.place x h (settled x h);
          boxes = λ x h. K.right.boxes x h (settled x h) (mark_same x h ∙ unmarked x h);
        }

-- ---- the whole commit

-- finishing changes neither worlds nor keys nor entries' boxes
box_stays : (ix : Index) (e : ℕ) → (entry_in ix.entries e).aabb ≡ (entry_in (commit_of ix (work_of ix)).entries e).aabb
box_stays ix e = ap (λ (s : Slot). s.aabb) (sym (commit_bare ix e))

finish : (t : Tree) (p : Plan) → Afresh t p → Afresh (finished t) p
finish t p A =
    record {
      place = A.place;
      boxes = λ x h. record {
        bounds = (A.boxes x h).bounds;
        hit_bounds = (A.boxes x h).hit_bounds;
        entry = subst (λ (b : Aabb2D). Alike b (rect_to_aabb (world_hit_bounds p x))) (box_stays t.index (key_at t x).0) (A.boxes x h).entry;
      };
    }

-- and the plan's commit neither links nor local records
pub plan_commit : (t : Tree) (p : Plan) → Afresh t p → Afresh t (committed p)
unfolding committed world_bounds world_hit_bounds
plan_commit t p A =
    record {
      place = A.place;
      boxes = λ x h. record { bounds = (A.boxes x h).bounds; hit_bounds = (A.boxes x h).hit_bounds; entry = (A.boxes x h).entry };
    }

module _ (t : Tree) (p : Plan) (K : Known t p) (E : Entered t p.links) (Vs : Visited t p.links) where
  -- after an accepted commit every live node's stored place and boxes equal those worked out afresh
  pub commit_afresh : Afresh (commit_tree t).tree p
  unfolding commit_tree
  commit_afresh = go (needs_commit t) refl
    where
      go : (b : Bool) → needs_commit t ≡ b → Afresh (work_for b t).tree p
      go true n = finish (done t p K E Vs) p (committed_right t p K E Vs)
      go false n = calm_right t p K n

  -- the same of the plan after its commit, and so the stored records stay right
  pub commit_right : Right (commit_tree t).tree (committed p)
  commit_right = afresh_right (commit_tree t).tree (committed p) (plan_commit (commit_tree t).tree p commit_afresh)

  -- each entry has its node's stored hit box still
  pub commit_entered : Entered (commit_tree t).tree p.links
  unfolding commit_tree
  commit_entered = go (needs_commit t) refl
    where
      go : (b : Bool) → needs_commit t ≡ b → Entered (work_for b t).tree p.links
      go true n = λ x h c.
          let d = done t p K E Vs in
          subst (λ (b : Aabb2D). Alike b (rect_to_aabb (stored_hit_bounds d x))) (box_stays d.index (key_at d x).0) ((entries_done t p K E Vs).keyed.boxed x h c)
      go false n = E

  -- no commit touches slots, links or local records
  pub commit_frame : ((commit_tree t).tree.slots ≡ t.slots) × ((commit_tree t).tree.links ≡ t.links) × ((commit_tree t).tree.locals ≡ t.locals)
  unfolding commit_tree
  commit_frame = go (needs_commit t)
    where
      go : (b : Bool) → ((work_for b t).tree.slots ≡ t.slots) × ((work_for b t).tree.links ≡ t.links) × ((work_for b t).tree.locals ≡ t.locals)
      go true = let F = (worlds_ran t p K E Vs).frame in (F.slots, F.links, F.locals)
      go false = (refl, refl, refl)

  -- every live node is committed then
  pub commit_committed : (x : ℕ) → has x p.links ≡ true → committed_at (commit_tree t).tree x ≡ true
  unfolding commit_tree
  commit_committed x h = go (needs_commit t) refl
    where
      go : (b : Bool) → needs_commit t ≡ b → committed_at (work_for b t).tree x ≡ true
      go true n = (fresh_done t p K E Vs x h).1
      go false n = unmarked_committed t p K x h (unmarked t p K n x h)
