-- The damage of a commit after every list of calls (specs/Damage.antt): the boxes that the tree stores of live nodes are those that were shown, its
-- pending rectangles are those of the nodes that went, and a commit gives of each visited node the box that stood there and the one worked out afresh.
use Rattle.std.specs.Prelude.{Ok, Err, Option}
use mathlib.Core.Path.{◌≡◌, refl, sym, ap, ap₂, subst, ◌∙◌}
use mathlib.Core.Bool.{Bool, true, false, not, ◌||◌, cond}
use mathlib.Core.List.{List, [], ◌∷◌, ◌++◌, map, append-nil, append_assoc}
use Rattle.std.proofs.lemmas.List.{take_more_set}
use Prim.Native.Nat.{ℕ, zero, suc, ◌+◌, ◌*◌, ◌≤◌, ◌<◌}
use native.Mathlib.Omega.{arith}
use native.Mathlib.Decide.{ℕ_discrete}
use borrow.Author.Tests.{ltb-false, not-true}
use lib.Dec.{eqb, ltb}
use lib.Ieee.{Float}
use lib.ListN.{length, get_or, take, drop, length-append, length-drop, length-set}
use lib.Seq.{drop-append_seam}
use Rattle.counting.specs.Times.{tally, times}
use Rattle.counting.proofs.Counting.{hit}
use Rattle.numbers.proofs.Bools.{clash}
use Rattle.geometry.specs.declared.rect.Rect.{Rect}
use Rattle.geometry.specs.Rectangle.{rect_eq, insets_eq, has_area}
use Rattle.geometry.specs.Transform.{affine_eq}
use Rattle.geometry_clips.specs.Clips.{constructed, clip_eq}
use Rattle.index_types.specs.declared.NodeId.{NodeId}
use Rattle.tree_types.specs.declared.LocalNode.{LocalNode}
use Rattle.tree_types.specs.Local as local
use Rattle.tree_types.specs.Local.{empty_rect}
use Rattle.tree_types.specs.rooms.Rooms.{rect_at}
use Rattle.link_forest.specs.Forest.{Forest, has, post, part}
use Rattle.link_forest.proofs.Counting.{count_has}
use Rattle.tree_state.specs.declared.Local.{Local}
use Rattle.tree_state.specs.Locals.{record_at}
use Rattle.tree_state.specs.declared.WorldNode.{WorldNode}
use Rattle.tree_state.specs.declared.Dirty.{Dirty}
use Rattle.tree_state.specs.declared.Pending.{Pending}
use Rattle.tree_state.specs.declared.Tree.{Tree}
use Rattle.tree_state.specs.declared.Refusal.TheVariants as no
use Rattle.tree_state.specs.Worlds.{no_world}
use Rattle.tree_state.specs.Tree.{fresh_tree, number_in, position_of, clip_of, stored_bounds, needs_commit, Verdict}
use Rattle.tree_state.specs.Sound.{SoundTree, count_of}
use Rattle.tree_steps.specs.Setters as set
use Rattle.tree_steps.specs.Commit.{Work, new_place, if_area, damage_of, rework, rework_all, rects_of, begun, visits_of, work_for, commit_tree, commit_verdict, numbers_of, rects_in_front}
use Rattle.tree_steps.specs.Structure as structure
use Rattle.tree_steps.specs.Structure.{push_rect}
use Rattle.tree_commit.specs.Commit.{commit_call, after_work, commit_room, room_after}
use Rattle.tree_damage.proofs.Front.{rects_front, numbers_length, union_front}
use Rattle.tree_state.specs.Whole.{Whole}
use Rattle.tree_laws.proofs.Ground.{Linked, low, slot_live}
use Rattle.tree_visits.proofs.Laws.{visits_low}
use Rattle.tree_visits.proofs.Slots.{slots_once}
use Rattle.agreement.proofs.Same.{Known}
use Rattle.agreement.proofs.worlds.Visits.{slot_at, visited}
use Rattle.agreement.proofs.worlds.Turn.{bounds_now, world_stays, whole_worlds}
use Rattle.agreement.proofs.worlds.Committed.{worlds_ran, commit_afresh}
use Rattle.agreement_calls.proofs.Tests.{needs_same}
use Rattle.agreement_calls.proofs.Frame.{put_same, put_other}
use Rattle.agreement_calls.proofs.Verdicts as refused
use Rattle.agreement_calls.proofs.Setters as setter
use Rattle.agreement_calls.proofs.commit.Visited.{visited_linked}
use Rattle.agreement_calls.proofs.commit.Visits.{visits_same}
use Rattle.tree_invariant.proofs.calls.Accepted.{checked_both}
use Rattle.tree_invariant.proofs.calls.Insert.{insert_world_other, insert_world_new}
use Rattle.tree_invariant.proofs.remove.Counts.{joined_same}
use Rattle.tree_invariant.proofs.remove.Keep as kept
use Rattle.tree_invariant.specs.remove.Removals.{pending_all}
use Rattle.tree_invariant.proofs.remove.Fold.{pending_count}
use Rattle.plan.specs.Lists.{put, keep, any, joined, sorted}
use Rattle.plan.specs.Plan as plan
use Rattle.plan.specs.Plan.{Plan, nodes}
use Rattle.plan.specs.Visits.{starts, visits, committed}
use Rattle.plan.specs.Afresh.{world_bounds}
use Rattle.plan.specs.Calls as call
use Rattle.plan.specs.Calls.{Call, Outcome}
use Rattle.plan.specs.Demand.{run}
use Rattle.tree_run.specs.Run as tree
use Rattle.demand3.specs.Damage.{Shown, shown_after, shown_if, Seen, see, seen, rects, Damage, DamageTold}
use Rattle.tree_run.proofs.Verdicts.{verdict, accepted, step_is, outcome_is}
use Rattle.demand3.proofs.Theorem.{Meets, refused_same, removed_was, moved_was, inserted_was, some_number, zero_accepted, step_meets, meets_fresh}
use Rattle.demand3.proofs.Soundness.{keeps_after, damage_fits, commit_calm}
use Rattle.demand3.specs.Claims.{after}

-- ---- the turns of a commit

-- a node that is not visited keeps its box
rests : (is : List ℕ) (k : Work) (y : ℕ) → times y (map (slot_at k.tree.links) is) ≡ 0 → stored_bounds (rework_all k is).tree y ≡ stored_bounds k.tree y
unfolding rework_all rework times
rests [] k y z = refl
rests (i ∷ is) k y z =
    let x = slot_at k.tree.links i in
    let apart : y ≡ x → ⊥ = λ e. let one : tally (eqb y x) ≡ 1 = rw e (hit x) in omega arith in
    rests is (rework k i) y (omega arith) ∙ ap (λ (v : WorldNode). v.bounds) (world_stays k.tree x (new_place k.tree i x) y apart)

-- each turn adds its node's box before all turns and the one after them
turns : (is : List ℕ) (k : Work) → length k.tree.worlds ≡ 256 → ((i : ℕ) → 1 ≤ times i is → slot_at k.tree.links i < 256)
    → ((y : ℕ) → times y (map (slot_at k.tree.links) is) ≤ 1)
    → (rework_all k is).damage ≡ k.damage ++ joined (λ x. damage_of (stored_bounds k.tree x) (stored_bounds (rework_all k is).tree x)) (map (slot_at k.tree.links) is)
unfolding rework_all rework times joined
turns [] k W l once = sym (append-nil k.damage)
turns (i ∷ is) k W l once =
    let t = k.tree in
    let x = slot_at t.links i in
    let w = new_place t i x in
    let xs = map (slot_at t.links) is in
    let small : x < 256 = l i (omega (arith, hit i)) in
    let last = (rework_all (rework k i) is).tree in
    let new = sym (bounds_now t x w W small) ∙ sym (rests is (rework k i) x (omega (arith, once x, hit x))) in
    turns is (rework k i) (whole_worlds t x w W small) (λ j h. l j (omega arith)) (λ y. omega (arith, once y))
    ∙ ap₂ (λ (a b : List Rect). (k.damage ++ a) ++ b) (ap (damage_of (stored_bounds t x)) new)
    (joined_same (λ y. damage_of (stored_bounds (rework k i).tree y) (stored_bounds last y)) (λ y. damage_of (stored_bounds t y) (stored_bounds last y)) xs
    (λ y h. ap (λ (v : WorldNode). damage_of v.bounds (stored_bounds last y)) (world_stays t x w y (λ e. let one : tally (eqb y x) ≡ 1 = rw e (hit x) in omega (arith, once y)))))
    ∙ append_assoc k.damage _ _

-- ---- a commit

none_kept : (q : ℕ → Bool) (l : List ℕ) → any q l ≡ false → keep q l ≡ []
unfolding any keep
none_kept q [] e = refl
none_kept q (x ∷ l) e = go (q x) e (none_kept q l)
  where
    go : (b : Bool) → b || any q l ≡ false → (any q l ≡ false → keep q l ≡ []) → cond b (x ∷ keep q l) (keep q l) ≡ []
    go true e rest = clash e
    go false e rest = rest e

-- a plan that needs no commit has nothing to visit
no_visits : (p : Plan) → plan.needs_commit p ≡ false → visits p ≡ []
unfolding plan.needs_commit visits starts sorted joined keep
no_visits p e = rw (none_kept (λ x. (p.mark x).marked) (nodes p) (first (any (λ x. (p.mark x).marked) (nodes p)) _ e))
  where
    first : (a b : Bool) → a || b ≡ false → a ≡ false
    first true b e = e
    first false b e = refl

-- the pending rectangles
abbrev standing : Pending → List Rect
standing q = take q.count q.rects

-- what was pending, and then of each visited node the box that is stored and the one worked out afresh
commit_damage : (t : Tree) (p : Plan) → Meets t p
    → (commit_tree t).damage ≡ standing t.pending ++ joined (λ x. damage_of (stored_bounds t x) (world_bounds p x)) (visits p)
unfolding commit_tree joined
commit_damage t p M = go (needs_commit t) refl
  where
    L : Linked t p.links
    L = M.known.same.links

    small : (i : ℕ) → 1 ≤ times i (visits_of t) → slot_at t.links i < 256
    small i h = low t p.links L (slot_at t.links i) (slot_live t p.links L i (visits_low t p.links L i h))

    once : (y : ℕ) → times y (visited t) ≤ 1
    once y = omega (arith, slots_once t p.links L y, L.once y)

    fresh : (y : ℕ) → 1 ≤ times y (visited t) → stored_bounds (rework_all (begun t) (visits_of t)).tree y ≡ world_bounds p y
    fresh y h = ((worlds_ran t p M.known M.entered (visited_linked t p.links L)).fresh y h).bounds

    go : (b : Bool) → needs_commit t ≡ b → (work_for b t).damage ≡ standing t.pending ++ joined (λ x. damage_of (stored_bounds t x) (world_bounds p x)) (visits p)
    go true e =
        turns (visits_of t) (begun t) M.known.whole.worlds small once
        ∙ ap (λ (l : List Rect). standing t.pending ++ l)
        (joined_same (λ x. damage_of (stored_bounds t x) (stored_bounds (rework_all (begun t) (visits_of t)).tree x)) (λ x. damage_of (stored_bounds t x) (world_bounds p x)) (visited t)
        (λ y h. ap (damage_of (stored_bounds t y)) (fresh y h))
        ∙ ap (joined (λ x. damage_of (stored_bounds t x) (world_bounds p x))) (visits_same t p M.known))
    go false e =
        let none : t.pending.count ≡ 0 = rw e at (commit_calm t (M.known.whole, M.known.sound)).none_pending in
        rw (none, no_visits p (sym (needs_same t p M.known) ∙ e))

-- ---- pending rectangles

pushed : (b : Bool) (q : Pending) (r : Rect) → q.count + tally b ≤ 256 → length q.rects ≡ 256
    → (standing (push_rect b q r) ≡ standing q ++ cond b (r ∷ []) [])
    × ((push_rect b q r).count ≡ q.count + tally b)
    × (length (push_rect b q r).rects ≡ 256)
pushed false q r h l = (sym (append-nil (standing q)), omega arith, l)
pushed true q r h l = (take_more_set q.rects q.count r (omega (arith, l)), refl, length-set q.rects q.count r ∙ l)

-- those of the nodes that go, behind those that are there
all_pushed : (bounds : ℕ → Rect) (xs : List ℕ) (q : Pending) → q.count + count_of (λ y. has_area (bounds y)) xs ≤ 256 → length q.rects ≡ 256
    → standing (pending_all bounds q xs) ≡ standing q ++ joined (λ y. if_area (bounds y)) xs
unfolding count_of joined
all_pushed bounds [] q h l = sym (append-nil (standing q))
all_pushed bounds (x ∷ xs) q h l =
    let r = bounds x in
    let one = pushed (has_area r) q r (omega arith) l in
    all_pushed bounds xs (push_rect (has_area r) q r) (omega (arith, one.1)) one.2
    ∙ ap (λ (m : List Rect). m ++ joined (λ y. if_area (bounds y)) xs) one.0
    ∙ append_assoc (standing q) (if_area r) (joined (λ y. if_area (bounds y)) xs)

-- ---- each has area

abbrev Areas : List Rect → Type 0
Areas [] = Unit {0}
Areas (r ∷ rs) = (has_area r ≡ true) × Areas rs

areas_append : (a b : List Rect) → Areas a → Areas b → Areas (a ++ b)
areas_append [] b u v = v
areas_append (r ∷ a) b u v = (u.0, areas_append a b u.1 v)

areas_parts : (a b : List Rect) → Areas (a ++ b) → Areas a × Areas b
areas_parts [] b u = (tt, u)
areas_parts (r ∷ a) b u = let w = areas_parts a b u.1 in ((u.0, w.0), w.1)

areas_if : (r : Rect) → Areas (if_area r)
areas_if r = go (has_area r) refl
  where
    go : (b : Bool) → has_area r ≡ b → Areas (cond b (r ∷ []) [])
    go true e = (e, tt)
    go false e = tt

areas_of : (old new : Rect) → Areas (damage_of old new)
areas_of old new = go (rect_eq old new)
  where
    go : (b : Bool) → Areas (cond b [] (if_area old ++ if_area new))
    go true = tt
    go false = areas_append (if_area old) (if_area new) (areas_if old) (areas_if new)

areas_joined : (g : ℕ → List Rect) → ((x : ℕ) → Areas (g x)) → (xs : List ℕ) → Areas (joined g xs)
unfolding joined
areas_joined g a [] = tt
areas_joined g a (x ∷ xs) = areas_append (g x) (joined g xs) (a x) (areas_joined g a xs)

pub length_rects : (l : List Float) (n : ℕ) → length (rects_of l n) ≡ n
unfolding rects_of
length_rects l zero = refl
length_rects l (suc n) = rw (length-append, length_rects l n) (omega arith)

areas_read : (l : List Float) (n : ℕ) → Areas (rects_of l n) → (i : ℕ) → i < n → has_area (rect_at l i) ≡ true
unfolding rects_of
areas_read l zero a i h = absurd (omega arith)
areas_read l (suc n) a i h =
    let w = areas_parts (rects_of l n) (rect_at l n ∷ []) a in
    elim (ℕ_discrete i n) [ yes e ↦ rw e w.1.0 | no m ↦ areas_read l n w.0 i (omega arith) ]

-- ---- what every call keeps

record Shows (t : Tree) (p : Plan) (s : Shown) : Type 0 where
  box : (x : ℕ) → has x p.links ≡ true → stored_bounds t x ≡ s.box x
  gone : standing t.pending ≡ s.gone
  areas : Areas s.gone

-- the tree's world boxes and pending rectangles stay, and no node comes
stays : (t u : Tree) (p q : Plan) (s : Shown) → u.worlds ≡ t.worlds → u.pending ≡ t.pending → ((x : ℕ) → has x q.links ≡ true → has x p.links ≡ true) → Shows t p s → Shows u q s
stays t u p q s w e was H =
    record {
      box = λ x h. ap (λ (v : List WorldNode). (get_or v x no_world).bounds) w ∙ H.box x (was x h);
      gone = ap standing e ∙ H.gone;
      areas = H.areas;
    }

unless_stays : (b : Bool) (t : Tree) (l : List Local) (m : List Dirty)
    → ((set.unless b t (set.with_locals t l m)).worlds ≡ t.worlds) × ((set.unless b t (set.with_locals t l m)).pending ≡ t.pending)
unless_stays true t l m = (refl, refl)
unless_stays false t l m = (refl, refl)

set_was : (b : Bool) (p : Plan) (x : ℕ) (v : LocalNode) (m : plan.Mark → plan.Mark) (y : ℕ) → has y (plan.set_unless b p x v m).links ≡ true → has y p.links ≡ true
set_was true p x v m y h = h
set_was false p x v m y h = h

-- a setter, whatever it compares
shows_set : (b : Bool) (t : Tree) (l : List Local) (n : List Dirty) (c : Bool) (p : Plan) (x : ℕ) (v : LocalNode) (m : plan.Mark → plan.Mark)
    (s : Shown) → Shows t p s
    → Shows (set.unless b t (set.with_locals t l n)) (plan.set_unless c p x v m) s
shows_set b t l n c p x v m s H =
    let u = unless_stays b t l n in
    stays t (set.unless b t (set.with_locals t l n)) p (plan.set_unless c p x v m) s u.0 u.1 (set_was c p x v m) H

shows_insert : (t : Tree) (p : Plan) (s : Shown) → Meets t p → Shows t p s → (o : Option NodeId) (v : LocalNode) → structure.insert_verdict t o v ≡ Ok tt
    → Shows (structure.insert_tree t o v) (call.accepted p (call.insert o v)) (shown_after p s (call.insert o v))
unfolding structure.insert_tree
shows_insert t p s M H o v e = record { box = box; gone = H.gone; areas = H.areas }
  where
    K : Known t p
    K = M.known

    x : ℕ
    x = structure.slot_of t.slots

    box : (y : ℕ) → has y (call.accepted p (call.insert o v)).links ≡ true → stored_bounds (structure.insert_tree t o v) y ≡ put s.box (plan.new_slot p) empty_rect y
    box y h =
        rw (← refused.slot_same t p K)
        (elim (ℕ_discrete y x) [
          | yes q ↦ rw q (ap (λ (w : WorldNode). w.bounds) (insert_world_new t o v K.whole K.sound e) ∙ sym (put_same s.box x empty_rect))
          | no n ↦ ap (λ (w : WorldNode). w.bounds) (insert_world_other t o v y n) ∙ H.box y (inserted_was t p K o v e y h n) ∙ sym (put_other s.box x empty_rect y n)
        ])

shows_remove : (t : Tree) (p : Plan) (s : Shown) → Meets t p → Shows t p s → (i : NodeId) → set.of_node t i ≡ Ok tt
    → Shows (structure.remove_tree t (position_of t i.0)) (call.accepted p (call.remove i)) (shown_after p s (call.remove i))
unfolding call.accepted
shows_remove t p s M H i e =
    subst (λ (u : Tree). Shows u (plan.removed p i.0) (shown_after p s (call.remove i))) (sym (kept.removes_to t W S f L x h))
    (record {
      box = λ y g. H.box y (removed_was p x h y g);
      gone =
          all_pushed (stored_bounds t) away t.pending (omega (arith, (kept.sound_after t W S f L x h).pending_fits, pending_count (stored_bounds t) t.pending away)) W.pending
          ∙ ap₂ (λ (a b : List Rect). a ++ b) H.gone (joined_same (λ y. if_area (stored_bounds t y)) (λ y. if_area (s.box y)) away (λ y n. ap if_area (H.box y (kept.gone_has t W S f L x h y n))));
      areas = areas_append s.gone (joined (λ y. if_area (s.box y)) away) H.areas (areas_joined (λ y. if_area (s.box y)) (λ y. areas_if (s.box y)) away);
    })
  where
    W : Whole t
    W = M.known.whole

    S : SoundTree t
    S = M.known.sound

    f : Forest
    f = p.links

    L : Linked t p.links
    L = M.known.same.links

    x : ℕ
    x = i.0

    away : List ℕ
    away = post (part i.0 p.links)

    h : has i.0 p.links ≡ true
    h = setter.of_node_lem t p M.known i e

shows_commit : (t : Tree) (p : Plan) → Meets t p → Shows (commit_tree t).tree (committed p) (record { box = world_bounds p; gone = [] })
unfolding committed
shows_commit t p M =
    let A = commit_afresh t p M.known M.entered (visited_linked t p.links M.known.same.links) in
    let none = (commit_calm t (M.known.whole, M.known.sound)).none_pending in
    record { box = λ x h. (A.boxes x h).bounds; gone = ap (λ (n : ℕ). take n (commit_tree t).tree.pending.rects) none; areas = tt }

accepted_shows : (t : Tree) (p : Plan) (s : Shown) → Meets t p → Shows t p s → (c : Call) → verdict t c ≡ Ok tt → Shows (accepted t c) (call.accepted p c) (shown_after p s c)
unfolding verdict accepted call.accepted structure.reparent_tree set.set_transform set.set_clip set.set_bounds set.set_slop set.set_level set.set_flags
accepted_shows t p s M H (call.insert o v) e = shows_insert t p s M H o v e
accepted_shows t p s M H (call.remove i) e = shows_remove t p s M H i e
accepted_shows t p s M H (call.reparent i o) e =
    stays t (structure.reparent_tree t i.0 o) p (plan.moved p i.0 o) s refl refl (moved_was t p M.known i o e) H
accepted_shows t p s M H (call.set_local_transform i a) e =
    let x = i.0 in
    let v = p.local x in
    shows_set (affine_eq (record_at t.locals x).transform a) t (set.store_transform t.locals x a) (set.mark_transform t.marks x)
    (affine_eq v.local_transform a) p x (local.with_transform a v) plan.mark_transform s H
accepted_shows t p s M H (call.set_local_clip i c) e =
    let x = i.0 in
    let v = p.local x in
    shows_set (clip_eq (clip_of t x) (constructed c)) t (set.store_clip t.locals x (constructed c)) (set.mark_clip t.marks x)
    (clip_eq v.local_clip (constructed c)) p x (local.with_clip (constructed c) v) plan.mark_clip s H
accepted_shows t p s M H (call.set_local_bounds i r) e =
    let x = i.0 in
    let v = p.local x in
    shows_set (rect_eq ((record_at t.locals x).bounds) r) t (set.store_bounds t.locals x r) (set.mark_alone t.marks x) (rect_eq v.local_bounds r) p x
    (local.with_bounds r v) plan.mark_alone s H
accepted_shows t p s M H (call.set_hit_slop i w) e =
    let x = i.0 in
    let v = p.local x in
    shows_set (insets_eq ((record_at t.locals x).slop) w) t (set.store_slop t.locals x w) (set.mark_alone t.marks x) (insets_eq v.hit_slop w) p x
    (local.with_slop w v) plan.mark_alone s H
accepted_shows t p s M H (call.set_z_index i z) e = stays t (set.set_level t i.0 z) p _ s refl refl (λ y h. h) H
accepted_shows t p s M H (call.set_flags i f) e = stays t (set.set_flags t i.0 f) p _ s refl refl (λ y h. h) H
accepted_shows t p s M H (call.commit room) e = shows_commit t p M
accepted_shows t p s M H (call.read r) e = H
accepted_shows t p s M H (call.request q asked room) e = H

-- accepted on the tree where the plan refuses nothing
shows_with : (v : Verdict) (n : ℕ) (t : Tree) (p : Plan) (s : Shown) (c : Call) → number_in v ≡ n → Shows t p s
    → (v ≡ Ok tt → Shows (accepted t c) (call.accepted p c) (shown_after p s c)) → Shows (set.tree_if v (accepted t c) t) (call.step_if n p c) (shown_if n p s c)
unfolding number_in
shows_with (Ok tt) zero t p s c e H done = done refl
shows_with (Ok tt) (suc n) t p s c e H done = absurd (omega arith)
shows_with (Err r) zero t p s c e H done = absurd (some_number r e)
shows_with (Err r) (suc n) t p s c e H done = H

step_shows : (t : Tree) (s : Seen) → Meets t s.plan → Shows t s.plan s.shown → (c : Call) → Shows (tree.step t c) (see s c).plan (see s c).shown
unfolding see call.step
step_shows t s M H c =
    let p = s.plan in
    rw (step_is t c) (shows_with (verdict t c) (call.refusal p c) t p s.shown c (refused_same t p M.known c) H (accepted_shows t p s.shown M H c))

run_shows : (calls : List Call) (t : Tree) (s : Seen) → Meets t s.plan → Shows t s.plan s.shown
    → Meets (run tree.step t calls) (run see s calls).plan × Shows (run tree.step t calls) (run see s calls).plan (run see s calls).shown
unfolding run see
run_shows [] t s M H = (M, H)
run_shows (c ∷ cs) t s M H = run_shows cs (tree.step t c) (see s c) (step_meets t s.plan M c) (step_shows t s M H c)

-- ---- after every list of calls

-- a visited node is live
visits_live : (t : Tree) (p : Plan) → Known t p → (x : ℕ) → 1 ≤ times x (visits p) → has x p.links ≡ true
visits_live t p K x h =
    let n : 1 ≤ times x (visited t) = rw (visits_same t p K) h in
    count_has x p.links (omega (arith, slots_once t p.links K.same.links x))

-- of a tree and of what was seen that agree
damage_is : (t : Tree) (s : Seen) → Meets t s.plan → Shows t s.plan s.shown → (commit_tree t).damage ≡ rects s
unfolding rects
damage_is t s M H =
    let p = s.plan in
    commit_damage t p M
    ∙ ap₂ (λ (a b : List Rect). a ++ b) H.gone
    (joined_same (λ x. damage_of (stored_bounds t x) (world_bounds p x)) (λ x. damage_of (s.shown.box x) (world_bounds p x)) (visits p)
    (λ x n. ap (λ (r : Rect). damage_of r (world_bounds p x)) (H.box x (visits_live t p M.known x n))))

areas_rects : (t : Tree) (s : Seen) → Shows t s.plan s.shown → Areas (rects s)
unfolding rects
areas_rects t s H =
    let p = s.plan in
    areas_append s.shown.gone (joined (λ x. damage_of (s.shown.box x) (world_bounds p x)) (visits p)) H.areas
    (areas_joined (λ x. damage_of (s.shown.box x) (world_bounds p x)) (λ x. areas_of (s.shown.box x) (world_bounds p x)) (visits p))

-- the rectangles in front of a room that holds 512
in_room : (t : Tree) (room : List Float) (rs : List Rect) → commit_verdict t (length room) ≡ Ok tt → (commit_tree t).damage ≡ rs → length rs ≤ 512 → Areas rs → Damage t room rs
unfolding commit_call after_work commit_room room_after rects_in_front
in_room t room rs ok e few areas =
    record {
      counted = rw (ok, e);
      few = few;
      in_front = rw front (rects_front rs room);
      behind = rw front behind;
      as_long = rw front as_long;
      area = λ i h. areas_read (commit_room t room) (length rs) (rw (front, rects_front rs room) areas) i h;
      union = rw front (union_front rs room);
    }
  where
    front : commit_room t room ≡ rects_in_front rs room
    front = rw (ok, e)

    long : length (numbers_of rs) ≡ 4 * length rs
    long = numbers_length rs

    fits : 2048 ≤ length room
    fits = ltb-false (length room) 2048 (not-true (ltb (length room) 2048) (checked_both (set.held t) (not (ltb (length room) 2048)) no.ShortRoom ok).1)

    behind : drop (4 * length rs) (numbers_of rs ++ drop (length (numbers_of rs)) room) ≡ drop (4 * length rs) room
    behind = rw (← long) (drop-append_seam (numbers_of rs) (drop (length (numbers_of rs)) room))

    as_long : length (numbers_of rs ++ drop (length (numbers_of rs)) room) ≡ length room
    as_long = omega (arith, length-append (numbers_of rs) (drop (length (numbers_of rs)) room), length-drop (length (numbers_of rs)) room, long, fits, few)

shows_fresh : Shows fresh_tree plan.empty (record { box = λ x. empty_rect; gone = [] })
unfolding has fresh_tree
shows_fresh = record { box = λ x h. clash (sym h); gone = refl; areas = tt }

pub damage_told : DamageTold
unfolding verdict
damage_told calls room e =
    let R = run_shows calls fresh_tree (record { plan = plan.empty; shown = record { box = λ x. empty_rect; gone = [] } }) meets_fresh shows_fresh in
    let t = after calls in
    let is-damage = damage_is t (seen calls) R.0 R.1 in
    let number : (tree.outcome t (call.commit room)).refused ≡ number_in (verdict t (call.commit room)) = ap (λ (o : Outcome). o.refused) (outcome_is t (call.commit room)) in
    in_room t room (rects (seen calls)) (zero_accepted (commit_verdict t (length room)) (sym number ∙ e)) is-damage
    (subst (λ (l : List Rect). length l ≤ 512) is-damage (damage_fits t (keeps_after calls))) (areas_rects t (seen calls) R.1)
