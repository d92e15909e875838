-- From fresh, an entry without a mark has its own box in the backend; so after a commit every entry has. An empty slot and an entry that is
-- only added have none, so that a query never visits an entry before its first commit.
use mathlib.Core.Path.{◌≡◌, refl, ◌∙◌, subst}
use mathlib.Core.Bool.{Bool, true, false, not, ◌&&◌, cond}
use mathlib.Core.List.{List, [], ◌∷◌}
use Prim.Native.Nat.{ℕ, zero, suc, ◌≤◌, ◌<◌}
use native.Mathlib.Omega.{arith}
use native.Mathlib.Decide.{dec_lt, ℕ_discrete}
use borrow.Author.Tests.{eq-eqb, eqb-true, ne_eqb}
use lib.Dec.{eqb}
use lib.ListN.{set, length-set}
use lib.Seq.{get_or-set_same, get_or-set_other}
use lib.Ieee.{Float}
use Rattle.index_types.specs.declared.Aabb2D.{Aabb2D}
use Rattle.index_types.specs.declared.NodeId.{NodeId}
use Rattle.index_types.specs.declared.Key.{Key}
use Rattle.index_types.specs.declared.Slot.{Slot}
use Rattle.index_types.specs.declared.Stored.{Stored}
use Rattle.index_types.specs.Boxes.{overlaps, contains_point}
use Rattle.index_types.specs.Slots.{no_entry, none_stored, entry_in, entry, stored}
use Rattle.index_types.proofs.Slots.{part_everywhere}
use Rattle.counting.specs.Times.{tally, times}
use Rattle.counting.proofs.Counting.{hit, miss, times_append}
use Rattle.counting.proofs.Kit.{contra}
use Rattle.counting.proofs.Conditions.{left_keeps}
use Rattle.index_entries.specs.declared.reads.Mark.{Mark}
use Rattle.index_entries.specs.declared.reads.Mark.TheVariants as is
use Rattle.index_entries.specs.Entries.{updated_mark, removed_mark}
use Rattle.index_entries.proofs.Finding.{live_slot}
use Rattle.index_entries.proofs.Keep.{entry_used, slot_fits, slot_empty, Kind, plain, new, moved, gone, kind}
use Rattle.index_commit.specs.Commit.{start}
use Rattle.index_commit.proofs.Loop.{slot_low}
use Rattle.index_commit.proofs.Keep.{unmarked}
use Rattle.index_commit.proofs.Agree.{own_work}
use Rattle.index_commit.specs.Agree.{Has, unseen, Agree}
use Rattle.index_query.specs.Query.{slots}
use Rattle.index_types.specs.declared.Index.{Index}
use Rattle.index_state.specs.Index.{full, fresh_box, fresh_entry, fresh_index, slot_of, insert_of, live, mark_at, update_of, remove_of, work_of, commit_of, rect_slots, point_slots}
use Rattle.index_state.specs.Calls.{Call, insert, update, remove, clear, commit, query_rect, query_point, short, refusal, accepted, after}
use Rattle.index_state.specs.Run.{run}
use Rattle.index_state.specs.Claims.{Own, Visited}
use Rattle.index_state.proofs.Calls.{accepts, commit_long}
use Rattle.index_state.proofs.Soundness.{Kept, counts, room_left, fresh_kept, after_kept, run_kept, insert_accepted, update_accepted, remove_accepted}

-- a slot that gets a mark, or is emptied, asks that it had a box before if it has to have one now; the others are as they were
pub away : (entries : List Slot) (stored : List Stored) (x : ℕ) (e : Slot) → x < 512 → (e.mark ≡ 1 → ⊥) → unseen (entry_in entries x).mark ≡ unseen e.mark
    → Agree entries stored → Agree (set entries x e) stored
away entries stored x e h n u A =
    let l = A.entries_whole in
    record {
      entries_whole = length-set entries x e ∙ l;
      stored_whole = A.stored_whole;
      own = λ y m. elim (ℕ_discrete y x) [
        | yes w ↦ absurd (n (rw (w, get_or-set_same entries x e no_entry (omega arith)) at m))
        | no d ↦ rw (get_or-set_other entries x y e no_entry d) (A.own y (rw (get_or-set_other entries x y e no_entry d) at m))
      ];
      none = λ y. elim (ℕ_discrete y x) [
        | yes w ↦ rw (w, get_or-set_same entries x e no_entry (omega arith)) (A.none x ∙ u)
        | no d ↦ rw (get_or-set_other entries x y e no_entry d) (A.none y)
      ];
    }

pub updated_mark_lem : (m : Mark) → updated_mark m ≡ 1 → ⊥
updated_mark_lem is.Unmarked e = omega arith
updated_mark_lem is.Added e = omega arith
updated_mark_lem is.Updated e = omega arith
updated_mark_lem is.Removed e = omega arith

removed_mark_lem : (m : Mark) → removed_mark m ≡ 1 → ⊥
removed_mark_lem is.Unmarked e = omega arith
removed_mark_lem is.Added e = omega arith
removed_mark_lem is.Updated e = omega arith
removed_mark_lem is.Removed e = omega arith

-- an update and a removal leave the backend as it is, and it stays right
pub updated_unseen : {k : ℕ} {m : Mark} → Kind k m → unseen k ≡ unseen (updated_mark m)
updated_unseen plain = refl
updated_unseen new = refl
updated_unseen moved = refl
updated_unseen {k} (gone g) = rw (ne_eqb k 0 (λ e. omega arith), ne_eqb k 2 (λ e. omega arith))

removed_unseen : {k : ℕ} {m : Mark} → Kind k m → unseen k ≡ unseen (removed_mark m)
removed_unseen plain = refl
removed_unseen new = refl
removed_unseen moved = refl
removed_unseen {k} (gone g) = rw (ne_eqb k 0 (λ e. omega arith), ne_eqb k 2 (λ e. omega arith))

module _ (ix : Index) (K : Kept ix) (O : Own ix) where
  insert_own : (b : Aabb2D) (p : NodeId) → full ix ≡ false → Own (insert_of ix b p)
  insert_own b p F =
      let S = K.shaped in
      let h = slot_fits ix.entries ix.free ix.frees ix.dirty ix.queued ix.used (counts ix K) S.entries_whole S.free_whole S.dirty_whole (room_left ix F) in
      let z = slot_empty ix.entries ix.free ix.frees ix.dirty ix.queued ix.used (counts ix K) S.entries_whole S.free_whole S.dirty_whole (room_left ix F) in
      away ix.entries ix.backend.entries (slot_of ix) _ h (λ e. omega arith) (rw z) O

  update_own : (k : Key) (b : Aabb2D) → live ix k ≡ true → Own (update_of ix k.0 b)
  update_own k b L =
      let l = live_slot ix k L in
      away ix.entries ix.backend.entries k.0 _ l.0 (updated_mark_lem (mark_at ix k.0)) (updated_unseen (kind (entry ix k.0).mark l.1)) O

  remove_own : (k : Key) → live ix k ≡ true → Own (remove_of ix k.0)
  remove_own k L =
      let l = live_slot ix k L in
      away ix.entries ix.backend.entries k.0 _ l.0 (removed_mark_lem (mark_at ix k.0)) (removed_unseen (kind (entry ix k.0).mark l.1)) O

  commit_own : Own (commit_of ix (work_of ix))
  unfolding work_of
  commit_own =
      let S = K.shaped in
      let C = counts ix K in
      own_work ix.dirty ix.queued (start ix) (omega (arith, S.dirty_whole, C.queue_fits))
      (λ k l. slot_low ix.entries ix.free ix.frees ix.dirty ix.queued ix.used k C S.dirty_whole l) ix.queued (omega arith) O

  -- after the commit no entry is marked
  commit_plain : (x : ℕ) → (entry (commit_of ix (work_of ix)) x).mark < 2
  unfolding work_of
  commit_plain x =
      let S = K.shaped in
      unmarked ix.dirty ix.queued ix.used (start ix) (counts ix K) S.entries_whole S.free_whole S.dirty_whole x

-- a fresh index has no entry
blank : (x : ℕ) → (entry fresh_index x).mark ≡ 0
unfolding fresh_index
blank x = part_everywhere no_entry fresh_entry (λ (e : Slot). e.mark) refl 512 x

none_there : (x : ℕ) → (stored fresh_index x).present ≡ 0
unfolding fresh_index
none_there x = part_everywhere none_stored (record { present = 0; aabb = fresh_box }) (λ (s : Stored). s.present) refl 512 x

pub fresh_own : Own fresh_index
unfolding fresh_index
fresh_own = record { entries_whole = refl; stored_whole = refl; own = λ x e. absurd (omega (arith, blank x)); none = λ x. rw (blank x, none_there x) }

accepted_own : (ix : Index) (c : Call) → Kept ix → Own ix → refusal ix c ≡ 0 → Own (accepted ix c)
unfolding accepted
accepted_own ix (insert b p) K O e = insert_own ix K O b p (insert_accepted ix b p e)
accepted_own ix (update k b) K O e = update_own ix K O k b (update_accepted ix k b e)
accepted_own ix (remove k) K O e = remove_own ix K O k (remove_accepted ix k e)
accepted_own ix clear K O e = fresh_own
accepted_own ix (commit a r o n) K O e = commit_own ix K O
accepted_own ix (query_rect rect len) K O e = O
accepted_own ix (query_point x y len) K O e = O

after_own : (ix : Index) (c : Call) → Kept ix → Own ix → Own (after ix c)
unfolding after
after_own ix c K O = left_keeps Own (refusal ix c) ix (accepted ix c) O (accepted_own ix c K O)

run_own : (ix : Index) (cs : List Call) → Kept ix → Own ix → Own (run ix cs)
unfolding run
run_own ix [] K O = O
run_own ix (c ∷ cs) K O = run_own (after ix c) cs (after_kept ix c K) (after_own ix c K O)

-- after every list of calls from fresh, an entry without a mark has its own box in the backend
pub own_from_fresh : (cs : List Call) → Own (run fresh_index cs)
own_from_fresh cs = run_own fresh_index cs fresh_kept fresh_own

-- so after an accepted commit every entry has
pub own_after_commit : (cs : List Call) (a r o n : ℕ) → short a r o n ≡ false → let ix = after (run fresh_index cs) (commit a r o n) in
    (x : ℕ) → ((entry ix x).mark ≡ 0 → ⊥) → Has ix.entries ix.backend.entries x
unfolding accepted
own_after_commit cs a r o n h x e =
    let ix = run fresh_index cs in
    let K = run_kept fresh_index cs fresh_kept in
    let c = (accepts ix (commit a r o n) (commit_long ix (rw K.sound) a r o n h)).1 in
    let O : Own (commit_of ix (work_of ix)) = commit_own ix K (own_from_fresh cs) in
    let p = commit_plain ix K (own_from_fresh cs) x in
    subst (λ (z : Index). Has z.entries z.backend.entries x) c (O.own x (plain p (λ z. e (subst (λ (y : Index). (entry y x).mark ≡ 0) c z))))
  where
    plain : {m : ℕ} → m < 2 → (m ≡ 0 → ⊥) → m ≡ 1
    plain l g = omega arith

-- ---- queries between commits

-- what the backend's flag p says of a slot with the mark m, and so whether the slot is visited where the test of its box says b
module _ (m p : ℕ) (e : eqb p 0 ≡ unseen m) where
  no_box : (m ≡ 0 → p ≡ 0) × (m ≡ 2 → p ≡ 0) × ((m ≡ 0 → ⊥) → (m ≡ 2 → ⊥) → p ≡ 0 → ⊥)
  no_box = ((λ z. eqb-true p 0 (e ∙ rw z)), (λ z. eqb-true p 0 (e ∙ rw z)), λ a b z. contra (eq-eqb p 0 z) (e ∙ rw (ne_eqb m 0 a, ne_eqb m 2 b)))

  visit : (b : Bool) → let v = not (eqb p 0) && (not (eqb m 0) && b) in (m ≡ 0 → v ≡ false) × (m ≡ 2 → v ≡ false) × ((m ≡ 0 → ⊥) → (m ≡ 2 → ⊥) → v ≡ b)
  visit b = ((λ z. rw (e, z)), (λ z. rw (e, z)), λ f g. rw (e, ne_eqb m 0 f, ne_eqb m 2 g))

-- after every list of calls from fresh, an empty slot and an entry that is only added have no box in the backend, and every other entry has
pub box_from_fresh : (cs : List Call) (x : ℕ) → let ix = run fresh_index cs in let m = (entry ix x).mark in let p = (stored ix x).present in
    (m ≡ 0 → p ≡ 0) × (m ≡ 2 → p ≡ 0) × ((m ≡ 0 → ⊥) → (m ≡ 2 → ⊥) → p ≡ 0 → ⊥)
box_from_fresh cs x = let ix = run fresh_index cs in no_box (entry ix x).mark (stored ix x).present ((own_from_fresh cs).none x)

-- how often a slot stands among those below n that a test takes
module _ (p : ℕ → Bool) (x : ℕ) where
  last_same : (b : Bool) → times x (cond b (x ∷ []) []) ≡ tally b
  unfolding times
  last_same true = omega (arith, hit x)
  last_same false = refl

  last_other : (b : Bool) (n : ℕ) → (x ≡ n → ⊥) → times x (cond b (n ∷ []) []) ≡ 0
  unfolding times
  last_other true n d = omega (arith, miss x n d)
  last_other false n d = refl

  slots_past : (n : ℕ) → n ≤ x → times x (slots n p) ≡ 0
  unfolding slots times
  slots_past zero l = refl
  slots_past (suc n) l = rw (times_append x (slots n p) (cond (p n) (n ∷ []) [])) (omega (arith, slots_past n (omega arith), last_other (p n) n (λ e. omega arith)))

  slots_below_lem : (n : ℕ) → x < n → times x (slots n p) ≡ tally (p x)
  unfolding slots times
  slots_below_lem zero l = absurd (omega arith)
  slots_below_lem (suc n) l =
      rw (times_append x (slots n p) (cond (p n) (n ∷ []) []))
      (elim (ℕ_discrete x n) [
        | yes e ↦ rw (← e) (omega (arith, slots_past x (omega arith), last_same (p x)))
        | no d ↦ omega (arith, slots_below_lem n (omega arith), last_other (p n) n d)
      ])

module _ (ix : Index) (K : Kept ix) (O : Own ix) (q : Aabb2D → Bool) where
  abbrev test : ℕ → Bool
  test y = not (eqb (stored ix y).present 0) && (not (eqb (entry ix y).mark 0) && q (stored ix y).aabb)

  visited : (x : ℕ) → Visited ix q x (times x (slots 512 test))
  visited x =
      let m = (entry ix x).mark in
      let v = visit m (stored ix x).present (O.none x) (q (stored ix x).aabb) in
      let S = K.shaped in
      let C = counts ix K in
      let low : (m ≡ 0 → ⊥) → times x (slots 512 test) ≡ tally (test x) = λ z. slots_below_lem test x 512 (omega (arith, C.used_fits, entry_used ix.entries ix.free ix.frees ix.dirty ix.queued ix.used C S.entries_whole x z)) in
      record {
        empty = λ z. elim (dec_lt x 512) [ yes l ↦ slots_below_lem test x 512 l ∙ rw (v.0 z) | no g ↦ slots_past test x 512 (omega arith) ];
        added = λ z. low (λ e. omega arith) ∙ rw (v.1 z);
        unmarked = λ z. low (λ e. omega arith) ∙ rw (v.2 (λ e. omega arith) (λ e. omega arith), (O.own x z).1);
        marked = λ l. low (λ e. omega arith) ∙ rw (v.2 (λ e. omega arith) (λ e. omega arith));
      }

-- so after every list of calls from fresh, of each query: by a rectangle, and by a point
pub rect_from_fresh : (cs : List Call) (rect : Aabb2D) (x : ℕ) → let ix = run fresh_index cs in Visited ix (λ b. overlaps b rect) x (times x (rect_slots ix rect))
unfolding rect_slots
rect_from_fresh cs rect x = visited (run fresh_index cs) (run_kept fresh_index cs fresh_kept) (own_from_fresh cs) (λ b. overlaps b rect) x

pub point_from_fresh : (cs : List Call) (px py : Float) (x : ℕ) → let ix = run fresh_index cs in Visited ix (λ b. contains_point b px py) x (times x (point_slots ix px py))
unfolding point_slots
point_from_fresh cs px py x = visited (run fresh_index cs) (run_kept fresh_index cs fresh_kept) (own_from_fresh cs) (λ b. contains_point b px py) x
