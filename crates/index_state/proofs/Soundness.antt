-- Every call keeps the index sound, so from fresh no call ever meets refusal 1. Soundness says among the rest that the queue never has a
-- repeat, and that each marked entry stands in it.
use mathlib.Core.Path.{◌≡◌, refl, ◌∙◌}
use mathlib.Core.Bool.{Bool, true, false, not, cond}
use mathlib.Core.List.{List, [], ◌∷◌}
use Prim.Native.Nat.{ℕ, ◌<◌}
use native.Mathlib.Omega.{arith}
use borrow.Author.Tests.{eq-eqb, leb-false, not-true}
use lib.Dec.{ltb}
use lib.ListN.{length, take, set, length-set}
use Rattle.counting.specs.Times.{times, every}
use Rattle.counting.specs.Lists.{once_below}
use Rattle.counting.specs.Conditions.{accept, ◌else◌then◌, lowest}
use Rattle.counting.proofs.Conditions.{first_holds, left_keeps}
use Rattle.index_types.specs.declared.Aabb2D.{Aabb2D}
use Rattle.index_types.specs.declared.NodeId.{NodeId}
use Rattle.index_types.specs.declared.Key.{Key}
use Rattle.index_sound.specs.Sound.{SoundOf, sound_of, CountOf}
use Rattle.index_sound.proofs.Exact.{count_tells, decides}
use Rattle.index_entries.specs.declared.reads.Mark.{Mark}
use Rattle.index_entries.specs.declared.reads.Mark.TheVariants as is
use Rattle.index_entries.specs.Entries.{queue_with, unmarked, added}
use Rattle.index_entries.proofs.Finding.{live_slot}
use Rattle.index_entries.proofs.Keep.{keep_insert, keep_update, keep_remove}
use Rattle.index_commit.proofs.Keep.{keep_commit, commit_whole}
use Rattle.index_commit.specs.Commit.{start}
use Rattle.index_types.specs.declared.Index.{Index}
use Rattle.index_state.specs.Index.{sound_index, full, fresh_index, slot_of, insert_of, live, mark_at, update_of, remove_of, work_of, commit_of}
use Rattle.index_state.specs.Calls.{Call, insert, update, remove, clear, commit, query_rect, query_point, refusal, accepted, after}
use Rattle.index_state.specs.Run.{run}
use Rattle.index_state.specs.Claims.{Shaped}

-- the shape of the tables, and the test of soundness passed
pub record Kept (ix : Index) : Type 0 where
  pub shaped : Shaped ix
  pub sound : sound_index ix ≡ true

abbrev pub Counts : Index → Type 0
Counts ix = CountOf ix.entries ix.free ix.frees ix.dirty ix.queued ix.used

pub counts : (ix : Index) → Kept ix → Counts ix
counts ix K = let S = K.shaped in (count_tells ix.entries ix.free ix.frees ix.dirty ix.queued ix.used S.entries_whole S.free_whole S.dirty_whole).0 K.sound

keeps : (ix : Index) → Shaped ix → Counts ix → Kept ix
keeps ix S C = record { shaped = S; sound = (count_tells ix.entries ix.free ix.frees ix.dirty ix.queued ix.used S.entries_whole S.free_whole S.dirty_whole).1 C }

-- ---- lengths

pub queue_length : (dirty : List ℕ) (n x : ℕ) → length (queue_with dirty n x) ≡ length dirty
unfolding queue_with
queue_length dirty n x = go (ltb 0 (times x (take n dirty)))
  where
    go : (b : Bool) → length (cond b dirty (set dirty n x)) ≡ length dirty
    go true = refl
    go false = length-set dirty n x

dirty_length : (m : Mark) (dirty : List ℕ) (n x : ℕ) → length (cond (unmarked m) (queue_with dirty n x) dirty) ≡ length dirty
dirty_length is.Unmarked dirty n x = queue_length dirty n x
dirty_length is.Added dirty n x = refl
dirty_length is.Updated dirty n x = refl
dirty_length is.Removed dirty n x = refl

free_length : (m : Mark) (free : List ℕ) (n x : ℕ) → length (cond (added m) (set free n x) free) ≡ length free
free_length is.Unmarked free n x = refl
free_length is.Added free n x = length-set free n x
free_length is.Updated free n x = refl
free_length is.Removed free n x = refl

-- an index that is not full has a slot left
pub room_left : (ix : Index) → full ix ≡ false → ix.frees ≡ 0 → ix.used < 512
room_left ix F e = leb-false 512 ix.used (rw (eq-eqb ix.frees 0 e) at F)

-- ---- the calls

module _ (ix : Index) (K : Kept ix) where
  abbrev S : Shaped ix
  S = K.shaped

  insert_keeps : (b : Aabb2D) (p : NodeId) → full ix ≡ false → Kept (insert_of ix b p)
  insert_keeps b p F =
      keeps (insert_of ix b p)
      (record { entries_whole = length-set ix.entries (slot_of ix) _ ∙ S.entries_whole; free_whole = S.free_whole; dirty_whole = queue_length ix.dirty ix.queued (slot_of ix) ∙ S.dirty_whole })
      (keep_insert ix.entries ix.free ix.frees ix.dirty ix.queued ix.used (counts ix K) S.entries_whole S.free_whole S.dirty_whole (room_left ix F) _ refl)

  update_keeps : (k : Key) (b : Aabb2D) → live ix k ≡ true → Kept (update_of ix k.0 b)
  update_keeps k b L =
      let l = live_slot ix k L in
      keeps (update_of ix k.0 b)
      (record { entries_whole = length-set ix.entries k.0 _ ∙ S.entries_whole; free_whole = S.free_whole; dirty_whole = dirty_length (mark_at ix k.0) ix.dirty ix.queued k.0 ∙ S.dirty_whole })
      (keep_update ix.entries ix.free ix.frees ix.dirty ix.queued ix.used (counts ix K) S.entries_whole S.free_whole S.dirty_whole k.0 l.0 l.1 _ refl)

  remove_keeps : (k : Key) → live ix k ≡ true → Kept (remove_of ix k.0)
  remove_keeps k L =
      let l = live_slot ix k L in
      keeps (remove_of ix k.0)
      (record {
        entries_whole = length-set ix.entries k.0 _ ∙ S.entries_whole;
        free_whole = free_length (mark_at ix k.0) ix.free ix.frees k.0 ∙ S.free_whole;
        dirty_whole = dirty_length (mark_at ix k.0) ix.dirty ix.queued k.0 ∙ S.dirty_whole;
      })
      (keep_remove ix.entries ix.free ix.frees ix.dirty ix.queued ix.used (counts ix K) S.entries_whole S.free_whole S.dirty_whole k.0 l.0 l.1 _ refl)

  commit_keeps : Kept (commit_of ix (work_of ix))
  unfolding work_of
  commit_keeps =
      let l = commit_whole ix.dirty ix.queued ix.used (start ix) (counts ix K) S.entries_whole S.free_whole S.dirty_whole in
      keeps (commit_of ix (work_of ix)) (record { entries_whole = l.0; free_whole = l.1; dirty_whole = S.dirty_whole })
      (keep_commit ix.dirty ix.queued ix.used (start ix) (counts ix K) S.entries_whole S.free_whole S.dirty_whole)

-- a fresh index is sound
pub fresh_kept : Kept fresh_index
unfolding fresh_index sound_of once_below every times
fresh_kept = record { shaped = record { entries_whole = refl; free_whole = refl; dirty_whole = refl }; sound = refl }

-- ---- an accepted call's conditions hold

second_holds : (a b : Bool) (n : ℕ) → (n ≡ 0 → ⊥) → lowest (a else 1 then b else n then accept) ≡ 0 → b ≡ true
second_holds a b n d e = (first_holds b n accept d (first_holds a 1 (b else n then accept) (λ z. omega arith) e).1).0

module _ (ix : Index) where
  pub insert_accepted : (b : Aabb2D) (p : NodeId) → refusal ix (insert b p) ≡ 0 → full ix ≡ false
  unfolding refusal
  insert_accepted b p e = not-true (full ix) (second_holds (sound_index ix) (not (full ix)) 11 (λ z. omega arith) e)

  pub update_accepted : (k : Key) (b : Aabb2D) → refusal ix (update k b) ≡ 0 → live ix k ≡ true
  unfolding refusal
  update_accepted k b e = second_holds (sound_index ix) (live ix k) 10 (λ z. omega arith) e

  pub remove_accepted : (k : Key) → refusal ix (remove k) ≡ 0 → live ix k ≡ true
  unfolding refusal
  remove_accepted k e = second_holds (sound_index ix) (live ix k) 10 (λ z. omega arith) e

-- ---- every call keeps soundness

accepted_kept : (ix : Index) (c : Call) → Kept ix → refusal ix c ≡ 0 → Kept (accepted ix c)
unfolding accepted
accepted_kept ix (insert b p) K e = insert_keeps ix K b p (insert_accepted ix b p e)
accepted_kept ix (update k b) K e = update_keeps ix K k b (update_accepted ix k b e)
accepted_kept ix (remove k) K e = remove_keeps ix K k (remove_accepted ix k e)
accepted_kept ix clear K e = fresh_kept
accepted_kept ix (commit a r o n) K e = commit_keeps ix K
accepted_kept ix (query_rect rect len) K e = K
accepted_kept ix (query_point x y len) K e = K

pub after_kept : (ix : Index) (c : Call) → Kept ix → Kept (after ix c)
unfolding after
after_kept ix c K = left_keeps Kept (refusal ix c) ix (accepted ix c) K (accepted_kept ix c K)

pub run_kept : (ix : Index) (cs : List Call) → Kept ix → Kept (run ix cs)
unfolding run
run_kept ix [] K = K
run_kept ix (c ∷ cs) K = run_kept (after ix c) cs (after_kept ix c K)

-- from fresh no call ever meets refusal 1: after every list of calls the test of soundness passes
pub from_fresh : (cs : List Call) → sound_index (run fresh_index cs) ≡ true
from_fresh cs = (run_kept fresh_index cs fresh_kept).sound

-- in words
pub sound_from_fresh : (cs : List Call) → let ix = run fresh_index cs in SoundOf ix.entries ix.free ix.frees ix.dirty ix.queued ix.used
sound_from_fresh cs =
    let ix = run fresh_index cs in
    let K = run_kept fresh_index cs fresh_kept in
    let S = K.shaped in
    (decides ix.entries ix.free ix.frees ix.dirty ix.queued ix.used S.entries_whole S.free_whole S.dirty_whole).0 K.sound
