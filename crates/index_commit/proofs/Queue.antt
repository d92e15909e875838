-- The loop over the queue of an index: what holds before each slot, and that one more slot keeps it.
use mathlib.Core.Path.{◌≡◌, refl, sym, ap, ◌∙◌}
use mathlib.Core.List.{List}
use Prim.Native.Nat.{ℕ, ◌+◌, ◌*◌, ◌≤◌, ◌<◌}
use native.Mathlib.Omega.{arith}
use lib.ListN.{length, take, get_or}
use lib.Ieee.{Float}
use Rattle.std.specs.Prelude.{Option, Some, None}
use Rattle.index_types.specs.declared.Aabb2D.{Aabb2D}
use Rattle.index_types.specs.declared.Index.{Index}
use Rattle.index_types.specs.Slots.{entry_in}
use Rattle.index_sound.specs.Sound.{CountOf, Shaped}
use Rattle.index_entries.specs.Entries.{previous_box}
use Rattle.index_commit.specs.declared.Change.{Change}
use Rattle.index_types.specs.declared.Damage.{Damage}
use Rattle.index_commit.specs.Commit.{Act, rests, adds, moves, drops, change_of, moved_from, moved_to, boxes_in_front, boxes_with, room_with, count_with, slot_committed, slot_change, Commits, Work, start, work_act, work_change, work_step, work, worked, Counts, Lays}
use Rattle.index_commit.proofs.Rooms.{front_push, count_push, count_small, push_length}
use Rattle.index_commit.proofs.Loop.{work_next, slot_low, drop_room}
use Rattle.index_commit.proofs.Keep.{Turn, turn}

-- ---- the index once the first i slots of its queue have had their turn

abbrev pub work_at : Index → ℕ → Work
work_at ix i = work (start ix) (take i ix.dirty)

abbrev pub index_at : Index → ℕ → Index
index_at ix i = worked ix (work_at ix i) ix.queued

pub index_at_first : (ix : Index) → ix ≡ index_at ix 0
unfolding work
index_at_first ix = refl

-- one slot more of that index is one step more of the work
module _ (ix : Index) (w : Work) (x : ℕ) where
  pub slot_worked : slot_committed (worked ix w ix.queued) x ≡ worked ix (work_step w x) ix.queued
  unfolding work_step
  slot_worked = refl

module _ (ix : Index) (u : ℕ) (S : Shaped ix) (C : CountOf ix.entries ix.free ix.frees ix.dirty ix.queued u) (i : ℕ) (h : i < ix.queued) where
  abbrev x : ℕ
  x = get_or ix.dirty i 0

  begun : Turn ix.dirty ix.queued u (start ix) C S.entries_whole S.free_whole S.dirty_whole i (work_at ix i)
  begun = turn ix.dirty ix.queued u (start ix) C S.entries_whole S.free_whole S.dirty_whole i (omega arith)

  -- the next slot can be committed
  pub commits_at : Commits (index_at ix i) x
  commits_at =
      let w = work_at ix i in
      let T = begun in
      let l = slot_low w.entries w.free w.frees ix.dirty ix.queued u i T.sound S.dirty_whole h in
      record { low = l; free_room = drop_room w.entries w.free w.frees ix.dirty ix.queued u T.sound T.entries_whole T.free_whole S.dirty_whole x l }

  pub work_at_next : work_at ix (i + 1) ≡ work_step (work_at ix i) x
  work_at_next =
      let q = C.queue_fits in
      let d = S.dirty_whole in
      work_next (start ix) ix.dirty i (omega arith)

  pub index_at_next : slot_committed (index_at ix i) x ≡ index_at ix (i + 1)
  index_at_next = slot_worked ix (work_at ix i) x ∙ ap (λ (w : Work). worked ix w ix.queued) (sym work_at_next)

-- ---- the rooms

-- the room is as long as it was, and long enough for 512 boxes
pub record Long (room₀ room : List Float) : Type 0 where
  pub same : length room ≡ length room₀
  pub enough : 2048 ≤ length room₀

-- a push before the i-th of at most 512 slots has its room
pub push_fits : {room₀ room : List Float} {n i q : ℕ} → Long room₀ room → n ≤ i → i < q → q ≤ 512 → (n < 512) × (4 * n + 4 ≤ length room)
push_fits L a b c = (omega arith, omega (arith, L.same, L.enough))

-- the room, from what a push has done to it
room_step : (bs : List Aabb2D) (room₀ room room' : List Float) (n : ℕ) (p : Option Aabb2D) → room ≡ boxes_in_front bs room₀ → n ≡ length bs → n < 512 → 2048 ≤ length room₀ → room' ≡ room_with room n p → room' ≡ boxes_in_front (boxes_with bs p) room₀
room_step bs room₀ room room' n p e en h l e' = e' ∙ rw (e, en) (front_push bs room₀ (omega arith) p)

long_step : (room₀ room room' : List Float) (n : ℕ) (p : Option Aabb2D) → Long room₀ room → room' ≡ room_with room n p → Long room₀ room'
long_step room₀ room room' n p L e = record { same = ap length e ∙ push_length room n p ∙ L.same; enough = L.enough }

-- a move has both its boxes or none
pair : (a : Act) (b : Aabb2D) (p : Option Aabb2D) (m : ℕ) → count_with m (change_of a b p).old ≡ count_with m (change_of a b p).new
unfolding moved_to
pair rests b p m = refl
pair adds b p m = refl
pair moves b p m = both (moved_from p b)
  where
    both : (q : Option Aabb2D) → count_with m q ≡ count_with m (moved_to q b)
    both None = refl
    both (Some c) = refl
pair drops b p m = refl

-- the boxes found so far, from the change that one slot makes
pub record Found (w : Work) (added₀ removed₀ old₀ new₀ added removed old new : List Float) (a r m : ℕ) : Type 0 where
  pub counts : Counts w (record { added = a; removed = r; moved = m })
  pub lays : Lays w added₀ removed₀ old₀ new₀ added removed old new

found_step : (w : Work) (x i : ℕ) (ch : Change) (added₀ removed₀ old₀ new₀ added removed old new added' removed' old' new' : List Float) (a r m a' r' m' : ℕ)
    → i < 512 → a ≤ i → r ≤ i → m ≤ i → Found w added₀ removed₀ old₀ new₀ added removed old new a r m
    → Long added₀ added → Long removed₀ removed → Long old₀ old → Long new₀ new
    → ch ≡ work_change w x
    → added' ≡ room_with added a ch.added → a' ≡ count_with a ch.added → removed' ≡ room_with removed r ch.removed → r' ≡ count_with r ch.removed
    → old' ≡ room_with old m ch.old → new' ≡ room_with new m ch.new → m' ≡ count_with m ch.new
    → Found (work_step w x) added₀ removed₀ old₀ new₀ added' removed' old' new' a' r' m'
unfolding work_step
found_step w x i ch added₀ removed₀ old₀ new₀ added removed old new added' removed' old' new' a r m a' r' m' h ha hr hm F la lr lo ln e ea ca er cr eo en cm =
    let c = work_change w x in
    let S = F.counts in
    let R = F.lays in
    let both : count_with m c.old ≡ count_with m c.new = pair (work_act w x) (entry_in w.entries x).aabb (previous_box (entry_in w.entries x)) m in
    let old_is : m' ≡ length (boxes_with w.old c.old) = cm ∙ ap (λ (k : Change). count_with m k.new) e ∙ sym both ∙ ap (λ (n : ℕ). count_with n c.old) S.old_is ∙ count_push w.old c.old in
    record {
      counts = record {
        added_is = ca ∙ rw (S.added_is, e) (count_push w.added c.added);
        removed_is = cr ∙ rw (S.removed_is, e) (count_push w.removed c.removed);
        old_is = old_is;
        new_is = cm ∙ rw (S.new_is, e) (count_push w.new c.new);
      };
      lays = record {
        added_lies = room_step w.added added₀ added added' a c.added R.added_lies S.added_is (omega arith) la.enough (rw e at ea);
        removed_lies = room_step w.removed removed₀ removed removed' r c.removed R.removed_lies S.removed_is (omega arith) lr.enough (rw e at er);
        old_lies = room_step w.old old₀ old old' m c.old R.old_lies S.old_is (omega arith) lo.enough (rw e at eo);
        new_lies = room_step w.new new₀ new new' m c.new R.new_lies S.new_is (omega arith) ln.enough (rw e at en);
      };
    }

-- ---- what holds before each slot

pub record Inv (ix₀ : Index) (added₀ removed₀ old₀ new₀ : List Float) (ix : Index) (added removed old new : List Float) (d : Damage) (i : ℕ) : Type 0 where
  pub i_fits : i ≤ ix₀.queued
  pub q_fits : ix₀.queued ≤ 512
  pub index_is : ix ≡ index_at ix₀ i
  pub found : Found (work_at ix₀ i) added₀ removed₀ old₀ new₀ added removed old new d.added d.removed d.moved
  pub added_few : d.added ≤ i
  pub removed_few : d.removed ≤ i
  pub moved_few : d.moved ≤ i
  pub added_long : Long added₀ added
  pub removed_long : Long removed₀ removed
  pub old_long : Long old₀ old
  pub new_long : Long new₀ new

module _ (ix₀ : Index) (added₀ removed₀ old₀ new₀ : List Float) (u : ℕ) (S : Shaped ix₀) (C : CountOf ix₀.entries ix₀.free ix₀.frees ix₀.dirty ix₀.queued u)
    (ix : Index) (added removed old new : List Float) (d : Damage) (i : ℕ) (I : Inv ix₀ added₀ removed₀ old₀ new₀ ix added removed old new d i) (h : i < ix₀.queued) where
  pub slot_is : get_or ix.dirty i 0 ≡ get_or ix₀.dirty i 0
  slot_is = ap (λ (j : Index). get_or j.dirty i 0) I.index_is

  pub commits : Commits ix (get_or ix.dirty i 0)
  commits = rw I.index_is (commits_at ix₀ u S C i h)

  pub next : (ix' : Index) (ch : Change) (added' removed' old' new' : List Float) (d' : Damage)
      → ix' ≡ slot_committed ix (get_or ix.dirty i 0) → ch ≡ slot_change ix (get_or ix.dirty i 0)
      → added' ≡ room_with added d.added ch.added → d'.added ≡ count_with d.added ch.added
      → removed' ≡ room_with removed d.removed ch.removed → d'.removed ≡ count_with d.removed ch.removed
      → old' ≡ room_with old d.moved ch.old → new' ≡ room_with new d.moved ch.new → d'.moved ≡ count_with d.moved ch.new
      → Inv ix₀ added₀ removed₀ old₀ new₀ ix' added' removed' old' new' d' (i + 1)
  next ix' ch added' removed' old' new' d' ei ec ea ca er cr eo en cm =
      let q = I.q_fits in
      let x = get_or ix₀.dirty i 0 in
      let e : ch ≡ slot_change (index_at ix₀ i) x = ec ∙ ap (λ (j : Index). slot_change j (get_or j.dirty i 0)) I.index_is in
      record {
        i_fits = omega arith;
        q_fits = q;
        index_is = ei ∙ ap (λ (j : Index). slot_committed j (get_or j.dirty i 0)) I.index_is ∙ index_at_next ix₀ u S C i h;
        found = rw (work_at_next ix₀ u S C i h)
            (found_step (work_at ix₀ i) x i ch added₀ removed₀ old₀ new₀ added removed old new added' removed' old' new' d.added d.removed d.moved d'.added d'.removed d'.moved
            (omega arith) I.added_few I.removed_few I.moved_few I.found I.added_long I.removed_long I.old_long I.new_long e ea ca er cr eo en cm);
        added_few = rw ca (count_small d.added i ch.added I.added_few);
        removed_few = rw cr (count_small d.removed i ch.removed I.removed_few);
        moved_few = rw cm (count_small d.moved i ch.new I.moved_few);
        added_long = long_step added₀ added added' d.added ch.added I.added_long ea;
        removed_long = long_step removed₀ removed removed' d.removed ch.removed I.removed_long er;
        old_long = long_step old₀ old old' d.moved ch.old I.old_long eo;
        new_long = long_step new₀ new new' d.moved ch.new I.new_long en;
      }
