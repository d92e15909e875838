-- The index's commit without rooms: what holds before each queued slot, and that one more slot keeps it.
use Prim.Native.Nat.{ℕ, ◌+◌, ◌<◌}
use mathlib.Core.Path.{◌≡◌, refl, sym, ap, ◌∙◌}
use native.Mathlib.Omega.{arith}
use lib.ListN.{length, take, get_or, length-set}
use Rattle.index_types.specs.declared.Index.{Index}
use Rattle.index_sound.specs.Sound.{SoundOf, CountOf}
use Rattle.index_sound.proofs.Exact.{counted}
use Rattle.index_commit.specs.Commit.{Work, work_step, work, start, work_of, worked, commit_of, act_at, slot_committed, Commits}
use Rattle.index_commit.proofs.Loop.{work_next, keep_slot, drop_room, slot_low, free_length}
use Rattle.tree_state.specs.Whole.{WholeIndex}

-- the work on the first i queued slots
abbrev pub done : Index → ℕ → Work
done ix i = work (start ix) (take i ix.dirty)

pub record Inv (ix now : Index) (i : ℕ) : Type 0 where
  pub whole : length now.dirty ≡ 512
  pub entries_whole : length now.entries ≡ 512
  pub free_whole : length now.free ≡ 512
  pub sound : CountOf now.entries now.free now.frees now.dirty now.queued now.used
  pub state : now ≡ worked ix (done ix i) ix.queued

pub begin : (ix : Index) → WholeIndex ix → SoundOf ix.entries ix.free ix.frees ix.dirty ix.queued ix.used → Inv ix ix 0
unfolding work
begin ix W S =
    record {
      whole = W.dirty;
      entries_whole = W.entries;
      free_whole = W.free;
      sound = counted ix.entries ix.free ix.frees ix.dirty ix.queued ix.used W.entries W.free W.dirty S;
      state = refl;
    }

step_is : (ix : Index) (w : Work) (x : ℕ) → slot_committed (worked ix w ix.queued) x ≡ worked ix (work_step w x) ix.queued
unfolding work_step
step_is ix w x = refl

module _ {ix now : Index} {i : ℕ} (I : Inv ix now i) (h : i < now.queued) where
  abbrev x : ℕ
  x = get_or now.dirty i 0

  x_low : x < 512
  x_low = slot_low now.entries now.free now.frees now.dirty now.queued now.used i I.sound I.whole h

  pub commits : Commits now x
  commits =
      record {
        low = x_low;
        free_room = drop_room now.entries now.free now.frees now.dirty now.queued now.used I.sound I.entries_whole I.free_whole I.whole x x_low;
      }

  i_low : i < 512
  i_low = omega (arith, I.sound.queue_fits)

  pub next : (after : Index) → after ≡ slot_committed now x → Inv ix after (i + 1)
  next after is =
      let act = act_at now x in
      let e = I.state in
      let long : i < length ix.dirty = omega (arith, ap (λ (k : Index). length k.dirty) e, I.whole, i_low) in
      let on : done ix (i + 1) ≡ work_step (done ix i) (get_or ix.dirty i 0) =
      work_next (start ix) ix.dirty i long in
      let here : x ≡ get_or ix.dirty i 0 = ap (λ (k : Index). get_or k.dirty i 0) e in
      rw is
      record {
        whole = I.whole;
        entries_whole = length-set now.entries x _ ∙ I.entries_whole;
        free_whole = free_length act now.free now.frees x ∙ I.free_whole;
        sound = keep_slot now.entries now.free now.frees now.dirty now.queued now.used I.sound I.entries_whole I.free_whole I.whole x x_low;
        state =
            ap (λ (k : Index). slot_committed k x) e ∙ ap (slot_committed (worked ix (done ix i) ix.queued)) here
            ∙ step_is ix (done ix i) (get_or ix.dirty i 0) ∙ ap (λ (w : Work). worked ix w ix.queued) (sym on);
      }

-- the queue stays as long as it was
pub same_queue : {ix now : Index} {i : ℕ} → Inv ix now i → now.queued ≡ ix.queued
same_queue I = ap (λ (k : Index). k.queued) I.state

-- with an empty queue
abbrev emptied : Index → Index
emptied ix = record ix { queued = 0 }

pub ended : {ix now : Index} → Inv ix now ix.queued → emptied now ≡ commit_of ix (work_of ix)
unfolding work_of
ended I = ap emptied I.state
