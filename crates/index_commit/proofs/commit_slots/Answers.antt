use Rattle.std.proofs.Common.{◌≡◌, refl, arith}
use Rattle.index_sound.proofs.Exact.{counted}
use Rattle.index_commit.specs.Commit.{work_of, work}
use Rattle.index_commit.proofs.Rooms.{front_none}
use Rattle.index_commit.proofs.Queue.{commits, next, index_at_first}
use Rattle.index_commit.proofs.commit_slots.Goals as goal

pub loop-i-init : goal.loop-i-init
unfolding work
loop-i-init c =
    let A = c.args in
    let P = c.requires in
    let ix = A.index.now in
    let C = counted ix.entries ix.free ix.frees ix.dirty ix.queued P.sound.0 P.shape.entries_whole P.shape.free_whole P.shape.dirty_whole P.sound.1 in
    record {
      i_fits = omega arith;
      q_fits = C.queue_fits;
      index_is = index_at_first ix;
      found = record {
        counts = record { added_is = refl; removed_is = refl; old_is = refl; new_is = refl };
        lays = record { added_lies = front_none A.added.now; removed_lies = front_none A.removed.now; old_lies = front_none A.old.now; new_lies = front_none A.new.now };
      };
      added_few = omega arith;
      removed_few = omega arith;
      moved_few = omega arith;
      added_long = record { same = refl; enough = P.rooms.0 };
      removed_long = record { same = refl; enough = P.rooms.1 };
      old_long = record { same = refl; enough = P.rooms.2 };
      new_long = record { same = refl; enough = P.rooms.3 };
    }

pub commit_slot-change-requires : goal.commit_slot-change-requires
commit_slot-change-requires c =
    let A = c.args in
    let P = c.requires in
    let ix = A.index.now in
    let C = counted ix.entries ix.free ix.frees ix.dirty ix.queued P.sound.0 P.shape.entries_whole P.shape.free_whole P.shape.dirty_whole P.sound.1 in
    let L = c.loop-i in
    commits ix A.added.now A.removed.now A.old.now A.new.now P.sound.0 P.shape C L.index L.added L.removed L.old L.new L.damage L.i L.invariant c.loop-i-test.true

pub loop-i-preserved : goal.loop-i-preserved
loop-i-preserved c =
    let A = c.args in
    let P = c.requires in
    let ix = A.index.now in
    let C = counted ix.entries ix.free ix.frees ix.dirty ix.queued P.sound.0 P.shape.entries_whole P.shape.free_whole P.shape.dirty_whole P.sound.1 in
    let L = c.loop-i in
    next ix A.added.now A.removed.now A.old.now A.new.now P.sound.0 P.shape C L.index L.added L.removed L.old L.new L.damage L.i L.invariant c.loop-i-test.true
    _ c.commit_slot-change.result _ _ _ _ _ c.commit_slot-change.ensures.index c.commit_slot-change.ensures.change
    c.push.ensures.0 c.push.ensures.1 c.push-in-loop-i.ensures.0 c.push-in-loop-i.ensures.1 c.push-in-loop-i-2.ensures.0 c.push-in-loop-i-3.ensures.0 c.push-in-loop-i-3.ensures.1

pub returns-clause-index : goal.returns-clause-index
unfolding work_of
returns-clause-index c =
    let I = c.loop-i.invariant in
    let e : c.loop-i.i ≡ c.args.index.now.queued = omega (arith, I.i_fits) in
    rw (I.index_is, e)

pub returns-clause-damage : goal.returns-clause-damage
unfolding work_of
returns-clause-damage c =
    let I = c.loop-i.invariant in
    let e : c.loop-i.i ≡ c.args.index.now.queued = omega (arith, I.i_fits) in
    rw e at I.found.counts

pub returns-clause-rooms : goal.returns-clause-rooms
unfolding work_of
returns-clause-rooms c =
    let I = c.loop-i.invariant in
    let e : c.loop-i.i ≡ c.args.index.now.queued = omega (arith, I.i_fits) in
    rw e at I.found.lays
