use Prim.Native.Nat.{◌<◌}
use mathlib.Core.Path.{◌≡◌}
use native.Mathlib.Omega.{arith}
use Rattle.tree_commit.proofs.queue.Queue.{begin, commits, next, same_queue, ended}
use Rattle.tree_commit.proofs.queue.commit_index.Goals as goal

pub loop-at-init : goal.loop-at-init
loop-at-init c = begin c.args.index.now c.requires.0 c.requires.1

pub commit_slot-requires : goal.commit_slot-requires
commit_slot-requires c =
    let I = c.loop-at.invariant in
    let h : c.loop-at.at < c.loop-at.index.queued = omega (arith, c.loop-at-test.true, same_queue I) in
    commits I h

pub loop-at-preserved : goal.loop-at-preserved
loop-at-preserved c =
    let I = c.loop-at.invariant in
    let h : c.loop-at.at < c.loop-at.index.queued = omega (arith, c.loop-at-test.true, same_queue I) in
    next I h _ c.commit_slot.ensures.index

pub returns : goal.returns
returns c =
    let all : c.loop-at.at ≡ c.args.index.now.queued = omega arith in
    ended (rw all at c.loop-at.invariant)
