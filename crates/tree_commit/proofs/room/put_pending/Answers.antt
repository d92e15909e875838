use mathlib.Core.Path.{◌∙◌}
use native.Mathlib.Omega.{arith}
use Rattle.tree_commit.proofs.room.Pending.{next}
use Rattle.tree_commit.proofs.room.put_pending.Goals as goal

pub loop-i-preserved : goal.loop-i-preserved
loop-i-preserved c =
    c.put_rect_in.ensures
    ∙ next c.args.pending.now.rects c.args.room.now c.loop-i.room c.loop-i.i (omega (arith, c.if-prove.false, c.loop-i-test.true, c.requires.0))
    (omega (arith, c.if-prove.false, c.requires.1)) c.loop-i.invariant
