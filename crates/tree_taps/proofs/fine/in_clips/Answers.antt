use Rattle.std.proofs.Common.{◌-◌, ◌∙◌, sym, arith}
use Rattle.tree_taps.proofs.fine.Climb.{ancestors_back, clips_none, clips_stop, clips_on, clips_past}
use Rattle.tree_taps.proofs.fine.in_clips.Goals as goal

pub loop-above-init : goal.loop-above-init
loop-above-init c = rw (ancestors_back c.args.tree.now c.args.at)

pub in_clip-requires : goal.in_clip-requires
in_clip-requires c = c.requires.1.ranged.low (c.loop-above.above - 1) (omega arith)

pub returns-then-not-in_clip : goal.returns-then-not-in_clip
returns-then-not-in_clip c =
    let L = c.loop-above in
    sym (L.invariant ∙ clips_stop c.args.tree.now c.requires.1 c.args.point L.depth L.above (omega arith) (omega arith) c.if-tree-above.true (sym c.in_clip.ensures ∙ c.if-not-in_clip.true))

pub loop-above-preserved-else-not-in_clip : goal.loop-above-preserved-else-not-in_clip
loop-above-preserved-else-not-in_clip c =
    let L = c.loop-above in
    L.invariant ∙ clips_on c.args.tree.now c.requires.1 c.args.point L.depth L.above (omega arith) (omega arith) c.if-tree-above.true (sym c.in_clip.ensures ∙ c.if-not-in_clip.false)

pub loop-above-preserved : goal.loop-above-preserved
loop-above-preserved c =
    let L = c.loop-above in
    L.invariant ∙ clips_past c.args.tree.now c.requires.1 c.args.point L.depth L.above (omega arith) (omega arith) c.if-tree-above.false

pub returns : goal.returns
returns c = sym (c.loop-above.invariant ∙ clips_none c.args.tree.now c.requires.1 c.args.point c.loop-above.depth c.loop-above.above c.loop-above-test.false)
