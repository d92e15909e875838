use Rattle.std.proofs.Common.{◌<◌, ◌∙◌, sym, arith}
use Rattle.tree_taps.specs.candidates.Candidates.{best_of}
use Rattle.tree_taps.proofs.candidates.Tap.{tap_none, tap_past, tap_take, tap_ends, taken_shown}
use Rattle.tree_taps.proofs.candidates.strongest.Goals as goal
use Rattle.tree_taps.proofs.candidates.strongest.Goals.{then-take, else-take}

pub loop-entry-init : goal.loop-entry-init
loop-entry-init c = (tap_none c.args.tree.now c.args.asked c.args.point c.new-here.result, tt)

pub next-best-requires : goal.next-best-requires
next-best-requires c =
    let t = c.args.tree.now in
    let low : c.loop-entry.entry < 512 = omega (arith, c.requires.ranged.used_fits) in
    let shown = taken_shown t c.args.asked c.args.point c.new-here.result c.requires c.loop-entry.entry low (sym c.candidate-take.ensures ∙ c.if-take.true) in
    rw c.node_of.ensures (shown, c.loop-entry.invariant.1, c.requires)

pub loop-entry-preserved : goal.loop-entry-preserved
loop-entry-preserved c =
    let t = c.args.tree.now in
    let L = c.loop-entry in
    elim c.if-take.branch [
      | then-take w ↦
          rw w.best-is (
            w.next-best.ensures.next
                ∙ rw w.node_of.ensures (tap_take t c.args.asked c.args.point c.new-here.result (best_of L.best) L.entry (sym c.candidate-take.ensures ∙ w.if-take.true) L.invariant.0),
            w.next-best.ensures.shown,
          )
      | else-take w ↦
          rw w.best-is
          (tap_past t c.args.asked c.args.point c.new-here.result (best_of L.best) L.entry (sym c.candidate-take.ensures ∙ w.if-take.false) L.invariant.0, L.invariant.1)
    ]

pub returns-clause-node : goal.returns-clause-node
returns-clause-node c =
    let L = c.loop-entry in
    tap_ends c.args.tree.now c.args.asked c.args.point c.new-here.result (best_of L.best) L.entry c.requires c.new-here.ensures (omega arith) L.invariant.0
