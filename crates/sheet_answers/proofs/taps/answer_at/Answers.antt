use Rattle.std.proofs.Common.{arith}
use native.Mathlib.Numerals.{add-one}
use Rattle.tree_taps.specs.Taps.{Shown}
use Rattle.tree_taps.proofs.paths.Climb.{path_deep}
use Rattle.sheet_answers.proofs.taps.answer_at.Goals as goal

-- a node's path is as long as it is deep
pub returns : goal.returns
returns c =
    let t = c.args.tree.now in
    let x = c.in-Some.slot in
    let p = c.position-at in
    let shown : Shown t x = rw c.in-Some.is at c.requires.shown in
    rw (c.in-Some.is, add-one x, path_deep t c.requires.held x p.result p.ensures.1 (omega (arith, p.ensures.1, shown.place_fits)))
