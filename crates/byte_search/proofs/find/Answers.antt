use Rattle.std.proofs.Common.{◌≡◌, arith}
use Rattle.byte_search.proofs.Places.{here, later, nowhere}
use Rattle.byte_search.proofs.find.Goals as goal

pub returns-then-s-i-clause-value : goal.returns-then-s-i-clause-value
returns-then-s-i-clause-value c =
    omega (arith, c.loop-i.invariant, here c.args.b c.loop-i.i c.args.to c.args.s.now c.loop-i-test.true c.requires.to_in_bounds c.if-s-i.true)

pub loop-i-preserved : goal.loop-i-preserved
loop-i-preserved c =
    omega (arith, c.loop-i.invariant, later c.args.b c.loop-i.i c.args.to c.args.s.now c.loop-i-test.true c.requires.to_in_bounds c.if-s-i.false)

pub returns-clause-value : goal.returns-clause-value
returns-clause-value c =
    let e : c.loop-i.i ≡ c.args.to = omega arith in
    let i = rw e at c.loop-i.invariant in
    omega (arith, i, nowhere c.args.b c.args.to c.args.s.now)
