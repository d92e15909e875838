use Rattle.std.proofs.Common.{◌≡◌, ◌≤◌, length, length-set, rules, arith}
use Rattle.link_table.specs.Links.{slots_at}
use Rattle.link_table.proofs.Steps.{level_put, level_pass, level_rest, level_end}
use Rattle.link_table.proofs.Links.slots_at.Goals as goal
use Rattle.link_table.proofs.Links.slots_at.Goals.{then-self-i, else-self-i}

pub loop-i-preserved : goal.loop-i-preserved
loop-i-preserved c =
    let L = c.loop-i in
    let A = c.args in
    let X = A.self.now.order in
    let D = A.self.now.depth in
    let lx : A.to ≤ length X = search rules in
    let ld : A.to ≤ length D = search rules in
    elim c.if-self-i.branch [
      | then-self-i w ↦ (
        rw (w.out-is, length-set) L.invariant.0,
        omega arith,
        rw (w.out-is, w.count-is) (level_put A.depth L.i A.to X D lx ld c.loop-i-test.true L.out _ L.count (omega arith) w.if-self-i.true L.invariant.2),
        rw (w.out-is, w.count-is) (level_rest L.count _ L.out A.out.now L.invariant.3),
      )
      | else-self-i w ↦ (
        rw w.out-is L.invariant.0,
        omega arith,
        rw (w.out-is, w.count-is) (rw (level_pass A.depth L.i A.to X D lx ld c.loop-i-test.true w.if-self-i.false) at L.invariant.2),
        rw (w.out-is, w.count-is) L.invariant.3,
      )
    ]

pub returns : goal.returns
returns c =
    let L = c.loop-i in
    let A = c.args in
    let l = A.self.now in
    let z : L.i ≡ A.to = omega arith in
    let end = level_end A.depth A.to L.count l.order l.depth L.out A.out.now (slots_at l A.from A.to A.depth) (omega arith) (rw z at L.invariant.2) L.invariant.3 in
    record { room = end.0; count = (omega arith, end.1) }
