-- `counted` by the laws of its loop's steps (`Counts`).
use Rattle.std.proofs.Common.{arith, ◌≡◌, ◌≤◌, ◌<◌, ℕ, List, get_or, take, length}
use Rattle.std.proofs.lemmas.List.{get_or-take, length-take-le}
use Rattle.counting.proofs.Counts.{zeros, too_many, none, outside, twice, next, ends}
use Rattle.counting.proofs.counted.Goals as goal
use Rattle.counting.proofs.counted.Goals.{then-x-via-then-x, then-x-via-else-x+then-counts-x-ne0}

-- what is read of the first n
read : (l : List ℕ) (n i : ℕ) → n ≤ length l → i < length (take n l) → (get_or (take n l) i 0 ≡ get_or l i 0) × (i < n)
read l n i f h =
    let k : i < n = omega (arith, length-take-le n l f) in
    (get_or-take n l i 0 k, k)

pub returns-then-n-clause-known : goal.returns-then-n-clause-known
returns-then-n-clause-known g c = (too_many g.row.N c.args.list.now c.args.n c.told-list (zeros g.row.N) (omega arith)).0

pub loop-slot-init : goal.loop-slot-init
loop-slot-init g c = none g.row.N c.args.list.now c.args.n c.told-list (omega arith)

pub returns-then-x-clause-known : goal.returns-then-x-clause-known
returns-then-x-clause-known g c =
    let l = c.args.list.now in
    let n = c.args.n in
    let s = c.loop-slot in
    let r = read l n s.slot-index (omega (arith, c.told-list, c.if-n.false)) c.loop-slot-test.true in
    elim c.then-x.branch [
      | then-x-via-then-x w ↦ (outside g.row.N l n c.told-list s.counts s.slot-index s.invariant r.1 (omega (arith, w.if-x.true, r.0))).0
      | then-x-via-else-x+then-counts-x-ne0 w ↦
          (twice g.row.N l n c.told-list s.counts s.slot-index s.invariant r.1 (rw r.0 at w.if-counts-x-ne0.true)).0
    ]

pub loop-slot-preserved : goal.loop-slot-preserved
loop-slot-preserved g c =
    let l = c.args.list.now in
    let n = c.args.n in
    let s = c.loop-slot in
    let r = read l n s.slot-index (omega (arith, c.told-list, c.if-n.false)) c.loop-slot-test.true in
    rw r.0 (next g.row.N l n c.told-list s.counts s.slot-index s.invariant r.1 (omega (arith, c.if-x.false, r.0)) (rw r.0 at c.if-counts-x-ne0.false))

ended : (g : _) (c : goal.After-loop-slot g) → c.args.n ≤ c.loop-slot.slot-index
ended g c = let i = length-take-le c.args.n c.args.list.now (omega (arith, c.told-list, c.if-n.false)) in omega (arith, c.loop-slot-test.false)

pub returns-clause-known : goal.returns-clause-known
returns-clause-known g c =
    (ends g.row.N c.args.list.now c.args.n c.told-list c.loop-slot.counts c.loop-slot.slot-index c.loop-slot.invariant (ended g c)).0
