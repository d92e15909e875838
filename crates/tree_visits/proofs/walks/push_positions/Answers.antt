use Prim.Native.Nat.{◌+◌, ◌-◌}
use native.Mathlib.Omega.{arith}
use mathlib.Core.Path.{◌≡◌, refl}
use mathlib.Core.List.{◌++◌}
use borrow.Author.Rules.{rules}
use lib.ListN.{length, take}
use Rattle.link_table.proofs.Steps.{level_rest}
use Rattle.tree_steps.specs.Commit.{positions_from}
use Rattle.tree_visits.proofs.walks.Pushes.{push_on, push_end}
use Rattle.tree_visits.proofs.walks.push_positions.Goals as goal

pub loop-at-preserved : goal.loop-at-preserved
loop-at-preserved c =
    let L = c.loop-at in
    let A = c.args in
    let m = A.n + (L.at - A.from) in
    let next : A.n + (L.at + 1 - A.from) ≡ m + 1 = omega arith in
    let long : length L.out ≡ 256 = L.invariant.long in
    rw next
    record {
      long = search rules;
      front = push_on L.out (take A.n A.out.now ++ positions_from A.from (A.end - A.from)) m L.at A.end (omega arith) (omega arith) L.invariant.front;
      rest = level_rest m L.at L.out A.out.now L.invariant.rest;
    }

pub returns : goal.returns
returns c =
    let L = c.loop-at in
    let A = c.args in
    let done : L.at ≡ A.end = omega arith in
    let long : length L.out ≡ 256 = L.invariant.long in (
      push_end L.out A.out.now (take A.n A.out.now ++ positions_from A.from (A.end - A.from)) (A.n + (A.end - A.from)) A.end (omega arith) (rw done at L.invariant.front) (rw done at L.invariant.rest),
      refl,
    )
