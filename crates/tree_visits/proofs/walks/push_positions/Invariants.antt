use Rattle.std.proofs.Common.{◌≡◌, ◌+◌, ◌-◌, ◌++◌, length, take, drop}
use Rattle.tree_steps.specs.Commit.{positions_from}
use Rattle.tree_visits.proofs.walks.push_positions.Given as goal

abbrev pub invariant-loop-at : goal.invariant-loop-at
invariant-loop-at l =
    let m = l.n + (l.at - l.from) in
    record {
      long : length l.out ≡ 256;
      front : take m l.out ++ positions_from l.at (l.end - l.at) ≡ take l.n l.fn.out ++ positions_from l.from (l.end - l.from);
      rest : drop m l.out ≡ drop m l.fn.out;
    }
