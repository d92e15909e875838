use Rattle.std.specs.Prelude.{Ok}
use Rattle.std.proofs.Common.{◌≡◌, true, leb, length, sym, arith}
use borrow.Author.Tests.{leb-true, le-ltb}
use Rattle.tree_state.specs.declared.Refusal.TheVariants as no
use Rattle.tree_verdicts.proofs.nodes.Nodes.{checked_accepted}
use Rattle.sheet_calls.specs.Answers.{output}
use Rattle.sheet_answers.proofs.Lines.{in_front_lem, output_short}
use Rattle.sheet_answers.proofs.answer_into.Goals as goal

pub returns-clause-room : goal.returns-clause-room
returns-clause-room c =
    let A = c.args in
    let n = length A.room.now in
    let q = c.put_read-n in
    let b : leb 16384 n ≡ true = (checked_accepted (Ok tt) (leb 16384 n) no.ShortRoom (sym (c.in_ok-check.ensures {u = tt}))).1 in
    let long = leb-true 16384 n b in
    rw (le-ltb n 16384 long)
    (in_front_lem A.room.now q.new.room q.result (output A.bytes.now) q.ensures (omega (arith, long, output_short A.bytes.now)))
