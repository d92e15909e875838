use Rattle.std.proofs.Common.{◌+◌, [], ◌∷◌, set, arith}
use Rattle.sheet_calls.specs.Answers.{decimal}
use Rattle.sheet_answers.proofs.text.Digits.{byte_stored, then_stored, room_kept, short}
use Rattle.sheet_answers.proofs.text.put_marked.Goals as goal

-- the number stands in the room, and a place is left behind it
pub bounds-room-next : goal.bounds-room-next
bounds-room-next c =
    let S = c.put_number-next.ensures in
    omega (arith, S.behind, room_kept S, short c.args.n c.requires.0, c.requires.1)

pub overflow_add-result : goal.overflow_add-result
overflow_add-result c =
    let S = c.put_number-next.ensures in
    record { fits = omega (arith, S.behind, room_kept S, short c.args.n c.requires.0, c.requires.1, c.well_formed.0.0) }

pub returns : goal.returns
returns c =
    let A = c.args in
    let p = c.put_number-next in
    then_stored A.room.now p.new.room (set p.new.room p.result A.mark) A.at p.result (p.result + 1) (decimal A.n) (A.mark ∷ []) p.ensures
    (byte_stored p.new.room p.result A.mark)
