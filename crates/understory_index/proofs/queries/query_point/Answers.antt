use Rattle.std.proofs.Common.{length}
use Rattle.index_state.proofs.Calls.{point_of_lem, point_told}
use Rattle.understory_index.proofs.queries.query_point.Goals as goal

pub returns-clause-answer : goal.returns-clause-answer
returns-clause-answer c =
    let A = c.args in
    rw (← point_told A.index.now A.x A.y (length A.room.now), ← c.new.ensures) c.query_rect.ensures.answer

pub returns-clause-rooms : goal.returns-clause-rooms
returns-clause-rooms c =
    let A = c.args in
    rw (← point_of_lem A.index.now A.x A.y, ← c.new.ensures) c.query_rect.ensures.rooms
