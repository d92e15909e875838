use Rattle.index_query.specs.Query.{visits}
use Rattle.index_query.proofs.Visits.{Listed}
use Rattle.index_query.proofs.visit_rect.Given as goal

abbrev pub invariant-loop-slot : goal.invariant-loop-slot
invariant-loop-slot l = Listed l.index (visits l.index l.rect) l.fn.room l.room l.n l.slot
