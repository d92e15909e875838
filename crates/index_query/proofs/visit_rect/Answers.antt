use Rattle.std.proofs.Common.{sym, ◌∙◌}
use Rattle.index_query.specs.Query.{visits}
use Rattle.index_query.proofs.Visits.{listed_none, listed_next, listed_past}
use Rattle.index_query.proofs.visit_rect.Goals as goal

pub loop-slot-init : goal.loop-slot-init
loop-slot-init c =
    let ix = c.args.index.now in
    listed_none ix (visits ix c.args.rect) c.args.room.now

pub loop-slot-preserved-then-not-visited : goal.loop-slot-preserved-then-not-visited
loop-slot-preserved-then-not-visited c =
    let ix = c.args.index.now in
    let L = c.loop-slot in
    listed_past ix (visits ix c.args.rect) c.args.room.now L.room L.n L.slot L.invariant
    (sym c.visited.ensures ∙ c.if-not-visited.true)

pub loop-slot-preserved : goal.loop-slot-preserved
loop-slot-preserved c =
    let ix = c.args.index.now in
    let L = c.loop-slot in
    listed_next ix (visits ix c.args.rect) c.args.room.now L.room L.n L.slot L.invariant
    _ c.loop-slot-test.true c.requires (sym c.visited.ensures ∙ c.if-not-visited.false) c.put_entry.ensures
