use Rattle.std.proofs.Common.{◌<◌, ◌+◌, ◌∙◌, sym, arith}
use Rattle.tree_listings.proofs.entries.Entries.{asked_of, takes, id_of, taken_low, taken_few, taken_fits, listing_none, listing_takes, listing_passes, listed}
use Rattle.tree_listings.proofs.entries.list.Goals as goal
use Rattle.tree_listings.proofs.entries.list.Goals.{then-take, else-take}

pub loop-entry-init : goal.loop-entry-init
loop-entry-init c = listing_none (id_of c.args.tree.now) (takes c.args.tree.now c.args.asked c.rect_to_aabb-given.result) c.args.room.now

pub id_at-id-requires : goal.id_at-id-requires
id_at-id-requires c =
    let low : c.loop-entry.entry < 512 = omega (arith, c.requires.held.sound.index.used_fits) in
    rw c.node_of.ensures
    (taken_low c.args.tree.now c.rect_to_aabb-given.result c.args.asked (asked_of c.requires) c.loop-entry.entry low (sym c.takes-take.ensures ∙ c.if-take.true))

pub put_id-requires : goal.put_id-requires
put_id-requires c =
    let low : c.loop-entry.entry < 512 = omega (arith, c.requires.held.sound.index.used_fits) in
    let fits = taken_fits c.args.tree.now c.rect_to_aabb-given.result c.args.asked (asked_of c.requires) c.loop-entry.entry low (sym c.takes-take.ensures ∙ c.if-take.true) in
    let many = c.loop-entry.invariant.many in
    (omega (arith, fits, many), omega (arith, fits, many, c.requires.long, c.loop-entry.auto.room))

pub overflow_add-count : goal.overflow_add-count
overflow_add-count c =
    let low : c.loop-entry.entry < 512 = omega (arith, c.requires.held.sound.index.used_fits) in
    let fits = taken_fits c.args.tree.now c.rect_to_aabb-given.result c.args.asked (asked_of c.requires) c.loop-entry.entry low (sym c.takes-take.ensures ∙ c.if-take.true) in
    omega (arith, fits, c.loop-entry.invariant.many)

pub loop-entry-preserved : goal.loop-entry-preserved
loop-entry-preserved c =
    let t = c.args.tree.now in
    let L = c.loop-entry in
    let p = takes t c.args.asked c.rect_to_aabb-given.result in
    let few = taken_few t c.rect_to_aabb-given.result c.args.asked (asked_of c.requires) (L.entry + 1) (omega (arith, c.requires.held.sound.index.used_fits)) in
    elim c.if-take.branch [
      | then-take w ↦
          rw (w.room-is, w.count-is, w.put_id.ensures, w.id_at-id.ensures, w.node_of.ensures)
          (listing_takes (id_of t) p c.args.room.now L.room L.count L.entry L.invariant c.requires.long few (sym c.takes-take.ensures ∙ w.if-take.true))
      | else-take w ↦
          rw (w.room-is, w.count-is)
          (listing_passes (id_of t) p c.args.room.now L.room L.count L.entry L.invariant (sym c.takes-take.ensures ∙ w.if-take.false))
    ]

pub returns-clause-rooms : goal.returns-clause-rooms
returns-clause-rooms c =
    let L = c.loop-entry in
    (listed c.args.tree.now c.args.asked c.args.rect c.rect_to_aabb-given.result c.args.room.now L.room L.count L.entry c.requires.held c.rect_to_aabb-given.ensures (omega arith) L.invariant).0

pub returns-clause-count : goal.returns-clause-count
returns-clause-count c =
    let L = c.loop-entry in
    (listed c.args.tree.now c.args.asked c.args.rect c.rect_to_aabb-given.result c.args.room.now L.room L.count L.entry c.requires.held c.rect_to_aabb-given.ensures (omega arith) L.invariant).1
