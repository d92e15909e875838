use Rattle.std.proofs.Common.{◌-◌, arith}
use Rattle.tree_taps.proofs.paths.Climb.{depth_one, depth_most, path_begins, path_written, path_skipped, path_ends, path_deep}
use Rattle.tree_taps.proofs.paths.write_path.Goals as goal

pub overflow_sub-len : goal.overflow_sub-len
overflow_sub-len c = depth_one c.args.tree.now c.requires.1 c.position-at.result (omega (arith, c.position-at.ensures.1, c.requires.0.place_fits))

pub put_id-requires : goal.put_id-requires
put_id-requires c =
    let most = depth_most c.args.tree.now c.requires.1 c.position-at.result (omega (arith, c.position-at.ensures.1, c.requires.0.place_fits)) in
    let one = depth_one c.args.tree.now c.requires.1 c.position-at.result (omega (arith, c.position-at.ensures.1, c.requires.0.place_fits)) in
    (omega (arith, most, one), omega (arith, most, one, c.requires.2))

pub loop-above-init : goal.loop-above-init
loop-above-init c =
    rw (c.put_id.ensures, c.id_at-own.ensures)
    (path_begins c.args.tree.now c.requires.1 c.args.room.now c.requires.2 c.args.slot c.position-at.result c.position-at.ensures.1 (omega (arith, c.position-at.ensures.1, c.requires.0.place_fits)))

pub id_at-next-requires : goal.id_at-next-requires
id_at-next-requires c = c.requires.1.ranged.low (c.loop-above.above - 1) (omega (arith, c.position-at.ensures.1, c.requires.0.place_fits))

pub overflow_sub-d : goal.overflow_sub-d
overflow_sub-d c = depth_one c.args.tree.now c.requires.1 (c.loop-above.above - 1) (omega (arith, c.position-at.ensures.1, c.requires.0.place_fits))

pub put_id-requires-then-d-depth : goal.put_id-requires-then-d-depth
put_id-requires-then-d-depth c =
    let most = depth_most c.args.tree.now c.requires.1 (c.loop-above.above - 1) (omega (arith, c.position-at.ensures.1, c.requires.0.place_fits)) in
    let one = depth_one c.args.tree.now c.requires.1 (c.loop-above.above - 1) (omega (arith, c.position-at.ensures.1, c.requires.0.place_fits)) in
    (omega (arith, most, one), omega (arith, most, one, c.requires.2, c.loop-above.auto.room))

pub loop-above-preserved-then-d-depth : goal.loop-above-preserved-then-d-depth
loop-above-preserved-then-d-depth c =
    let L = c.loop-above in
    rw (c.put_id-then-d-depth.ensures, c.id_at-next.ensures)
    (path_written c.args.tree.now c.requires.1 L.room (omega (arith, c.requires.2, L.auto.room)) _ L.depth L.above (omega arith) (omega (arith, c.position-at.ensures.1, c.requires.0.place_fits)) c.if-d-depth.true L.invariant)

pub loop-above-preserved : goal.loop-above-preserved
loop-above-preserved c =
    let L = c.loop-above in
    path_skipped c.args.tree.now c.requires.1 L.room _ L.depth L.above (omega arith) (omega (arith, c.position-at.ensures.1, c.requires.0.place_fits)) c.if-d-depth.false L.invariant

pub returns-clause-rooms : goal.returns-clause-rooms
returns-clause-rooms c =
    let L = c.loop-above in
    path_ends c.args.tree.now c.requires.1 L.room _ L.depth L.above c.loop-above-test.false L.invariant

pub returns-clause-depth : goal.returns-clause-depth
returns-clause-depth c =
    path_deep c.args.tree.now c.requires.1 c.args.slot c.position-at.result c.position-at.ensures.1 (omega (arith, c.position-at.ensures.1, c.requires.0.place_fits))
