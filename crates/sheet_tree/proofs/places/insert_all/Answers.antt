use Rattle.std.proofs.Common.{sym, ◌∙◌}
use Rattle.sheet_format.specs.Told.{sheet_of}
use Rattle.sheet_laws.proofs.Tree.{fresh_start}
use Rattle.sheet_tree.proofs.places.Steps.{clips_ranged, place_ranged, parent_whole, parent_low, place_room, place_next}
use Rattle.sheet_tree.proofs.places.insert_all.Goals as goal

pub loop-i-init : goal.loop-i-init
loop-i-init c = c.requires.fresh ∙ sym (fresh_start (sheet_of c.args.sheet.now))

pub clip_for-clip-requires-clause-ranged : goal.clip_for-clip-requires-clause-ranged
clip_for-clip-requires-clause-ranged c = rw c.as_slice-clips.ensures.value (clips_ranged c.args.sheet.now c.requires.good)

pub parent_of-parent-requires-clause-whole : goal.parent_of-parent-requires-clause-whole
parent_of-parent-requires-clause-whole c =
    let e = c.as_slice-places.ensures.value in
    rw e (parent_whole c.args.sheet.now c.requires.good c.loop-i.i (rw e at c.loop-i-test.true) _)

pub parent_of-parent-requires-clause-low : goal.parent_of-parent-requires-clause-low
parent_of-parent-requires-clause-low c =
    let e = c.as_slice-places.ensures.value in
    rw e (parent_low c.args.sheet.now c.requires.good c.loop-i.i (rw e at c.loop-i-test.true) _)

pub local_of-local-requires : goal.local_of-local-requires
local_of-local-requires c =
    let e = c.as_slice-places.ensures.value in
    rw e (place_ranged c.args.sheet.now c.requires.good c.loop-i.i (rw e at c.loop-i-test.true) _)

pub insert_accepted-requires : goal.insert_accepted-requires
insert_accepted-requires c =
    let e = c.as_slice-places.ensures.value in
    let q = c.parent_of-parent.ensures in
    rw (q, e) (place_room c.args.sheet.now c.requires.good c.loop-i.i (rw e at c.loop-i-test.true) _ c.loop-i.tree c.loop-i.invariant)

pub loop-i-preserved : goal.loop-i-preserved
loop-i-preserved c =
    let e = c.as_slice-places.ensures.value in
    let own = rw c.as_slice-clips.ensures.value at c.clip_for-clip.ensures in
    let inserted = rw (c.parent_of-parent.ensures, c.local_of-local.ensures, e) at c.insert_accepted.ensures.tree in
    place_next c.args.sheet.now c.requires.good c.loop-i.i (rw e at c.loop-i-test.true) _ c.loop-i.tree c.insert_accepted.new.tree
    c.clip_for-clip.result c.loop-i.invariant own inserted
