use Rattle.std.proofs.Common.{get_or, ap, ◌∙◌, arith}
use Rattle.index_types.specs.rooms.Tables.{put_id}
use Rattle.tree_state.specs.Tree.{id_at}
use Rattle.tree_links.proofs.Found.{front_start, front_next}
use Rattle.tree_links.proofs.children.put_ids.Goals as goal

pub loop-i-init : goal.loop-i-init
loop-i-init c = front_start c.args.tree.now c.args.slots.now c.args.room.now

pub loop-i-preserved : goal.loop-i-preserved
loop-i-preserved c =
    let A = c.args in
    let t = A.tree.now in
    let i = c.loop-i.i in
    let x = id_at t (get_or A.slots.now i 0) in
    c.put_id.ensures
    ∙ ap (λ n. put_id c.loop-i.room i n) c.id_at.ensures
    ∙ ap (λ r. put_id r i x) c.loop-i.invariant
    ∙ front_next t A.slots.now A.room.now i c.loop-i-test.true (omega (arith, c.requires.0, c.requires.2, c.loop-i-test.true))
