use Rattle.std.proofs.Common.{◌≡◌, ◌≤◌, ◌<◌, ◌+◌, get_or, map, ◌∙◌, length, refl, arith}
use Rattle.std.proofs.lemmas.List.{length-map}
use Rattle.link_table.specs.Links as links
use Rattle.link_table.proofs.Changes.{depth_fits}
use Rattle.tree_state.specs.Tree.{id_at}
use Rattle.tree_steps.specs.Readings.{children_of}
use Rattle.tree_links.proofs.Places.{slot_low}
use Rattle.tree_links.proofs.Found.{below_low, found_take}
use Rattle.tree_links.proofs.children.put_children.Goals as goal

pub overflow_add-tree : goal.overflow_add-tree
overflow_add-tree c =
    let t = c.args.tree.now in
    let N = c.requires.0 in
    let place : c.position-at.result < t.links.count = omega (arith, c.position-at.ensures.1, N.place_fits) in
    omega (arith, depth_fits t.links.count t.links.depth N.held.depths c.position-at.result place, place, N.held.count_fits)

pub put_ids-requires : goal.put_ids-requires
put_ids-requires c =
    let t = c.args.tree.now in
    let p = c.position-at.result in
    let e = c.segment_end-end.result in
    let k = get_or t.links.depth p 0 + 1 in
    let below = links.slots_at t.links p e k in
    let part = found_take below _ c.slots_at-count.new.out c.slots_at-count.result c.slots_at-count.ensures.count.1 c.slots_at-count.ensures.room in
    let fits : e ≤ t.links.count = c.segment_end-end.ensures.1 in
    let many : length below ≤ 256 = omega (arith, c.slots_at-count.ensures.count.0, c.slots_at-count.ensures.count.1, fits, c.requires.0.held.count_fits) in
    rw part (many, below_low t.links.order t.links.depth p e k (λ j l. slot_low t c.requires.0.held j (omega arith)), c.requires.1)

pub returns : goal.returns
unfolding children_of
returns c =
    let t = c.args.tree.now in
    let p = c.position-at.result in
    let e = c.segment_end-end.result in
    let below = links.slots_at t.links p e (get_or t.links.depth p 0 + 1) in
    let part = found_take below _ c.slots_at-count.new.out c.slots_at-count.result c.slots_at-count.ensures.count.1 c.slots_at-count.ensures.room in
    let are : children_of t c.args.id.0 ≡ map (id_at t) below = rw (← c.position-at.ensures.1, ← c.segment_end-end.ensures.2) refl in (
      c.put_ids.ensures ∙ rw (part, are) refl,
      c.slots_at-count.ensures.count.1 ∙ rw (are, length-map below (id_at t)) refl,
    )
