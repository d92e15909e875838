use Rattle.std.proofs.Common.{◌≡◌, ℕ, ◌≤◌, ◌<◌, get_or, ◌∙◌, ap, length, arith}
use native.Mathlib.Decide.{dec_lt}
use Rattle.link_table.proofs.depths.Depths.{root_first}
use Rattle.tree_links.proofs.Places.{slot_low}
use Rattle.tree_links.proofs.walks.prev_in_order.Goals as goal

pub overflow_sub-at : goal.overflow_sub-at
overflow_sub-at c =
    let t = c.args.tree.now in
    let p = c.position-at.result in
    let place : p < t.links.count = omega (arith, c.position-at.ensures.1, c.requires.place_fits) in
    let fits : t.links.count ≤ length t.links.depth = omega (arith, c.requires.held.whole.links.depth, c.requires.held.count_fits) in
    let root = root_first t.links.count t.links.depth c.requires.held.depths (omega arith) fits in
    elim (dec_lt 0 p) [
      | yes l ↦ omega arith
      | no g ↦ absurd (c.if-depth-eq1.false (ap (λ n. get_or t.links.depth n 0) (first p (omega arith)) ∙ root))
    ]
  where
    first : (n : ℕ) → n ≤ 0 → n ≡ 0
    first n h = omega arith

pub id_at-requires : goal.id_at-requires
id_at-requires c =
    let t = c.args.tree.now in
    let place : c.position-at.result < t.links.count = omega (arith, c.position-at.ensures.1, c.requires.place_fits) in
    slot_low t c.requires.held _ (omega arith)
