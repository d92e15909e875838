use Rattle.std.proofs.Common.{rules, tests, refl, arith, ◌∙◌}
use Rattle.std.proofs.lemmas.Iterator.{YieldsList-from_range, serves_from_Range}
use Rattle.std.proofs.lemmas.Iterator.Search.{all_from_yields_List}
use Rattle.tree_state.specs.Sound as spec
use Rattle.index_sound.proofs.Every.{every_in_range}
use Rattle.tree_sound.proofs.Used.{used_fits, entries_used}
use Rattle.tree_sound.proofs.entries.entries_right.Goals as goal

pub all-requires-clause-callable : goal.all-requires-clause-callable
all-requires-clause-callable c =
    let fits = used_fits c.args.live.now.tree.now c.whole.ensures c.requires in
    serves_from_Range (λ x q r. search rules) (λ x l h _ _ _ _ _ _. (omega (arith, h, fits)))

pub returns : goal.returns
returns c =
    let t = c.args.live.now.tree.now in
    let n = t.index.used in
    let right = spec.entry_right t in
    all_from_yields_List right _ _ c.all.result c.all.ensures.ran (YieldsList-from_range 0 n n refl (omega arith)) (λ x b q k. search (rules, tests))
    ∙ every_in_range n right
    ∙ entries_used t c.whole.ensures c.requires
