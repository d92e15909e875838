use Rattle.std.proofs.Common.{rules, tests, arith, ◌∙◌, take}
use Rattle.std.proofs.lemmas.List.{length-take-le}
use Rattle.std.proofs.lemmas.Iterator.{YieldsList-from_slice}
use Rattle.std.proofs.lemmas.Iterator.Consumers.{YieldsList-from_filter, YieldsList-at, count_from_yields_List}
use Rattle.tree_sound.proofs.Lists.{filter_small}
use Rattle.tree_sound.proofs.Used.{used_fits, removed_slot, removed_used}
use Rattle.tree_sound.proofs.walks.count_removed.Goals as goal

pub shared_ref_as_front-used : goal.shared_ref_as_front-used
shared_ref_as_front-used c = used_fits c.args.tree.now c.whole.ensures c.requires

pub returns : goal.returns
returns c =
    let t = c.args.tree.now in
    let used = take t.index.used t.index.entries in
    let n = count_from_yields_List c.filter.result c.count.result c.count.ensures.ran
    (YieldsList-from_filter _ removed_slot (YieldsList-at c.filter.ensures.source (YieldsList-from_slice used (cc))) c.filter.ensures.closure (λ x b q k. search (rules, tests))) in
    let fits = used_fits t c.whole.ensures c.requires in
    (omega (arith, n, fits, filter_small removed_slot used, length-take-le t.index.used t.index.entries (omega (arith, fits, c.whole.ensures.index.entries))), n ∙ removed_used t c.whole.ensures c.requires)
