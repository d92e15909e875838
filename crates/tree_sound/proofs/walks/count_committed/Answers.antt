use Rattle.std.proofs.Common.{rules, tests, arith, ◌∙◌}
use Rattle.std.proofs.lemmas.List.{length-take-le}
use Rattle.std.proofs.lemmas.Iterator.{YieldsList-from_slice}
use Rattle.std.proofs.lemmas.Iterator.Adapters.{serves_from_places}
use Rattle.std.proofs.lemmas.Iterator.Consumers.{YieldsList-from_filter, YieldsList-at, count_from_yields_List}
use Rattle.tree_state.specs.Tree.{live_slots, committed_at}
use Rattle.tree_sound.proofs.Lists.{filter_small, count_listed, low_at}
use Rattle.tree_sound.proofs.walks.count_committed.Goals as goal

pub count-requires-clause-can : goal.count-requires-clause-can
count-requires-clause-can c =
    let t = c.args.live.now.tree.now in
    (tt, tt, serves_from_places (YieldsList-at c.filter.ensures.source (YieldsList-from_slice (live_slots t) (cc))) (λ x q r. search rules) (λ x k h e y a. let b = low_at t c.args.live.now.listed k x.now h e in ((λ _ _ _ _ _. rw a (omega (arith, b))), λ _ _ _ _ _ _. rw a b)))

pub returns : goal.returns
returns c =
    let t = c.args.live.now.tree.now in
    let n = count_from_yields_List c.filter.result c.count.result c.count.ensures.ran
    (YieldsList-from_filter _ (committed_at t) (YieldsList-at c.filter.ensures.source (YieldsList-from_slice (live_slots t) (cc))) c.filter.ensures.closure (λ x b q k. search (rules, tests))) in
    let L = c.args.live.now.listed in
    let fits = L.fits in
    (omega (arith, n, fits, filter_small (committed_at t) (live_slots t), length-take-le t.links.count t.links.order (omega (arith, fits, L.long))), n ∙ count_listed (committed_at t) (live_slots t))
