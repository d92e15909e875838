use Rattle.std.proofs.Common.{rules, tests}
use Rattle.std.proofs.lemmas.Iterator.{YieldsList-from_slice}
use Rattle.std.proofs.lemmas.Iterator.Adapters.{serves_from_places}
use Rattle.std.proofs.lemmas.Iterator.Search.{all_from_yields_List}
use Rattle.tree_state.specs.Tree.{live_slots}
use Rattle.tree_state.specs.Sound as spec
use Rattle.tree_sound.proofs.Lists.{every_listed, low_at}
use Rattle.tree_sound.proofs.walks.nodes_right.Goals as goal

pub all-requires-clause-callable : goal.all-requires-clause-callable
all-requires-clause-callable c =
    serves_from_places (YieldsList-from_slice (live_slots c.args.live.now.tree.now) cc) (λ x q r. search rules) (λ x k h e _ _ _ _ _ _. low_at c.args.live.now.tree.now c.args.live.now.listed k x.now h e)

pub returns : goal.returns
returns c =
    let t = c.args.live.now.tree.now in
    rw (← every_listed (spec.node_right t) (live_slots t))
    (all_from_yields_List (spec.node_right t) _ _ c.all.result c.all.ensures.ran (YieldsList-from_slice (live_slots t) cc) (λ x b q k. search (rules, tests)))
