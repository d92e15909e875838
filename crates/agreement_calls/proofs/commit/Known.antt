-- A commit of a tree and a plan that agree leaves a tree and a plan that agree.
use Rattle.tree_state.specs.declared.Tree.{Tree}
use Rattle.tree_steps.specs.Commit.{commit_tree}
use Rattle.plan.specs.Plan.{Plan}
use Rattle.plan.specs.Visits.{committed}
use Rattle.agreement.proofs.Same.{Same, Known}
use Rattle.agreement.proofs.worlds.Visits.{Visited}
use Rattle.agreement.proofs.worlds.Entries.{Entered}
use Rattle.agreement.proofs.worlds.Committed as worlds
use Rattle.agreement.proofs.worlds.Known as worlds-known
use Rattle.agreement_calls.proofs.commit.Visits.{visits_same}
use Rattle.agreement_calls.proofs.commit.Visited.{visited_linked}

-- each committed node's entry has its stored hit box, or one equal as numbers: without it an entry with another box would stay wrong where
-- the new hit box equals the stored one
module _ (t : Tree) (p : Plan) (K : Known t p) (E : Entered t p.links) where
  Vs : Visited t p.links
  Vs = visited_linked t p.links K.same.links

  pub commit_same : Same (commit_tree t).tree (committed p)
  commit_same = worlds-known.commit_same t p K E Vs (visits_same t p K)

  pub commit_known : Known (commit_tree t).tree (committed p)
  commit_known = worlds-known.commit_known t p K E Vs (visits_same t p K)

  -- and that holds after it too
  pub commit_entered : Entered (commit_tree t).tree (committed p).links
  unfolding committed
  commit_entered = worlds.commit_entered t p K E Vs
