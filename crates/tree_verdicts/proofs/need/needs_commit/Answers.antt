use Rattle.std.proofs.Common.{ℕ, ◌≡◌, false, arith, ◌∙◌}
use Rattle.std.proofs.lemmas.Bool.{lt-leb}
use Rattle.tree_state.specs.Tree.{needs_commit, is_removed, entry_mark}
use Rattle.tree_verdicts.proofs.need.Walks.{some_used}
use Rattle.tree_verdicts.proofs.need.needs_commit.Goals as goal

pub any_removed-removed-requires : goal.any_removed-removed-requires
any_removed-removed-requires c = c.requires.used_fits

pub returns : goal.returns
unfolding needs_commit
returns c =
    let t = c.args.tree.now in
    rw (
      c.any_marked-marked.ensures,
      c.any_removed-removed.ensures ∙ some_used (λ (k : ℕ). is_removed (entry_mark t k)) t.index.used 512 c.requires.used_fits (λ k h. unmarked_stays (entry_mark t k) (c.requires.beyond k h)),
    )
  where
    unmarked_stays : (m : ℕ) → m ≡ 0 → is_removed m ≡ false
    unmarked_stays m e = lt-leb 4 m (omega (arith, e))
