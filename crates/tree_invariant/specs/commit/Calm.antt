-- "no mark, nothing that counts as changed, no removed entry and no pending rectangle": what an accepted commit leaves.
use Rattle.std.specs.Prelude.{ℕ, ◌≡◌, false}
use Rattle.tree_state.specs.declared.Tree.{Tree}
use Rattle.tree_state.specs.Tree.{marked_at, transform_changed_at, clip_changed_at, needs_commit}
use Rattle.tree_state.specs.Sound.{Live, removed_entries}

pub record Calm (t : Tree) : Type 0 where
  pub no_need : needs_commit t ≡ false
  pub unmarked : (x : ℕ) → Live t x → marked_at t x ≡ false
  pub transform_same : (x : ℕ) → Live t x → transform_changed_at t x ≡ false
  pub clip_same : (x : ℕ) → Live t x → clip_changed_at t x ≡ false
  pub none_removed : removed_entries t ≡ 0
  pub none_pending : t.pending.count ≡ 0
