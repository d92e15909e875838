-- The lines of a sheet's taps, by the tree.
use Rattle.std.specs.Prelude.{ℕ, suc, ◌≤◌, ◌≡◌, true, List, [], ◌∷◌, ◌++◌}
use Rattle.tree_state.specs.declared.Tree.{Tree}
use Rattle.tree_steps.specs.Requests as request
use Rattle.tree_verdicts.specs.Held.{Asked}
use Rattle.agreement_calls.proofs.requests.Tap as tree
use Rattle.plan.specs.Afresh.{Tap}
use Rattle.sheet_format.specs.declared.TapLine.{TapLine}
use Rattle.sheet_format.specs.Sheet.{tap_in_range}
use Rattle.sheet_calls.specs.Answers.{asked_of, point_of, place_hit, depth_hit, line_of}

-- what a tap finds on a tree
abbrev pub found : Tree → TapLine → Tap
found t p = tree.tap_of t (request.hit_node t (asked_of p) (point_of p))

abbrev pub tap_line : Tree → ℕ → TapLine → List ℕ
tap_line t k p = line_of (k ∷ place_hit (found t p) ∷ depth_hit (found t p) ∷ [])

-- the taps from number k on
unfoldable pub tap_text : Tree → ℕ → List TapLine → List ℕ
tap_text t k [] = []
tap_text t k (p ∷ taps) = tap_line t k p ++ tap_text t (suc k) taps

-- a tap that nothing refuses, with a short answer
pub record Ready (t : Tree) (p : TapLine) : Type 0 where
  pub ranged : tap_in_range p ≡ true
  pub asked : Asked t
  pub place : place_hit (found t p) ≤ 256
  pub depth : depth_hit (found t p) ≤ 256
