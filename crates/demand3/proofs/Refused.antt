-- Refusal 1 of every call, both ways, on every tree, sound or not: the call's number is 1 if and only if document 01's "Sound tree" fails. `Sized`
-- says that the tables have the type's lengths, and nothing else.
use Rattle.std.specs.Prelude.{Ok, Err}
use mathlib.Core.Path.{◌≡◌, refl, sym, ap, ◌∙◌}
use mathlib.Core.Bool.{Bool, true, false}
use Prim.Native.Nat.{ℕ}
use native.Mathlib.Omega.{arith}
use Rattle.counting.specs.Lists.{Tells}
use Rattle.counting.proofs.Kit.{contra}
use Rattle.index_types.specs.declared.NodeId.{NodeId}
use Rattle.tree_state.specs.declared.Tree.{Tree}
use Rattle.tree_state.specs.declared.Refusal.{Refusal}
use Rattle.tree_state.specs.declared.Refusal.TheVariants as no
use Rattle.tree_state.specs.Tree.{number_of, number_in, checked, Verdict}
use Rattle.tree_state.specs.Sound.{SoundTree, sound_tree}
use Rattle.tree_sound.specs.Parts.{Sized}
use Rattle.tree_sound.proofs.Exact.{decides}
use Rattle.tree_steps.specs.Setters as set
use Rattle.tree_run.specs.Run as tree
use Rattle.plan.specs.Calls as call
use Rattle.plan.specs.Calls.{Call, Reading, Outcome}
use Rattle.tree_run.proofs.Verdicts.{reading_verdict, verdict, outcome_is}

-- a number is 1 exactly where a fact fails
abbrev pub Only : Type 0 → ℕ → Type 0
Only P n = (n ≡ 1 → P → ⊥) × ((P → ⊥) → n ≡ 1)

-- a refusal by another number
abbrev Other : Refusal → Type 0
Other r = number_of r ≡ 1 → ⊥

-- the first test is of soundness
first : {P : Type 0} (s : Bool) → Tells s P → Only P (number_in (checked (Ok tt) s no.Unsound))
unfolding number_in number_of
first true T = ((λ e p. omega arith), (λ n. absurd (n (T.0 refl))))
first false T = ((λ e p. contra (T.1 p) refl), (λ n. refl))

-- a test behind it gives another number
next : {P : Type 0} (v : Verdict) (b : Bool) (r : Refusal) → Other r → Only P (number_in v) → Only P (number_in (checked v b r))
unfolding number_in
next (Ok tt) true r o w = w
next (Ok tt) false r o w = ((λ e p. o e), (λ n. let z = w.1 n in absurd (omega arith)))
next (Err q) b r o w = w

module _ (t : Tree) (s : Sized t) where
  abbrev One : Verdict → Type 0
  One v = Only (SoundTree t) (number_in v)

  held_one : One (set.held t)
  held_one = first (sound_tree t) (decides t s)

  node_one : (i : NodeId) → One (set.of_node t i)
  unfolding number_of
  node_one i = next (set.held t) _ no.DeadNode (λ e. omega arith) held_one

  value_one : (i : NodeId) (b : Bool) → One (set.of_value t i b)
  unfolding number_of
  value_one i b = next (set.of_node t i) b no.NotFinite (λ e. omega arith) (node_one i)

  reading_one : (r : Reading) → One (reading_verdict t r)
  unfolding number_of
  reading_one call.needs_commit = held_one
  reading_one (call.is_alive i) = held_one
  reading_one (call.local_transform i) = node_one i
  reading_one (call.local_clip i) = node_one i
  reading_one (call.local_bounds i) = node_one i
  reading_one (call.hit_slop i) = node_one i
  reading_one (call.z_index i) = node_one i
  reading_one (call.flags i) = node_one i
  reading_one (call.parent_of i) = node_one i
  reading_one (call.children_of i room) = next (set.of_node t i) _ no.ShortRoom (λ e. omega arith) (node_one i)
  reading_one (call.next_depth_first i) = node_one i
  reading_one (call.prev_depth_first i) = node_one i
  reading_one (call.world_transform i) = next (set.of_node t i) _ no.NeedsCommit (λ e. omega arith) (node_one i)
  reading_one (call.world_bounds i) = next (set.of_node t i) _ no.NeedsCommit (λ e. omega arith) (node_one i)
  reading_one (call.world_hit_bounds i) = next (set.of_node t i) _ no.NeedsCommit (λ e. omega arith) (node_one i)

  verdict_one : (c : Call) → One (verdict t c)
  unfolding verdict number_of
  verdict_one (call.insert parent v) =
      next _ _ no.Full (λ e. omega arith)
      (next _ _ no.UnknownFlags (λ e. omega arith) (next _ _ no.NotFinite (λ e. omega arith) (next _ _ no.DeadParent (λ e. omega arith) held_one)))
  verdict_one (call.remove i) = node_one i
  verdict_one (call.reparent i parent) =
      next _ _ no.BelowItself (λ e. omega arith) (next _ _ no.DeadParent (λ e. omega arith) (node_one i))
  verdict_one (call.set_local_transform i a) = value_one i _
  verdict_one (call.set_local_clip i c) = value_one i _
  verdict_one (call.set_local_bounds i r) = value_one i _
  verdict_one (call.set_hit_slop i s) = value_one i _
  verdict_one (call.set_z_index i z) = node_one i
  verdict_one (call.set_flags i f) = next _ _ no.UnknownFlags (λ e. omega arith) (node_one i)
  verdict_one (call.commit room) = next _ _ no.ShortRoom (λ e. omega arith) held_one
  verdict_one (call.read r) = reading_one r
  verdict_one (call.request q asked room) =
      next _ _ no.ShortRoom (λ e. omega arith) (next _ _ no.NeedsCommit (λ e. omega arith) (next _ _ no.UnknownFlags (λ e. omega arith) held_one))

  -- every call
  pub refuses_1 : (c : Call) → Only (SoundTree t) (tree.outcome t c).refused
  refuses_1 c =
      let e : (tree.outcome t c).refused ≡ number_in (verdict t c) = ap (λ (o : Outcome). o.refused) (outcome_is t c) in
      let w = verdict_one c in
      ((λ h. w.0 (sym e ∙ h)), (λ n. e ∙ w.1 n))
