use Rattle.std.proofs.Common.{ℕ, ltb, sym, ap, ◌∙◌, subst, add-one, arith}
use Rattle.sheet_calls.specs.Calls as call
use Rattle.sheet_calls.specs.Good.{Small}
use Rattle.sheet_calls.proofs.Finite.{turns_small, first_small}
use Rattle.sheet_records.specs.orientations.Turns as spec
use Rattle.sheet_records.proofs.orientations.orientation.Goals as goal

pub loop-init : goal.loop-init
unfolding call.turns
loop-init c = c.start-m.ensures

pub turned-m-requires : goal.turned-m-requires
turned-m-requires c = subst Small (sym c.loop.invariant) (turns_small c.loop.counter (spec.start_of c.args.k) (first_small (ltb c.args.k 4)))

pub loop-preserved : goal.loop-preserved
unfolding call.turns
loop-preserved c = c.turned-m.ensures ∙ ap call.turned c.loop.invariant ∙ rw add-one

pub returns : goal.returns
unfolding call.orientation
returns c = c.loop.invariant ∙ ap (λ (n : ℕ). call.turns n (spec.start_of c.args.k)) (omega arith)
