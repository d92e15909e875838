use Rattle.std.proofs.Common.{◌≡◌, refl, sym, ap, subst, ◌∙◌, ℕ, ◌+◌, ◌<◌, List, ◌∷◌, length, get_or, drop, drop-cons, drop_of_length-le, add-one}
use Rattle.tree_state.specs.declared.Tree.{Tree}
use Rattle.tree_steps.specs.Structure.{remove_all, remove_node}
use Rattle.tree_remove.specs.Remove.{Goes, Removals}
use Rattle.tree_remove.proofs.remove_nodes.Goals as goal

-- the next one goes, and what is left after it can go
next : (t : Tree) (xs : List ℕ) (i : ℕ) → i < length xs → Removals t (drop i xs) → Goes t (get_or xs i 0) × Removals (remove_node t (get_or xs i 0)) (drop (i + 1) xs)
unfolding Removals
next t xs i h R = subst (Removals t) (drop-cons xs i 0 h ∙ ap (λ (n : ℕ). get_or xs i 0 ∷ drop n xs) (sym (add-one i))) R

comes_to : (t : Tree) (xs : List ℕ) (i : ℕ) → i < length xs → remove_all (remove_node t (get_or xs i 0)) (drop (i + 1) xs) ≡ remove_all t (drop i xs)
unfolding remove_all
comes_to t xs i h = rw (drop-cons xs i 0 h, add-one i)

pub loop-slot-init : goal.loop-slot-init
loop-slot-init c = (c.requires, refl)

pub remove_node-requires : goal.remove_node-requires
remove_node-requires c = (next c.loop-slot.tree c.args.gone.now c.loop-slot.slot-index c.loop-slot-test.true c.loop-slot.invariant.0).0

pub loop-slot-preserved : goal.loop-slot-preserved
loop-slot-preserved c =
    let t = c.loop-slot.tree in
    let xs = c.args.gone.now in
    let i = c.loop-slot.slot-index in (
      subst (λ (u : Tree). Removals u (drop (i + 1) xs)) (sym c.remove_node.ensures) (next t xs i c.loop-slot-test.true c.loop-slot.invariant.0).1,
      ap (λ (u : Tree). remove_all u (drop (i + 1) xs)) c.remove_node.ensures ∙ comes_to t xs i c.loop-slot-test.true ∙ c.loop-slot.invariant.1,
    )

pub returns : goal.returns
unfolding remove_all
returns c =
    let xs = c.args.gone.now in
    let i = c.loop-slot.slot-index in
    ap (λ (l : List ℕ). remove_all c.loop-slot.tree l) (sym (drop_of_length-le xs c.loop-slot-test.false)) ∙ c.loop-slot.invariant.1
