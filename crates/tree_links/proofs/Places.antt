-- Of a live node in a sound tree: what stands at the places of the table, and its parent.
use Rattle.std.proofs.Common.{◌≡◌, ℕ, ◌<◌, List, [], ◌∷◌, get_or, Option, None, Some, arith, refl}
use Rattle.index_types.specs.declared.NodeId.{NodeId}
use Rattle.link_forest.specs.Table.{nearest}
use Rattle.tree_state.specs.declared.Tree.{Tree}
use Rattle.tree_state.specs.Tree.{id_at}
use Rattle.tree_steps.specs.Readings as reading
use Rattle.tree_verdicts.specs.Held.{Held}
use Rattle.tree_verdicts.proofs.nodes.Nodes.{sizes}
use Rattle.tree_verdicts.proofs.need.Walks.{sound_places}

-- the slot at a place is one of the tables'
pub slot_low : (t : Tree) → Held t → (i : ℕ) → i < t.links.count → get_or t.links.order i 0 < 256
slot_low t h i k = (sound_places t (sizes t h.whole) h.test).2 i k

-- ---- the node of the nearest slot above
pub none_above : (t : Tree) (xs : List ℕ) → nearest xs ≡ None → ◌≡◌ {A = Option NodeId} None (reading.nearest t xs)
none_above t [] h = refl
none_above t (x ∷ xs) h = absurd (grind (arith, h))

pub node_above : (t : Tree) (xs : List ℕ) (q : ℕ) → nearest xs ≡ Some q → Some (id_at t q) ≡ reading.nearest t xs
node_above t [] q h = absurd (grind (arith, h))
node_above t (x ∷ xs) q h = let e : x ≡ q = grind (arith, h) in rw e refl
