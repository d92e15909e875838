-- What the proof of a commit takes of its visits. They are places of the table; f is the forest of its links.
use mathlib.Core.Path.{◌≡◌}
use mathlib.Core.Bool.{Bool, true}
use mathlib.Core.List.{List, [], ◌∷◌, map}
use Prim.Native.Nat.{ℕ, ◌≤◌, ◌<◌}
use lib.ListN.{get_or}
use Rattle.counting.specs.Times.{times}
use Rattle.link_forest.specs.Forest.{Forest, has, above}
use Rattle.link_table.specs.declared.Links.{Links}
use Rattle.tree_state.specs.declared.Tree.{Tree}
use Rattle.tree_state.specs.Tree.{marked_at, any_of}
use Rattle.tree_steps.specs.Commit.{changed_at, visits_of}

-- the slot at a place
abbrev pub slot_at : Links → ℕ → ℕ
slot_at l i = get_or l.order i 0

-- the parent, where there is one, was seen
abbrev pub Seen : List ℕ → List ℕ → Type 0
Seen seen [] = Unit {0}
Seen seen (q ∷ qs) = 1 ≤ times q seen

-- each place is a live node's, and if anything above the node counts as changed, its parent was seen or is visited before it
abbrev pub Good : Links → (ℕ → Bool) → Forest → List ℕ → List ℕ → Type 0
Good l changed f seen [] = Unit {0}
Good l changed f seen (i ∷ is) =
    (i < l.count)
    × (any_of changed (above (slot_at l i) f) ≡ true → Seen seen (above (slot_at l i) f))
    × Good l changed f (slot_at l i ∷ seen) is

-- every marked live node is visited, and every live node at or below one that counts as changed
pub record Covers (t : Tree) (f : Forest) (vs : List ℕ) : Type 0 where
  pub marked : (x : ℕ) → has x f ≡ true → marked_at t x ≡ true → 1 ≤ times x vs
  pub changed : (x : ℕ) → has x f ≡ true → any_of (changed_at t) (x ∷ above x f) ≡ true → 1 ≤ times x vs

-- of the visits of a tree
abbrev pub visited : Tree → List ℕ
visited t = map (slot_at t.links) (visits_of t)

-- no place is visited twice
pub record Visited (t : Tree) (f : Forest) : Type 0 where
  pub good : Good t.links (changed_at t) f [] (visits_of t)
  pub covers : Covers t f (visited t)
  pub once : (i : ℕ) → times i (visits_of t) ≤ 1
