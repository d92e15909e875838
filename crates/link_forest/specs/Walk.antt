-- A node's neighbours in the walk, by its children, siblings and parents as in the Rust (next_in_order, prev_in_order); a where there is none.
-- Neither crosses from one root to another.
use Rattle.std.specs.Prelude.{ℕ, true, false, List, [], ◌∷◌, eqb, get_or}
use Rattle.link_forest.specs.Forest.{Forest, none, tree, children, kids, above}

-- the next sibling of x in the list, or a
unfoldable pub behind : ℕ → ℕ → List ℕ → ℕ
behind a x [] = a
behind a x (y ∷ ys) = elim (eqb y x) [ true ↦ get_or ys 0 a | false ↦ behind a x ys ]

-- the next sibling of x, or of the nearest node above it that has one; the list is what is above x
unfoldable pub next_up : ℕ → Forest → ℕ → List ℕ → ℕ
next_up a f x [] = a
next_up a f x (q ∷ qs) = behind (next_up a f q qs) x (children q f)

-- its first child, or else the next further up
abbrev pub next : ℕ → Forest → ℕ → ℕ
next a f x = get_or (children x f) 0 (next_up a f x (above x f))

-- down the last children from a, where the forest is what is below a
unfoldable pub last_in : ℕ → Forest → ℕ
last_in a none = a
last_in a (tree y c s) = last_in (last_in y c) s

-- the last below the previous sibling of x in the list, or q
unfoldable pub ahead : Forest → ℕ → ℕ → List ℕ → ℕ
ahead f q x [] = q
ahead f q x (y ∷ ys) = elim (eqb y x) [ true ↦ q | false ↦ ahead f (last_in y (kids y f)) x ys ]

unfoldable pub prev_up : ℕ → Forest → ℕ → List ℕ → ℕ
prev_up a f x [] = a
prev_up a f x (q ∷ qs) = ahead f q x (children q f)

-- the last below its previous sibling, or else its parent
abbrev pub prev : ℕ → Forest → ℕ → ℕ
prev a f x = prev_up a f x (above x f)
