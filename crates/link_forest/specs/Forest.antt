-- Links (document 01: "links (children in order)") as a forest of slots: `tree x c s` is the node x with its children c, in order, and its
-- later siblings s. Where a slot stands twice, the first in pre-order is meant; `Distinct` says that none does.
use Rattle.std.specs.Prelude.{ℕ, suc, ◌+◌, ◌≤◌, Bool, true, false, List, [], ◌∷◌, ◌++◌, reverse, eqb, length}
use Rattle.counting.specs.Times.{tally}

pub data Forest : Type 0 where
  none : Forest
  tree : ℕ → Forest → Forest → Forest

-- a node without children or siblings
abbrev pub leaf : ℕ → Forest
leaf x = tree x none none

-- ---- orders

-- parent first, children in order: the order of a walk
unfoldable pub pre : Forest → List ℕ
pre none = []
pre (tree x c s) = x ∷ (pre c ++ pre s)

-- "children first in order": the order of a removal
unfoldable pub post : Forest → List ℕ
post none = []
post (tree x c s) = post c ++ (x ∷ post s)

-- the depths in the order of a walk, where the roots lie at d; "depth is 1 at a root"
unfoldable pub dep : ℕ → Forest → List ℕ
dep d none = []
dep d (tree x c s) = d ∷ (dep (suc d) c ++ dep d s)

unfoldable pub roots : Forest → List ℕ
roots none = []
roots (tree x c s) = x ∷ roots s

-- ---- members

abbrev pub either : Bool → Bool → Bool
either true b = true
either false b = b

unfoldable pub has : ℕ → Forest → Bool
has p none = false
has p (tree y c s) = either (eqb y p) (either (has p c) (has p s))

-- how often p stands in the forest
unfoldable pub count : ℕ → Forest → ℕ
count p none = 0
count p (tree y c s) = tally (eqb y p) + (count p c + count p s)

-- "no child twice"
abbrev pub Distinct : Forest → Type 0
Distinct f = (x : ℕ) → count x f ≤ 1

-- ---- changes

-- one forest behind another
unfoldable pub cat : Forest → Forest → Forest
cat none t = t
cat (tree x c s) t = tree x c (cat s t)

-- the trees of t as the last children of p
unfoldable pub under : ℕ → Forest → Forest → Forest
under p t none = none
under p t (tree y c s) =
    elim (eqb y p) [ true ↦ tree y (cat c t) s | false ↦ elim (has p c) [ true ↦ tree y (under p t c) s | false ↦ tree y c (under p t s) ] ]

-- without p and what is below it
unfoldable pub remove : ℕ → Forest → Forest
remove p none = none
remove p (tree y c s) =
    elim (eqb y p) [ true ↦ s | false ↦ elim (has p c) [ true ↦ tree y (remove p c) s | false ↦ tree y c (remove p s) ] ]

-- ---- where a node stands

-- what is below it, and what is above it, the parent first; l stands above the roots
pub record Spot : Type 0 where
  pub kids : Forest
  pub above : List ℕ

unfoldable pub spot : ℕ → List ℕ → Forest → Spot
spot p l none = record { kids = none; above = l }
spot p l (tree y c s) =
    elim (eqb y p) [ true ↦ record { kids = c; above = l } | false ↦ elim (has p c) [ true ↦ spot p (y ∷ l) c | false ↦ spot p l s ] ]

abbrev pub kids : ℕ → Forest → Forest
kids p f = (spot p [] f).kids

-- its ancestors, the parent first
abbrev pub above : ℕ → Forest → List ℕ
above p f = (spot p [] f).above

-- the node with what is below it; asked only of a slot that is there
abbrev pub part : ℕ → Forest → Forest
part p f = tree p (kids p f) none

abbrev pub children : ℕ → Forest → List ℕ
children p f = roots (kids p f)

-- from the root down to p
abbrev pub path : ℕ → Forest → List ℕ
path p f = reverse (p ∷ above p f)

-- "Depth is 1 at a root"
abbrev pub depth : ℕ → Forest → ℕ
depth p f = suc (length (above p f))
