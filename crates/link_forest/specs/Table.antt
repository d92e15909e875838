-- A forest's table: its slots in pre-order and beside them their depths, in front of an array. A node's subtree is its segment, the run of
-- positions from its own up to the first that is not deeper.
use Rattle.std.specs.Prelude.{ℕ, suc, ◌+◌, ◌-◌, Bool, true, false, ◌&&◌, List, [], ◌∷◌, ◌++◌, reverse, eqb, ltb, leb, length, get_or, take, drop, Option, None, Some}

-- how many leading depths exceed d
unfoldable pub run_length : ℕ → List ℕ → ℕ
run_length d [] = 0
run_length d (x ∷ xs) = elim (ltb d x) [ true ↦ suc (run_length d xs) | false ↦ 0 ]

-- where the segment of the position i ends
unfoldable pub seg_end : List ℕ → ℕ → ℕ
seg_end ds i = i + 1 + run_length (get_or ds i 0) (drop (i + 1) ds)

-- the first position of x, or the length
unfoldable pub index_of : ℕ → List ℕ → ℕ
index_of x [] = 0
index_of x (y ∷ ys) = elim (eqb y x) [ true ↦ 0 | false ↦ suc (index_of x ys) ]

-- the last slot before a position of the depth k whose depth is less, or a: the slots and depths are those before it
unfoldable pub last_above : ℕ → ℕ → List ℕ → List ℕ → ℕ
last_above k a [] ds = a
last_above k a (x ∷ xs) [] = a
last_above k a (x ∷ xs) (d ∷ ds) = last_above k (elim (ltb d k) [ true ↦ x | false ↦ a ]) xs ds

-- the slots above a position at the depth d, the parent first: of the slots and depths before it, the nearest first, each that is less deep
unfoldable pub less_deep : ℕ → List ℕ → List ℕ → List ℕ
less_deep d [] ds = []
less_deep d (x ∷ xs) [] = []
less_deep d (x ∷ xs) (e ∷ es) = elim (ltb e d) [ true ↦ x ∷ less_deep e xs es | false ↦ less_deep d xs es ]

-- the slots above a position, the parent first
abbrev pub above_at : List ℕ → List ℕ → ℕ → List ℕ
above_at order depth i = less_deep (get_or depth i 0) (reverse (take i order)) (reverse (take i depth))

-- the first of these, if there is one
abbrev pub nearest : List ℕ → Option ℕ
nearest [] = None
nearest (x ∷ xs) = Some x

-- the slots at the depth k
unfoldable pub at_depth : ℕ → List ℕ → List ℕ → List ℕ
at_depth k [] ds = []
at_depth k (x ∷ xs) [] = []
at_depth k (x ∷ xs) (d ∷ ds) = elim (eqb d k) [ true ↦ x ∷ at_depth k xs ds | false ↦ at_depth k xs ds ]

-- the slots with their children first: each goes behind those that are below it
unfoldable pub post_of : List ℕ → List ℕ → List ℕ
post_of [] ds = []
post_of (x ∷ xs) [] = []
post_of (x ∷ xs) (d ∷ ds) = take (run_length d ds) (post_of xs ds) ++ (x ∷ drop (run_length d ds) (post_of xs ds))

-- a depth below a node that lay at `was` and lies at `is` now
abbrev pub rebased : ℕ → ℕ → ℕ → ℕ
rebased was is d = d - was + is

-- depths that belong to some forest: the first is 1, and each later one is at least 1 and at most one more than the depth before it
unfoldable pub depths_from : ℕ → List ℕ → Bool
depths_from b [] = true
depths_from b (d ∷ ds) = leb 1 d && leb d (suc b) && depths_from d ds

-- ---- whole arrays, of which the first n positions are the table: what stands behind a change's positions stays

-- ys go in at the position e
abbrev pub insert_all : ℕ → ℕ → List ℕ → List ℕ → List ℕ
insert_all n e ys a = take e a ++ (ys ++ (take (n - e) (drop e a) ++ drop (n + length ys) a))

-- the positions from i up to j go out
abbrev pub cut_out : ℕ → ℕ → ℕ → List ℕ → List ℕ
cut_out n i j a = take i a ++ (take (n - j) (drop j a) ++ drop (i + (n - j)) a)
