-- The table of links, and what each change leaves of it: of whole arrays, so that what stands behind the table's positions is settled too.
use Rattle.std.specs.Prelude.{ℕ, ◌+◌, ◌-◌, ◌≡◌, Bool, true, false, List, [], ◌∷◌, ◌++◌, map, ltb, length, get_or, take, drop, Option}
use Rattle.link_forest.specs.Table.{seg_end, index_of, above_at, nearest, at_depth, post_of, depths_from, rebased, insert_all, cut_out}
use Rattle.link_table.specs.declared.Links.{Links}

-- ---- arrays

-- the elements of the positions from i up to j
abbrev pub between : ℕ → ℕ → List ℕ → List ℕ
between i j a = take (j - i) (drop i a)

-- xs in front, and behind them what stood there
abbrev pub in_front : List ℕ → List ℕ → List ℕ
in_front xs a = xs ++ drop (length xs) a

-- where the position p lies when the positions from i up to j, of which it is none, are out
unfoldable pub after_cut : ℕ → ℕ → ℕ → ℕ
after_cut i j p = elim (ltb p i) [ true ↦ p | false ↦ p - (j - i) ]

-- ---- the table

-- where the segment of the position i ends
abbrev pub end_of : Links → ℕ → ℕ
end_of l i = seg_end (take l.count l.depth) i

-- the first position of the slot x, or the count
abbrev pub position_of : Links → ℕ → ℕ
position_of l x = index_of x (take l.count l.order)

-- the slot x is in the table
abbrev pub contains : Links → ℕ → Bool
contains l x = ltb (position_of l x) l.count

-- the slot right above the position i, if there is one
abbrev pub parent_at : Links → ℕ → Option ℕ
parent_at l i = nearest (above_at l.order l.depth i)

-- the slots at the depth k among the positions from i up to j, in order
abbrev pub slots_at : Links → ℕ → ℕ → ℕ → List ℕ
slots_at l i j k = at_depth k (between i j l.order) (between i j l.depth)

-- the slots of the positions from i up to j, children first
abbrev pub post_order : Links → ℕ → ℕ → List ℕ
post_order l i j = post_of (between i j l.order) (between i j l.depth)

-- the depths of the table belong to some forest
abbrev pub Shaped : Links → Type 0
Shaped l = depths_from 0 (take l.count l.depth) ≡ true

-- the slots xs, at the depths ds, go in at the position e
unfoldable pub splice : Links → ℕ → List ℕ → List ℕ → Links
splice l e xs ds = record { order = insert_all l.count e xs l.order; depth = insert_all l.count e ds l.depth; count = l.count + length xs }

-- x as the last root
unfoldable pub add_root : Links → ℕ → Links
add_root l x = splice l l.count (x ∷ []) (1 ∷ [])

-- x as the last child of the node at the position i
unfoldable pub add_last : Links → ℕ → ℕ → Links
add_last l i x = splice l (end_of l i) (x ∷ []) ((get_or l.depth i 0 + 1) ∷ [])

-- without the node at the position i and what is below it
unfoldable pub cut_tree : Links → ℕ → Links
cut_tree l i = record { order = cut_out l.count i (end_of l i) l.order; depth = cut_out l.count i (end_of l i) l.depth; count = i + (l.count - end_of l i) }

-- the node at the position i of s, with what is below it, goes into l at the position e, to lie at the depth d
unfoldable pub graft : Links → ℕ → ℕ → Links → ℕ → Links
graft l e d s i = splice l e (between i (end_of s i) s.order) (map (rebased (get_or s.depth i 0) d) (between i (end_of s i) s.depth))

-- the node at the position i of s, with what is below it, becomes the last child of the node at the position q of l
unfoldable pub graft_last : Links → ℕ → Links → ℕ → Links
graft_last l q s i = graft l (end_of l q) (get_or l.depth q 0 + 1) s i

-- the node at the position i, with what is below it, as the last child of the node at the position p
unfoldable pub move_last : Links → ℕ → ℕ → Links
move_last l i p = graft_last (cut_tree l i) (after_cut i (end_of l i) p) l i

-- the node at the position i, with what is below it, as the last root
unfoldable pub move_root : Links → ℕ → Links
move_root l i = graft (cut_tree l i) (cut_tree l i).count 1 l i
