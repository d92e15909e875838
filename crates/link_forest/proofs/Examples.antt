-- Worked rows: the definitions compute.
use mathlib.Core.Path.{◌≡◌, refl}
use mathlib.Core.Bool.{true, false}
use mathlib.Core.List.{List, [], ◌∷◌, map}
use Prim.Native.Nat.{ℕ}
use Rattle.link_forest.specs.Forest.{Forest, tree, leaf, pre, post, dep, roots, has, cat, under, remove, spot, part, children, path, depth}
use Rattle.link_forest.specs.Walk.{behind, next_up, next, last_in, ahead, prev_up, prev}
use Rattle.link_forest.specs.Table.{run_length, seg_end, index_of, last_above, at_depth, post_of, rebased, depths_from, insert_all, cut_out}

-- 1 has the children 2 and 3, 2 the child 5; 4 is a second root
abbrev f0 : Forest
f0 = tree 1 (tree 2 (leaf 5) (leaf 3)) (leaf 4)

abbrev order0 : List ℕ
order0 = 1 ∷ 2 ∷ 5 ∷ 3 ∷ 4 ∷ []

abbrev depth0 : List ℕ
depth0 = 1 ∷ 2 ∷ 3 ∷ 2 ∷ 1 ∷ []

walked : pre f0 ≡ order0
unfolding pre
walked = refl

depths : dep 1 f0 ≡ depth0
unfolding dep
depths = refl

children_first : post f0 ≡ 5 ∷ 2 ∷ 3 ∷ 1 ∷ 4 ∷ []
unfolding post
children_first = refl

down_to : path 5 f0 ≡ 1 ∷ 2 ∷ 5 ∷ []
unfolding spot has
down_to = refl

deep : depth 5 f0 ≡ 3
unfolding spot has
deep = refl

of_one : children 1 f0 ≡ 2 ∷ 3 ∷ []
unfolding spot has roots
of_one = refl

added : pre (under 2 (leaf 9) f0) ≡ 1 ∷ 2 ∷ 5 ∷ 9 ∷ 3 ∷ 4 ∷ []
unfolding pre under has cat
added = refl

removed : pre (remove 2 f0) ≡ 1 ∷ 3 ∷ 4 ∷ []
unfolding pre remove has
removed = refl

moved : pre (under 4 (part 2 f0) (remove 2 f0)) ≡ 1 ∷ 3 ∷ 4 ∷ 2 ∷ 5 ∷ []
unfolding pre under has cat remove spot
moved = refl

-- ---- neighbours in the walk, 256 for none: a child, a sibling, a parent's sibling; not over to another root
next_child : next 256 f0 1 ≡ 2
unfolding next_up spot has roots
next_child = refl

next_further_up : next 256 f0 5 ≡ 3
unfolding next_up behind spot has roots
next_further_up = refl

next_of_last : next 256 f0 3 ≡ 256
unfolding next_up behind spot has roots
next_of_last = refl

next_of_root : next 256 f0 4 ≡ 256
unfolding next_up behind spot has roots
next_of_root = refl

prev_below_sibling : prev 256 f0 3 ≡ 5
unfolding prev_up ahead last_in spot has roots
prev_below_sibling = refl

prev_parent : prev 256 f0 2 ≡ 1
unfolding prev_up ahead last_in spot has roots
prev_parent = refl

prev_of_root : prev 256 f0 4 ≡ 256
unfolding prev_up ahead last_in spot has roots
prev_of_root = refl

-- ---- the same from the table
ends : seg_end depth0 1 ≡ 3
unfolding seg_end run_length
ends = refl

place : index_of 3 order0 ≡ 3
unfolding index_of
place = refl

missing : index_of 7 order0 ≡ 5
unfolding index_of
missing = refl

parent : last_above 2 256 (1 ∷ 2 ∷ 5 ∷ []) (1 ∷ 2 ∷ 3 ∷ []) ≡ 1
unfolding last_above
parent = refl

no_parent : last_above 1 256 (1 ∷ 2 ∷ 5 ∷ 3 ∷ []) (1 ∷ 2 ∷ 3 ∷ 2 ∷ []) ≡ 256
unfolding last_above
no_parent = refl

level : at_depth 2 order0 depth0 ≡ 2 ∷ 3 ∷ []
unfolding at_depth
level = refl

children_first_of_table : post_of order0 depth0 ≡ 5 ∷ 2 ∷ 3 ∷ 1 ∷ 4 ∷ []
unfolding post_of run_length
children_first_of_table = refl

-- ---- the test: a depth may fall by any number and rise by one
passes : depths_from 0 depth0 ≡ true
unfolding depths_from
passes = refl

starts_deep : depths_from 0 (2 ∷ []) ≡ false
unfolding depths_from
starts_deep = refl

leaps : depths_from 0 (1 ∷ 3 ∷ []) ≡ false
unfolding depths_from
leaps = refl

zero_depth : depths_from 0 (1 ∷ 0 ∷ []) ≡ false
unfolding depths_from
zero_depth = refl

-- ---- whole arrays of seven, five places in use
inserted : insert_all 5 3 (9 ∷ []) (1 ∷ 2 ∷ 5 ∷ 3 ∷ 4 ∷ 0 ∷ 8 ∷ []) ≡ 1 ∷ 2 ∷ 5 ∷ 9 ∷ 3 ∷ 4 ∷ 8 ∷ []
inserted = refl

cut : cut_out 5 1 3 (1 ∷ 2 ∷ 5 ∷ 3 ∷ 4 ∷ 0 ∷ 8 ∷ []) ≡ 1 ∷ 3 ∷ 4 ∷ 3 ∷ 4 ∷ 0 ∷ 8 ∷ []
cut = refl

rebased_depths : map (rebased 2 5) (2 ∷ 3 ∷ []) ≡ 5 ∷ 6 ∷ []
rebased_depths = refl
