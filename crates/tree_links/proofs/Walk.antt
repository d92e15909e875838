-- The links' readings by the forest whose table a sound tree has: neighbours in the walk, the parent, the children.
use Rattle.index_types.specs.declared.NodeId.{NodeId}
use Rattle.std.specs.Prelude.{None, Some, Option}
use mathlib.Core.Path.{◌≡◌, refl, sym, ap, ◌∙◌}
use mathlib.Core.Bool.{true, cond}
use mathlib.Core.List.{map}
use Prim.Native.Nat.{ℕ, ◌+◌, ◌-◌, ◌≤◌, ◌<◌}
use native.Mathlib.Omega.{arith}
use native.Mathlib.Decide.{dec_lt, ℕ_discrete}
use borrow.Author.Tests.{eq-eqb, ne_eqb, lt-ltb, le-ltb}
use lib.Dec.{ltb}
use lib.ListN.{get_or}
use Rattle.tree_types.specs.declared.LocalNode.{LocalNode}
use Rattle.link_forest.specs.Forest.{Forest, has, above, children}
use Rattle.link_forest.specs.Table.{run_length, seg_end, index_of}
use Rattle.link_forest.specs.Walk.{next, prev}
use Rattle.link_forest.proofs.Rep.{rep_next_low, rep_next_root, rep_next_last, rep_prev_low, rep_prev_root}
use Rattle.link_table.specs.Links.{splice, add_root, add_last}
use Rattle.tree_state.specs.declared.Tree.{Tree}
use Rattle.tree_state.specs.Tree.{position_of, is_live, id_at, fresh_tree}
use Rattle.tree_steps.specs.Structure.{insert_tree}
use Rattle.tree_steps.specs.Readings.{nearest, parent_of, children_of, next_of, prev_of}
use Rattle.tree_laws.proofs.Ground.{Linked, live_has, at, low, slot_live, ancestors_above, children_at_place}

-- the node of a slot; none for 256
abbrev pub node_of : Tree → ℕ → Option NodeId
node_of t y = cond (ltb y 256) (Some (id_at t y)) None

node_low : (t : Tree) (y : ℕ) → y < 256 → Some (id_at t y) ≡ node_of t y
node_low t y h = rw (lt-ltb y 256 h)

module _ (t : Tree) (f : Forest) (L : Linked t f) (x : ℕ) (l : is_live t x ≡ true) where
  abbrev there : has x f ≡ true
  there = sym (live_has t f L x) ∙ l

  abbrev i : ℕ
  i = position_of t x

  -- a slot of the table is its node
  of_slot : (j y : ℕ) → j < t.links.count → y ≡ get_or t.links.order j 0 → Some (id_at t (get_or t.links.order j 0)) ≡ node_of t y
  of_slot j y k e = let z = get_or t.links.order j 0 in node_low t z (low t f L z (slot_live t f L j k)) ∙ ap (node_of t) (sym e)

  of_none : (y : ℕ) → y ≡ 256 → None ≡ node_of t y
  of_none y e = rw e

  -- ---- the next

  next_end : t.links.count ≤ i + 1 → next_of t x ≡ None
  unfolding next_of
  next_end g = rw (le-ltb (i + 1) t.links.count g)

  next_root : i + 1 < t.links.count → get_or t.links.depth (i + 1) 0 ≡ 1 → next_of t x ≡ None
  unfolding next_of
  next_root k o = rw (lt-ltb (i + 1) t.links.count k, eq-eqb (get_or t.links.depth (i + 1) 0) 1 o)

  next_low : i + 1 < t.links.count → (get_or t.links.depth (i + 1) 0 ≡ 1 → ⊥) → next_of t x ≡ Some (id_at t (get_or t.links.order (i + 1) 0))
  unfolding next_of
  next_low k n = rw (lt-ltb (i + 1) t.links.count k, ne_eqb (get_or t.links.depth (i + 1) 0) 1 n)

  pub next_is : next_of t x ≡ node_of t (next 256 f x)
  next_is =
      let A = at t f L x there in
      let y = next 256 f x in
      elim (dec_lt (i + 1) t.links.count) [
        | yes k ↦
            elim (ℕ_discrete (get_or t.links.depth (i + 1) 0) 1) [
              | yes o ↦ next_root k o ∙ of_none y (rep_next_root L.rep A L.once 256 k o)
              | no n ↦ next_low k n ∙ of_slot (i + 1) y k (rep_next_low L.rep A L.once 256 k n)
            ]
        | no g ↦ next_end (omega arith) ∙ of_none y (rep_next_last L.rep A L.once 256 (omega arith))
      ]

  -- ---- the one before

  prev_root : get_or t.links.depth i 0 ≡ 1 → prev_of t x ≡ None
  unfolding prev_of
  prev_root o = rw (eq-eqb (get_or t.links.depth i 0) 1 o)

  prev_low : (get_or t.links.depth i 0 ≡ 1 → ⊥) → prev_of t x ≡ Some (id_at t (get_or t.links.order (i - 1) 0))
  unfolding prev_of
  prev_low n = rw (ne_eqb (get_or t.links.depth i 0) 1 n)

  pub prev_is : prev_of t x ≡ node_of t (prev 256 f x)
  prev_is =
      let A = at t f L x there in
      let y = prev 256 f x in
      elim (ℕ_discrete (get_or t.links.depth i 0) 1) [
        | yes o ↦ prev_root o ∙ of_none y (rep_prev_root L.rep A L.once 256 o)
        | no n ↦ prev_low n ∙ of_slot (i - 1) y (omega (arith, A.inside)) (rep_prev_low L.rep A L.once 256 n)
      ]

  -- ---- above and below

  pub parent_is : parent_of t x ≡ nearest t (above x f)
  unfolding parent_of
  parent_is = rw (ancestors_above t f L x there)

  pub children_are : children_of t x ≡ map (id_at t) (children x f)
  unfolding children_of
  children_are = rw (children_at_place t f L x there)

-- ---- document 01's P10 "After the last leaf of a root, next_depth_first gives none": a root with two children, and a second root behind it
unfoldable pub two_roots : LocalNode → Tree
two_roots v =
    let a = insert_tree fresh_tree None v in
    let b = insert_tree a (Some (id_at a 0)) v in
    let c = insert_tree b (Some (id_at a 0)) v in
    insert_tree c None v

pub last_leaf : (v : LocalNode)
    → (next_of (two_roots v) 1 ≡ Some (record { 0 = 2; 1 = 1 }))
    × (next_of (two_roots v) 2 ≡ None)
    × (next_of (two_roots v) 3 ≡ None)
    × (prev_of (two_roots v) 3 ≡ None)
unfolding two_roots fresh_tree insert_tree splice add_root add_last run_length seg_end index_of next_of prev_of
last_leaf v = (refl, refl, refl, refl)
