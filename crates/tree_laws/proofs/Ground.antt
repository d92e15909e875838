-- A tree whose links are the table of a forest f: what is read off its tables is what the forest says.
use mathlib.Core.Path.{◌≡◌, refl, sym, ap, ◌∙◌}
use mathlib.Core.Bool.{Bool, true, false, ◌&&◌}
use Prim.Native.Nat.{ℕ, ◌+◌, ◌-◌, ◌≤◌, ◌<◌}
use native.Mathlib.Omega.{arith}
use native.Mathlib.Decide.{dec_lt}
use borrow.Author.Tests.{lt-ltb, le-ltb}
use lib.Dec.{ltb, leb}
use lib.ListN.{length, get_or, take, drop}
use Rattle.counting.specs.Times.{times}
use Rattle.link_forest.specs.Forest.{Forest, pre, post, has, count, above, part, children, depth}
use Rattle.link_forest.specs.Table.{index_of, at_depth}
use lib.Seq.{length-take-le}
use Rattle.link_forest.proofs.Counting.{count_pre}
use Rattle.link_forest.proofs.Laws.{place_there, place_missing}
use Rattle.link_forest.proofs.Rep.{At, Segment, rep_depth, rep_slot, rep_ancestors, rep_segment, rep_post, rep_children, rep_below_test, rep_slot_has, rep_slot_at}
use Rattle.link_forest.proofs.Sound.{sound_low}
use Rattle.link_forest.specs.Sound.{Sound}
use Rattle.link_table.specs.Links as links
use Rattle.tree_state.specs.declared.Tree.{Tree}
use Rattle.tree_state.specs.Tree.{live_slots, position_of, is_live}
use Rattle.tree_state.specs.Sound.{SoundTree}
use Rattle.tree_steps.specs.Commit.{ancestors}
use Rattle.tree_steps.specs.Structure.{subtree_at}
use Rattle.tree_state.specs.Whole.{Whole}

-- the tree's links are f's table
abbrev pub Linked : Tree → Forest → Type 0
Linked t f = Sound t.links.order t.links.depth t.links.count f

-- a sound tree's links are some forest's
pub linked : (t : Tree) → Whole t → SoundTree t → (f : Forest) × Linked t f
linked t w S =
    let F = S.links in
    let f = F.0 in
    let fits : t.links.count ≤ length t.links.order = omega (arith, w.links.order, S.count_fits) in
    let times_is : (x : ℕ) → count x f ≡ times x (live_slots t) = λ x. sym (count_pre x f) ∙ ap (times x) (sym F.1) in (
      f,
      record {
        rep =
            record {
              counted = sym (length-take-le t.links.count t.links.order fits) ∙ ap length F.1;
              order = F.1;
              depth = F.2;
              small = S.count_fits;
              sizes = (w.links.order, w.links.depth);
            };
        once =
            λ x. elim (dec_lt x t.slots.used) [
              | yes l ↦ omega (arith, times_is x, S.once x l)
              | no g ↦ omega (arith, times_is x, S.beyond x (omega arith))
            ];
        low = λ x h. omega (arith, times_is x, S.beyond x (omega (arith, S.used_fits)));
      },
    )

module _ (t : Tree) (f : Forest) (L : Linked t f) where
  pub small : t.links.count ≤ 256
  small = L.rep.small

  pub at : (x : ℕ) → has x f ≡ true → At t.links.order t.links.count x (position_of t x)
  at x h =
      record {
        found = refl;
        inside = omega (arith, ap (index_of x) L.rep.order, place_there x f h, L.rep.counted);
      }

  pub live_has : (x : ℕ) → is_live t x ≡ has x f
  live_has x = by_case (has x f) refl
    where
      by_case : (b : Bool) → has x f ≡ b → is_live t x ≡ b
      by_case true h = lt-ltb (position_of t x) t.links.count (at x h).inside
      by_case false h = le-ltb (position_of t x) t.links.count (omega (arith, ap (index_of x) L.rep.order, place_missing x f h, L.rep.counted))

  pub low : (x : ℕ) → has x f ≡ true → x < 256
  low x h = sound_low L x h

  -- ---- of the slot of a place
  pub slot_live : (i : ℕ) → i < t.links.count → has (get_or t.links.order i 0) f ≡ true
  slot_live i h = rep_slot_has L.rep i h

  pub place_of_slot : (i : ℕ) → i < t.links.count → position_of t (get_or t.links.order i 0) ≡ i
  place_of_slot i h = sym (rep_slot_at L.rep L.once i h).found

  -- ---- of a live slot
  module _ (x : ℕ) (h : has x f ≡ true) where
    pub place_inside : position_of t x < t.links.count
    place_inside = (at x h).inside

    pub slot_at_place : get_or t.links.order (position_of t x) 0 ≡ x
    slot_at_place = rep_slot L.rep (at x h)

    pub depth_at_place : get_or t.links.depth (position_of t x) 0 ≡ depth x f
    depth_at_place = rep_depth L.rep (at x h)

    pub ancestors_above : ancestors t (position_of t x) ≡ above x f
    unfolding ancestors
    ancestors_above = rep_ancestors L.rep (at x h)

    abbrev pub end : ℕ
    end = links.end_of t.links (position_of t x)

    pub segment : Segment t.links.order t.links.depth t.links.count x (position_of t x) end
    segment = record { at = at x h; ends = refl }

    pub subtree_slots : take (end - position_of t x) (drop (position_of t x) t.links.order) ≡ pre (part x f)
    subtree_slots = rep_segment L.rep segment

    pub subtree_post : subtree_at t.links (position_of t x) ≡ post (part x f)
    subtree_post = rep_post L.rep segment

    pub children_at_place : at_depth (get_or t.links.depth (position_of t x) 0 + 1) (links.between (position_of t x) end t.links.order) (links.between (position_of t x) end t.links.depth) ≡ children x f
    children_at_place = rep_children L.rep segment

    -- y is x or below it exactly where its place lies in x's segment
    pub below_by_places : (y : ℕ) → has y (part x f) ≡ leb (position_of t x) (position_of t y) && ltb (position_of t y) end
    below_by_places y = rep_below_test L.rep segment L.once y (position_of t y) refl
