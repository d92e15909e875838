-- The links that insert and reparent leave are those of the plan's forest.
use Rattle.std.specs.Prelude.{Ok, None, Some, Option}
use mathlib.Core.Path.{◌≡◌, refl, sym, subst, ◌∙◌}
use mathlib.Core.Bool.{true, false}
use mathlib.Core.List.{List}
use Prim.Native.Nat.{ℕ, ◌+◌, ◌-◌, ◌≤◌, ◌<◌}
use native.Mathlib.Omega.{arith}
use native.Mathlib.Decide.{dec_lt}
use borrow.Author.Tests.{le-leb, lt-ltb}
use lib.ListN.{length}
use Rattle.counting.proofs.Kit.{contra}
use Rattle.index_types.specs.declared.NodeId.{NodeId}
use Rattle.tree_types.specs.declared.LocalNode.{LocalNode}
use Rattle.link_forest.specs.Forest.{Forest, leaf, has, remove, part}
use Rattle.link_forest.specs.Table.{cut_out}
use Rattle.link_forest.proofs.Counting.{count_lacks}
use Rattle.link_forest.proofs.Rep.{At, Segment, rep_times, rep_slot_at, rep_within, rep_after}
use Rattle.link_forest.proofs.Sound.{sound_add_root, sound_add, sound_remove, sound_moved, sound_moved_root}
use Rattle.link_forest.specs.Sound.{Sound}
use Rattle.link_table.specs.Links as links
use Rattle.link_table.specs.Links.{end_of, after_cut, splice, add_root, add_last, cut_tree, graft, graft_last, move_last, move_root}
use Rattle.link_table.proofs.Steps.{length_part}
use Rattle.link_table.proofs.Changes.{after_inside, cut_at}
use Rattle.tree_state.specs.declared.Tree.{Tree}
use Rattle.tree_state.specs.Tree.{position_of}
use Rattle.tree_state.specs.Sound.{SoundTree}
use Rattle.tree_steps.specs.Structure.{slot_of, parent_live, at_or_below, insert_verdict, reparent_verdict, insert_tree, reparent_tree}
use Rattle.tree_state.specs.Whole.{Whole}
use Rattle.tree_laws.proofs.Taken.{new_times, new_low}
use Rattle.tree_laws.proofs.Ground.{Linked, at, live_has, slot_at_place, segment}
use Rattle.plan.specs.Plan.{onto}
use Rattle.tree_invariant.proofs.calls.Accepted.{live_slot, insert_accepted, reparent_accepted}

-- ---- insert

module _ (t : Tree) (w : Whole t) (S : SoundTree t) where
  module _ (f : Forest) (L : Linked t f) where
    pub new_lacks : has (slot_of t.slots) f ≡ false
    new_lacks = count_lacks (slot_of t.slots) f (omega (arith, rep_times L.rep (slot_of t.slots), new_times t w S))

    insert_under : (parent : Option NodeId) (v : LocalNode) → t.links.count < 256 → parent_live t parent ≡ true
        → Linked (insert_tree t parent v) (onto parent (leaf (slot_of t.slots)) f)
    unfolding insert_tree add_root add_last splice
    insert_under None v room p = sound_add_root L (slot_of t.slots) (new_low t w S room) new_lacks
    insert_under (Some h) v room p =
        let there : has h.0 f ≡ true = sym (live_has t f L h.0) ∙ live_slot t h p in
        sound_add L (slot_of t.slots) (new_low t w S room) new_lacks (segment t f L h.0 there)

    -- insert: the new slot, last under its parent or last of the roots
    pub insert_links : (parent : Option NodeId) (v : LocalNode) → insert_verdict t parent v ≡ Ok tt
        → Linked (insert_tree t parent v) (onto parent (leaf (slot_of t.slots)) f)
    insert_links parent v e = let A = insert_accepted t parent v e in insert_under parent v A.room A.parent_live_lem

-- ---- reparent

recounted : (order depth : List ℕ) (m n : ℕ) (f : Forest) → m ≡ n → Sound order depth n f → Sound order depth m f
recounted order depth m n f e S = subst (λ (k : ℕ). Sound order depth k f) (sym e) S

module _ (t : Tree) (f : Forest) (L : Linked t f) (x : ℕ) (there : has x f ≡ true) where
  abbrev from : ℕ
  from = position_of t x

  abbrev to : ℕ
  to = end_of t.links from

  part_of : Segment t.links.order t.links.depth t.links.count x from to
  part_of = segment t f L x there

  -- as many as before
  recount : from + (t.links.count - to) + length (links.between from to t.links.order) ≡ t.links.count
  recount =
      let a = rep_after L.rep part_of in
      let b = rep_within L.rep part_of in
      omega (arith, length_part from to t.links.order (omega arith) (omega (arith, L.rep.small, L.rep.sizes.0)))

  -- a place outside of the segment, after the cut
  module _ (q : ℕ) (lives : has q f ≡ true) (out : from ≤ position_of t q → to ≤ position_of t q) where
    abbrev now : ℕ
    now = after_cut from to (position_of t q)

    rest : Sound (cut_out t.links.count from to t.links.order) (cut_out t.links.count from to t.links.depth) (from + (t.links.count - to)) (remove x f)
    rest = sound_remove L part_of

    now_at : At (cut_out t.links.count from to t.links.order) (from + (t.links.count - to)) q now
    now_at =
        let a = rep_after L.rep part_of in
        let b = rep_within L.rep part_of in
        let l = (at t f L q lives).inside in
        let i = after_inside t.links.count from to (position_of t q) (omega arith) b l out in
        let c = cut_at t.links.count from to (position_of t q) (omega arith) b l out t.links.order (omega (arith, L.rep.small, L.rep.sizes.0)) in
        subst (λ (z : ℕ). At (cut_out t.links.count from to t.links.order) (from + (t.links.count - to)) z now)
        (c ∙ slot_at_place t f L q lives)
        (rep_slot_at rest.rep rest.once now i)

    now_segment : Segment (cut_out t.links.count from to t.links.order) (cut_out t.links.count from to t.links.depth) (from + (t.links.count - to)) q now (end_of (cut_tree t.links from) now)
    unfolding cut_tree
    now_segment = record { at = now_at; ends = refl }

  reparent_under : (parent : Option NodeId) → parent_live t parent ≡ true → at_or_below t from parent ≡ false
      → Linked (reparent_tree t x parent) (onto parent (part x f) (remove x f))
  unfolding reparent_tree move_root move_last graft_last graft splice cut_tree
  reparent_under None p b = recounted _ _ _ _ _ recount (sound_moved_root L part_of)
  reparent_under (Some h) p b =
      let lives : has h.0 f ≡ true = sym (live_has t f L h.0) ∙ live_slot t h p in
      let out : from ≤ position_of t h.0 → to ≤ position_of t h.0 =
      λ l. elim (dec_lt (position_of t h.0) to) [
        | yes k ↦ absurd (contra (rw (le-leb from (position_of t h.0) l, lt-ltb (position_of t h.0) to k)) b)
        | no g ↦ omega arith
      ] in
      recounted _ _ _ _ _ recount (sound_moved L part_of (now_segment h.0 lives out))

-- reparent: the node with what is below it, last under its new parent or last of the roots
pub reparent_links : (t : Tree) (f : Forest) → Linked t f → (i : NodeId) (parent : Option NodeId) → reparent_verdict t i parent ≡ Ok tt
    → Linked (reparent_tree t i.0 parent) (onto parent (part i.0 f) (remove i.0 f))
reparent_links t f L i parent e =
    let A = reparent_accepted t i parent e in
    reparent_under t f L i.0 (sym (live_has t f L i.0) ∙ A.is_live_lem) parent A.parent_live_lem A.not_below
