-- What removing a list of nodes, one after the other, leaves of the tree's record, part by part.
use mathlib.Core.Path.{◌≡◌, refl, sym, ap, ◌∙◌}
use mathlib.Core.Bool.{Bool, true, false}
use mathlib.Core.List.{List, [], ◌∷◌, ◌++◌}
use Prim.Native.Nat.{ℕ, suc, ◌+◌}
use native.Mathlib.Numerals.{add-one}
use native.Mathlib.Omega.{arith}
use lib.ListN.{length, length-set}
use lib.Seq.{sets}
use lib.Ieee.{lt}
use Rattle.numbers.specs.Rounded.{zero}
use Rattle.numbers.proofs.Order.{lt_alike, lt_alike_right}
use Rattle.counting.specs.Times.{tally}
use Rattle.counting.proofs.Kit.{contra}
use Rattle.geometry.specs.declared.rect.Rect.{Rect}
use Rattle.geometry.specs.Rectangle.{has_area, rect_eq}
use Rattle.geometry.proofs.Records.{rect_edges, area_tells}
use Rattle.tree_types.specs.Local.{empty_rect}
use Rattle.link_table.specs.declared.Links.{Links}
use Rattle.index_types.specs.declared.Index.{Index}
use Rattle.tree_state.specs.declared.Slots.{Slots}
use Rattle.tree_state.specs.declared.Pending.{Pending}
use Rattle.tree_state.specs.declared.Tree.{Tree}
use Rattle.tree_state.specs.Tree.{committed_at, key_at, stored_bounds}
use Rattle.tree_state.specs.Sound.{count_of}
use Rattle.tree_steps.specs.Structure.{push_rect, remove_entry, free_slot, remove_node, remove_all, with_links}
use Rattle.plan.specs.Lists.{joined}
use Rattle.plan.specs.Plan.{numbers}
use Rattle.agreement.specs.Read.{entry_if}
use Rattle.tree_invariant.specs.remove.Removals.{pending_all, Plain, keys_of}
use Rattle.tree_invariant.proofs.remove.Entries.{remove_keys, without_keys, remove_keys_lem}

-- ---- slots

abbrev free_all : Slots → List ℕ → Slots
free_all s [] = s
free_all s (x ∷ xs) = free_all (free_slot s x) xs

-- the freed slots come behind the free ones
abbrev pub freed : Slots → List ℕ → Slots
freed s xs = record { generation = s.generation; used = s.used; free = sets s.free s.frees xs; frees = s.frees + length xs }

free_all_lem : (s : Slots) (xs : List ℕ) → free_all s xs ≡ freed s xs
free_all_lem s [] = let e : s.frees + 0 ≡ s.frees = omega arith in rw e
free_all_lem s (x ∷ xs) =
    let e : s.frees + 1 + length xs ≡ s.frees + suc (length xs) = omega arith in
    free_all_lem (free_slot s x) xs ∙ rw (e, add-one s.frees)

-- ---- pending rectangles

push_length : (b : Bool) (p : Pending) (r : Rect) → length (push_rect b p r).rects ≡ length p.rects
push_length true p r = length-set p.rects p.count r
push_length false p r = refl

pub push_count : (b : Bool) (p : Pending) (r : Rect) → (push_rect b p r).count ≡ p.count + tally b
push_count true p r = refl
push_count false p r = omega arith

module _ (bounds : ℕ → Rect) where
  pub pending_length : (p : Pending) (xs : List ℕ) → length (pending_all bounds p xs).rects ≡ length p.rects
  pending_length p [] = refl
  pending_length p (x ∷ xs) =
      pending_length (push_rect (has_area (bounds x)) p (bounds x)) xs ∙ push_length (has_area (bounds x)) p (bounds x)

  pub pending_count : (p : Pending) (xs : List ℕ) → (pending_all bounds p xs).count ≡ p.count + count_of (λ y. has_area (bounds y)) xs
  unfolding count_of
  pending_count p [] = omega arith
  pending_count p (x ∷ xs) =
      omega (arith, pending_count (push_rect (has_area (bounds x)) p (bounds x)) xs, push_count (has_area (bounds x)) p (bounds x))

-- a box that equals the zero box as numbers has no area
not_below : lt zero zero ≡ false
unfolding lt
not_below = refl

pub no_area : (r : Rect) → rect_eq r empty_rect ≡ true → has_area r ≡ true → ⊥
no_area r e h =
    let E = rect_edges r empty_rect e in
    contra (sym (lt_alike r.x0 zero r.x1 E.first ∙ lt_alike_right r.x1 zero zero E.third) ∙ (area_tells r h).x_rises) not_below

-- ---- entries

abbrev entries_all : (ℕ → Bool) → (ℕ → ℕ) → Index → List ℕ → Index
entries_all c s ix [] = ix
entries_all c s ix (x ∷ xs) = entries_all c s (remove_entry (c x) ix (s x)) xs

entries_all_lem : (c : ℕ → Bool) (s : ℕ → ℕ) (ix : Index) (xs : List ℕ) → entries_all c s ix xs ≡ remove_keys ix (keys_of c s xs)
unfolding joined
entries_all_lem c s ix [] = refl
entries_all_lem c s ix (x ∷ xs) = entries_all_lem c s (remove_entry (c x) ix (s x)) xs ∙ at (c x)
  where
    at : (b : Bool) → remove_keys (remove_entry b ix (s x)) (keys_of c s xs) ≡ remove_keys ix (numbers (entry_if b (s x)) ++ keys_of c s xs)
    at true = refl
    at false = refl

-- ---- the tree

-- the keys of the committed ones
abbrev pub gone_keys : Tree → List ℕ → List ℕ
gone_keys t gone = keys_of (committed_at t) (λ y. (key_at t y).0) gone

-- slots freed, boxes pending, entries removed, and other links
abbrev made : Tree → Links → List ℕ → Slots → Index → Tree
made t l gone s ix =
    record {
      slots = s;
      links = l;
      locals = t.locals;
      worlds = t.worlds;
      marks = t.marks;
      keys = t.keys;
      pending = pending_all (stored_bounds t) t.pending gone;
      index = ix;
    }

abbrev pub left : Tree → Links → List ℕ → Tree
left t l gone = made t l gone (freed t.slots gone) (without_keys t.index (gone_keys t gone))

walked : (t : Tree) (gone : List ℕ)
    → remove_all t gone ≡ made t t.links gone (free_all t.slots gone) (entries_all (committed_at t) (λ y. (key_at t y).0) t.index gone)
unfolding remove_all
walked t [] = refl
walked t (x ∷ gone) = walked (remove_node t x) gone

pub removes : (t : Tree) (l : Links) (gone : List ℕ) → Plain t.index.entries (gone_keys t gone) → with_links (remove_all t gone) l ≡ left t l gone
removes t l gone P =
    ap (λ (u : Tree). with_links u l) (walked t gone)
    ∙ ap (λ (s : Slots). made t l gone s (entries_all (committed_at t) (λ y. (key_at t y).0) t.index gone)) (free_all_lem t.slots gone)
    ∙ ap (λ (ix : Index). made t l gone (freed t.slots gone) ix)
    (entries_all_lem (committed_at t) (λ y. (key_at t y).0) t.index gone ∙ remove_keys_lem t.index (gone_keys t gone) P)
