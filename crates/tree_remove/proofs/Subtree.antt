-- The nodes of a sound tree's subtree can go, one after the other.
use Rattle.std.specs.Prelude.{Ok}
use Rattle.std.proofs.Common.{◌≡◌, refl, sym, ap, subst, ◌∙◌, Bool, true, false, List, [], ◌∷◌, ◌++◌, ℕ, ◌+◌, ◌≤◌, ◌<◌, length, length-set, take, drop, ◌-◌, arith}
use Rattle.std.proofs.Math.Seq.{take_at}
use Rattle.counting.specs.Times.{tally, times}
use Rattle.counting.proofs.Counting.{hit}
use Rattle.geometry.specs.Rectangle.{has_area}
use Rattle.index_types.specs.declared.NodeId.{NodeId}
use Rattle.link_forest.specs.Forest.{Forest, has}
use Rattle.link_table.specs.Links.{in_front, between, post_order, end_of, cut_tree}
use Rattle.link_table.specs.declared.Links.{Links}
use Rattle.link_table.proofs.Steps.{length_part, length_post}
use Rattle.index_types.specs.declared.Slot.{Slot}
use Rattle.index_types.specs.declared.Index.{Index}
use Rattle.index_sound.specs.Sound.{CountOf, Shaped}
use Rattle.index_sound.proofs.Exact.{counted}
use Rattle.index_entries.specs.Entries.{Removes}
use Rattle.index_entries.proofs.Fits as fits
use Rattle.tree_state.specs.declared.Tree.{Tree}
use Rattle.tree_state.specs.Tree.{stored_bounds, committed_at, key_at, position_of, Verdict}
use Rattle.tree_state.specs.Sound.{SoundTree, count_of}
use Rattle.tree_state.specs.Whole.{Whole}
use Rattle.tree_steps.specs.Structure.{remove_node, remove_entry, remove_all, remove_tree, with_links, subtree_at}
use Rattle.tree_steps.specs.Setters.{of_node, tree_if}
use Rattle.tree_verdicts.specs.Held.{Node}
use Rattle.tree_laws.proofs.Ground.{Linked, linked, live_has, low, subtree_post}
use Rattle.plan.specs.Lists.{joined}
use Rattle.plan.specs.Plan.{numbers}
use Rattle.agreement.specs.Read.{entry_if}
use Rattle.tree_invariant.specs.remove.Removals.{Plain}
use Rattle.tree_invariant.proofs.remove.Entries.{first_low_lem, first_unmarked, plain_next, keep_keys, remove_one, queue_length}
use Rattle.tree_invariant.proofs.remove.Fold.{push_count, pending_count, gone_keys}
use Rattle.tree_invariant.proofs.remove.Keep as keep
use Rattle.tree_remove.specs.Remove.{Goes, Removals}

-- there is room for all of them, and the committed ones own entries without a mark, none twice, in a sound index
pub record Ready (t : Tree) (xs : List ℕ) : Type 0 where
  pub low : (y : ℕ) → 1 ≤ times y xs → y < 256
  pub room : t.slots.frees + length xs ≤ 256
  pub pending_room : t.pending.count + count_of (λ y. has_area (stored_bounds t y)) xs ≤ 256
  pub plain : Plain t.index.entries (gone_keys t xs)
  pub shaped : Shaped t.index
  pub counts : CountOf t.index.entries t.index.free t.index.frees t.index.dirty t.index.queued t.index.used

-- ---- one entry

plain_first : (entries : List Slot) (k : ℕ) (ks : List ℕ) → Plain entries (k ∷ ks) → Plain entries (k ∷ [])
unfolding times
plain_first entries k ks P =
    record {
      low = λ j h. P.low j (omega arith);
      unmarked = λ j h. P.unmarked j (omega arith);
      once = λ j. omega (arith, P.once j);
    }

module _ (ix : Index) (S : Shaped ix) (C : CountOf ix.entries ix.free ix.frees ix.dirty ix.queued ix.used) (k : ℕ) (ks : List ℕ) where
  entry_room : (b : Bool) → Plain ix.entries (numbers (entry_if b k) ++ ks) → b ≡ true → Removes ix k
  entry_room true P h =
      let u = first_unmarked ix.entries k ks P in
      fits.removes ix S C k (first_low_lem ix.entries k ks P) (λ z. omega (arith, u, z))
  entry_room false P h = let z : ◌≡◌ {A = ℕ} 0 1 = cc in absurd (omega arith)

  plain_left : (b : Bool) → Plain ix.entries (numbers (entry_if b k) ++ ks) → Plain (remove_entry b ix k).entries ks
  plain_left true P = subst (λ (r : Index). Plain r.entries ks) (sym (remove_one ix k (first_unmarked ix.entries k ks P))) (plain_next ix.entries k ks P)
  plain_left false P = P

  shaped_left : (b : Bool) → Plain ix.entries (numbers (entry_if b k) ++ ks) → Shaped (remove_entry b ix k)
  shaped_left true P =
      rw (remove_one ix k (first_unmarked ix.entries k ks P))
      (record { entries_whole = length-set ix.entries k _ ∙ S.entries_whole; free_whole = S.free_whole; dirty_whole = queue_length ix.dirty ix.queued (k ∷ []) ∙ S.dirty_whole })
  shaped_left false P = S

  counts_left : (b : Bool) → Plain ix.entries (numbers (entry_if b k) ++ ks)
      → let r = remove_entry b ix k in CountOf r.entries r.free r.frees r.dirty r.queued r.used
  counts_left true P =
      subst (λ (r : Index). CountOf r.entries r.free r.frees r.dirty r.queued r.used) (sym (remove_one ix k (first_unmarked ix.entries k ks P)))
      (keep_keys ix.free ix.frees ix.used S.free_whole ix.entries ix.dirty ix.queued (k ∷ []) S.entries_whole S.dirty_whole (plain_first ix.entries k ks P) C)
  counts_left false P = C

-- ---- the next node

module _ (t : Tree) (x : ℕ) (xs : List ℕ) (R : Ready t (x ∷ xs)) where
  plain_here : Plain t.index.entries (numbers (entry_if (committed_at t x) (key_at t x).0) ++ gone_keys t xs)
  unfolding joined
  plain_here = R.plain

  goes : Goes t x
  unfolding times count_of
  goes =
      record {
        low = R.low x (omega (arith, hit x));
        room = omega (arith, R.room);
        pending_room = λ h. let o : tally (has_area (stored_bounds t x)) ≡ 1 = rw h in omega (arith, R.pending_room);
        entry = entry_room t.index R.shaped R.counts (key_at t x).0 (gone_keys t xs) (committed_at t x) plain_here;
      }

  ready_next : Ready (remove_node t x) xs
  unfolding times count_of
  ready_next =
      let k = (key_at t x).0 in
      let ks = gone_keys t xs in
      let b = committed_at t x in
      let count = push_count (has_area (stored_bounds t x)) t.pending (stored_bounds t x) in
      record {
        low = λ y n. R.low y (omega arith);
        room = omega (arith, R.room);
        pending_room = omega (arith, R.pending_room, count);
        plain = plain_left t.index R.shaped R.counts k ks b plain_here;
        shaped = shaped_left t.index R.shaped R.counts k ks b plain_here;
        counts = counts_left t.index R.shaped R.counts k ks b plain_here;
      }

pub removals : (t : Tree) (xs : List ℕ) → Ready t xs → Removals t xs
unfolding Removals
removals t [] R = tt
removals t (x ∷ xs) R = (goes t x xs R, removals (remove_node t x) xs (ready_next t x xs R))

-- ---- a subtree of a sound tree

module _ (t : Tree) (w : Whole t) (S : SoundTree t) (f : Forest) (L : Linked t f) (x : ℕ) (h : has x f ≡ true) where
  pub subtree_goes : Removals t (keep.gone t w S f L x h)
  subtree_goes =
      removals t (keep.gone t w S f L x h)
      (record {
        low = λ y n. low t f L y (keep.gone_has t w S f L x h y n);
        room = keep.room t w S f L x h;
        pending_room = omega (arith, pending_count (stored_bounds t) t.pending (keep.gone t w S f L x h), (keep.sound_after t w S f L x h).pending_fits);
        plain = keep.plain t w S f L x h;
        shaped = record { entries_whole = w.index.entries; free_whole = w.index.free; dirty_whole = w.index.dirty };
        counts = counted t.index.entries t.index.free t.index.frees t.index.dirty t.index.queued t.index.used w.index.entries w.index.free w.index.dirty S.index;
      })

-- ---- the call: the slots that go stand in front of the room

pub links_stay : (t : Tree) (xs : List ℕ) → (remove_all t xs).links ≡ t.links
unfolding remove_all
links_stay t [] = refl
links_stay t (x ∷ xs) = links_stay (remove_node t x) xs

module _ (t : Tree) (i : NodeId) (N : Node t i) (at end : ℕ) (is_at : at ≡ position_of t i.0) (is_end : end ≡ end_of t.links at) (from : at < end) (to : end ≤ t.links.count)
    (gone room : List ℕ) (posted : gone ≡ in_front (post_order t.links at end) room) where
  abbrev w : Whole t
  w = N.held.whole

  abbrev F : (f : Forest) × Linked t f
  F = linked t w N.held.sound

  there : has i.0 F.0 ≡ true
  there = sym (live_has t F.0 F.1 i.0) ∙ N.is_live_lem

  post_long : length (post_order t.links at end) ≡ end - at
  post_long =
      let order = length_part at end t.links.order (omega arith) (omega (arith, w.links.order, N.held.count_fits)) in
      let depth = length_part at end t.links.depth (omega arith) (omega (arith, w.links.depth, N.held.count_fits)) in
      length_post (between at end t.links.order) (between at end t.links.depth) (order ∙ sym depth) ∙ order

  -- the subtree's, children first
  pub listed : take (end - at) gone ≡ subtree_at t.links (position_of t i.0)
  listed =
      ap (take (end - at)) posted
      ∙ take_at (post_order t.links at end) (drop (length (post_order t.links at end)) room) (end - at) post_long
      ∙ ap (post_order t.links at) is_end
      ∙ ap (subtree_at t.links) is_at

  pub all_go : Removals t (take (end - at) gone)
  all_go =
      subst (Removals t) (sym (listed ∙ subtree_post t F.0 F.1 i.0 there)) (subtree_goes t w N.held.sound F.0 F.1 i.0 there)

  module _ (R : Tree) (e : R ≡ remove_all t (take (end - at) gone)) where
    stay : R.links ≡ t.links
    stay = ap (λ (u : Tree). u.links) e ∙ links_stay t (take (end - at) gone)

    pub cut_fits : (at < R.links.count) × (R.links.count ≤ 256)
    cut_fits = rw stay (omega (arith, from, to), N.held.count_fits)

    pub left : (L : Links) → L ≡ cut_tree R.links at → of_node t i ≡ Ok tt → with_links R L ≡ tree_if (of_node t i) (remove_tree t (position_of t i.0)) t
    unfolding remove_tree
    left L f v =
        let x = position_of t i.0 in
        ap (with_links R) (f ∙ ap (λ (l : Links). cut_tree l at) stay ∙ ap (cut_tree t.links) is_at)
        ∙ ap (λ (u : Tree). with_links u (cut_tree t.links x)) (e ∙ ap (remove_all t) listed)
        ∙ sym (ap (λ (w : Verdict). tree_if w (with_links (remove_all t (subtree_at t.links x)) (cut_tree t.links x)) t) v)
