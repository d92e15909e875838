-- The test of soundness is exact: on tables of their right lengths it passes if and only if document 01's "Sound tree" holds.
use mathlib.Core.Path.{◌≡◌, refl, sym, ap, ◌∙◌}
use mathlib.Core.Bool.{Bool, true, false, not, ◌&&◌, ◌||◌, cond}
use mathlib.Core.List.{List, [], ◌∷◌}
use Prim.Native.Nat.{ℕ, ◌+◌, ◌≤◌, ◌<◌}
use native.Mathlib.Omega.{arith}
use native.Mathlib.Decide.{dec_lt, ℕ_discrete}
use borrow.Author.Tests.{eq-eqb, ne_eqb, lt-ltb, le-ltb, ltb-true}
use lib.Dec.{eqb, ltb, leb}
use lib.ListN.{length, take, length-take}
use Rattle.index_types.specs.Slots.{entry}
use Rattle.counting.specs.Times.{tally, times, every}
use Rattle.counting.specs.Lists.{Tells, once_below}
use Rattle.counting.proofs.Counting.{hit, miss}
use Rattle.counting.proofs.Kit.{contra, both, at_most, less, equal, every_tells, through}
use Rattle.counting.proofs.Words.{OnceBelow, once_below_tells}
use Rattle.link_forest.specs.Forest.{Forest, pre, dep}
use Rattle.link_forest.specs.Table.{depths_from}
use Rattle.link_forest.proofs.Shape.{shape_exact}
use Rattle.index_sound.specs.Sound.{SoundOf, sound_of}
use Rattle.index_sound.proofs.Exact as index
use Rattle.geometry.specs.Rectangle.{rect_eq}
use Rattle.geometry_clips.specs.Clips.{constructed}
use Rattle.geometry_clips.proofs.constructed.Constructed.{as_constructed_lem}
use Rattle.index_types.specs.declared.NodeId.{NodeId}
use Rattle.tree_types.specs.Local.{finite_local, known, empty_rect}
use Rattle.tree_state.specs.declared.Tree.{Tree}
use Rattle.tree_state.specs.Tree as tree
use Rattle.tree_state.specs.Tree.{live_slots, is_live, local_at, clip_of, marked_at, transform_changed_at, clip_changed_at, committed_at, key_at, stored_bounds, stored_hit_bounds, entry_mark, is_removed}
use Rattle.tree_state.specs.Sound.{Live, Owns, Uncommitted, SoundTree, every_of, slots_right, values_right, marks_right, same_id, owns_right, new_right, node_right, owner_of, owned_right, entry_right, counts_right, sound_tree, removed_entries, committed_nodes}
use Rattle.tree_sound.specs.Parts.{Sized}
use Rattle.tree_sound.proofs.Lists.{live_by}

-- ---- more of the kit

itself : (b : Bool) → Tells b (b ≡ true)
itself b = ((λ h. h), (λ h. h))

cond_tells : {P Q : Type 0} (c a b : Bool) → Tells a P → Tells b Q → Tells (cond c a b) ((c ≡ true → P) × (c ≡ false → Q))
cond_tells true a b s t = ((λ e. ((λ _. s.0 e), (λ f. absurd (contra refl f)))), (λ p. s.1 (p.0 refl)))
cond_tells false a b s t = ((λ e. ((λ f. absurd (contra f refl)), (λ _. t.0 e))), (λ p. t.1 (p.1 refl)))

-- a || b || c: the third where the first two fail
past_two : {P : Type 0} (a b c : Bool) → Tells c P → Tells (a || b || c) (a ≡ false → b ≡ false → P)
past_two true b c t = ((λ _ f. absurd (contra refl f)), (λ _. refl))
past_two false true c t = ((λ _ _ f. absurd (contra refl f)), (λ _. refl))
past_two false false c t = ((λ e _ _. t.0 e), (λ h. t.1 (h refl refl)))

-- a mark where one of two changes is
marked_tells : (m a b : Bool) → Tells (m || not (a || b)) ((a ≡ true → m ≡ true) × (b ≡ true → m ≡ true))
marked_tells true a b = ((λ _. ((λ _. refl), (λ _. refl))), (λ _. refl))
marked_tells false true b = ((λ e. absurd (contra e refl)), (λ p. p.0 refl))
marked_tells false false true = ((λ e. absurd (contra e refl)), (λ p. p.1 refl))
marked_tells false false false = ((λ _. ((λ e. e), (λ e. e))), (λ _. refl))

-- a test of each slot of a list
every_of_tells : (p : ℕ → Bool) (P : ℕ → Type 0) → ((x : ℕ) → Tells (p x) (P x)) → (l : List ℕ) → Tells (every_of p l) ((x : ℕ) → 1 ≤ times x l → P x)
unfolding every_of times
every_of_tells p P t [] = ((λ _ x h. absurd (omega arith)), (λ _. refl))
every_of_tells p P t (y ∷ l) =
    let u = both (p y) (every_of p l) (t y) (every_of_tells p P t l) in (
      (λ e x h. elim (ℕ_discrete x y) [ yes q ↦ rw q (u.0 e).0 | no n ↦ (u.0 e).1 x (omega (arith, miss x y n)) ]),
      (λ h. u.1 (h y (omega (arith, hit y)), λ x k. h x (omega arith))),
    )

-- ---- the slots

pub record SlotsOf (order : List ℕ) (n : ℕ) (free : List ℕ) (m used : ℕ) : Type 0 where
  pub used_fits : used ≤ 256
  pub count_fits : n ≤ 256
  pub free_fits : m ≤ 256
  pub once : (x : ℕ) → x < used → times x (take n order) + times x (take m free) ≡ 1
  pub beyond : (x : ℕ) → used ≤ x → times x (take n order) + times x (take m free) ≡ 0

module _ (order : List ℕ) (n : ℕ) (free : List ℕ) (m used : ℕ) (lo : length order ≡ 256) (lf : length free ≡ 256) where
  abbrev Share : ℕ → Type 0
  Share x = times x (take n order) + times x (take m free) ≡ tally (ltb x used)

  abbrev Shares : Type 0
  Shares = (used ≤ 256) × (OnceBelow 256 order n × (OnceBelow 256 free m × ((x : ℕ) → x < 256 → Share x)))

  shared : Shares → SlotsOf order n free m used
  shared p =
      let u = p.0 in
      record {
        used_fits = u;
        count_fits = p.1.0.fits;
        free_fits = p.1.1.0.fits;
        once = λ x h. p.1.1.1 x (omega arith) ∙ rw (lt-ltb x used h);
        beyond = λ x h. elim (dec_lt x 256) [
          | yes l ↦ p.1.1.1 x l ∙ rw (le-ltb x used h)
          | no g ↦ omega (arith, p.1.0.low x (omega arith), p.1.1.0.low x (omega arith))
        ];
      }

  shares : SlotsOf order n free m used → Shares
  shares S = (
    S.used_fits,
    (
      record { fits = S.count_fits; low = λ x g. omega (arith, past x g); once = λ x. omega (arith, most x) },
      (record { fits = S.free_fits; low = λ x g. omega (arith, past x g); once = λ x. omega (arith, most x) }, λ x _. at x),
    ),
  )
    where
      past : (x : ℕ) → 256 ≤ x → times x (take n order) + times x (take m free) ≡ 0
      past x g = let u = S.used_fits in S.beyond x (omega arith)

      most : (x : ℕ) → times x (take n order) + times x (take m free) ≤ 1
      most x = elim (dec_lt x used) [ yes l ↦ omega (arith, S.once x l) | no g ↦ omega (arith, S.beyond x (omega arith)) ]

      at : (x : ℕ) → Share x
      at x = elim (dec_lt x used) [ yes l ↦ S.once x l ∙ rw (lt-ltb x used l) | no g ↦ S.beyond x (omega arith) ∙ rw (le-ltb x used (omega arith)) ]

  pub slots_tells : Tells (slots_right order n free m used) (SlotsOf order n free m used)
  unfolding slots_right
  slots_tells =
      through shared shares
      (both (leb used 256) _ (at_most used 256)
      (both (once_below 256 order n) _ (once_below_tells 256 order n (omega arith))
      (both (once_below 256 free m) _ (once_below_tells 256 free m (omega arith))
      (every_tells 256 (λ x. eqb (times x (take n order) + times x (take m free)) (tally (ltb x used))) Share
      (λ x. equal (times x (take n order) + times x (take m free)) (tally (ltb x used)))))))

-- ---- one live node

same_id_lem : (i j : NodeId) → Tells (same_id i j) (i ≡ j)
same_id_lem i j =
    through (λ p. alike p.0 p.1) (λ e. (ap (λ (k : NodeId). k.0) e, ap (λ (k : NodeId). k.1) e))
    (both (eqb i.0 j.0) _ (equal i.0 j.0) (equal i.1 j.1))
  where
    alike : i.0 ≡ j.0 → i.1 ≡ j.1 → i ≡ j
    alike a b = let z : ◌≡◌ {A = NodeId} (record { 0 = i.0; 1 = i.1 }) (record { 0 = j.0; 1 = j.1 }) = rw (a, b) in z

module _ (t : Tree) where
  record NodeOf (x : ℕ) : Type 0 where
    finite : finite_local (local_at t x) ≡ true
    flags_known : known (local_at t x).flags ≡ true
    clips : constructed (clip_of t x) ≡ clip_of t x
    committed : committed_at t x ≡ true → Owns t x (key_at t x).0
    uncommitted : committed_at t x ≡ false → Uncommitted t x
    transform_marked : transform_changed_at t x ≡ true → marked_at t x ≡ true
    clip_marked : clip_changed_at t x ≡ true → marked_at t x ≡ true

  owns_tells : (x : ℕ) → Tells (owns_right t x (key_at t x).0) (Owns t x (key_at t x).0)
  owns_tells x =
      let k = (key_at t x).0 in
      through
      (λ p. record { slot = refl; is_entry = p.0; unmarked = p.1.0; under_key = p.1.1.0; carries = p.1.1.1 })
      (λ O. (O.is_entry, (O.unmarked, (O.under_key, O.carries))))
      (both (ltb k 512) _ (less k 512)
      (both (eqb (entry_mark t k) 1) _ (equal (entry_mark t k) 1)
      (both (eqb (entry t.index k).generation (key_at t x).1) _ (equal (entry t.index k).generation (key_at t x).1)
      (same_id_lem (entry t.index k).payload (tree.id_at t x)))))

  new_tells : (x : ℕ) → Tells (new_right t x) (Uncommitted t x)
  new_tells x =
      through
      (λ p. record { no_box = p.0; no_hit_box = p.1.0; in_transform = p.1.1.0; in_clip = p.1.1.1 })
      (λ N. (N.no_box, (N.no_hit_box, (N.in_transform, N.in_clip))))
      (both (rect_eq (stored_bounds t x) empty_rect) _ (itself (rect_eq (stored_bounds t x) empty_rect))
      (both (rect_eq (stored_hit_bounds t x) empty_rect) _ (itself (rect_eq (stored_hit_bounds t x) empty_rect))
      (both (transform_changed_at t x) _ (itself (transform_changed_at t x)) (itself (clip_changed_at t x)))))

  node_tells : (x : ℕ) → Tells (node_right t x) (NodeOf x)
  unfolding node_right
  node_tells x =
      through
      (λ p. record {
        finite = p.0.0;
        flags_known = p.0.1.0;
        clips = p.0.1.1;
        committed = p.1.1.0;
        uncommitted = p.1.1.1;
        transform_marked = p.1.0.0;
        clip_marked = p.1.0.1;
      })
      (λ N. ((N.finite, (N.flags_known, N.clips)), ((N.transform_marked, N.clip_marked), (N.committed, N.uncommitted))))
      (both (values_right t x) _
      (both (finite_local (local_at t x)) _ (itself (finite_local (local_at t x)))
      (both (known (local_at t x).flags) _ (itself (known (local_at t x).flags)) (as_constructed_lem (clip_of t x))))
      (both (marks_right t x) _ (marked_tells (marked_at t x) (transform_changed_at t x) (clip_changed_at t x))
      (cond_tells (committed_at t x) (owns_right t x (key_at t x).0) (new_right t x) (owns_tells x) (new_tells x))))

  -- ---- one entry

  abbrev Owned : ℕ → Type 0
  Owned k = (entry_mark t k ≡ 1) × (Live t (owner_of t k) × ((committed_at t (owner_of t k) ≡ true) × ((key_at t (owner_of t k)).0 ≡ k)))

  abbrev EntryOf : ℕ → Type 0
  EntryOf k = eqb (entry_mark t k) 0 ≡ false → is_removed (entry_mark t k) ≡ false → Owned k

  entry_tells : (k : ℕ) → Tells (entry_right t k) (EntryOf k)
  unfolding entry_right
  entry_tells k =
      let o = owner_of t k in
      past_two (eqb (entry_mark t k) 0) (is_removed (entry_mark t k)) (eqb (entry_mark t k) 1 && owned_right t k)
      (both (eqb (entry_mark t k) 1) _ (equal (entry_mark t k) 1)
      (both (is_live t o) _ (itself (is_live t o))
      (both (committed_at t o) _ (itself (committed_at t o)) (equal (key_at t o).0 k))))

  counts_tells : Tells (counts_right t) ((t.pending.count ≤ removed_entries t) × (removed_entries t + committed_nodes t ≤ 256))
  unfolding counts_right
  counts_tells = both (leb t.pending.count (removed_entries t)) _ (at_most t.pending.count (removed_entries t)) (at_most (removed_entries t + committed_nodes t) 256)

-- ---- the tree

module _ (t : Tree) (s : Sized t) where
  abbrev Table : Type 0
  Table = (f : Forest) × (pre f ≡ live_slots t) × (dep 1 f ≡ take t.links.count t.links.depth)

  abbrev Parts : Type 0
  Parts =
      SlotsOf t.links.order t.links.count t.slots.free t.slots.frees t.slots.used
      × (Table
      × (SoundOf t.index.entries t.index.free t.index.frees t.index.dirty t.index.queued t.index.used
      × (((x : ℕ) → 1 ≤ times x (live_slots t) → NodeOf t x)
      × (((k : ℕ) → k < 512 → EntryOf t k) × ((t.pending.count ≤ removed_entries t) × (removed_entries t + committed_nodes t ≤ 256))))))

  module _ (fits : t.links.count ≤ 256) where
    pub live_is : (x : ℕ) → is_live t x ≡ ltb 0 (times x (live_slots t))
    live_is x = let e = s.order in live_by x t.links.order t.links.count (omega arith)

    pub listed : (x : ℕ) → Live t x → 1 ≤ times x (live_slots t)
    listed x h = omega (arith, ltb-true 0 (times x (live_slots t)) (sym (live_is x) ∙ h))

    pub live : (x : ℕ) → 1 ≤ times x (live_slots t) → Live t x
    live x h = live_is x ∙ lt-ltb 0 (times x (live_slots t)) (omega arith)

  gather : Parts → SoundTree t
  gather p =
      record {
        used_fits = p.0.used_fits;
        count_fits = p.0.count_fits;
        free_fits = p.0.free_fits;
        pending_fits = omega (arith, p.1.1.1.1.1.0, p.1.1.1.1.1.1);
        links = let F = p.1.0 in (F.0, sym F.1, sym F.2);
        once = p.0.once;
        beyond = p.0.beyond;
        finite = λ x h. (node x h).finite;
        flags_known = λ x h. (node x h).flags_known;
        clips = λ x h. (node x h).clips;
        committed = λ x h. (node x h).committed;
        uncommitted = λ x h. (node x h).uncommitted;
        transform_marked = λ x h. (node x h).transform_marked;
        clip_marked = λ x h. (node x h).clip_marked;
        pending = p.1.1.1.1.1.0;
        few = p.1.1.1.1.1.1;
        owned = owner;
        index = p.1.1.0;
      }
    where
      node : (x : ℕ) → Live t x → NodeOf t x
      node x h = p.1.1.1.0 x (listed p.0.count_fits x h)

      owner : (k : ℕ) → k < 512 → (entry_mark t k ≡ 0 → ⊥) → is_removed (entry_mark t k) ≡ false → (x : ℕ) × Live t x × (committed_at t x ≡ true) × Owns t x k
      owner k h n r =
          let E = p.1.1.1.1.0 k h (ne_eqb (entry_mark t k) 0 n) r in
          let x = owner_of t k in
          (x, E.1.0, E.1.1.0, rw E.1.1.1 at ((node x E.1.0).committed E.1.1.0))

  spread : SoundTree t → Parts
  spread S = (
    record { used_fits = S.used_fits; count_fits = S.count_fits; free_fits = S.free_fits; once = S.once; beyond = S.beyond },
    (
      (S.links.0, sym S.links.1, sym S.links.2),
      (S.index, ((λ x h. node x (live S.count_fits x h)), (entry, (S.pending, S.few)))),
    ),
  )
    where
      node : (x : ℕ) → Live t x → NodeOf t x
      node x h =
          record {
            finite = S.finite x h;
            flags_known = S.flags_known x h;
            clips = S.clips x h;
            committed = S.committed x h;
            uncommitted = S.uncommitted x h;
            transform_marked = S.transform_marked x h;
            clip_marked = S.clip_marked x h;
          }

      filled : (k : ℕ) → eqb (entry_mark t k) 0 ≡ false → entry_mark t k ≡ 0 → ⊥
      filled k n z = contra (eq-eqb (entry_mark t k) 0 z) n

      entry : (k : ℕ) → k < 512 → EntryOf t k
      entry k h n r =
          let O = S.owned k h (filled k n) r in
          let e : O.0 ≡ owner_of t k = sym (ap (λ (i : NodeId). i.0) O.3.carries) in
          (O.3.unmarked, (rw e at O.1, (rw e at O.2, rw e at O.3.slot)))

  -- exact, in both directions
  pub decides : Tells (sound_tree t) (SoundTree t)
  unfolding sound_tree
  decides =
      let L = t.links in
      let X = t.index in
      let len : length (live_slots t) ≡ length (take L.count L.depth) = simp length-take (rw (s.order, s.depth)) in
      through gather spread
      (both (slots_right L.order L.count t.slots.free t.slots.frees t.slots.used) _
      (slots_tells L.order L.count t.slots.free t.slots.frees t.slots.used s.order s.free)
      (both (depths_from 0 (take L.count L.depth)) _ (shape_exact (live_slots t) (take L.count L.depth) len)
      (both (sound_of X.entries X.free X.frees X.dirty X.queued X.used) _
      (index.decides X.entries X.free X.frees X.dirty X.queued X.used s.entries s.entries_free s.dirty)
      (both (every_of (node_right t) (live_slots t)) _ (every_of_tells (node_right t) (NodeOf t) (node_tells t) (live_slots t))
      (both (every 512 (entry_right t)) _ (every_tells 512 (entry_right t) (EntryOf t) (entry_tells t)) (counts_tells t))))))

  -- a live slot is one of the tables'
  pub live_low : SoundTree t → (x : ℕ) → Live t x → x < 256
  live_low S x h =
      elim (dec_lt x t.slots.used) [
        | yes l ↦ omega (arith, S.used_fits)
        | no g ↦ absurd (omega (arith, listed S.count_fits x h, S.beyond x (omega arith)))
      ]
