-- Two arrays and a count as the table of a forest: what is read from them, and that every change keeps it so.
use mathlib.Core.Path.{◌≡◌, refl, sym, ap, ap₂, subst, ◌∙◌}
use mathlib.Core.Bool.{true, false, ◌&&◌}
use mathlib.Core.List.{List, [], ◌∷◌, ◌++◌, map, append-nil, reverse}
use Prim.Native.Nat.{ℕ, ◌+◌, ◌-◌, ◌≤◌, ◌<◌}
use native.Mathlib.Numerals.{add-one}
use native.Mathlib.Omega.{arith}
use lib.Dec.{leb, ltb}
use lib.ListN.{length, take, drop, get_or, drop_of_length-le}
use lib.Seq.{take-take, take_all, get_or-take, length-take-le}
use Rattle.counting.specs.Times.{times}
use Rattle.counting.specs.Lists.{Tells}
use Rattle.link_forest.specs.Forest.{Forest, none, leaf, pre, post, dep, has, count, Distinct, cat, under, remove, above, part, children, depth}
use Rattle.link_forest.specs.Sound.{Rep}
use Rattle.link_forest.specs.Table.{seg_end, index_of, last_above, less_deep, at_depth, post_of, rebased, depths_from, insert_all, cut_out}
use Rattle.link_forest.specs.Walk.{next, prev}
use Rattle.link_forest.proofs.Counting.{count_pre}
use Rattle.link_forest.proofs.Lists.{middle_take}
use Rattle.link_forest.proofs.Whole.{length_dep, pre_cat, dep_cat, dep_low, dep_high, rebased_dep, post_law, children_law}
use Rattle.link_forest.proofs.Laws.{place, end, slot_has, place_slot, slot_at, depth_small, segment_deep, there_place, missing_place, depth_at_lem, end_at, end_after, end_within, segment, segment_depths, parent_at_lem, ancestors_at, pre_under, dep_under, pre_remove, dep_remove, within_below, below_test}
use Rattle.link_forest.proofs.Shape.{shape_exact, same_forest}
use Rattle.link_forest.proofs.Walk.{next_low, next_root, next_last, prev_low, prev_root}
use Rattle.link_forest.proofs.Arrays.{take_insert_all, length_insert_all, take_cut_out, length_cut_out}

-- p stands at the place i
pub record At (slots : List ℕ) (n p i : ℕ) : Type 0 where
  pub found : i ≡ index_of p (take n slots)
  pub inside : i < n

-- and its segment ends at e
pub record Segment (slots depths : List ℕ) (n p i e : ℕ) : Type 0 where
  pub at : At slots n p i
  pub ends : e ≡ seg_end (take n depths) i

-- ---- the test of the depths tells whether there is such a forest; there is one at most
pub rep_exact : (slots depths : List ℕ) (n : ℕ) → n ≤ 256 → length slots ≡ 256 → length depths ≡ 256 → Tells (depths_from 0 (take n depths)) ((f : Forest) × Rep slots depths n f)
rep_exact slots depths n small size dsize =
    let l : length (take n slots) ≡ n = length-take-le n slots (omega arith) in
    let m : length (take n depths) ≡ n = length-take-le n depths (omega arith) in
    let T = shape_exact (take n slots) (take n depths) (l ∙ sym m) in (
      λ h. let F = T.0 h in (F.0, record { counted = sym l ∙ ap length (sym F.1); order = sym F.1; depth = sym F.2; small = small; sizes = (size, dsize) }),
      λ F. T.1 (F.0, sym F.1.order, sym F.1.depth),
    )

pub rep_same : {slots depths : List ℕ} {n : ℕ} {f g : Forest} → Rep slots depths n f → Rep slots depths n g → f ≡ g
rep_same {f = f} {g = g} R S = same_forest f g (sym R.order ∙ S.order) (sym R.depth ∙ S.depth)

pub rep_empty : (slots depths : List ℕ) → length slots ≡ 256 → length depths ≡ 256 → Rep slots depths 0 none
unfolding pre dep
rep_empty slots depths size dsize = record { counted = refl; order = refl; depth = refl; small = omega arith; sizes = (size, dsize) }

module _ {slots depths : List ℕ} {n : ℕ} {f : Forest} (R : Rep slots depths n f) where
  pub rep_times : (x : ℕ) → times x (take n slots) ≡ count x f
  rep_times x = ap (times x) R.order ∙ count_pre x f

  pub rep_missing : (p i : ℕ) → i ≡ index_of p (take n slots) → n ≤ i → has p f ≡ false
  rep_missing p i is h = missing_place p f (rw (← R.counted, ← R.order, ← is) h)

  -- ---- of any place
  slot_near : (j : ℕ) → j < n → get_or slots j 0 ≡ get_or (pre f) j 0
  slot_near j h = sym (get_or-take n slots j 0 h) ∙ ap (λ (l : List ℕ). get_or l j 0) R.order

  depth_near : (j : ℕ) → j < n → get_or depths j 0 ≡ get_or (dep 1 f) j 0
  depth_near j h = sym (get_or-take n depths j 0 h) ∙ ap (λ (l : List ℕ). get_or l j 0) R.depth

  pub rep_slot_has : (j : ℕ) → j < n → has (get_or slots j 0) f ≡ true
  rep_slot_has j h = rw (slot_near j h) (slot_has f j (omega (arith, R.counted)))

  -- each slot stands at the place where it is read
  pub rep_slot_at : Distinct f → (j : ℕ) → j < n → At slots n (get_or slots j 0) j
  rep_slot_at o j h =
      record {
        found = rw (slot_near j h, R.order) (sym (place_slot f o j (omega (arith, R.counted))));
        inside = h;
      }

  pub rep_depth_between : (j : ℕ) → j < n → (1 ≤ get_or depths j 0) × (get_or depths j 0 ≤ n)
  rep_depth_between j h =
      let l : j < length (pre f) = omega (arith, R.counted) in
      (rw (depth_near j h) (dep_low 1 f j l), omega (arith, depth_near j h, dep_high 1 f j l, R.counted))

  -- ---- of a node at the place i
  module _ {p i : ℕ} (A : At slots n p i) where
    pub rep_has : has p f ≡ true
    rep_has = there_place p f (rw (← R.counted, ← R.order, ← A.found) A.inside)

    pub rep_place : i ≡ place p f
    rep_place = A.found ∙ ap (index_of p) R.order

    pub rep_depth : get_or depths i 0 ≡ depth p f
    rep_depth = depth_near i A.inside ∙ rw rep_place (depth_at_lem p f rep_has)

    pub rep_slot : get_or slots i 0 ≡ p
    rep_slot = slot_near i A.inside ∙ rw rep_place (slot_at p f rep_has)

    -- at most one more for each place before it
    pub rep_depth_small : get_or depths i 0 ≤ i + 1
    rep_depth_small = omega (arith, rep_depth, rep_place, depth_small p f rep_has)

    pub rep_parent : (a : ℕ) → last_above (get_or depths i 0) a (take i slots) (take i depths) ≡ get_or (above p f) 0 a
    rep_parent a =
        let w : i ≤ n = omega (arith, A.inside) in
        rw (rep_depth, ← take-take i n slots w, ← take-take i n depths w, R.order, R.depth, rep_place) (parent_at_lem p f rep_has a)

    pub rep_ancestors : less_deep (get_or depths i 0) (reverse (take i slots)) (reverse (take i depths)) ≡ above p f
    rep_ancestors =
        let w : i ≤ n = omega (arith, A.inside) in
        rw (rep_depth, ← take-take i n slots w, ← take-take i n depths w, R.order, R.depth, rep_place) (ancestors_at p f rep_has)

    -- ---- its neighbours in the walk, or a
    depth_next : i + 1 < n → get_or depths (i + 1) 0 ≡ get_or (dep 1 f) (place p f + 1) 0
    depth_next h = depth_near (i + 1) h ∙ rw rep_place

    inner : i + 1 < n → place p f + 1 < length (pre f)
    inner h = omega (arith, rep_place, R.counted)

    module _ (o : Distinct f) (a : ℕ) where
      pub rep_next_low : i + 1 < n → (get_or depths (i + 1) 0 ≡ 1 → ⊥) → next a f p ≡ get_or slots (i + 1) 0
      rep_next_low h m = next_low f a o p rep_has (inner h) (λ e. m (depth_next h ∙ e)) ∙ rw (slot_near (i + 1) h, rep_place)

      pub rep_next_root : i + 1 < n → get_or depths (i + 1) 0 ≡ 1 → next a f p ≡ a
      rep_next_root h e = next_root f a o p rep_has (inner h) (sym (depth_next h) ∙ e)

      pub rep_next_last : n ≤ i + 1 → next a f p ≡ a
      rep_next_last h = next_last f a o p rep_has (omega (arith, rep_place, R.counted))

      pub rep_prev_low : (get_or depths i 0 ≡ 1 → ⊥) → prev a f p ≡ get_or slots (i - 1) 0
      rep_prev_low m = prev_low f a o p rep_has (λ e. m (rep_depth ∙ e)) ∙ rw (slot_near (i - 1) (omega (arith, A.inside)), rep_place)

      pub rep_prev_root : get_or depths i 0 ≡ 1 → prev a f p ≡ a
      rep_prev_root e = prev_root f a o p rep_has (sym rep_depth ∙ e)

  -- ys and zs put in at e
  rep_insert : (g : Forest) (e : ℕ) (ys zs : List ℕ) → e ≤ n → length zs ≡ length ys → n + length ys ≤ 256 → pre g ≡ take e (pre f) ++ (ys ++ drop e (pre f))
      → dep 1 g ≡ take e (dep 1 f) ++ (zs ++ drop e (dep 1 f)) → Rep (insert_all n e ys slots) (insert_all n e zs depths) (n + length ys) g
  rep_insert g e ys zs h even room is ds =
      let fits : n ≤ length slots = omega (arith, R.small, R.sizes.0) in
      let dfits : n ≤ length depths = omega (arith, R.small, R.sizes.1) in
      let size : length (insert_all n e ys slots) ≡ 256 = length_insert_all n e ys slots h fits (omega (arith, R.sizes.0)) ∙ R.sizes.0 in
      let dsize : length (insert_all n e zs depths) ≡ 256 = length_insert_all n e zs depths h dfits (omega (arith, R.sizes.1)) ∙ R.sizes.1 in
      let front : take (n + length ys) (insert_all n e ys slots) ≡ pre g = take_insert_all n e ys slots h fits ∙ rw R.order (sym is) in
      record {
        counted = sym (length-take-le (n + length ys) (insert_all n e ys slots) (rw size room)) ∙ ap length front;
        order = front;
        depth = rw (← even) (take_insert_all n e zs depths h dfits ∙ rw R.depth (sym ds));
        small = room;
        sizes = (size, dsize);
      }

  -- what stands from i up to e taken out
  rep_cut : (g : Forest) (i e : ℕ) → i ≤ e → e ≤ n → pre g ≡ take i (pre f) ++ drop e (pre f) → dep 1 g ≡ take i (dep 1 f) ++ drop e (dep 1 f)
      → Rep (cut_out n i e slots) (cut_out n i e depths) (i + (n - e)) g
  rep_cut g i e l h is ds =
      let fits : n ≤ length slots = omega (arith, R.small, R.sizes.0) in
      let dfits : n ≤ length depths = omega (arith, R.small, R.sizes.1) in
      let size : length (cut_out n i e slots) ≡ 256 = length_cut_out n i e slots l h fits ∙ R.sizes.0 in
      let dsize : length (cut_out n i e depths) ≡ 256 = length_cut_out n i e depths l h dfits ∙ R.sizes.1 in
      let room : i + (n - e) ≤ 256 = omega (arith, R.small) in
      let front : take (i + (n - e)) (cut_out n i e slots) ≡ pre g = take_cut_out n i e slots l h fits ∙ rw R.order (sym is) in
      record {
        counted = sym (length-take-le (i + (n - e)) (cut_out n i e slots) (rw size room)) ∙ ap length front;
        order = front;
        depth = take_cut_out n i e depths l h dfits ∙ rw R.depth (sym ds);
        small = room;
        sizes = (size, dsize);
      }

  -- trees behind the last root
  pub rep_cat : (t : Forest) → n + length (pre t) ≤ 256 → Rep (insert_all n n (pre t) slots) (insert_all n n (dep 1 t) depths) (n + length (pre t)) (cat f t)
  rep_cat t room =
      let all : (xs ys : List ℕ) → length xs ≡ n → xs ++ ys ≡ take n xs ++ (ys ++ drop n xs) =
      λ xs ys l. let le : length xs ≤ n = omega arith in rw (take_all n xs le, drop_of_length-le xs le, append-nil ys) in
      rep_insert (cat f t) n (pre t) (dep 1 t) (omega arith) (length_dep 1 t) room
      (pre_cat f t ∙ all (pre f) (pre t) (sym R.counted))
      (dep_cat 1 f t ∙ all (dep 1 f) (dep 1 t) (length_dep 1 f ∙ sym R.counted))

  module _ {p i e : ℕ} (S : Segment slots depths n p i e) where
    live : has p f ≡ true
    live = rep_has S.at

    starts : i ≡ place p f
    starts = rep_place S.at

    pub rep_end : e ≡ end p f
    rep_end = S.ends ∙ ap₂ seg_end R.depth starts

    pub rep_after : i < e
    rep_after = omega (arith, starts, rep_end, end_after p f live)

    pub rep_within : e ≤ n
    rep_within = omega (arith, rep_end, R.counted, end_within p f live)

    -- ---- what is read there
    pub rep_segment : take (e - i) (drop i slots) ≡ pre (part p f)
    rep_segment = rw (← middle_take i e n slots (omega (arith, rep_after)) rep_within, R.order, rep_end, starts) (segment p f live)

    pub rep_segment_depths : take (e - i) (drop i depths) ≡ dep (depth p f) (part p f)
    rep_segment_depths = rw (← middle_take i e n depths (omega (arith, rep_after)) rep_within, R.depth, rep_end, starts) (segment_depths p f live)

    -- no place of it is higher than its own
    pub rep_segment_deep : (j : ℕ) → i ≤ j → j < e → get_or depths i 0 ≤ get_or depths j 0
    rep_segment_deep j low high =
        rw (rep_depth S.at, depth_near j (omega (arith, rep_within))) (segment_deep p f live j (omega (arith, starts)) (omega (arith, rep_end)))

    pub rep_post : post_of (take (e - i) (drop i slots)) (take (e - i) (drop i depths)) ≡ post (part p f)
    rep_post = rw (rep_segment, rep_segment_depths) (post_law (depth p f) (part p f))

    pub rep_children : at_depth (get_or depths i 0 + 1) (take (e - i) (drop i slots)) (take (e - i) (drop i depths)) ≡ children p f
    rep_children = rw (rep_segment, rep_segment_depths, rep_depth S.at, add-one) (children_law (depth p f) p f)

    -- x is p or below it exactly where its place lies in the segment
    pub rep_within_below : (x j : ℕ) → j ≡ index_of x (take n slots) → i ≤ j → j < e → has x (part p f) ≡ true
    rep_within_below x j is low high =
        let w : j ≡ place x f = is ∙ ap (index_of x) R.order in
        within_below p f live x (omega (arith, starts)) (omega (arith, rep_end))

    pub rep_below_test : Distinct f → (x j : ℕ) → j ≡ index_of x (take n slots) → has x (part p f) ≡ leb i j && ltb j e
    rep_below_test o x j is = let w : j ≡ place x f = is ∙ ap (index_of x) R.order in rw (w, rep_end, starts) (below_test p f live o x)

    -- ---- changes
    -- trees as the last children of p
    pub rep_under : (t : Forest) → n + length (pre t) ≤ 256
        → Rep (insert_all n e (pre t) slots) (insert_all n e (dep (get_or depths i 0 + 1) t) depths) (n + length (pre t)) (under p t f)
    rep_under t room =
        rep_insert (under p t f) e (pre t) (dep (get_or depths i 0 + 1) t) rep_within (length_dep (get_or depths i 0 + 1) t) room
        (rw rep_end (pre_under p f live t))
        (rw (rep_end, rep_depth S.at, add-one) (dep_under p f live t))

    -- without p and what is below it
    pub rep_remove : Rep (cut_out n i e slots) (cut_out n i e depths) (i + (n - e)) (remove p f)
    rep_remove = rep_cut (remove p f) i e (omega (arith, rep_after)) rep_within (rw (rep_end, starts) (pre_remove p f live)) (rw (rep_end, starts) (dep_remove p f live))

recount : {slots depths : List ℕ} {m n : ℕ} {f : Forest} → m ≡ n → Rep slots depths m f → Rep slots depths n f
recount {slots = a} {depths = b} {f = f} e R = subst (λ (k : ℕ). Rep a b k f) e R

-- ---- one new slot
module _ {slots depths : List ℕ} {n : ℕ} {f : Forest} (R : Rep slots depths n f) (x : ℕ) (room : n < 256) where
  -- as the last root
  pub rep_add_root : Rep (insert_all n n (x ∷ []) slots) (insert_all n n (1 ∷ []) depths) (n + 1) (cat f (leaf x))
  unfolding pre dep
  rep_add_root = rep_cat R (leaf x) (omega arith)

  -- as the last child of p
  pub rep_add : {p i e : ℕ} → Segment slots depths n p i e
      → Rep (insert_all n e (x ∷ []) slots) (insert_all n e ((get_or depths i 0 + 1) ∷ []) depths) (n + 1) (under p (leaf x) f)
  unfolding pre dep
  rep_add S = rep_under R S (leaf x) (omega arith)

-- ---- a move: p's segment, cut out and put in again
module _ {slots depths : List ℕ} {n : ℕ} {f : Forest} (R : Rep slots depths n f) {p i e : ℕ} (S : Segment slots depths n p i e) where
  whole : i + (n - e) + length (pre (part p f)) ≡ n
  whole = omega (arith, rep_place R S.at, rep_end R S, rep_after R S, rep_within R S, end_at p f (rep_has R S.at))

  -- as the last child of q
  pub rep_moved : {q j g : ℕ} → Segment (cut_out n i e slots) (cut_out n i e depths) (i + (n - e)) q j g
      → Rep (insert_all (i + (n - e)) g (take (e - i) (drop i slots)) (cut_out n i e slots))
      (insert_all (i + (n - e)) g (map (rebased (get_or depths i 0) (get_or (cut_out n i e depths) j 0 + 1)) (take (e - i) (drop i depths))) (cut_out n i e depths))
      n
      (under q (part p f) (remove p f))
  rep_moved {j = j} T =
      rw (rep_segment R S, rep_segment_depths R S, rep_depth R S.at, rebased_dep (depth p f) (get_or (cut_out n i e depths) j 0 + 1) (part p f))
      (recount whole (rep_under (rep_remove R S) T (part p f) (omega (arith, whole, R.small))))

  -- as the last root
  pub rep_moved_root : Rep (insert_all (i + (n - e)) (i + (n - e)) (take (e - i) (drop i slots)) (cut_out n i e slots))
      (insert_all (i + (n - e)) (i + (n - e)) (map (rebased (get_or depths i 0) 1) (take (e - i) (drop i depths))) (cut_out n i e depths))
      n
      (cat (remove p f) (part p f))
  rep_moved_root =
      rw (rep_segment R S, rep_segment_depths R S, rep_depth R S.at, rebased_dep (depth p f) 1 (part p f))
      (recount whole (rep_cat (rep_remove R S) (part p f) (omega (arith, whole, R.small))))
