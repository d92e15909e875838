-- The laws of a forest's table: where a node and its segment stand, what is read there, and what the changes do to the two lists.
use mathlib.Core.Path.{◌≡◌, refl, sym, ap, subst, ◌∙◌}
use mathlib.Core.Bool.{Bool, true, false, ◌&&◌}
use mathlib.Core.List.{List, [], ◌∷◌, ◌++◌, append-nil, reverse}
use Prim.Native.Nat.{ℕ, suc, ◌+◌, ◌-◌, ◌≤◌, ◌<◌}
use native.Mathlib.Omega.{arith}
use lib.Dec.{leb, ltb}
use lib.ListN.{length, take, drop, get_or, length-append}
use lib.Seq.{get_or_at, get_or-take, get_or-drop, split_at, take-length, length-take-le}
use Rattle.counting.specs.Times.{times}
use Rattle.counting.proofs.Counting.{times_append, times_at}
use Rattle.counting.proofs.Kit.{same, both, at_most, less}
use Rattle.link_forest.specs.Forest.{Forest, none, pre, post, dep, has, count, Distinct, under, remove, spot, kids, above, part, children, depth}
use Rattle.link_forest.specs.Table.{seg_end, index_of, last_above, less_deep, at_depth, post_of}
use Rattle.link_forest.proofs.Bools.{never}
use Rattle.link_forest.proofs.Clauses.{has_top, has_low}
use Rattle.link_forest.proofs.Holds.{above_below}
use Rattle.link_forest.proofs.Counting.{above_has, above_apart, has_count, lacks_count, count_has, count_pre}
use Rattle.link_forest.proofs.Lists.{nothing_above, index_here, index_past, index_within, drop_past, Three, three_insert, three_cut, three_before, three_after, three_part, three_within, three_found}
use Rattle.link_forest.proofs.Whole.{length_dep, run_deep, dep_low, post_law, children_law}
use Rattle.link_forest.proofs.Focus.{Focus, focus}

-- ---- a node's place, and where its segment ends
abbrev pub place : ℕ → Forest → ℕ
place p f = index_of p (pre f)

abbrev pub end : ℕ → Forest → ℕ
end p f = seg_end (dep 1 f) (place p f)

pub place_there : (p : ℕ) (f : Forest) → has p f ≡ true → place p f < length (pre f)
place_there p f h = simp append-nil at (index_within p (pre f) [] (omega (arith, count_pre p f, has_count p f h)))

pub place_missing : (p : ℕ) (f : Forest) → has p f ≡ false → place p f ≡ length (pre f)
unfolding index_of
place_missing p f h = let e = simp append-nil at (index_past p (pre f) [] (count_pre p f ∙ lacks_count p f h)) in omega arith

pub there_place : (p : ℕ) (f : Forest) → place p f < length (pre f) → has p f ≡ true
there_place p f h = go (has p f) refl
  where
    go : (b : Bool) → has p f ≡ b → b ≡ true
    go true e = refl
    go false e = absurd (omega (arith, place_missing p f e))

pub missing_place : (p : ℕ) (f : Forest) → length (pre f) ≤ place p f → has p f ≡ false
missing_place p f h = go (has p f) refl
  where
    go : (b : Bool) → has p f ≡ b → b ≡ false
    go true e = absurd (omega (arith, place_there p f e))
    go false e = refl

-- ---- the slot at a place
pub slot_has : (f : Forest) (j : ℕ) → j < length (pre f) → has (get_or (pre f) j 0) f ≡ true
slot_has f j h =
    let x = get_or (pre f) j 0 in
    let w : times x (take (length (pre f)) (pre f)) ≡ count x f = rw (take-length (pre f)) (count_pre x f) in
    count_has x f (omega (arith, times_at (pre f) j (length (pre f)) h (omega arith)))

pub place_slot : (f : Forest) → Distinct f → (j : ℕ) → j < length (pre f) → place (get_or (pre f) j 0) f ≡ j
place_slot f o j h =
    let x = get_or (pre f) j 0 in
    let w : times x (take (length (pre f)) (pre f)) ≡ count x f = rw (take-length (pre f)) (count_pre x f) in
    let z : times x (take j (pre f)) ≡ 0 = omega (arith, times_at (pre f) j (length (pre f)) h (omega arith), o x) in
    let l : length (take j (pre f)) ≡ j = length-take-le j (pre f) (omega arith) in
    ap (index_of x) (split_at (pre f) j 0 h) ∙ index_past x (take j (pre f)) (x ∷ drop (suc j) (pre f)) z ∙ rw (index_here x (drop (suc j) (pre f))) (omega arith)

-- ---- over the parts of the table
module _ (p : ℕ) (f : Forest) (F : Focus p [] f (spot p [] f)) where
  place_is : place p f ≡ length F.before
  place_is =
      rw (F.slots, index_past p F.before (p ∷ (pre (kids p f) ++ F.after)) F.fresh, index_here p (pre (kids p f) ++ F.after)) (omega arith)

  dplace_is : place p f ≡ length F.dbefore
  dplace_is = place_is ∙ sym F.even

  depth_is : get_or (dep 1 f) (place p f) 0 ≡ depth p f
  depth_is = rw F.depths (get_or_at F.dbefore (depth p f) (dep (suc (depth p f)) (kids p f) ++ F.dafter) 0 (place p f) (sym dplace_is))

  end_is : end p f ≡ length F.before + length (p ∷ pre (kids p f))
  unfolding seg_end
  end_is =
      let rest : drop (place p f + 1) (dep 1 f) ≡ dep (suc (depth p f)) (kids p f) ++ F.dafter =
      rw F.depths (drop_past F.dbefore (depth p f) (dep (suc (depth p f)) (kids p f) ++ F.dafter) (place p f) dplace_is) in
      let deep = run_deep (depth p f) (suc (depth p f)) (kids p f) F.dafter (omega arith) in
      rw (depth_is, rest, deep, F.ends, place_is) (omega arith)

  dend_is : end p f ≡ length F.dbefore + length (depth p f ∷ dep (suc (depth p f)) (kids p f))
  dend_is = end_is ∙ sym (rw (F.even, length_dep))

  slots_three : Three (pre f) F.before (p ∷ pre (kids p f)) F.after (place p f) (end p f)
  slots_three = record { is = F.slots; from = place_is; to = end_is }

  depths_three : Three (dep 1 f) F.dbefore (depth p f ∷ dep (suc (depth p f)) (kids p f)) F.dafter (place p f) (end p f)
  depths_three = record { is = F.depths; from = dplace_is; to = dend_is }

-- ---- of a node that is there
module _ (p : ℕ) (f : Forest) (h : has p f ≡ true) where
  F : Focus p [] f (spot p [] f)
  F = focus p f h

  pub slot_at : get_or (pre f) (place p f) 0 ≡ p
  slot_at = ap (λ (l : List ℕ). get_or l (place p f) 0) F.slots ∙ get_or_at F.before p (pre (kids p f) ++ F.after) 0 (place p f) (sym (place_is p f F))

  pub depth_at_lem : get_or (dep 1 f) (place p f) 0 ≡ depth p f
  depth_at_lem = depth_is p f F

  -- at most one more for each place before it
  pub depth_small : depth p f ≤ suc (place p f)
  depth_small = omega (arith, F.high, place_is p f F)

  -- ---- its segment
  pub end_at : end p f ≡ place p f + length (pre (part p f))
  unfolding pre
  end_at = rw (append-nil (pre (kids p f))) (omega (arith, end_is p f F, place_is p f F))

  pub end_after : place p f < end p f
  end_after = omega (arith, end_is p f F, place_is p f F)

  pub end_within : end p f ≤ length (pre f)
  end_within = omega (arith, end_is p f F, simp length-append at (ap length F.slots))

  pub segment : take (end p f - place p f) (drop (place p f) (pre f)) ≡ pre (part p f)
  unfolding pre
  segment = three_part (slots_three p f F) ∙ simp append-nil

  pub segment_depths : take (end p f - place p f) (drop (place p f) (dep 1 f)) ≡ dep (depth p f) (part p f)
  unfolding dep
  segment_depths = three_part (depths_three p f F) ∙ simp append-nil

  -- no place of it is higher than its own
  pub segment_deep : (j : ℕ) → place p f ≤ j → j < end p f → depth p f ≤ get_or (dep 1 f) j 0
  segment_deep j low high =
      let i = place p f in
      let w : i + (j - i) ≡ j = omega arith in
      let u : get_or (dep (depth p f) (part p f)) (j - i) 0 ≡ get_or (dep 1 f) j 0 =
      rw (← segment_depths, get_or-take (end p f - i) (drop i (dep 1 f)) (j - i) 0 (omega arith), get_or-drop i (dep 1 f) (j - i) 0, w) in
      rw (← u) (dep_low (depth p f) (part p f) (j - i) (omega (arith, end_at)))

  -- behind its own place comes what is below it, and then what is behind its segment
  pub rest_at : drop (place p f + 1) (pre f) ≡ pre (kids p f) ++ drop (end p f) (pre f)
  rest_at =
      rw (three_after (slots_three p f F)) (ap (drop (place p f + 1)) F.slots ∙ drop_past F.before p (pre (kids p f) ++ F.after) (place p f) (place_is p f F))

  pub rest_depths_at : drop (place p f + 1) (dep 1 f) ≡ dep (suc (depth p f)) (kids p f) ++ drop (end p f) (dep 1 f)
  rest_depths_at =
      rw (three_after (depths_three p f F))
      (ap (drop (place p f + 1)) F.depths ∙ drop_past F.dbefore (depth p f) (dep (suc (depth p f)) (kids p f) ++ F.dafter) (place p f) (dplace_is p f F))

  -- ---- its parent, or a
  pub parent_at_lem : (a : ℕ) → last_above (depth p f) a (take (place p f) (pre f)) (take (place p f) (dep 1 f)) ≡ get_or (above p f) 0 a
  parent_at_lem a = rw (three_before (slots_three p f F), three_before (depths_three p f F)) (F.up a)

  -- what is above it, the parent first
  pub ancestors_at : less_deep (depth p f) (reverse (take (place p f) (pre f))) (reverse (take (place p f) (dep 1 f))) ≡ above p f
  ancestors_at = rw (three_before (slots_three p f F), three_before (depths_three p f F)) (F.climbs [] [] (nothing_above 1))

  -- ---- changes
  pub pre_under : (t : Forest) → pre (under p t f) ≡ take (end p f) (pre f) ++ (pre t ++ drop (end p f) (pre f))
  pre_under t = F.added t ∙ sym (three_insert (slots_three p f F) (pre t))

  pub dep_under : (t : Forest) → dep 1 (under p t f) ≡ take (end p f) (dep 1 f) ++ (dep (suc (depth p f)) t ++ drop (end p f) (dep 1 f))
  dep_under t = F.dadded t ∙ sym (three_insert (depths_three p f F) (dep (suc (depth p f)) t))

  pub pre_remove : pre (remove p f) ≡ take (place p f) (pre f) ++ drop (end p f) (pre f)
  pre_remove = F.removed ∙ sym (three_cut (slots_three p f F))

  pub dep_remove : dep 1 (remove p f) ≡ take (place p f) (dep 1 f) ++ drop (end p f) (dep 1 f)
  dep_remove = F.dremoved ∙ sym (three_cut (depths_three p f F))

  -- ---- itself and what is below it, by two comparisons of places
  times_part : (x : ℕ) → times x (p ∷ pre (kids p f)) ≡ count x (part p f)
  unfolding pre
  times_part x = ap (times x) (simp append-nil) ∙ count_pre x (part p f)

  pub within_below : (x : ℕ) → place p f ≤ place x f → place x f < end p f → has x (part p f) ≡ true
  within_below x low high = count_has x (part p f) (omega (arith, three_within (slots_three p f F) x low high, times_part x))

  pub below_within : Distinct f → (x : ℕ) → has x (part p f) ≡ true → (place p f ≤ place x f) × (place x f < end p f)
  below_within o x g =
      let n = has_count x (part p f) g in
      let m : times x (pre f) ≡ times x F.before + (times x (p ∷ pre (kids p f)) + times x F.after) =
      ap (times x) F.slots ∙ times_append x F.before (p ∷ (pre (kids p f) ++ F.after))
      ∙ ap (λ (k : ℕ). times x F.before + k) (times_append x (p ∷ pre (kids p f)) F.after) in
      three_found (slots_three p f F) x (omega (arith, times_part x, count_pre x f, o x)) (omega (arith, times_part x))

  pub below_test : Distinct f → (x : ℕ) → has x (part p f) ≡ leb (place p f) (place x f) && ltb (place x f) (end p f)
  below_test o x =
      same {P = (place p f ≤ place x f) × (place x f < end p f)} (has x (part p f)) (leb (place p f) (place x f) && ltb (place x f) (end p f))
      (below_within o x, λ b. within_below x b.0 b.1)
      (both (leb (place p f) (place x f)) (ltb (place x f) (end p f)) (at_most (place p f) (place x f)) (less (place x f) (end p f)))

-- what is above p stands before it, and its segment holds p
pub above_before : (f : Forest) → Distinct f → (p q : ℕ) → has p f ≡ true → 1 ≤ times q (above p f) → (place q f < place p f) × (place p f < end q f)
above_before f o p q h n =
    let g : has q f ≡ true = above_has q p f h n in
    let w = below_within q f g o p (has_low p q (kids q f) none (above_below f o p q h n)) in
    let d : place q f ≡ place p f → ⊥ =
    λ e.
    let z : q ≡ p = sym (slot_at q f g) ∙ ap (λ (i : ℕ). get_or (pre f) i 0) e ∙ slot_at p f h in
    never (has_top p (kids p f) none) (subst (λ (x : ℕ). has x (part p f) ≡ false) z (above_apart q p f o h n)) in
    (omega arith, w.1)

-- ---- read from a node's segment
module _ (p : ℕ) (f : Forest) (h : has p f ≡ true) where
  pub post_at : post_of (take (end p f - place p f) (drop (place p f) (pre f))) (take (end p f - place p f) (drop (place p f) (dep 1 f))) ≡ post (part p f)
  post_at = rw (segment p f h, segment_depths p f h) (post_law (depth p f) (part p f))

  pub children_at : at_depth (suc (depth p f)) (take (end p f - place p f) (drop (place p f) (pre f))) (take (end p f - place p f) (drop (place p f) (dep 1 f)))
      ≡ children p f
  children_at = rw (segment p f h, segment_depths p f h) (children_law (depth p f) p f)
