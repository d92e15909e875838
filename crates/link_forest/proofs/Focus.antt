-- A node in its forest's table: one induction, the record `Focus`, from which every law of the table comes.
use mathlib.Core.Path.{◌≡◌, refl, sym, ap, ◌∙◌}
use mathlib.Core.Bool.{true, false}
use mathlib.Core.List.{List, [], ◌∷◌, ◌++◌, append_assoc, reverse_aux}
use Prim.Native.Nat.{ℕ, suc, ◌+◌, ◌≤◌, ◌<◌}
use native.Mathlib.Omega.{arith}
use native.Mathlib.Decide.{dec_le}
use borrow.Author.Tests.{eqb-false}
use lib.Dec.{eqb}
use lib.ListN.{length, get_or, length-append}
use Rattle.counting.specs.Times.{tally, times}
use Rattle.counting.proofs.Counting.{miss, times_append}
use Rattle.link_forest.specs.Forest.{Forest, tree, pre, dep, has, under, remove, Spot, spot}
use Rattle.link_forest.specs.Table.{run_length, last_above, less_deep}
use Rattle.link_forest.proofs.Clauses.{Stands, here, down, right, stands, under_here, under_down, under_right, remove_here, remove_down, remove_right, spot_here, spot_down, spot_right}
use Rattle.link_forest.proofs.Counting.{lacks_count, count_pre}
use Rattle.link_forest.proofs.Lists.{run_append, last_less, last_more, last_append, less_deep_lem, not_less_deep, turned_append}
use Rattle.link_forest.proofs.Whole.{length_dep, pre_cat, dep_cat, run_sibling, last_skip, back_skip}

-- ---- p at the spot w in f, where l stands above the roots: what stands before and after its segment, and what the changes leave
abbrev pub depth_at : Spot → ℕ
depth_at w = suc (length w.above)

pub record Focus (p : ℕ) (l : List ℕ) (f : Forest) (w : Spot) : Type 0 where
  pub before : List ℕ
  pub after : List ℕ
  pub dbefore : List ℕ
  pub dafter : List ℕ
  pub below : length l ≤ length w.above
  pub high : length w.above ≤ length l + length before
  pub even : length dbefore ≡ length before
  pub ends : run_length (depth_at w) dafter ≡ 0
  pub fresh : times p before ≡ 0
  pub slots : pre f ≡ before ++ (p ∷ (pre w.kids ++ after))
  pub depths : dep (suc (length l)) f ≡ dbefore ++ (depth_at w ∷ (dep (suc (depth_at w)) w.kids ++ dafter))
  pub added : (t : Forest) → pre (under p t f) ≡ before ++ (p ∷ (pre w.kids ++ (pre t ++ after)))
  pub dadded : (t : Forest) → dep (suc (length l)) (under p t f) ≡ dbefore ++ (depth_at w ∷ (dep (suc (depth_at w)) w.kids ++ (dep (suc (depth_at w)) t ++ dafter)))
  pub removed : pre (remove p f) ≡ before ++ after
  pub dremoved : dep (suc (length l)) (remove p f) ≡ dbefore ++ dafter
  pub up : (a : ℕ) → last_above (depth_at w) (get_or l 0 a) before dbefore ≡ get_or w.above 0 a
  pub climbs : (xs ds : List ℕ) → less_deep (suc (length l)) xs ds ≡ l → less_deep (depth_at w) (reverse_aux before xs) (reverse_aux dbefore ds) ≡ w.above
  pub deep : length l < length w.above → (a b : ℕ) → last_above (depth_at w) a before dbefore ≡ last_above (depth_at w) b before dbefore

module _ (p : ℕ) (l : List ℕ) where
  focus_here : (c s : Forest) → Focus p l (tree p c s) (record { kids = c; above = l })
  unfolding pre dep last_above times
  focus_here c s =
      let d = suc (length l) in
      record {
        before = [];
        after = pre s;
        dbefore = [];
        dafter = dep d s;
        below = omega arith;
        high = omega arith;
        even = refl;
        ends = run_sibling d d s (omega arith);
        fresh = refl;
        slots = refl;
        depths = refl;
        added = λ t. rw (under_here p t c s, pre_cat, append_assoc);
        dadded = λ t. rw (under_here p t c s, dep_cat, append_assoc);
        removed = rw (remove_here p c s);
        dremoved = rw (remove_here p c s);
        up = λ a. refl;
        climbs = λ xs ds h. h;
        deep = λ h a b. absurd (omega arith);
      }

  module _ (y : ℕ) (c s : Forest) (w : Spot) (e : eqb y p ≡ false) where
    other : tally (eqb p y) ≡ 0
    other = miss p y (λ q. eqb-false y p e (sym q))

    focus_down : has p c ≡ true → Focus p (y ∷ l) c w → Focus p l (tree y c s) w
    unfolding pre dep last_above times
    focus_down h F =
        let d = suc (length l) in
        let k = depth_at w in
        let low : d < k = omega (arith, F.below) in
        let less : (a : ℕ) → last_above k a (y ∷ F.before) (d ∷ F.dbefore) ≡ last_above k y F.before F.dbefore = λ a. last_less k a y d F.before F.dbefore low in
        record {
          before = y ∷ F.before;
          after = F.after ++ pre s;
          dbefore = d ∷ F.dbefore;
          dafter = F.dafter ++ dep d s;
          below = omega (arith, F.below);
          high = omega (arith, F.high);
          even = ap suc F.even;
          ends = run_append k F.dafter (dep d s) F.ends (run_sibling k d s (omega arith));
          fresh = omega (arith, F.fresh, other);
          slots = simp (F.slots, append_assoc);
          depths = simp (F.depths, append_assoc);
          added = λ t. rw (under_down p t y c s e h) (simp (F.added t, append_assoc));
          dadded = λ t. rw (under_down p t y c s e h) (simp (F.dadded t, append_assoc));
          removed = rw (remove_down p y c s e h) (simp (F.removed, append_assoc));
          dremoved = rw (remove_down p y c s e h) (simp (F.dremoved, append_assoc));
          up = λ a. less (get_or l 0 a) ∙ F.up a;
          climbs = λ xs ds g. F.climbs (y ∷ xs) (d ∷ ds) (less_deep_lem (suc d) y d xs ds (omega arith) ∙ ap (λ (m : List ℕ). y ∷ m) g);
          deep = λ g a b. less a ∙ sym (less b);
        }

    focus_right : has p c ≡ false → Focus p l s w → Focus p l (tree y c s) w
    unfolding pre dep last_above times
    focus_right h F =
        let d = suc (length l) in
        let k = depth_at w in
        let past : (a : ℕ) → last_above k a (pre c ++ F.before) (dep (suc d) c ++ F.dbefore) ≡ last_above k (last_above k a (pre c) (dep (suc d) c)) F.before F.dbefore =
        λ a. last_append k a (pre c) (dep (suc d) c) F.before F.dbefore (sym (length_dep (suc d) c)) in
        let less : d < k → (a : ℕ) → last_above k a (y ∷ (pre c ++ F.before)) (d ∷ (dep (suc d) c ++ F.dbefore)) ≡ last_above k y (pre c ++ F.before) (dep (suc d) c ++ F.dbefore) =
        λ g a. last_less k a y d (pre c ++ F.before) (dep (suc d) c ++ F.dbefore) g in
        record {
          before = y ∷ (pre c ++ F.before);
          after = F.after;
          dbefore = d ∷ (dep (suc d) c ++ F.dbefore);
          dafter = F.dafter;
          below = F.below;
          high = omega (arith, F.high, length-append (pre c) F.before);
          even = simp (length-append, length_dep, F.even);
          ends = F.ends;
          fresh = omega (arith, F.fresh, other, times_append p (pre c) F.before, count_pre p c, lacks_count p c h);
          slots = simp (F.slots, append_assoc);
          depths = simp (F.depths, append_assoc);
          added = λ t. rw (under_right p t y c s e h) (simp (F.added t, append_assoc));
          dadded = λ t. rw (under_right p t y c s e h) (simp (F.dadded t, append_assoc));
          removed = rw (remove_right p y c s e h) (simp (F.removed, append_assoc));
          dremoved = rw (remove_right p y c s e h) (simp (F.dremoved, append_assoc));
          up =
              λ a.
              elim (dec_le k d) [
                | yes g ↦
                    last_more k (get_or l 0 a) y d (pre c ++ F.before) (dep (suc d) c ++ F.dbefore) g
                    ∙ past (get_or l 0 a)
                    ∙ ap (λ (b : ℕ). last_above k b F.before F.dbefore) (last_skip k (get_or l 0 a) (suc d) c (omega arith))
                    ∙ F.up a
                | no n ↦
                    less (omega arith) (get_or l 0 a) ∙ past y ∙ F.deep (omega arith) (last_above k y (pre c) (dep (suc d) c)) (get_or l 0 a) ∙ F.up a
              ];
          climbs =
              λ xs ds g.
              rw (turned_append (pre c) F.before (y ∷ xs), turned_append (dep (suc d) c) F.dbefore (d ∷ ds))
              (F.climbs (reverse_aux (pre c) (y ∷ xs)) (reverse_aux (dep (suc d) c) (d ∷ ds))
              (back_skip d (suc d) c (y ∷ xs) (d ∷ ds) (omega arith) ∙ not_less_deep d y d xs ds (omega arith) ∙ g));
          deep = λ g a b. less (omega arith) a ∙ sym (less (omega arith) b);
        }

-- the same at the spot itself
module _ (p : ℕ) (l : List ℕ) where
  spot_focus_here : (c s : Forest) → Focus p l (tree p c s) (spot p l (tree p c s))
  spot_focus_here c s = rw (spot_here p l c s) (focus_here p l c s)

  spot_focus_down : (y : ℕ) (c s : Forest) → eqb y p ≡ false → has p c ≡ true → Focus p (y ∷ l) c (spot p (y ∷ l) c) → Focus p l (tree y c s) (spot p l (tree y c s))
  spot_focus_down y c s e h F = rw (spot_down p l y c s e h) (focus_down p l y c s (spot p (y ∷ l) c) e h F)

  spot_focus_right : (y : ℕ) (c s : Forest) → eqb y p ≡ false → has p c ≡ false → Focus p l s (spot p l s) → Focus p l (tree y c s) (spot p l (tree y c s))
  spot_focus_right y c s e h F = rw (spot_right p l y c s e h) (focus_right p l y c s (spot p l s) e h F)

focus_stands : (p : ℕ) (l : List ℕ) {f : Forest} → Stands p f → Focus p l f (spot p l f)
focus_stands p l (here {c = c} {s = s}) = spot_focus_here p l c s
focus_stands p l (down {y = y} {c = c} {s = s} e h S) = spot_focus_down p l y c s e h (focus_stands p (y ∷ l) S)
focus_stands p l (right {y = y} {c = c} {s = s} e h S) = spot_focus_right p l y c s e h (focus_stands p l S)

pub focus : (p : ℕ) (f : Forest) → has p f ≡ true → Focus p [] f (spot p [] f)
focus p f h = focus_stands p [] (stands p f h)
