-- Going back through the table: the places that are less deep, one turn at a time.
use mathlib.Core.Path.{◌≡◌, refl, ap, ◌∙◌}
use mathlib.Core.Bool.{Bool, true, false, ◌&&◌}
use mathlib.Core.List.{List, [], ◌∷◌, reverse, reverse-append}
use Prim.Native.Nat.{ℕ, suc, ◌-◌, ◌≤◌, ◌<◌}
use native.Mathlib.Omega.{arith}
use lib.ListN.{length, get_or, take}
use lib.Seq.{take-suc}
use Rattle.link_forest.specs.Table.{less_deep}
use Rattle.link_forest.proofs.Lists.{less_deep_lem, not_less_deep}
use Rattle.geometry.specs.declared.point.Point.{Point}
use Rattle.tree_state.specs.declared.Tree.{Tree}
use Rattle.tree_steps.specs.Commit.{ancestors}
use Rattle.tree_steps.specs.Requests.{in_stored_clips}
use Rattle.tree_taps.specs.fine.Fine.{clip_holds, Tappable}

-- of the slots and depths of the first j places, those that are less deep than d, the nearest first
abbrev pub back : ℕ → List ℕ → List ℕ → ℕ → List ℕ
back d xs ds j = less_deep d (reverse (take j xs)) (reverse (take j ds))

last_first_lem : (l : List ℕ) (j : ℕ) → j < length l → reverse (take (suc j) l) ≡ get_or l j 0 ∷ reverse (take j l)
last_first_lem l j h = ap reverse (take-suc l j 0 h) ∙ reverse-append (take j l) (get_or l j 0 ∷ [])

pub back_none : (d : ℕ) (xs ds : List ℕ) → back d xs ds 0 ≡ []
unfolding less_deep
back_none d xs ds = refl

module _ (d j : ℕ) (xs ds : List ℕ) (lx : j < length xs) (ld : j < length ds) where
  pub back_here : get_or ds j 0 < d → back d xs ds (suc j) ≡ get_or xs j 0 ∷ back (get_or ds j 0) xs ds j
  back_here h = rw (last_first_lem xs j lx, last_first_lem ds j ld) (less_deep_lem d (get_or xs j 0) (get_or ds j 0) (reverse (take j xs)) (reverse (take j ds)) h)

  pub back_past : d ≤ get_or ds j 0 → back d xs ds (suc j) ≡ back d xs ds j
  back_past h = rw (last_first_lem xs j lx, last_first_lem ds j ld) (not_less_deep d (get_or xs j 0) (get_or ds j 0) (reverse (take j xs)) (reverse (take j ds)) h)

pub ancestors_back : (t : Tree) (i : ℕ) → ancestors t i ≡ back (get_or t.links.depth i 0) t.links.order t.links.depth i
unfolding ancestors
ancestors_back t i = refl

-- ---- a turn of a loop that goes back from the place j

module _ (d j : ℕ) (xs ds : List ℕ) (pos : 0 < j) (lx : j ≤ length xs) (ld : j ≤ length ds) where
  turn : j ≡ suc (j - 1)
  turn = omega arith

  pub turn_here : get_or ds (j - 1) 0 < d → back d xs ds j ≡ get_or xs (j - 1) 0 ∷ back (get_or ds (j - 1) 0) xs ds (j - 1)
  turn_here h = ap (back d xs ds) turn ∙ back_here d (j - 1) xs ds (omega arith) (omega arith) h

  pub turn_past : d ≤ get_or ds (j - 1) 0 → back d xs ds j ≡ back d xs ds (j - 1)
  turn_past h = ap (back d xs ds) turn ∙ back_past d (j - 1) xs ds (omega arith) (omega arith) h

-- ---- the clips of those that are less deep

module _ (t : Tree) (H : Tappable t) (pt : Point) where
  abbrev clips : ℕ → ℕ → Bool
  clips d j = in_stored_clips t (back d t.links.order t.links.depth j) pt

  pub clips_none : (d j : ℕ) → j ≤ 0 → clips d j ≡ true
  unfolding in_stored_clips less_deep
  clips_none d j h = let e : j ≡ 0 = omega arith in rw e

  module _ (d j : ℕ) (pos : 0 < j) (fits : j ≤ t.links.count) where
    clips_here : get_or t.links.depth (j - 1) 0 < d → clips d j ≡ clip_holds t pt (get_or t.links.order (j - 1) 0) && clips (get_or t.links.depth (j - 1) 0) (j - 1)
    unfolding in_stored_clips clip_holds
    clips_here h = ap (λ (l : List ℕ). in_stored_clips t l pt) (turn_here d j t.links.order t.links.depth pos (omega (arith, H.ranged.count_fits, H.ranged.orders)) (omega (arith, H.ranged.count_fits, H.depths)) h)

    pub clips_stop : get_or t.links.depth (j - 1) 0 < d → clip_holds t pt (get_or t.links.order (j - 1) 0) ≡ false → clips d j ≡ false
    clips_stop h e = clips_here h ∙ rw e

    pub clips_on : get_or t.links.depth (j - 1) 0 < d → clip_holds t pt (get_or t.links.order (j - 1) 0) ≡ true → clips d j ≡ clips (get_or t.links.depth (j - 1) 0) (j - 1)
    clips_on h e = clips_here h ∙ rw e

    pub clips_past : d ≤ get_or t.links.depth (j - 1) 0 → clips d j ≡ clips d (j - 1)
    clips_past h = ap (λ (l : List ℕ). in_stored_clips t l pt) (turn_past d j t.links.order t.links.depth pos (omega (arith, H.ranged.count_fits, H.ranged.orders)) (omega (arith, H.ranged.count_fits, H.depths)) h)
