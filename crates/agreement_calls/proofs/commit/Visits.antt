-- A commit visits the same nodes in the tree and in the plan, in the same order.
use mathlib.Core.Path.{◌≡◌, refl, sym, ap, ap₂, subst, fun_ext, ◌∙◌}
use mathlib.Core.Bool.{Bool, true, false, not, ◌&&◌, ◌||◌, cond}
use mathlib.Core.List.{List, [], ◌∷◌, ◌++◌, map, map-append}
use Prim.Native.Nat.{ℕ, ◌+◌, ◌-◌, ◌≤◌}
use native.Mathlib.Omega.{arith}
use native.Mathlib.Decide.{ℕ_discrete}
use lib.Dec.{eqb}
use lib.ListN.{length, get_or}
use Rattle.counting.specs.Times.{tally, times}
use Rattle.counting.proofs.Counting.{miss}
use Rattle.link_forest.specs.Forest.{Forest, pre, has, above, part}
use Rattle.link_forest.proofs.Counting.{has_count, lacks_count, count_pre, above_has}
use Rattle.link_forest.proofs.Rep.{rep_after, rep_within}
use Rattle.link_table.specs.Links.{end_of}
use Rattle.tree_state.specs.declared.Tree.{Tree}
use Rattle.tree_state.specs.Tree.{position_of, is_live, marked_at, any_of}
use Rattle.tree_laws.proofs.Ground.{Linked, live_has, segment, ancestors_above, slot_at_place, subtree_slots}
use Rattle.tree_steps.specs.SlotOrder.{sooner}
use Rattle.tree_steps.specs.Commit.{ancestors, changed_at, starts_of, walked, walk_all, visits_of}
use Rattle.slot_order.proofs.Members.{slots_count}
use Rattle.slot_order.proofs.Sorted.{in_order_lem}
use Rattle.tree_visits.proofs.Walked.{walked_covered, walked_whole, walked_alone}
use Rattle.tree_visits.proofs.Laws.{first_live, rest_live, all_live}
use Rattle.tree_visits.proofs.Parents.{slots_at, slots_row}
use Rattle.plan.specs.Lists.{keep, joined, sorted, Rising}
use Rattle.plan.specs.Plan.{Plan, Mark, nodes}
use Rattle.plan.specs.Visits.{counts_as_changed, older, starts, covered, walk, visits}
use Rattle.plan.proofs.Sorting.{settled, times_sorted, rising_sorted, strict}
use Rattle.agreement.proofs.Same.{Known}
use Rattle.agreement_calls.proofs.Tests.{any_alike}

-- ---- over lists

times_keep : (q : ℕ → Bool) (x : ℕ) (l : List ℕ) → times x (keep q l) ≡ cond (q x) (times x l) 0
unfolding times keep
times_keep q x [] = nothing (q x)
  where
    nothing : (b : Bool) → ◌≡◌ {A = ℕ} 0 (cond b 0 0)
    nothing true = refl
    nothing false = refl
times_keep q x (y ∷ l) = elim (ℕ_discrete x y) [ yes e ↦ subst (λ (z : ℕ). times z (keep q (y ∷ l)) ≡ cond (q z) (times z (y ∷ l)) 0) (sym e) (here (q y) refl (times_keep q y l)) | no n ↦ there n (q y) (times_keep q x l) ]
  where
    here : (b : Bool) → q y ≡ b → times y (keep q l) ≡ cond (q y) (times y l) 0 → times y (cond b (y ∷ keep q l) (keep q l)) ≡ cond b (tally (eqb y y) + times y l) 0
    here true e u = ap (λ (n : ℕ). tally (eqb y y) + n) (u ∙ ap (λ (c : Bool). cond c (times y l) 0) e)
    here false e u = u ∙ ap (λ (c : Bool). cond c (times y l) 0) e

    skip : (c : Bool) → (x ≡ y → ⊥) → cond c (times x l) 0 ≡ cond c (tally (eqb x y) + times x l) 0
    skip true n = omega (arith, miss x y n)
    skip false n = refl

    there : (x ≡ y → ⊥) → (b : Bool) → times x (keep q l) ≡ cond (q x) (times x l) 0 → times x (cond b (y ∷ keep q l) (keep q l)) ≡ cond (q x) (tally (eqb x y) + times x l) 0
    there n true u = let w = miss x y n in let v : tally (eqb x y) + times x (keep q l) ≡ times x (keep q l) = omega arith in v ∙ u ∙ skip (q x) n
    there n false u = u ∙ skip (q x) n

joined_keep : (g : ℕ → List ℕ) (c : ℕ → Bool) (x : ℕ) (xs : List ℕ) → joined g (keep (λ y. not (c y)) (x ∷ xs)) ≡ cond (c x) [] (g x) ++ joined g (keep (λ y. not (c y)) xs)
unfolding joined keep
joined_keep g c x xs = go (c x)
  where
    go : (b : Bool) → joined g (cond (not b) (x ∷ keep (λ y. not (c y)) xs) (keep (λ y. not (c y)) xs)) ≡ cond b [] (g x) ++ joined g (keep (λ y. not (c y)) xs)
    go true = refl
    go false = refl

module _ (t : Tree) (p : Plan) (K : Known t p) where
  abbrev f : Forest
  f = p.links

  -- ---- the starts
  sooner_same : (x y : ℕ) → sooner t x y ≡ older p x y
  sooner_same x y = rw (K.same.generation x, K.same.generation y)

  sooner_is : sooner t ≡ older p
  sooner_is = fun_ext (λ x. fun_ext (λ y. sooner_same x y))

  mark_same : (x : ℕ) → has x f ≡ true → marked_at t x ≡ (p.mark x).marked
  mark_same x h = ap (λ (m : Mark). m.marked) (K.same.mark x h)

  times_marked : (x : ℕ) → times x (keep (λ y. (p.mark y).marked) (nodes p)) ≡ tally (is_live t x && marked_at t x)
  times_marked x = times_keep (λ y. (p.mark y).marked) x (nodes p) ∙ go (has x f) refl
    where
      exact : (b : Bool) (n : ℕ) → n ≡ 1 → cond b n 0 ≡ tally b
      exact true n e = e
      exact false n e = refl

      nought : (b : Bool) (n : ℕ) → n ≡ 0 → cond b n 0 ≡ 0
      nought true n e = e
      nought false n e = refl

      go : (b : Bool) → has x f ≡ b → cond (p.mark x).marked (times x (nodes p)) 0 ≡ tally (is_live t x && marked_at t x)
      go true h =
          let c : times x (pre f) ≡ 1 = omega (arith, count_pre x f, has_count x f h, K.same.links.once x) in
          rw (live_has t f K.same.links x ∙ h, mark_same x h) (exact (p.mark x).marked (times x (pre f)) c)
      go false h =
          rw (live_has t f K.same.links x ∙ h)
          (nought (p.mark x).marked (times x (pre f)) (count_pre x f ∙ lacks_count x f h))

  one_of : (b : Bool) → tally b ≤ 1
  one_of true = omega arith
  one_of false = omega arith

  pub starts_same : starts_of t ≡ starts p
  unfolding starts
  starts_same =
      let S = strict p.slots.generation in
      let I = in_order_lem t f K.same.links (marked_at t) in
      let kept = keep (λ y. (p.mark y).marked) (nodes p) in
      let few : (x : ℕ) → times x kept ≤ 1 = λ x. rw (times_marked x) (one_of (is_live t x && marked_at t x)) in
      settled (older p) S (starts_of t) (sorted (older p) kept)
      (subst (λ (before : ℕ → ℕ → Bool). Rising before (starts_of t)) sooner_is I.rising) (rising_sorted (older p) S kept few)
      (λ x. I.member x ∙ sym (times_marked x) ∙ sym (times_sorted (older p) S x kept))

  -- ---- what each start has walked
  changed_same : (x : ℕ) → has x f ≡ true → changed_at t x ≡ counts_as_changed p x
  changed_same x h = ap (λ (m : Mark). m.marked && (m.transform || m.clip)) (K.same.mark x h)

  covered_same : (x : ℕ) → has x f ≡ true → any_of (changed_at t) (ancestors t (position_of t x)) ≡ covered p x
  covered_same x h =
      ap (any_of (changed_at t)) (ancestors_above t f K.same.links x h)
      ∙ any_alike (changed_at t) (counts_as_changed p) (above x f) (λ y n. changed_same y (above_has y x f h n))

  walk_same : (x : ℕ) → has x f ≡ true → slots_at t.links.order (walked t x) ≡ cond (covered p x) [] (walk p x)
  walk_same x h = go (covered p x) refl (counts_as_changed p x) refl
    where
      L : Linked t f
      L = K.same.links

      go : (b : Bool) → covered p x ≡ b → (c : Bool) → counts_as_changed p x ≡ c → slots_at t.links.order (walked t x) ≡ cond b [] (cond c (pre (part x f)) (x ∷ []))
      go true e c d = ap (slots_at t.links.order) (walked_covered t x (covered_same x h ∙ e))
      go false e true d =
          let i = position_of t x in
          let g = segment t f L x h in
          let room : i + (end_of t.links i - i) ≤ length t.links.order =
          omega (arith, rep_after L.rep g, rep_within L.rep g, L.rep.small, L.rep.sizes.0) in
          ap (slots_at t.links.order) (walked_whole t x (covered_same x h ∙ e) (changed_same x h ∙ d))
          ∙ slots_row t.links.order i (end_of t.links i - i) room ∙ subtree_slots t f L x h
      go false e false d =
          ap (slots_at t.links.order) (walked_alone t x (covered_same x h ∙ e) (changed_same x h ∙ d))
          ∙ ap (λ (y : ℕ). y ∷ []) (slot_at_place t f L x h)

  walks_same : (xs : List ℕ) → ((x : ℕ) → 1 ≤ times x xs → has x f ≡ true) → slots_at t.links.order (walk_all t xs) ≡ joined (walk p) (keep (λ x. not (covered p x)) xs)
  unfolding walk_all joined keep
  walks_same [] a = refl
  walks_same (x ∷ xs) a =
      map-append (λ (i : ℕ). get_or t.links.order i 0) (walked t x) (walk_all t xs)
      ∙ ap₂ (λ (l m : List ℕ). l ++ m) (walk_same x (first_live t f K.same.links x xs a)) (walks_same xs (rest_live t f K.same.links x xs a))
      ∙ sym (joined_keep (walk p) (covered p) x xs)

  pub visits_same : map (λ (i : ℕ). get_or t.links.order i 0) (visits_of t) ≡ visits p
  unfolding visits
  visits_same =
      walks_same (starts_of t) (all_live t f K.same.links (starts_of t) (slots_count t f K.same.links (marked_at t)))
      ∙ ap (λ (l : List ℕ). joined (walk p) (keep (λ x. not (covered p x)) l)) starts_same
