-- Among the slots that are visited, a parent stands before its child wherever anything above the child counts as changed.
use Prim.Native.Nat.{ℕ, zero, suc, ◌+◌, ◌-◌, ◌≤◌}
use mathlib.Core.Path.{◌≡◌, refl, sym, ap, ◌∙◌}
use mathlib.Core.Bool.{Bool, true, false}
use mathlib.Core.List.{List, [], ◌∷◌, ◌++◌, map, map-append}
use native.Mathlib.Omega.{arith}
use lib.ListN.{length, get_or, take, drop}
use lib.Seq.{drop-cons}
use Rattle.counting.specs.Times.{times}
use Rattle.counting.proofs.Counting.{hit}
use Rattle.link_forest.specs.Forest.{Forest, none, tree, pre, has, above, part}
use Rattle.link_forest.proofs.Bools.{never}
use Rattle.link_forest.proofs.Holds.{Found, found, holds_part, Holds}
use Rattle.link_forest.proofs.Rep.{rep_slot, rep_segment, rep_after, rep_within}
use Rattle.link_forest.specs.Sound.{Sound}
use Rattle.link_table.specs.Links.{end_of}
use Rattle.tree_state.specs.declared.Tree.{Tree}
use Rattle.tree_state.specs.Tree.{position_of, any_of, marked_at}
use Rattle.tree_steps.specs.Commit.{ancestors, changed_at, positions_from, walked, walk_all, starts_of, visits_of}
use Rattle.slot_order.proofs.Members.{slots_count}
use Rattle.tree_visits.proofs.Walked.{live_at, live_segment, ancestors_live, walked_covered, walked_whole, walked_alone}
use Rattle.tree_visits.proofs.Laws.{first_live, rest_live, all_live}

-- the list is what is above a slot: if any of it passes the test, its parent has been seen
abbrev pub Ready : (ℕ → Bool) → List ℕ → List ℕ → Type 0
Ready p seen [] = Unit {0}
Ready p seen (q ∷ qs) = any_of p (q ∷ qs) ≡ true → 1 ≤ times q seen

-- each of the slots is the forest's and ready when its turn comes, where those of `seen` came before
abbrev pub Good : (ℕ → Bool) → Forest → List ℕ → List ℕ → Type 0
Good p f seen [] = Unit {0}
Good p f seen (x ∷ xs) = (has x f ≡ true) × Ready p seen (above x f) × Good p f (x ∷ seen) xs

module _ (p : ℕ → Bool) (f : Forest) where
  pub ready_more : (seen more l : List ℕ) → ((y : ℕ) → times y seen ≤ times y more) → Ready p seen l → Ready p more l
  ready_more seen more [] h r = tt
  ready_more seen more (q ∷ qs) h r = λ e. let w = r e in omega (arith, h q)

  pub ready_free : (seen l : List ℕ) → any_of p l ≡ false → Ready p seen l
  ready_free seen [] e = tt
  ready_free seen (q ∷ qs) e = λ d. never d e

  pub good_append : (seen xs ys : List ℕ) → Good p f seen xs → ((more : List ℕ) → ((y : ℕ) → times y seen ≤ times y more) → Good p f more ys) → Good p f seen (xs ++ ys)
  unfolding times
  good_append seen [] ys G H = H seen (λ y. omega arith)
  good_append seen (x ∷ xs) ys G H = (G.0, G.1, good_append (x ∷ seen) xs ys G.2 (λ more h. H more (λ y. omega (arith, h y))))

  -- a walk, parents first
  pub good_pre : (l seen : List ℕ) (g : Forest) → Holds (Found f) l g → Ready p seen l → Good p f seen (pre g)
  unfolding pre times
  good_pre l seen none H r = tt
  good_pre l seen (tree y c s) H r = (
    H.0.0,
    rw H.0.2 r,
    good_append (y ∷ seen) (pre c) (pre s)
        (good_pre (y ∷ l) (y ∷ seen) c H.1 (λ e. omega (arith, hit y)))
        (λ more h. good_pre l more s H.2 (ready_more seen more l (λ z. omega (arith, h z)) r)),
  )

-- ---- the slots of positions in a row
abbrev pub slots_at : List ℕ → List ℕ → List ℕ
slots_at order is = map (λ (i : ℕ). get_or order i 0) is

pub slots_row : (order : List ℕ) (i n : ℕ) → i + n ≤ length order → slots_at order (positions_from i n) ≡ take n (drop i order)
unfolding positions_from
slots_row order i zero h = refl
slots_row order i (suc n) h = rw (drop-cons order i 0 (omega arith)) (ap (λ (l : List ℕ). get_or order i 0 ∷ l) (slots_row order (suc i) n (omega arith)))

module _ (t : Tree) (f : Forest) (S : Sound t.links.order t.links.depth t.links.count f) where
  good_walked : (s : ℕ) → has s f ≡ true → (seen : List ℕ) → Good (changed_at t) f seen (slots_at t.links.order (walked t s))
  good_walked s h seen = go (any_of (changed_at t) (ancestors t (position_of t s))) refl (changed_at t s) refl
    where
      up : any_of (changed_at t) (ancestors t (position_of t s)) ≡ false → Ready (changed_at t) seen (above s f)
      up e = ready_free (changed_at t) f seen (above s f) (ap (any_of (changed_at t)) (sym (ancestors_live t f S s h)) ∙ e)

      go : (b : Bool) → any_of (changed_at t) (ancestors t (position_of t s)) ≡ b → (d : Bool) → changed_at t s ≡ d
          → Good (changed_at t) f seen (slots_at t.links.order (walked t s))
      go true e d k = rw (walked_covered t s e) tt
      go false e true k =
          let i = position_of t s in
          let g = live_segment t f S s h in
          let H = holds_part (Found f) s [] f h (found f S.once) in
          let room : i + (end_of t.links i - i) ≤ length t.links.order =
          omega (arith, rep_after S.rep g, rep_within S.rep g, S.rep.small, S.rep.sizes.0) in
          rw (walked_whole t s e k, slots_row t.links.order i (end_of t.links i - i) room, rep_segment S.rep g)
          (good_pre (changed_at t) f (above s f) seen (part s f) (H.0, H.1, tt) (up e))
      go false e false k = rw (walked_alone t s e k, rep_slot S.rep (live_at t f S s h)) (h, up e, tt)

  good_walks : (xs : List ℕ) → ((x : ℕ) → 1 ≤ times x xs → has x f ≡ true) → (seen : List ℕ) → Good (changed_at t) f seen (slots_at t.links.order (walk_all t xs))
  unfolding walk_all
  good_walks [] a seen = tt
  good_walks (x ∷ xs) a seen =
      rw (map-append (λ (i : ℕ). get_or t.links.order i 0) (walked t x) (walk_all t xs))
      (good_append (changed_at t) f seen (slots_at t.links.order (walked t x)) (slots_at t.links.order (walk_all t xs))
      (good_walked x (first_live t f S x xs a) seen)
      (λ more h. good_walks xs (rest_live t f S x xs a) more))

  pub visits_parent : Good (changed_at t) f [] (slots_at t.links.order (visits_of t))
  visits_parent = good_walks (starts_of t) (all_live t f S (starts_of t) (slots_count t f S (marked_at t))) []
