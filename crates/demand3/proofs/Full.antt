-- Refusal 9 of a sound tree, both ways: an insert that no lower number refuses is refused by 9 if and only if 256 nodes are live.
use Rattle.index_types.specs.declared.NodeId.{NodeId}
use Rattle.std.specs.Prelude.{Ok, Err, Option}
use mathlib.Core.Path.{◌≡◌, refl, sym, ap, fun_ext, ◌∙◌}
use mathlib.Core.Bool.{Bool, true, false}
use mathlib.Core.List.{List, [], ◌∷◌}
use Prim.Native.Nat.{ℕ, ◌≤◌, ◌<◌}
use native.Mathlib.Omega.{arith}
use native.Mathlib.Decide.{dec_lt}
use borrow.Author.Tests.{lt-ltb, le-ltb, ltb-false}
use lib.Dec.{ltb}
use lib.ListN.{length}
use lib.Seq.{length-take-le}
use Rattle.counting.specs.Times.{times}
use Rattle.counting.proofs.Counting.{hit, miss}
use Rattle.link_forest.proofs.Rep.{rep_times}
use Rattle.tree_types.specs.declared.LocalNode.{LocalNode}
use Rattle.tree_types.specs.Local.{finite_local, known}
use Rattle.tree_state.specs.declared.Tree.{Tree}
use Rattle.tree_state.specs.declared.Refusal.{Refusal}
use Rattle.tree_state.specs.declared.Refusal.TheVariants as no
use Rattle.tree_state.specs.Tree.{number_of, number_in, checked, checked_next, live_slots, Verdict}
use Rattle.tree_state.specs.Sound.{SoundTree, count_below}
use Rattle.tree_sound.proofs.Exact.{decides, live_is}
use Rattle.tree_steps.specs.Setters.{held}
use Rattle.tree_steps.specs.Structure.{parent_live, insert_verdict}
use Rattle.tree_state.specs.Whole.{Whole}
use Rattle.tree_laws.proofs.Whole.{sized}
use Rattle.tree_laws.proofs.Ground.{linked}
use Rattle.tree_invariant.proofs.calls.Accepted.{checked_both}
use Rattle.agreement.proofs.worlds.Sound.{count_none}
use Rattle.tree_invariant.proofs.remove.Counts.{below_more}
use Rattle.tree_run.specs.Run as tree
use Rattle.plan.specs.Calls as call
use Rattle.plan.specs.Calls.{Call, Outcome}
use Rattle.demand3.specs.Full.{live_nodes, Insertable, FullAt256}
use Rattle.tree_run.proofs.Verdicts.{verdict, outcome_is}
use Rattle.demand3.proofs.Soundness.{keeps_after}
use Rattle.demand3.specs.Claims.{after}

-- ---- how many nodes are live

-- a list of numbers below n, none twice: as many numbers below n stand in it as it is long
count_list : (n : ℕ) (l : List ℕ) → ((x : ℕ) → times x l ≤ 1) → ((x : ℕ) → n ≤ x → times x l ≡ 0) → count_below n (λ x. ltb 0 (times x l)) ≡ length l
unfolding times
count_list n [] once low = count_none n (λ x. ltb 0 0) (λ x. le-ltb 0 0 (omega arith))
count_list n (y ∷ l) once low =
    let alone : times y l ≡ 0 = omega (arith, once y, hit y) in
    let below : y < n = elim (dec_lt y n) [ yes h ↦ h | no g ↦ absurd (omega (arith, low y (omega arith), hit y)) ] in
    below_more (λ x. ltb 0 (times x l)) (λ x. ltb 0 (times x (y ∷ l))) y (λ x m. let e : times x (y ∷ l) ≡ times x l = omega (arith, miss x y m) in ap (ltb 0) e) (le-ltb 0 (times y l) (omega arith))
    (lt-ltb 0 (times y (y ∷ l)) (omega (arith, hit y))) n below
    ∙ rw (count_list n l (λ x. omega (arith, once x)) (λ x h. omega (arith, low x h))) (omega arith)

module _ (t : Tree) (w : Whole t) (S : SoundTree t) where
  counted_once : (x : ℕ) → times x (live_slots t) ≤ 1
  counted_once x = let L = (linked t w S).1 in omega (arith, rep_times L.rep x, L.once x)

  counted_low : (x : ℕ) → 256 ≤ x → times x (live_slots t) ≡ 0
  counted_low x h = let L = (linked t w S).1 in omega (arith, rep_times L.rep x, L.low x h)

  -- the table of links holds each live node
  pub all_live : live_nodes t ≡ t.links.count
  all_live =
      ap (count_below 256) (fun_ext (live_is t (sized t w) S.count_fits)) ∙ count_list 256 (live_slots t) counted_once counted_low
      ∙ length-take-le t.links.count t.links.order (omega (arith, w.links.order, S.count_fits))

-- ---- the verdict

-- no refusal before the last test is 9
other : (v : Verdict) (b : Bool) (r : Refusal) → (number_of r ≡ 9 → ⊥) → (number_in v ≡ 9 → ⊥) → number_in (checked v b r) ≡ 9 → ⊥
unfolding number_in
other (Ok tt) true r o n e = n e
other (Ok tt) false r o n e = o e
other (Err q) b r o n e = n e

last : (v : Verdict) (b : Bool) → (number_in v ≡ 9 → ⊥) → number_in (checked v b no.Full) ≡ 9 → (v ≡ Ok tt) × (b ≡ false)
unfolding number_in
last (Ok tt) true n e = absurd (omega arith)
last (Ok tt) false n e = (refl, refl)
last (Err q) b n e = absurd (n e)

module _ (t : Tree) (w : Whole t) (S : SoundTree t) (parent : Option NodeId) (v : LocalNode) where
  abbrev first : Verdict
  first = checked (held t) (parent_live t parent) no.DeadParent

  abbrev second : Verdict
  second = checked first (finite_local v) no.NotFinite

  abbrev third : Verdict
  third = checked second (known v.flags) no.UnknownFlags

  refused_is : (tree.outcome t (call.insert parent v)).refused ≡ number_in (insert_verdict t parent v)
  unfolding verdict
  refused_is = ap (λ (o : Outcome). o.refused) (outcome_is t (call.insert parent v))

  sound : held t ≡ Ok tt
  sound = rw ((decides t (sized t w)).1 S)

  not_9 : number_in third ≡ 9 → ⊥
  unfolding number_in number_of
  not_9 =
      other second (known v.flags) no.UnknownFlags (λ e. omega arith)
      (other first (finite_local v) no.NotFinite (λ e. omega arith) (other (held t) (parent_live t parent) no.DeadParent (λ e. omega arith) (λ e. let z = rw sound at e in omega arith)))

  only : (tree.outcome t (call.insert parent v)).refused ≡ 9 → Insertable t parent v × (live_nodes t ≡ 256)
  only e =
      let a = last third (ltb t.links.count 256) not_9 (sym refused_is ∙ e) in
      let b = checked_both second (known v.flags) no.UnknownFlags a.0 in
      let c = checked_both first (finite_local v) no.NotFinite b.0 in
      let d = checked_both (held t) (parent_live t parent) no.DeadParent c.0 in (
        record { parent_live = d.1; finite = c.1; flags_known = b.1 },
        omega (arith, all_live t w S, ltb-false t.links.count 256 a.1, S.count_fits),
      )

  by_count : (b : Bool) → ltb t.links.count 256 ≡ b → Insertable t parent v → (tree.outcome t (call.insert parent v)).refused ≡ number_in (checked_next b no.Full)
  by_count b e I = refused_is ∙ ap number_in (rw (sound, I.parent_live, I.finite, I.flags_known, e))

  always : Insertable t parent v → live_nodes t ≡ 256 → (tree.outcome t (call.insert parent v)).refused ≡ 9
  unfolding number_in number_of
  always I n = by_count false (le-ltb t.links.count 256 (omega (arith, all_live t w S))) I

  else_accepted : Insertable t parent v → (live_nodes t ≡ 256 → ⊥) → (tree.outcome t (call.insert parent v)).refused ≡ 0
  unfolding number_in
  else_accepted I n =
      elim (dec_lt t.links.count 256) [
        | yes l ↦ by_count true (lt-ltb t.links.count 256 l) I
        | no g ↦ absurd (n (omega (arith, all_live t w S, S.count_fits)))
      ]

-- of every sound tree
pub refuses_9 : (t : Tree) → Whole t → SoundTree t → FullAt256 t
refuses_9 t w S =
    record {
      all_counted = λ x h. live_is t (sized t w) S.count_fits x ∙ rw (counted_low t w S x h) (le-ltb 0 0 (omega arith));
      only = only t w S;
      always = always t w S;
      else_accepted = else_accepted t w S;
    }

-- and so after every list of calls from fresh
pub refuses_9_after : (calls : List Call) → FullAt256 (after calls)
refuses_9_after calls = let k = keeps_after calls in refuses_9 (after calls) k.0 k.1
