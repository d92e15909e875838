use native.Mathlib.Decide.{dec_lt}
use borrow.Author.Tests.{lt-ltb, le-ltb, eq-eqb, ne_eqb}
use Rattle.std.proofs.Common.{◌≡◌, ◌∙◌, ℕ, ℤ, ◌&&◌, ◌||◌, refl, arith, Option, Some, Ordering}
use Rattle.std.specs.Prelude.{ltb, eqb}
use Rattle.std.specs.Int.Signed.{lt_z, le_z}
use Rattle.std.specs.Ordering.{nat_cmp, int_cmp, partial_ordering_then, is_some_and, is_gt}
use Rattle.std.proofs.lemmas.Grind.{common_steps}
use Rattle.tree_state.specs.Tree.{local_at}
use Rattle.tree_steps.specs.Requests.{stronger}
use Rattle.tree_taps.proofs.order.stronger.Goals as goal

-- which is the greater by a number, and then by the rest
by_number : (x y : ℕ) (o : Option Ordering) → is_some_and is_gt (partial_ordering_then (Some (nat_cmp x y)) o) ≡ ltb y x || (eqb x y && is_some_and is_gt o)
by_number x y o =
    elim (dec_lt x y) [
      | yes l ↦ rw (lt-ltb x y l, le-ltb y x (omega arith), ne_eqb x y (λ e. omega arith))
      | no m ↦ elim (dec_lt y x) [
        | yes g ↦ rw (le-ltb x y (omega arith), lt-ltb y x g, ne_eqb x y (λ e. omega arith))
        | no n ↦ (let e : x ≡ y = omega arith in rw (e, le-ltb y y (omega arith), eq-eqb y y refl))
      ]
    ]

by_level : (x y : ℤ) (o : Option Ordering) → is_some_and is_gt (partial_ordering_then (Some (int_cmp x y)) o) ≡ lt_z y x || (le_z y x && is_some_and is_gt o)
by_level x y o = grind (arith, common_steps)

last : (x y : ℕ) → is_some_and is_gt (Some (nat_cmp x y)) ≡ ltb y x
last x y =
    elim (dec_lt x y) [
      | yes l ↦ rw (lt-ltb x y l, le-ltb y x (omega arith))
      | no m ↦ elim (dec_lt y x) [
        | yes g ↦ rw (le-ltb x y (omega arith), lt-ltb y x g, ne_eqb x y (λ e. omega arith))
        | no n ↦ (let e : x ≡ y = omega arith in rw (e, le-ltb y y (omega arith), eq-eqb y y refl))
      ]
    ]

chain : (lx ly : ℤ) (dx dy gx gy x y : ℕ)
    → is_some_and is_gt (partial_ordering_then (Some (int_cmp lx ly)) (partial_ordering_then (Some (nat_cmp dx dy)) (partial_ordering_then (Some (nat_cmp gx gy)) (Some (nat_cmp x y)))))
    ≡ lt_z ly lx || (le_z ly lx && (ltb dy dx || (eqb dx dy && (ltb gy gx || (eqb gx gy && ltb y x)))))
chain lx ly dx dy gx gy x y = rw (by_level lx ly (partial_ordering_then (Some (nat_cmp dx dy)) (partial_ordering_then (Some (nat_cmp gx gy)) (Some (nat_cmp x y)))), by_number dx dy (partial_ordering_then (Some (nat_cmp gx gy)) (Some (nat_cmp x y))), by_number gx gy (Some (nat_cmp x y)), last x y)

pub returns : goal.returns
unfolding stronger local_at
returns c =
    let r = c.rank_of.result in
    let s = c.rank_of-2.result in
    c.gt.ensures ∙ chain r.level s.level r.depth s.depth r.generation s.generation r.slot s.slot
    ∙ rw (c.rank_of.ensures.0, c.rank_of.ensures.1, c.rank_of.ensures.2, c.rank_of.ensures.3, c.rank_of-2.ensures.0, c.rank_of-2.ensures.1, c.rank_of-2.ensures.2, c.rank_of-2.ensures.3)
