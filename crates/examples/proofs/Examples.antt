-- Document 01's examples P1 to P12, proved: rows about taps, ids and refusals go by demand 3, so the plan computes them.
use Rattle.std.specs.Prelude.{Some, Ok, None}
use mathlib.Core.Path.{◌≡◌, refl, sym, ap, ◌∙◌}
use mathlib.Core.Bool.{false}
use mathlib.Core.List.{List, [], ◌∷◌}
use Prim.Native.Nat.{ℕ}
use lib.ListN.{length}
use lib.Ieee.{binary64, round}
use Rattle.numbers.specs.Rounded.{zero}
use Rattle.geometry.specs.declared.point.Point.{Point}
use Rattle.geometry.specs.declared.rect.Rect.{Rect}
use Rattle.geometry.specs.Rectangle.{rect}
use Rattle.tree_types.specs.declared.NodeFlags.{NodeFlags}
use Rattle.index_types.specs.declared.NodeId.{NodeId}
use Rattle.tree_types.specs.Local.{flags}
use Rattle.index_rows.proofs.Rows as entries
use Rattle.tree_state.specs.Tree.{fresh_tree}
use Rattle.tree_commit.specs.Commit.{after_work, commit_call}
use Rattle.tree_readings.specs.Answers as reads
use Rattle.tree_run.specs.Run as tree
use Rattle.tree_rows.proofs.Rows.{after}
use Rattle.tree_rows.proofs.damage.Damage as rows
use Rattle.plan.specs.Plan.{Plan, empty}
use Rattle.plan.specs.Afresh.{world_bounds, nothing, hit, tap}
use Rattle.plan.specs.Calls as call
use Rattle.plan.specs.Calls.{Call, Outcome, lowest, conditions_of_request, step, outcome}
use Rattle.plan.specs.Demand.{Answer, tapped, listed, run, outcomes, answer_if, answer}
use Rattle.plan.proofs.Redaction.{redacted_same}
use Rattle.plan.proofs.Cases as cases
use Rattle.plan.proofs.Rows.{num, point, id, root, child, words, settle, a, b, c, half_clip}
use Rattle.sheet_format.specs.Sheet.{read_sheet}
use Rattle.sheet_calls.proofs.Rows as sheets
use Rattle.sheet_calls.specs.Answers.{bytes, output}
use Rattle.agreement_calls.proofs.Tests.{held_accepted}
use Rattle.agreement_calls.proofs.Fresh.{known_fresh}
use Rattle.demand3.proofs.Theorem.{demand_3}
use Rattle.demand3.proofs.Readings.{accepted}
use Rattle.demand3.proofs.Links.{children_told_lem}
use Rattle.examples.specs.Examples.{told, answers, tap_at, children_at, given, example_sheet, flat_root, flat_child, calls_in, FlatNode, own, Examples}
use Rattle.examples.proofs.Flat.{no_candidate, not_answered, nothing_hit}

-- ---- the rows that go by demand 3: the plan computes them

by_plan : (cs : List Call) (os : List Outcome) → outcomes step outcome empty cs ≡ os → answers cs ≡ os
by_plan cs os e = demand_3.alike cs ∙ e

tap_by_plan : (cs : List Call) (pt : Point) (r : Answer) → answer (run step empty cs) (flags 3) (words 512) (call.hit_test_point pt) ≡ r → tap_at cs pt ≡ r
unfolding after
tap_by_plan cs pt r e = demand_3.answered cs (flags 3) (words 512) (call.hit_test_point pt) ∙ e

ids_2 : answers (root ∷ settle ∷ []) ≡ given (id 0 1) ∷ told 0 ∷ []
unfolding cases.computed
ids_2 = by_plan (root ∷ settle ∷ []) (given (id 0 1) ∷ told 0 ∷ []) refl

ids_3 : answers (root ∷ child a ∷ call.remove a ∷ root ∷ root ∷ [])
    ≡ given (id 0 1) ∷ given (id 1 1) ∷ told 0 ∷ given (id 0 2) ∷ given (id 1 2) ∷ []
unfolding cases.computed
ids_3 =
    by_plan (root ∷ child a ∷ call.remove a ∷ root ∷ root ∷ [])
    (given (id 0 1) ∷ given (id 1 1) ∷ told 0 ∷ given (id 0 2) ∷ given (id 1 2) ∷ []) refl

refused_4 : answers (root ∷ child a ∷ call.reparent a (Some b) ∷ call.reparent a (Some a) ∷ [])
    ≡ given a ∷ given b ∷ told 4 ∷ told 4 ∷ []
unfolding cases.computed
refused_4 =
    by_plan (root ∷ child a ∷ call.reparent a (Some b) ∷ call.reparent a (Some a) ∷ [])
    (given a ∷ given b ∷ told 4 ∷ told 4 ∷ []) refl

sheet_6 : (world_bounds (run step empty (calls_in (read_sheet example_sheet))) 1 ≡ rect (num 80) zero (num 100) (num 40))
    × (output example_sheet ≡ bytes "4\n1 2 2\n2 2 2\n3 1 1\n4 0 0\n")
unfolding cases.computed sheets.computed
sheet_6 = (refl, refl)

-- a tap of the example's tree
sheet_tap : (x y : ℕ) (r : Answer) → answer (run step empty (calls_in (read_sheet example_sheet))) (flags 3) (words 512) (call.hit_test_point (point x y)) ≡ r
    → tap_at (calls_in (read_sheet example_sheet)) (point x y) ≡ r
sheet_tap x y r e = tap_by_plan (calls_in (read_sheet example_sheet)) (point x y) r e

sheet_taps : (tap_at (calls_in (read_sheet example_sheet)) (point 90 10) ≡ tapped (hit b (a ∷ b ∷ [])))
    × (tap_at (calls_in (read_sheet example_sheet)) (point 100 10) ≡ tapped (hit b (a ∷ b ∷ [])))
    × (tap_at (calls_in (read_sheet example_sheet)) (point 80 10) ≡ tapped (hit a (a ∷ [])))
    × (tap_at (calls_in (read_sheet example_sheet)) (point 200 200) ≡ tapped nothing)
unfolding cases.computed sheets.computed
sheet_taps =
    (sheet_tap 90 10 (tapped (hit b (a ∷ b ∷ []))) refl, sheet_tap 100 10 (tapped (hit b (a ∷ b ∷ []))) refl, sheet_tap 80 10 (tapped (hit a (a ∷ []))) refl, sheet_tap 200 200 (tapped nothing) refl)

taps_7 : (tap_at half_clip (point 10 10) ≡ tapped (hit a (a ∷ [])))
    × (tap_at half_clip (record { x = round binary64 false 21 2; y = num 10 }) ≡ tapped nothing)
unfolding cases.computed half_clip
taps_7 =
    (tap_by_plan half_clip (point 10 10) (tapped (hit a (a ∷ []))) refl, tap_by_plan half_clip (record { x = round binary64 false 21 2; y = num 10 }) (tapped nothing) refl)

-- where no number applies, a request's answer is what is found; redaction changes nothing of it
tap_accepted : (p : Plan) (asked : NodeFlags) (room : List ℕ) (pt : Point) (n : ℕ) → lowest (conditions_of_request p asked (length room)) ≡ n
    → answer p asked room (call.hit_test_point pt) ≡ answer_if n (tapped (tap p asked pt))
unfolding answer
tap_accepted p asked room pt n e = rw (e, redacted_same asked p (call.hit_test_point pt))

never_8 : (calls : List Call) (asked : NodeFlags) (room : List ℕ) (pt : Point) (i : NodeId) (path : List NodeId)
    → tree.answer (after calls) asked room (call.hit_test_point pt) ≡ tapped (hit i path) → FlatNode (run step empty calls) i.0 → ⊥
unfolding after
never_8 calls asked room pt i path e F =
    let p = run step empty calls in
    let n = lowest (conditions_of_request p asked (length room)) in
    let by_plan = demand_3.answered calls asked room (call.hit_test_point pt) ∙ tap_accepted p asked room pt n refl in
    not_answered p asked pt i path n (sym by_plan ∙ e) F

alone_8 : (pt : Point) → tap_at (flat_root ∷ settle ∷ []) pt ≡ tapped nothing
unfolding cases.computed
alone_8 pt =
    let p = run step empty (flat_root ∷ settle ∷ []) in
    tap_by_plan (flat_root ∷ settle ∷ []) pt (tapped nothing)
    (tap_accepted p (flags 3) (words 512) pt 0 refl ∙ ap tapped (nothing_hit p 0 refl (own (record { a = refl; b = refl; c = refl; d = refl })) (flags 3) pt))

before_8 : tap_at (root ∷ flat_child ∷ settle ∷ []) (point 5 5) ≡ tapped (hit a (a ∷ []))
unfolding cases.computed
before_8 = tap_by_plan (root ∷ flat_child ∷ settle ∷ []) (point 5 5) (tapped (hit a (a ∷ []))) refl

no_damage_1 : (commit_call fresh_tree 2048).answer ≡ Ok 0
unfolding commit_call after_work
no_damage_1 = rw (held_accepted fresh_tree empty known_fresh) (ap (λ (l : List Rect). Ok (length l)) rows.p1)

children_5 : children_at (root ∷ child a ∷ child a ∷ call.reparent b (Some a) ∷ []) a ≡ listed (c ∷ b ∷ [])
unfolding after cases.computed
children_5 = children_told_lem (root ∷ child a ∷ child a ∷ call.reparent b (Some a) ∷ []) a (words 512) ∙ refl

next_10 : reads.next_call (after (root ∷ child a ∷ root ∷ [])) b ≡ Ok None
unfolding after cases.computed
next_10 = rw (accepted (root ∷ child a ∷ root ∷ []) (call.next_depth_first b) refl, (rows.p10).0)

tap_9 : tap_at (root ∷ root ∷ call.remove a ∷ root ∷ settle ∷ []) (point 5 5) ≡ tapped (hit (id 0 2) (id 0 2 ∷ []))
unfolding cases.computed
tap_9 = tap_by_plan (root ∷ root ∷ call.remove a ∷ root ∷ settle ∷ []) (point 5 5) (tapped (hit (id 0 2) (id 0 2 ∷ []))) refl

-- ---- the theorem

pub examples : Examples
examples =
    record {
      p1 = no_damage_1;
      p2 = (ids_2, rows.p2);
      p3 = ids_3;
      p4 = refused_4;
      p5 = children_5;
      p6 = (sheet_6.0, sheet_6.1, sheet_taps.0, sheet_taps.1, sheet_taps.2, sheet_taps.3);
      p7 = taps_7;
      p8 = (no_candidate, never_8, alone_8, before_8);
      p9 = tap_9;
      p10 = next_10;
      p11 = ((entries.p11_p12).0, (entries.p11_p12).1, (entries.p11_p12).2, (entries.p11_p12).3);
      p12 = (entries.p11_p12).4;
    }
