use Rattle.std.proofs.Common.{◌≡◌, ◌+◌, ◌-◌, ◌++◌, ℕ, take, sym, ap, ◌∙◌, subst, arith}
use native.Mathlib.Numerals.{add-one}
use lib.ListN.{get_or}
use Rattle.sheet_answers.specs.text.Text.{Stored, marked, spaced}
use Rattle.sheet_answers.proofs.text.Digits.{nothing_stored, then_stored, text_same, room_kept, one_spaced, line_ends, spaced_short}
use Rattle.sheet_answers.proofs.text.put_line.Goals as goal

pub loop-i-init : goal.loop-i-init
unfolding spaced
loop-i-init g c = nothing_stored c.args.room.now c.args.at

pub put_marked-next-requires : goal.put_marked-next-requires
put_marked-next-requires g c =
    let A = c.args in
    let L = c.loop-i in
    let ns = A.numbers.now in
    let short = spaced_short ns L.i c.requires.small in (
      c.requires.small L.i 0 (omega (arith, c.loop-i-test.true, c.told-numbers)),
      omega (arith, c.loop-i-test.true, L.invariant.behind, room_kept L.invariant, short, c.requires.long),
    )

pub loop-i-preserved : goal.loop-i-preserved
loop-i-preserved g c =
    let A = c.args in
    let L = c.loop-i in
    let w = c.put_marked-next in
    let ns = A.numbers.now in
    let e : spaced (take L.i ns) ++ marked (get_or ns L.i 0) 32 ≡ spaced (take (L.i + 1) ns) =
    sym (one_spaced ns L.i 0 (omega (arith, c.loop-i-test.true, c.told-numbers))) ∙ ap (λ (k : ℕ). spaced (take k ns)) (sym (add-one L.i)) in
    text_same A.room.now w.new.room A.at w.result (spaced (take L.i ns) ++ marked (get_or ns L.i 0) 32) (spaced (take (L.i + 1) ns)) e
    (then_stored A.room.now L.room w.new.room A.at L.next w.result (spaced (take L.i ns)) (marked (get_or ns L.i 0) 32) L.invariant w.ensures)

pub put_marked-requires : goal.put_marked-requires
put_marked-requires g c =
    let A = c.args in
    let L = c.loop-i in
    let ns = A.numbers.now in
    let short = spaced_short ns L.i c.requires.small in
    let end : L.i ≡ g.row.N - 1 = omega (arith, c.loop-i-test.false, L.auto.i-end) in (
      c.requires.small (g.row.N - 1) 0 (omega (arith, c.requires.some, c.told-numbers)),
      omega (arith, end, c.requires.some, L.invariant.behind, room_kept L.invariant, short, c.requires.long),
    )

pub returns : goal.returns
returns g c =
    let A = c.args in
    let L = c.loop-i in
    let w = c.put_marked in
    let ns = A.numbers.now in
    let last = g.row.N - 1 in
    let end : L.i ≡ last = omega (arith, c.loop-i-test.false, L.auto.i-end) in
    let before : Stored A.room.now L.room A.at L.next (spaced (take last ns)) =
    subst (λ (k : ℕ). Stored A.room.now L.room A.at L.next (spaced (take k ns))) end L.invariant in
    text_same A.room.now w.new.room A.at w.result (spaced (take last ns) ++ marked (get_or ns last 0) 10) _
    (line_ends ns last 0 (omega (arith, c.requires.some, c.told-numbers)))
    (then_stored A.room.now L.room w.new.room A.at L.next w.result (spaced (take last ns)) (marked (get_or ns last 0) 10) before w.ensures)
