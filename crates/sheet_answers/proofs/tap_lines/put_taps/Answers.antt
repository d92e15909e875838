use Rattle.std.proofs.Common.{pos, ◌+◌, ℕ, List, length, sym, ap, subst, arith}
use Rattle.sheet_format.specs.declared.TapLine.{TapLine}
use Rattle.sheet_answers.specs.declared.taps.Answered.{Answered}
use Rattle.sheet_answers.specs.text.Text.{Stored}
use Rattle.sheet_answers.proofs.text.Digits.{nothing_stored, short_line}
use Rattle.sheet_answers.proofs.tap_lines.Lines.{no_text, one_more}
use Rattle.sheet_answers.proofs.tap_lines.put_taps.Goals as goal

-- what a table answers behind its end
abbrev blank : TapLine
blank = record { x = pos 0; y = pos 0; flags = pos 0 }

pub loop-i-init : goal.loop-i-init
loop-i-init c =
    let A = c.args in
    let e = no_text A.tree.now A.lines.now in
    record {
      short = omega (arith, ap length e);
      stored = subst (λ (l : List ℕ). Stored A.room.now A.room.now A.at A.at l) (sym e) (nothing_stored A.room.now A.at);
    }

pub loop-i-preserved : goal.loop-i-preserved
loop-i-preserved c =
    let A = c.args in
    let L = c.loop-i in
    let w = c.put_line-next in
    let i = L.i in
    let t = A.tree.now in
    let h = c.loop-i-test.true in
    let r = c.requires.ready i blank h in
    let hit = c.tapped-hit in
    let short =
    short_line (i + 1) hit.result.place hit.result.depth (omega (arith, h, c.requires.few))
    (omega (arith, ap (λ (x : Answered). x.place) hit.ensures, r.place)) (omega (arith, ap (λ (x : Answered). x.depth) hit.ensures, r.depth)) in
    let m = one_more t A.lines.now i blank h A.room.now L.room w.new.room A.at L.next w.result hit.result hit.ensures L.invariant.short L.invariant.stored short w.ensures in
    record { short = m.0; stored = m.1 }
