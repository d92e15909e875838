use Rattle.std.proofs.Common.{◌≡◌, map, take, sym, ◌∙◌, arith}
use Rattle.sheet_lines.specs.Saturated.{unfit, row, first_fields}
use Rattle.sheet_format.specs.Lines.{items}
use Rattle.sheet_reader.specs.Ahead.{ahead}
use Rattle.sheet_reader.proofs.Turns.{lines_read, line_21, line_22, line_23, line_read}
use Rattle.sheet_reader.proofs.Reader.lines.Goals as goal
use Rattle.sheet_reader.proofs.Reader.lines.Goals.{In-Some}

-- the row that is read is the first of what is ahead
read : (g : _) (c : In-Some g)
    → row (take g.L.SheetLine.WIDTH c.in-Some.row) (ahead c.line.new.self) ≡ first_fields g.L.SheetLine.WIDTH (ahead c.loop-line.self)
read g c = rw c.WIDTH.ensures at c.in-Some.ensures.numbers

pub returns-in_default : goal.returns-in_default
returns-in_default g c =
    let L = g.L.SheetLine in
    let M = g.met.L.SheetLine in
    let A = c.args in
    let l = c.loop-line in
    let e : unfit ≡ first_fields L.WIDTH (ahead l.self) = rw c.WIDTH.ensures at c.in_default.ensures.numbers in
    line_21 L.numbers (L.rule A.places) L.WIDTH (M.wide A.places) M.narrow (λ before. M.blind A.places before c.requires.places) A.first A.count l.line
    (items l.lines) (ahead A.self.now) (ahead l.self) c.requires.few l.invariant c.loop-line-test.true e

pub returns-then-not-is_in_range : goal.returns-then-not-is_in_range
returns-then-not-is_in_range g c =
    let L = g.L.SheetLine in
    let M = g.met.L.SheetLine in
    let A = c.args in
    let l = c.loop-line in
    let e = read g (goal.at.returns-then-not-is_in_range g c).In-Some in
    line_22 L.numbers (L.rule A.places) L.WIDTH (M.wide A.places) M.narrow (λ before. M.blind A.places before c.requires.places) A.first A.count l.line
    (items l.lines) (ahead A.self.now) (ahead l.self) c.requires.few l.invariant c.loop-line-test.true c.of_row-found.result c.in-Some.row
    (ahead c.line.new.self) c.of_row-found.ensures e (sym (c.is_in_range.ensures A.places) ∙ c.if-not-is_in_range.true)

pub returns-then-not-fits : goal.returns-then-not-fits
returns-then-not-fits g c =
    let L = g.L.SheetLine in
    let M = g.met.L.SheetLine in
    let A = c.args in
    let l = c.loop-line in
    let e = read g (goal.at.returns-then-not-fits g c).In-Some in
    let f : c.fits.result ≡ (L.rule A.places).fitting (map L.numbers (items l.lines)) (L.numbers c.of_row-found.result) =
    rw c.as_slice.ensures.value at c.fits.ensures in
    line_23 L.numbers (L.rule A.places) L.WIDTH (M.wide A.places) M.narrow (λ before. M.blind A.places before c.requires.places) A.first A.count l.line
    (items l.lines) (ahead A.self.now) (ahead l.self) c.requires.few l.invariant c.loop-line-test.true c.of_row-found.result c.in-Some.row
    (ahead c.line.new.self) c.of_row-found.ensures e (sym (c.is_in_range.ensures A.places) ∙ c.if-not-is_in_range.false) (sym f ∙ c.if-not-fits.true)

pub loop-line-preserved : goal.loop-line-preserved
loop-line-preserved g c =
    let L = g.L.SheetLine in
    let M = g.met.L.SheetLine in
    let A = c.args in
    let l = c.loop-line in
    let e = read g (goal.at.loop-line-preserved g c).In-Some in
    let f : c.fits.result ≡ (L.rule A.places).fitting (map L.numbers (items l.lines)) (L.numbers c.of_row-found.result) =
    rw c.as_slice.ensures.value at c.fits.ensures in
    line_read L.numbers (L.rule A.places) L.WIDTH (M.wide A.places) M.narrow (λ before. M.blind A.places before c.requires.places) A.first A.count l.line
    (items l.lines) (ahead A.self.now) (ahead l.self) c.requires.few l.invariant c.loop-line-test.true c.of_row-found.result c.in-Some.row
    (ahead c.line.new.self) c.of_row-found.ensures e (items c.push.new.self) c.push.ensures (sym (c.is_in_range.ensures A.places) ∙ c.if-not-is_in_range.false)
    (sym f ∙ c.if-not-fits.false)

pub returns : goal.returns
returns g c =
    let L = g.L.SheetLine in
    let A = c.args in
    let l = c.loop-line in
    lines_read L.numbers (L.rule A.places) A.first A.count l.line (items l.lines) (ahead A.self.now) (ahead l.self) l.invariant (omega arith)
