use Rattle.std.proofs.Common.{◌≡◌, Err, ◌∙◌, rules}
use Rattle.sheet_format.specs.Told.{number_of}
use Rattle.sheet_reader.specs.Ahead.{ahead}
use Rattle.sheet_reader.proofs.Counts.{count_stops, count_goes}
use Rattle.sheet_reader.proofs.Reader.counted.Goals as goal

pub returns-in_err-count : goal.returns-in_err-count
returns-in_err-count g c =
    let A = c.args in
    let r = c.in_err-count.field-0.0 in
    let e : c.from_residual.result ≡ Err r = search rules in
    rw e (count_stops (g.L.SheetLine.rule A.places) A.most A.line (ahead A.self.now) (number_of r.why) r.line c.in_err-count.ensures.value)

pub returns : goal.returns
returns g c =
    let A = c.args in
    c.lines.ensures
    ∙ count_goes (g.L.SheetLine.rule A.places) A.most A.line (ahead A.self.now) (ahead c.count.new.self) c.in_ok-count.count c.in_ok-count.ensures.value
