-- The section from here on, with the lines before, is the whole section.
use Rattle.sheet_format.specs.Lines.{items}
use Rattle.sheet_reader.specs.Ahead.{ahead}
use Rattle.sheet_reader.proofs.Turns.{Here}
use Rattle.sheet_reader.proofs.Reader.lines.Given as goal

abbrev pub invariant-loop-line : goal.invariant-loop-line
invariant-loop-line g l = Here g.L.SheetLine.numbers (g.L.SheetLine.rule l.places) l.first l.count l.line (items l.lines) (ahead l.fn.self) (ahead l.self)
