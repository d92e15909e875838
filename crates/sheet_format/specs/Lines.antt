-- The lines that a table of lines stands for.
use Rattle.std.specs.Prelude.{ℕ, List, take}
use Rattle.sheet_format.specs.declared.lines.Lines.{Lines}

abbrev pub items : {L : Type 0} {MOST : ℕ} → Lines L MOST → List L
items l = take l.count l.rows
