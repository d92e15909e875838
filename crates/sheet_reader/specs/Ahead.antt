-- A reader's place among the bytes that it holds.
use Rattle.std.specs.Prelude.{ℕ, List, drop}
use Rattle.sheet_lines.specs.Lines.{cut, behind}
use Rattle.sheet_reader.specs.declared.Reader.{Reader}

-- the bytes from its place on
abbrev pub ahead : Reader → List ℕ
ahead r = drop r.at r.src.now

-- behind the first line with its LF of those bytes; or, without such a line, where it is
abbrev pub moved : Reader → Reader
moved r = record { src = r.src; at = behind r.at (cut (ahead r)) }
