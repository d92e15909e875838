use native.Mathlib.Nat.{add-zero}
use Rattle.index_types.proofs.rooms.Segments.{cell}
use Rattle.index_types.specs.rooms.Tables.{box_at}
use Rattle.index_types.proofs.rooms.box_in.Goals as goal

pub returns : goal.returns
unfolding box_at
returns c = simp (cell, add-zero)
