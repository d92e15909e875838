use native.Mathlib.Numerals.{add-one}
use Rattle.index_types.specs.rooms.Tables.{put_box}
use Rattle.index_types.proofs.rooms.Segments.{plus_2, plus_3}
use Rattle.index_types.proofs.rooms.put_box_in.Goals as goal

pub returns : goal.returns
unfolding put_box
returns c = simp (add-one, plus_2, plus_3)
