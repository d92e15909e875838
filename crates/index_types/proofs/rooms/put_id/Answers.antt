use native.Mathlib.Numerals.{add-one}
use Rattle.index_types.specs.rooms.Tables.{put_id}
use Rattle.index_types.proofs.rooms.put_id.Goals as goal

pub returns : goal.returns
unfolding put_id
returns c = simp add-one
