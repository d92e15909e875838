-- The slot of a new node, as the code's steps speak of it.
use Rattle.std.specs.Prelude.{◌≤◌, ◌<◌}
use Rattle.index_types.specs.declared.NodeId.{NodeId}
use Rattle.tree_state.specs.declared.Slots.{Slots}
use Rattle.tree_steps.specs.Structure.{slot_of, generation_of}

abbrev pub id_of : Slots → NodeId
id_of s = record { 0 = slot_of s; 1 = generation_of s }

-- there is a slot to take
pub record Takes (s : Slots) : Type 0 where
  pub used_fits : s.used ≤ 256
  pub free_fits : s.frees ≤ 256
  pub slot_low : slot_of s < 256
