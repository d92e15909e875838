-- "The lowest number that applies is given": the numbers of every call's conditions rise.
use mathlib.Core.Path.{◌≡◌, refl}
use mathlib.Core.Bool.{true}
use Rattle.counting.specs.Conditions.{rising_from, rising, Least}
use Rattle.counting.proofs.Conditions.{least}
use Rattle.plan.specs.Plan.{Plan}
use Rattle.plan.specs.Calls as call
use Rattle.plan.specs.Calls.{Call, Reading, conditions, conditions_of_reading}

module _ (p : Plan) where
  readings_rise : (r : Reading) → rising (conditions_of_reading p r) ≡ true
  unfolding rising_from
  readings_rise call.needs_commit = refl
  readings_rise (call.is_alive i) = refl
  readings_rise (call.local_transform i) = refl
  readings_rise (call.local_clip i) = refl
  readings_rise (call.local_bounds i) = refl
  readings_rise (call.hit_slop i) = refl
  readings_rise (call.z_index i) = refl
  readings_rise (call.flags i) = refl
  readings_rise (call.parent_of i) = refl
  readings_rise (call.children_of i room) = refl
  readings_rise (call.next_depth_first i) = refl
  readings_rise (call.prev_depth_first i) = refl
  readings_rise (call.world_transform i) = refl
  readings_rise (call.world_bounds i) = refl
  readings_rise (call.world_hit_bounds i) = refl

  rows_rise : (c : Call) → rising (conditions p c) ≡ true
  unfolding rising_from
  rows_rise (call.insert parent v) = refl
  rows_rise (call.remove i) = refl
  rows_rise (call.reparent i parent) = refl
  rows_rise (call.set_local_transform i t) = refl
  rows_rise (call.set_local_clip i c) = refl
  rows_rise (call.set_local_bounds i r) = refl
  rows_rise (call.set_hit_slop i s) = refl
  rows_rise (call.set_z_index i z) = refl
  rows_rise (call.set_flags i f) = refl
  rows_rise (call.commit room) = refl
  rows_rise (call.read r) = readings_rise r
  rows_rise (call.request q asked room) = refl

  pub lowest_given : (c : Call) → Least (conditions p c)
  lowest_given c = least (conditions p c) (rows_rise c)
