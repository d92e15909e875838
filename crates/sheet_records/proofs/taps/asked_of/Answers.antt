use Rattle.sheet_calls.proofs.Finite.{tap_ranges}
use Rattle.sheet_records.proofs.values.Signed.{byte_near}
use Rattle.sheet_records.proofs.taps.asked_of.Goals as goal

pub small-bits-requires : goal.small-bits-requires
small-bits-requires c = let r = tap_ranges c.args.t c.requires in byte_near c.args.t.flags r.bits r.flags
