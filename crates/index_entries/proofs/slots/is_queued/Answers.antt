use Rattle.std.proofs.Common.{take, ◌∙◌}
use Rattle.index_entries.proofs.slots.Queue.{search_finds}
use Rattle.index_entries.proofs.slots.is_queued.Goals as goal

pub returns : goal.returns
returns c = let ix = c.args.index.now in c.contains.ensures.value ∙ search_finds c.args.slot (take ix.queued ix.dirty)
