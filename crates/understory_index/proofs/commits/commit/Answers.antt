use Rattle.std.proofs.Common.{sym, ◌∙◌}
use Rattle.counting.proofs.Conditions.{passed}
use Rattle.index_sound.proofs.Exact.{decides}
use Rattle.understory_index.proofs.commits.commit.Goals as goal

-- what the passed test of soundness tells
pub commit_slots-requires-clause-sound : goal.commit_slots-requires-clause-sound
commit_slots-requires-clause-sound c =
    let ix = c.args.index.now in
    let lengths = c.is_sound.ensures.lengths in
    let sound = passed c.is_sound.result _ _ c.in_ok-check.ensures in
    (ix.used, (decides ix.entries ix.free ix.frees ix.dirty ix.queued ix.used lengths.entries_whole lengths.free_whole lengths.dirty_whole).0 (sym c.is_sound.ensures.test ∙ sound))
