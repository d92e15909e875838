use Rattle.std.proofs.Common.{◌≡◌, not, sym, ◌∙◌}
use borrow.Author.Tests.{not-true, leb-false}
use Rattle.counting.proofs.Conditions.{passed}
use Rattle.index_entries.proofs.Fits.{counts_of, inserts}
use Rattle.understory_index.proofs.inserts.insert.Goals as goal
use Rattle.understory_index.proofs.inserts.insert.Goals.{then-index-eq0, else-index-eq0}

-- a sound index that is not full has a slot for the entry
pub insert_entry-key-requires : goal.insert_entry-key-requires
insert_entry-key-requires c =
    let ix = c.args.index.now in
    let sound = passed c.is_sound.result _ _ c.in_ok-check.ensures in
    let free = passed (not c.if-index-eq0.full) _ _ c.in_ok-check-2.ensures in
    inserts ix c.is_sound.ensures.lengths (counts_of ix c.is_sound.ensures.lengths (sym c.is_sound.ensures.test ∙ sound))
    (λ (e : ix.frees ≡ 0). elim c.if-index-eq0.branch [
      | then-index-eq0 w ↦ leb-false 512 ix.used (sym w.full-is ∙ not-true c.if-index-eq0.full free)
      | else-index-eq0 w ↦ absurd (w.if-index-eq0.false e)
    ])
