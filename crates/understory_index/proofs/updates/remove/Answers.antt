use Rattle.std.proofs.Common.{sym, ◌∙◌}
use Rattle.counting.proofs.Conditions.{passed}
use Rattle.index_entries.proofs.Finding.{look_live, live_slot}
use Rattle.index_entries.proofs.Fits.{counts_of, removes}
use Rattle.understory_index.proofs.Told.{remove_refused, remove_accepted}
use Rattle.understory_index.proofs.updates.remove.Goals as goal

-- a live key's slot has its place in the queue, and in the free list
pub remove_entry-requires : goal.remove_entry-requires
remove_entry-requires c =
    let ix = c.args.index.now in
    let k = c.args.key in
    let lengths = c.is_sound.ensures.lengths in
    let sound = passed c.is_sound.result _ _ c.in_ok-check.ensures in
    let live = (look_live ix k c.in-Some._entry (sym c.look_up.ensures ∙ c.in-Some.is)).0 in
    let held = live_slot ix k live in
    removes ix lengths (counts_of ix lengths (sym c.is_sound.ensures.test ∙ sound)) k.0 held.0 held.1

pub returns-in_default-clause-answer : goal.returns-in_default-clause-answer
returns-in_default-clause-answer c =
    (remove_refused c.args.index.now (sym c.is_sound.ensures.test ∙ passed c.is_sound.result _ _ c.in_ok-check.ensures) c.args.key (sym c.look_up.ensures ∙ c.in_default.is)).0

pub returns-in_default-clause-index : goal.returns-in_default-clause-index
returns-in_default-clause-index c =
    (remove_refused c.args.index.now (sym c.is_sound.ensures.test ∙ passed c.is_sound.result _ _ c.in_ok-check.ensures) c.args.key (sym c.look_up.ensures ∙ c.in_default.is)).1

pub returns-clause-answer : goal.returns-clause-answer
returns-clause-answer c =
    (remove_accepted c.args.index.now (sym c.is_sound.ensures.test ∙ passed c.is_sound.result _ _ c.in_ok-check.ensures) c.args.key c.in-Some._entry (sym c.look_up.ensures ∙ c.in-Some.is)).0

pub returns-clause-index : goal.returns-clause-index
returns-clause-index c =
    c.remove_entry.ensures
    ∙ (remove_accepted c.args.index.now (sym c.is_sound.ensures.test ∙ passed c.is_sound.result _ _ c.in_ok-check.ensures) c.args.key c.in-Some._entry (sym c.look_up.ensures ∙ c.in-Some.is)).1
