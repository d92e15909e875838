use Rattle.std.proofs.Common.{◌≡◌, arith, ◌-◌}
use Rattle.index_entries.proofs.slots.Slots.{slot_unused, slot_last, used_unused, used_last, generation_unused, generation_next}
use Rattle.index_entries.proofs.slots.take_slot.Goals as goal

pub returns-then-index-eq0-clause-key : goal.returns-then-index-eq0-clause-key
returns-then-index-eq0-clause-key c =
    let ix = c.args.index.now in
    let e = c.if-index-eq0.true in
    rw (slot_unused ix.entries ix.free ix.frees ix.used e, generation_unused ix.entries ix.free ix.frees ix.used e)

pub returns-then-index-eq0-clause-index : goal.returns-then-index-eq0-clause-index
returns-then-index-eq0-clause-index c =
    let ix = c.args.index.now in
    let none : ix.frees - 1 ≡ ix.frees = omega arith in
    rw (used_unused ix.entries ix.free ix.frees ix.used c.if-index-eq0.true, none)

-- the last freed slot is one of the 512
pub bounds-index-slot : goal.bounds-index-slot
bounds-index-slot c =
    let ix = c.args.index.now in
    omega (arith, c.requires.slot_fits, slot_last ix.entries ix.free ix.frees ix.used c.if-index-eq0.false)

pub returns-clause-key : goal.returns-clause-key
returns-clause-key c =
    let ix = c.args.index.now in
    let n = c.if-index-eq0.false in
    rw (slot_last ix.entries ix.free ix.frees ix.used n, generation_next ix.entries ix.free ix.frees ix.used n, c.next_generation-generation.ensures)

pub returns-clause-index : goal.returns-clause-index
returns-clause-index c =
    let ix = c.args.index.now in
    rw (used_last ix.entries ix.free ix.frees ix.used c.if-index-eq0.false)
