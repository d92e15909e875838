use Rattle.std.proofs.Common.{◌≡◌, ℕ, Bool, true, false, ◌&&◌, leb, le-leb, get_or, take, refl, sym}
use Rattle.std.proofs.lemmas.Bool.{lt-leb}
use Rattle.counting.specs.Times.{times}
use Rattle.counting.specs.Lists.{once_below}
use Rattle.index_types.specs.Slots.{entry}
use Rattle.index_sound.specs.Sound.{slot_right, sound_of}
use Rattle.index_sound.proofs.Every.{every_same}
use Rattle.index_sound.proofs.is_sound.Goals as goal

-- a list that does not count
refused : (a p q : Bool) → p ≡ false → false ≡ a && (p && q)
refused true p q e = rw e
refused false p q e = refl

second_refused : (a p q r : Bool) → q ≡ false → false ≡ a && (p && (q && r))
second_refused true true q r e = rw e
second_refused true false q r e = refl
second_refused false p q r e = refl

pub returns-in_default-clause-test : goal.returns-in_default-clause-test
unfolding sound_of
returns-in_default-clause-test c = let ix = c.args.index.now in refused (leb ix.used 512) _ _ (sym c.in_default.ensures.known)

pub returns-in_default-counted-clause-test : goal.returns-in_default-counted-clause-test
unfolding sound_of
returns-in_default-counted-clause-test c = let ix = c.args.index.now in second_refused (leb ix.used 512) (once_below 512 ix.free ix.frees) _ _ (sym c.in_default-counted.ensures.known)

pub returns-then-index-le512-clause-test : goal.returns-then-index-le512-clause-test
unfolding sound_of
returns-then-index-le512-clause-test c =
    let ix = c.args.index.now in
    let free = c.in-Some.ensures.counts c.in-Some.free refl in
    let queue = c.in-Some-counted.ensures.counts c.in-Some-counted.queue refl in
    rw (c.slots_right.ensures, le-leb ix.used 512 c.if-index-le512.true, ← c.in-Some.ensures.known, ← c.in-Some-counted.ensures.known)
    (every_same 512
    (λ (x : ℕ). slot_right x ix.used (entry ix x).mark (get_or c.in-Some.free x 0) (get_or c.in-Some-counted.queue x 0))
    (λ (x : ℕ). slot_right x ix.used (entry ix x).mark (times x (take ix.frees ix.free)) (times x (take ix.queued ix.dirty)))
    (λ x. rw (free x, queue x)))

pub returns-else-index-le512-clause-test : goal.returns-else-index-le512-clause-test
unfolding sound_of
returns-else-index-le512-clause-test c = let ix = c.args.index.now in rw (lt-leb ix.used 512 c.if-index-le512.false)
