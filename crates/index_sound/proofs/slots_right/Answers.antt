use Rattle.std.proofs.Common.{rules, refl, tests, ℕ, get_or}
use Rattle.std.proofs.lemmas.Iterator.{YieldsList-from_range}
use Rattle.std.proofs.lemmas.Iterator.Search.{all_from_yields_List}
use Rattle.index_types.specs.Slots.{entry}
use Rattle.index_sound.specs.Sound as spec
use Rattle.index_sound.proofs.Every.{every_in_range}
use Rattle.index_sound.proofs.slots_right.Goals as goal

pub returns : goal.returns
returns c =
    let A = c.args in
    let right = λ (x : ℕ). spec.slot_right x A.index.now.used (entry A.index.now x).mark (get_or A.free.now x 0) (get_or A.queue.now x 0) in
    rw (← every_in_range 512 right)
    (all_from_yields_List right _ _ c.all.result c.all.ensures.ran (YieldsList-from_range 0 512 512 refl refl) (λ x b q k. search (rules, tests)))
