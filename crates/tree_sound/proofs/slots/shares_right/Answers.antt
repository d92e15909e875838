use Rattle.std.proofs.Common.{rules, tests, refl, ◌∙◌, ◌+◌, ℕ, get_or, ltb, eqb}
use Rattle.std.proofs.lemmas.Iterator.{YieldsList-from_range}
use Rattle.std.proofs.lemmas.Iterator.Search.{all_from_yields_List}
use Rattle.counting.specs.Times.{tally}
use Rattle.index_sound.proofs.Every.{every_in_range}
use Rattle.tree_sound.proofs.slots.shares_right.Goals as goal

pub returns : goal.returns
returns c =
    let A = c.args in
    let right = λ (x : ℕ). eqb (get_or A.live.now x 0 + get_or A.free.now x 0) (tally (ltb x A.used)) in
    all_from_yields_List right _ _ c.all.result c.all.ensures.ran (YieldsList-from_range 0 256 256 refl refl) (λ x b q k. search (rules, tests)) ∙ every_in_range 256 right
