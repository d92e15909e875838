use Rattle.std.proofs.Common.{◌≡◌, rules, nat_eq, [], ◌∷◌, ◌++◌, length}
use Rattle.std.specs.List.{slice_split}
use Rattle.std.specs.Str.{bytes_eq}
use Rattle.std.proofs.lemmas.Iterator.Search.{position_from_yields_List}
use Rattle.std.proofs.lemmas.Iterator.Splits.{YieldsList-from_slice_split}
use Rattle.text_lines.specs.spelling.Words.{parted}
use Rattle.text_lines.proofs.spelling.Parted.{none, at_space, at_another}
use Rattle.text_lines.proofs.spelling.place.Goals as goal
use Rattle.text_lines.proofs.spelling.place.Goals.{After-split, then-last-eq32, else-last-eq32}

pub returns-in_err-last : goal.returns-in_err-last
returns-in_err-last c = let e : length c.args.names.now ≡ 0 = search rules in rw (none c.args.names.now e) (search rules)

-- the names are the parts of the text that is parted
parts : (c : After-split) → parted c.args.names.now ≡ slice_split (λ b. nat_eq b 32) c.if-last-eq32.names.now
parts c =
    let e : c.args.names.now ≡ c.in_ok-last.front.now ++ (c.in_ok-last.last.now ∷ []) = search rules in
    elim c.if-last-eq32.branch [
      | then-last-eq32 w ↦ rw w.names-is (at_space _ _ _ e w.if-last-eq32.true)
      | else-last-eq32 w ↦ rw w.names-is (at_another _ _ _ e w.if-last-eq32.false)
    ]

pub returns : goal.returns
returns c =
    rw (parts (goal.at.returns c).After-split)
    (position_from_yields_List (bytes_eq c.args.name.now) _ _ _ c.position.ensures.ran
    (YieldsList-from_slice_split _ (λ b. nat_eq b 32) _ c.split.ensures.rest c.split.ensures.done c.split.ensures.closure (λ x b q k. search rules))
    (λ x b q k. search rules))
