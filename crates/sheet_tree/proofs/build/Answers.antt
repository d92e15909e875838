use Rattle.std.proofs.Common.{◌∙◌, length}
use borrow.Author.Rules.{rules}
use Rattle.std.proofs.lemmas.List.{length-map}
use Rattle.sheet_format.specs.Lines.{items}
use Rattle.sheet_format.specs.Told.{place_numbers, sheet_of}
use Rattle.sheet_tree.proofs.places.Inserts.{held_up_to, committed}
use Rattle.sheet_tree.proofs.build.Goals as goal

pub commit_sound-requires : goal.commit_sound-requires
commit_sound-requires c =
    let s = c.args.sheet.now in
    (rw c.insert_all.ensures (held_up_to (sheet_of s) (length (items s.places))), search rules)

pub returns : goal.returns
returns c =
    let s = c.args.sheet.now in
    let e = rw (c.insert_all.ensures, ← length-map (items s.places) place_numbers) at c.commit_sound.ensures.tree in
    e ∙ committed (sheet_of s) c.requires.good
