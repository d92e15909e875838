use Rattle.std.proofs.Common.{◌≡◌, ◌||◌, List, [], ◌∷◌, map, ℤ, refl, ap, ◌∙◌, rules, tests}
use Rattle.std.specs.List.{list_any}
use Rattle.std.specs.Ordering.{int_eq}
use Rattle.std.proofs.lemmas.Iterator.{YieldsList-from_slice}
use Rattle.std.proofs.lemmas.Iterator.Search.{any_from_yields_List}
use Rattle.sheet_format.specs.declared.ClipLine.{ClipLine}
use Rattle.sheet_format.specs.Sheet.{equal, clip_of, clipped_before}
use Rattle.sheet_format.specs.Told.{clip_numbers}
use Rattle.sheet_format.proofs.Equal.{equal_by}
use Rattle.sheet_reader.proofs.lines.is_clipped.Goals as goal

named : (k : ℤ) (cs : List ClipLine) → list_any (λ (x : ClipLine). int_eq x.place k) cs ≡ clipped_before (map clip_numbers cs) k
unfolding clipped_before clip_of
named k [] = refl
named k (x ∷ cs) = rw (equal_by k x.place) (ap (λ b. equal k x.place || b) (named k cs))

pub returns : goal.returns
returns c =
    let cs = c.args.clips.now in
    let k = c.args.place in
    let e : c.any.result ≡ list_any (λ (x : ClipLine). int_eq x.place k) cs =
    any_from_yields_List (λ (x : ClipLine). int_eq x.place k) _ _ c.any.result c.any.ensures.ran (YieldsList-from_slice cs cc) (λ x b q h. search (rules, tests)) in
    e ∙ named k cs
