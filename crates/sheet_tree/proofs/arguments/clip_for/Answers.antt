use Rattle.std.proofs.Common.{◌≡◌, Bool, true, false, cond, Option, None, Some, option_map, List, [], ◌∷◌, map, ℕ, pos, refl, ap, ◌∙◌, rules, tests}
use Rattle.std.specs.List.{find}
use Rattle.std.specs.Ordering.{int_eq}
use Rattle.std.proofs.lemmas.Iterator.{YieldsList-from_slice}
use Rattle.std.proofs.lemmas.Iterator.Search.{find_from_yields_List}
use Rattle.geometry_clips.specs.declared.clip.Clip.{Clip}
use Rattle.geometry_clips.specs.declared.clip.Clip.TheVariants as clip
use Rattle.sheet_format.specs.declared.ClipLine.{ClipLine}
use Rattle.sheet_format.specs.Sheet.{clip_of}
use Rattle.sheet_format.specs.Told.{clip_numbers}
use Rattle.sheet_format.proofs.Equal.{equal_is}
use Rattle.sheet_calls.specs.Calls.{clip_on, clip_for}
use Rattle.sheet_tree.proofs.arguments.clip_for.Goals as goal

abbrev clip_at : Option ClipLine → Clip
clip_at None = clip.None
clip_at (Some c) = clip_on c

-- the line of place k
abbrev named : ℕ → ClipLine → Bool
named k c = int_eq c.place (pos k)

by : (b : Bool) (k : ℕ) (c : ClipLine) (cs : List ClipLine) → clip_at (find (named k) cs) ≡ clip_for (map clip_numbers cs) k
    → clip_at (cond b (Some c) (find (named k) cs)) ≡ cond b (clip_on c) (clip_for (map clip_numbers cs) k)
by true k c cs e = refl
by false k c cs e = e

first : (k : ℕ) (cs : List ClipLine) → clip_at (find (named k) cs) ≡ clip_for (map clip_numbers cs) k
unfolding clip_for clip_of
first k [] = refl
first k (c ∷ cs) = rw (← equal_is c.place (pos k)) (by (named k c) k c cs (first k cs))

pub returns-in-Some : goal.returns-in-Some
returns-in-Some c =
    let cs = c.args.clips.now in
    let e : option_map (λ r. r.now) c.find.result ≡ find (named c.args.k) cs =
    find_from_yields_List (named c.args.k) _ _ c.find.result c.find.ensures.ran (YieldsList-from_slice cs cc) (λ x b q h. search (rules, tests)) in
    c.clip_on.ensures ∙ ap clip_at (rw c.in-Some.is at e) ∙ first c.args.k cs

pub returns-in-None : goal.returns-in-None
returns-in-None c =
    let cs = c.args.clips.now in
    let e : option_map (λ r. r.now) c.find.result ≡ find (named c.args.k) cs =
    find_from_yields_List (named c.args.k) _ _ c.find.result c.find.ensures.ran (YieldsList-from_slice cs cc) (λ x b q h. search (rules, tests)) in
    ap clip_at (rw c.in-None.is at e) ∙ first c.args.k cs
