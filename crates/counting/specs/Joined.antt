-- The elements of a list joined one after the other: the first starts it, and an empty list gives none.
use mathlib.Core.List.{List, [], ◌∷◌, foldl}
use Rattle.std.proofs.Math.Option.{Option, none, some}

unfoldable pub joined : {A : Type 0} → (A → A → A) → List A → Option A
joined join [] = none
joined join (a ∷ rest) = some (foldl join a rest)
