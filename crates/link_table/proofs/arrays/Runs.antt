-- The end of a segment, as the depths that the walk over it passes; a turn of the loop over the depths.
use Rattle.std.proofs.Common.{◌≡◌, ℕ, zero, suc, ◌<◌, Bool, true, false, cond, List, [], ◌∷◌, ◌++◌, map, length, take, drop, get_or, set, ap, refl, ltb, arith}
use Rattle.std.specs.List.{take_while}
use Rattle.std.proofs.lemmas.List.Sums.{take_while-cons}
use Rattle.link_forest.specs.Table.{run_length}

run_turn : (b : Bool) (x r : ℕ) (xs : List ℕ) → r ≡ length xs → elim b [ true ↦ suc r | false ↦ 0 ] ≡ length (cond b (x ∷ xs) [])
run_turn true x r xs h = ap suc h
run_turn false x r xs h = refl

pub run_passed : (d : ℕ) (ds : List ℕ) → run_length d ds ≡ length (take_while (λ x. ltb d x) ds)
unfolding run_length
run_passed d [] = refl
run_passed d (x ∷ ds) = rw (take_while-cons (λ y. ltb d y) x ds) (run_turn (ltb d x) x (run_length d ds) (take_while (λ y. ltb d y) ds) (run_passed d ds))

pub mapped_turn : (f : ℕ → ℕ) (i : ℕ) (a : List ℕ) → i < length a → set (map f (take i a) ++ drop i a) i (f (get_or a i 0)) ≡ map f (take (suc i) a) ++ drop (suc i) a
mapped_turn f i [] h = absurd (omega arith)
mapped_turn f zero (x ∷ a) h = refl
mapped_turn f (suc i) (x ∷ a) h = ap (λ (g : List ℕ). f x ∷ g) (mapped_turn f i a (omega arith))

pub untouched : (f : ℕ → ℕ) (i : ℕ) (a : List ℕ) → i < length a → get_or (map f (take i a) ++ drop i a) i 0 ≡ get_or a i 0
untouched f i [] h = absurd (omega arith)
untouched f zero (x ∷ a) h = refl
untouched f (suc i) (x ∷ a) h = untouched f i a (omega arith)
