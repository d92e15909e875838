-- The place of a byte in what is left of some bytes. Assumes nothing.
use Rattle.std.proofs.Common.{◌≡◌, ◌≢◌, ℕ, suc, ◌+◌, ◌≤◌, ◌<◌, List, ◌∷◌, length, take, drop, get_or, ap, ◌∙◌, arith, eq-eqb, ne_eqb, length-take, drop_of_length-le}
use Rattle.std.proofs.Math.Seq.{drop-cons}
use Rattle.std.proofs.lemmas.List.{get_or-take}
use Rattle.byte_search.specs.Bytes.{slice, index_of, index_after}

cut : (i to : ℕ) (s : List ℕ) → i < to → to ≤ length s → slice i to s ≡ get_or s i 0 ∷ slice (suc i) to s
unfolding slice
cut i to s h l =
    let m : i < length (take to s) = rw length-take (omega arith) in
    drop-cons (take to s) i 0 m ∙ ap (λ x. x ∷ drop (suc i) (take to s)) (get_or-take to s i 0 h)

pub here : (b i to : ℕ) (s : List ℕ) → i < to → to ≤ length s → get_or s i 0 ≡ b → index_of b (slice i to s) ≡ 0
unfolding index_of index_after
here b i to s h l e = rw (cut i to s h l, eq-eqb (get_or s i 0) b e)

pub later : (b i to : ℕ) (s : List ℕ) → i < to → to ≤ length s → get_or s i 0 ≢ b → index_of b (slice i to s) ≡ suc (index_of b (slice (i + 1) to s))
unfolding index_of index_after
later b i to s h l n =
    let e : suc i ≡ i + 1 = omega arith in
    rw (cut i to s h l, ne_eqb (get_or s i 0) b n, e)

pub nowhere : (b to : ℕ) (s : List ℕ) → index_of b (slice to to s) ≡ 0
unfolding slice index_of
nowhere b to s =
    let l : length (take to s) ≤ to = rw length-take (omega arith) in
    rw (drop_of_length-le (take to s) l)
