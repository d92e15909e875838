-- The first word of a line, found by the first space. Assumes nothing.
use Rattle.std.proofs.Common.{◌≡◌, ℕ, suc, ◌+◌, ◌-◌, ◌<◌, ◌≤◌, Bool, true, false, cond, eqb, List, [], ◌∷◌, length, take, drop, refl, ap, rules, add-one, arith, length-drop, take_all, not, IsTrue, Option, Some, None}
use Rattle.std.specs.List.{onto_first}
use Rattle.std.specs.Option.{is_some}
use denote.Ref.{Bor}
use Rattle.byte_search.specs.Bytes.{slice, index_of, index_after}
use lib.Seq.{take-length}
use Rattle.std.proofs.lemmas.List.Splits.{length-slice_split}
use Rattle.text_lines.specs.words.Lines.{words, words_of}

cut : (e : Bool) (b : ℕ) (s : List ℕ)
    → (index_of 32 s < length s → words s ≡ take (index_of 32 s) s ∷ words (drop (suc (index_of 32 s)) s))
    → index_after e (index_of 32 s) < suc (length s)
    → cond e ([] ∷ words s) (onto_first b (words s))
    ≡ take (index_after e (index_of 32 s)) (b ∷ s) ∷ words (drop (suc (index_after e (index_of 32 s))) (b ∷ s))
unfolding index_of index_after
cut true b s ih h = refl
cut false b s ih h = ap (onto_first b) (ih (omega arith))

keep : (e : Bool) (b : ℕ) (s : List ℕ) → (length s ≤ index_of 32 s → words s ≡ s ∷ []) → suc (length s) ≤ index_after e (index_of 32 s)
    → cond e ([] ∷ words s) (onto_first b (words s)) ≡ (b ∷ s) ∷ []
unfolding index_of index_after
keep true b s ih h = absurd (omega arith)
keep false b s ih h = ap (onto_first b) (ih (omega arith))

at_space : (s : List ℕ) → index_of 32 s < length s → words s ≡ take (index_of 32 s) s ∷ words (drop (suc (index_of 32 s)) s)
unfolding index_of index_after
at_space [] h = absurd (omega arith)
at_space (b ∷ s) h = cut (eqb b 32) b s (at_space s) h

no_space : (s : List ℕ) → length s ≤ index_of 32 s → words s ≡ s ∷ []
unfolding index_of index_after
no_space [] h = refl
no_space (b ∷ s) h = keep (eqb b 32) b s (no_space s) h

module _ (s : List ℕ) (e : ℕ) (q : e ≡ 0 + index_of 32 (slice 0 (length s) s)) where
  all : slice 0 (length s) s ≡ s
  unfolding slice
  all = take-length s

  place : e ≡ index_of 32 s
  place = let h : index_of 32 (slice 0 (length s) s) ≡ index_of 32 s = ap (index_of 32) all in omega arith

  pub first_word : e < length s → words s ≡ take e s ∷ words (take (length s - (e + 1)) (drop (e + 1) s))
  first_word h =
      let k : length (drop (e + 1) s) ≤ length s - (e + 1) = simp length-drop (omega arith) in
      rw (take_all _ _ k, add-one, place) (at_space s (rw place at h))

  pub last_word : length s ≤ e → words s ≡ s ∷ []
  last_word h = no_space s (rw place at h)

pub some_word : (s : List ℕ) → words s ≡ [] → ⊥
some_word s e = let k = length-slice_split (λ b. eqb b 32) s in let h : length (words s) ≡ 0 = ap length e in omega arith

pub none_left : (rest : Option (Bor (List ℕ))) (b : Bool) → is_some rest ≡ not b → (IsTrue b → words_of rest ≡ []) × (words_of rest ≡ [] → IsTrue b)
none_left None true e = (λ t. refl, λ q. search rules)
none_left None false e = (λ t. cc, λ q. cc)
none_left (Some r) true e = (λ t. cc, λ q. cc)
none_left (Some r) false e = (λ t. cc, λ q. absurd (some_word r.now q))
