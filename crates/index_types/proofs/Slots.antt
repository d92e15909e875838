-- Another entry at a slot: what it has of the old one stays, at every slot. And a table that has one entry everywhere.
use mathlib.Core.Path.{◌≡◌, refl, sym, ap, ◌∙◌}
use mathlib.Core.List.{List}
use Prim.Native.Nat.{ℕ, zero, suc, ◌≤◌}
use native.Mathlib.Omega.{arith}
use native.Mathlib.Decide.{dec_lt, ℕ_discrete}
use lib.ListN.{length, get_or, set, replicate, length-set, get_or-eq_default}
use lib.Seq.{get_or-set_same, get_or-set_other}

module _ {E A : Type 0} (none : E) (part : E → A) (entries : List E) (x : ℕ) (e : E) where
  pub part_stays : part e ≡ part (get_or entries x none) → (y : ℕ) → part (get_or (set entries x e) y none) ≡ part (get_or entries y none)
  part_stays s y =
      elim (ℕ_discrete y x) [
        | yes w ↦ rw w (elim (dec_lt x (length entries)) [
          | yes l ↦ ap part (get_or-set_same entries x e none l) ∙ s
          | no g ↦
              let past : length (set entries x e) ≤ x = omega (arith, length-set entries x e) in
              let gone : length entries ≤ x = omega arith in
              ap part (get_or-eq_default (set entries x e) none past ∙ sym (get_or-eq_default entries none gone))
        ])
        | no n ↦ ap part (get_or-set_other entries x y e none n)
      ]

-- of a table of one entry, which has this of an entry past the last
pub part_everywhere : {E A : Type 0} (none e : E) (part : E → A) → part e ≡ part none → (n x : ℕ) → part (get_or (replicate n e) x none) ≡ part none
part_everywhere none e part same zero x = refl
part_everywhere none e part same (suc n) zero = same
part_everywhere none e part same (suc n) (suc x) = part_everywhere none e part same n x
