-- A table of records: a field that a write leaves as it was reads as before at every place, the written one too.
use mathlib.Core.Path.{◌≡◌, sym, ap, ◌∙◌}
use mathlib.Core.List.{List}
use Prim.Native.Nat.{ℕ}
use lib.ListN.{get_or, set, get_or-map}
use lib.Seq.{map-set_same}

pub field_stays : {A B : Type 0} (f : A → B) (l : List A) (x : ℕ) (a d : A) → f a ≡ f (get_or l x d) → (y : ℕ) → f (get_or (set l x a) y d) ≡ f (get_or l y d)
field_stays {B = B} f l x a d e y =
    sym (get_or-map f (set l x a) y d) ∙ ap (λ (m : List B). get_or m y (f d)) (map-set_same f l x a d e) ∙ get_or-map f l y d
