-- The refusals of a call: what its number says of its conditions, of what it tells and of what it leaves.
use Rattle.std.specs.Prelude.{Result, Ok, Err, if◌then◌else◌}
use mathlib.Core.Path.{◌≡◌, refl, sym, ◌∙◌, ap}
use mathlib.Core.Bool.{Bool, true, false, ◌&&◌}
use Prim.Native.Nat.{ℕ, zero, suc, ◌≤◌, ◌<◌}
use native.Mathlib.Omega.{arith}
use borrow.Author.Tests.{ltb-true}
use lib.Dec.{ltb}
use Rattle.counting.specs.Conditions.{Conditions, accept, ◌else◌then◌, lowest, rising_from, rising, Applies, here, further, Least, Told, refused, gives, told_if, left_if}
use Rattle.counting.proofs.Kit.{contra}

-- an accepted call's first condition holds, and so do the rest
pub first_holds : (b : Bool) (n : ℕ) (rest : Conditions) → (n ≡ 0 → ⊥) → lowest (b else n then rest) ≡ 0 → (b ≡ true) × (lowest rest ≡ 0)
unfolding lowest
first_holds true n rest d e = (refl, e)
first_holds false n rest d e = absurd (d e)

-- ---- a row whose numbers rise gives the least that applies

rises : (a b : Bool) → a && b ≡ true → (a ≡ true) × (b ≡ true)
rises true b e = (refl, e)
rises false b e = absurd (contra e refl)

-- the next number is above m, and the rest rise from it
step : (m n : ℕ) (rest : Conditions) → ltb m n && rising_from n rest ≡ true → (m < n) × (rising_from n rest ≡ true)
step m n rest r = let b = rises (ltb m n) (rising_from n rest) r in (ltb-true m n b.0, b.1)

above : (k m : ℕ) (cs : Conditions) → rising_from m cs ≡ true → Applies k cs → m < k
unfolding rising_from
above k m cs r (here rest) = (step m k rest r).0
above k m cs r (further holds n rest a) = let s = step m n rest r in omega (arith, s.0, above k n rest s.1 a)

below : (k m : ℕ) (cs : Conditions) → rising_from m cs ≡ true → Applies k cs → lowest cs ≤ k
unfolding rising_from lowest
below k m cs r (here rest) = omega arith
below k m cs r (further true n rest a) = below k n rest (step m n rest r).1 a
below k m cs r (further false n rest a) = omega (arith, above k n rest (step m n rest r).1 a)

no_other : (k m : ℕ) (cs : Conditions) → rising_from m cs ≡ true → lowest cs ≡ 0 → Applies k cs → ⊥
unfolding rising_from lowest
no_other k m cs r e (here rest) = omega (arith, (step m k rest r).0)
no_other k m cs r e (further true n rest a) = no_other k n rest (step m n rest r).1 e a
no_other k m cs r e (further false n rest a) = omega (arith, (step m n rest r).0)

fails : (cs : Conditions) → (lowest cs ≡ 0 → ⊥) → Applies (lowest cs) cs
unfolding lowest
fails accept d = absurd (d refl)
fails (true else n then rest) d = further true n rest (fails rest d)
fails (false else n then rest) d = here rest

pub least : (cs : Conditions) → rising cs ≡ true → Least cs
least cs r = record { none = λ e k. no_other k 0 cs r e; applies = fails cs; least = λ k. below k 0 cs r }

module _ {A : Type 0} where
  number_in : Told A → ℕ
  number_in (refused n) = n
  number_in (gives value) = 0

  number_told : (n : ℕ) (value : A) → number_in (told_if n value) ≡ n
  unfolding number_in told_if
  number_told zero value = refl
  number_told (suc n) value = refl

  -- what is told has the number
  pub told_number : (n m : ℕ) (value : A) → told_if n value ≡ refused m → n ≡ m
  unfolding number_in
  told_number n m value e = sym (number_told n value) ∙ ap number_in e

  -- refused with a number
  module _ (n : ℕ) (r : ℕ) (e : r ≡ suc n) where
    pub told_refused : (value : A) → refused (suc n) ≡ told_if r value
    unfolding told_if
    told_refused value = rw e

    pub left_refused : (before after : A) → before ≡ left_if r before after
    unfolding left_if
    left_refused before after = rw e

  -- accepted
  module _ (r : ℕ) (e : r ≡ 0) where
    pub told_accepted : (value : A) → gives value ≡ told_if r value
    unfolding told_if
    told_accepted value = rw e

    pub left_accepted : (before after : A) → after ≡ left_if r before after
    unfolding left_if
    left_accepted before after = rw e

  -- what holds before a call, and after it if it is accepted, holds after it
  pub left_keeps : (P : A → Type 0) (r : ℕ) (before after : A) → P before → (r ≡ 0 → P after) → P (left_if r before after)
  unfolding left_if
  left_keeps P zero before after b a = a refl
  left_keeps P (suc n) before after b a = b

-- ---- a condition that was asked, and held
pub passed : {E : Type 0} (holds : Bool) (u : Unit) (refusal : E) → ◌≡◌ {A = Result Unit E} (Ok u) (if holds then Ok tt else Err refusal) → holds ≡ true
passed true u r h = refl
passed false u r h = cc
