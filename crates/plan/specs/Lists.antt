-- Words for lists and tables that the plan's rules are said in.
use Rattle.std.specs.Prelude.{ℕ, zero, suc, ◌≤◌, ◌≡◌, Bool, true, false, cond, ◌||◌, List, [], ◌∷◌, ◌++◌, eqb}
use Rattle.counting.specs.Times.{times}

-- a table with a new value at x
abbrev pub put : {A : Type 0} → (ℕ → A) → ℕ → A → ℕ → A
put t x v y = cond (eqb y x) v (t y)

-- those that pass the test, in order
unfoldable pub keep : (ℕ → Bool) → List ℕ → List ℕ
keep p [] = []
keep p (x ∷ xs) = cond (p x) (x ∷ keep p xs) (keep p xs)

-- one of them passes the test
unfoldable pub any : (ℕ → Bool) → List ℕ → Bool
any p [] = false
any p (x ∷ xs) = p x || any p xs

-- what each of them gives, one behind the other
unfoldable pub joined : {A : Type 0} → (ℕ → List A) → List ℕ → List A
joined g [] = []
joined g (x ∷ xs) = g x ++ joined g xs

-- 0, 1, .. below n
unfoldable pub up_to : ℕ → List ℕ
up_to zero = []
up_to (suc n) = up_to n ++ (n ∷ [])

-- sorted, where `before x y` says that x stands before y
unfoldable pub insert_sorted : (ℕ → ℕ → Bool) → ℕ → List ℕ → List ℕ
insert_sorted before x [] = x ∷ []
insert_sorted before x (y ∷ ys) = cond (before x y) (x ∷ y ∷ ys) (y ∷ insert_sorted before x ys)

unfoldable pub sorted : (ℕ → ℕ → Bool) → List ℕ → List ℕ
sorted before [] = []
sorted before (x ∷ xs) = insert_sorted before x (sorted before xs)

-- x stands before each of these
abbrev pub First : (ℕ → ℕ → Bool) → ℕ → List ℕ → Type 0
First before x ys = (y : ℕ) → 1 ≤ times y ys → before x y ≡ true

-- each stands before all that come behind it
abbrev pub Rising : (ℕ → ℕ → Bool) → List ℕ → Type 0
Rising before [] = Unit {0}
Rising before (x ∷ xs) = First before x xs × Rising before xs
