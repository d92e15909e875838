-- A number's digits one by one; texts stored one behind another. Assumes nothing.
use Prim.Native.Nat.{ℕ, zero, suc, ◌+◌, ◌*◌, ◌-◌, ◌/◌, ◌%◌, ◌^◌, ◌≤◌, ◌<◌}
use mathlib.Core.Path.{◌≡◌, refl, sym, ap, ap₂, ◌∙◌, subst}
use mathlib.Core.Bool.{Bool, true, false, cond}
use mathlib.Core.List.{List, [], ◌∷◌, ◌++◌, append_assoc, append-nil}
use native.Mathlib.Nat.{mod-eq_of_lt, pow-suc, one-le-pow}
use native.Mathlib.Omega.{arith}
use lib.Dec.{ltb}
use lib.ListN.{length, take, drop, set, get_or, length-append, length-drop, drop_of_length-le}
use lib.Seq.{sets, sets-eq, length-sets, take-length, drop-drop}
use borrow.Author.Tests.{lt-ltb, le-ltb, ltb-true, ltb-false}
use Rattle.std.specs.Prelude.{All}
use Rattle.io.specs.Digits.{hex_digit_ascii, last_digits, IsDigitCount}
use Rattle.sheet_calls.specs.Answers.{digits_up_to, decimal, line_of}
use Rattle.sheet_answers.specs.text.Text.{Stored, marked, spaced}

abbrev last_digit : ℕ → List ℕ
last_digit n = (48 + n % 10) ∷ []

-- ---- any fuel above the number gives its digits

fuel : (j k n : ℕ) → n < j → n < k → digits_up_to j n ≡ digits_up_to k n
unfolding digits_up_to
fuel zero k n a b = absurd (omega arith)
fuel (suc j) zero n a b = absurd (omega arith)
fuel (suc j) (suc k) n a b = go (ltb n 10) refl (λ h. fuel j k (n / 10) (omega arith) (omega arith))
  where
    go : (t : Bool) → ltb n 10 ≡ t → (10 ≤ n → digits_up_to j (n / 10) ≡ digits_up_to k (n / 10))
        → cond t ((48 + n) ∷ []) (digits_up_to j (n / 10) ++ (48 + n % 10) ∷ []) ≡ cond t ((48 + n) ∷ []) (digits_up_to k (n / 10) ++ (48 + n % 10) ∷ [])
    go true e later = refl
    go false e later = ap (λ (l : List ℕ). l ++ (48 + n % 10) ∷ []) (later (ltb-false n 10 e))

decimal_one : (n : ℕ) → n < 10 → decimal n ≡ last_digit n
unfolding decimal digits_up_to
decimal_one n h = rw (lt-ltb n 10 h, mod-eq_of_lt h)

decimal_more : (n : ℕ) → 10 ≤ n → decimal n ≡ decimal (n / 10) ++ last_digit n
unfolding decimal digits_up_to
decimal_more n h = rw (le-ltb n 10 h) (ap (λ (l : List ℕ). l ++ last_digit n) (fuel n (suc (n / 10)) (n / 10) (omega arith) (omega arith)))

-- ---- the digits that the kit writes, the fewest that hold the number

last_digit_lem : (n : ℕ) → hex_digit_ascii (n % 10) ∷ [] ≡ last_digit n
last_digit_lem n = let h : n % 10 < 10 = omega arith in rw (lt-ltb (n % 10) 10 h)

pub spelt : (k n : ℕ) → IsDigitCount 10 1 n k → last_digits 10 k n ≡ decimal n
spelt zero n f = absurd (omega (arith, f.0))
spelt (suc zero) n f = last_digit_lem n ∙ sym (decimal_one n (omega (arith, f.1)))
spelt (suc (suc j)) n f =
    let p : 10 ^ suc (suc j) ≡ 10 ^ suc j * 10 = pow-suc 10 (suc j) in
    let q : 10 ^ suc j ≡ 10 ^ j * 10 = pow-suc 10 j in
    let one : 1 ≤ 10 ^ j = one-le-pow j 10 (omega arith) in
    let e : suc (suc j) - 1 ≡ suc j = omega arith in
    let low : 10 ^ suc j ≤ n = rw e at (f.2 (omega arith)) in
    let g : suc j - 1 ≡ j = omega arith in
    let next : IsDigitCount 10 1 (n / 10) (suc j) = (omega arith, omega (arith, f.1), λ _. rw g (omega arith)) in
    ap₂ ◌++◌ (spelt (suc j) (n / 10) next) (last_digit_lem n) ∙ sym (decimal_more n (omega arith))

short_by : (k n : ℕ) → n < 10 ^ suc k → length (decimal n) ≤ suc k
short_by zero n h = let e : length (decimal n) ≡ 1 = ap length (decimal_one n (omega (arith, h))) in omega arith
short_by (suc k) n h = go (ltb n 10) refl (short_by k (n / 10))
  where
    go : (b : Bool) → ltb n 10 ≡ b → (n / 10 < 10 ^ suc k → length (decimal (n / 10)) ≤ suc k) → length (decimal n) ≤ suc (suc k)
    go true e shorter = let f : length (decimal n) ≡ 1 = ap length (decimal_one n (ltb-true n 10 e)) in omega arith
    go false e shorter =
        let p : 10 ^ suc (suc k) ≡ 10 ^ suc k * 10 = pow-suc 10 (suc k) in
        let f : length (decimal n) ≡ length (decimal (n / 10)) + 1 = ap length (decimal_more n (ltb-false n 10 e)) ∙ length-append (decimal (n / 10)) (last_digit n) in
        omega (arith, f, shorter (omega (arith, h, p)))

pub short : (n : ℕ) → n < 10000 → length (decimal n) ≤ 4
short n h = short_by 3 n h

-- ---- one text behind another

sets_append : (l : List ℕ) (i : ℕ) (a b : List ℕ) → sets l i (a ++ b) ≡ sets (sets l i a) (i + length a) b
sets_append l i [] b = let e : i + 0 ≡ i = omega arith in rw e
sets_append l i (x ∷ a) b =
    let e : suc i + length a ≡ i + suc (length a) = omega arith in
    sets_append (set l i x) (suc i) a b ∙ ap (λ (k : ℕ). sets (sets (set l i x) (suc i) a) k b) e

pub nothing_stored : (l : List ℕ) (at : ℕ) → Stored l l at at []
nothing_stored l at = record { room = refl; behind = omega arith }

pub then_stored : (a b c : List ℕ) (i j k : ℕ) (s t : List ℕ) → Stored a b i j s → Stored b c j k t → Stored a c i k (s ++ t)
then_stored a b c i j k s t S T =
    record {
      room = T.room ∙ rw (S.room, S.behind) (sym (sets_append a i s t));
      behind = let e : length (s ++ t) ≡ length s + length t = length-append s t in omega (arith, S.behind, T.behind, e);
    }

pub byte_stored : (l : List ℕ) (at b : ℕ) → Stored l (set l at b) at (at + 1) (b ∷ [])
byte_stored l at b = record { room = refl; behind = refl }

pub room_kept : {a b : List ℕ} {i j : ℕ} {s : List ℕ} → Stored a b i j s → length b ≡ length a
room_kept {a} {b} {i} {j} {s} S = ap length S.room ∙ length-sets a i s

pub text_same : (a b : List ℕ) (i j : ℕ) (s t : List ℕ) → s ≡ t → Stored a b i j s → Stored a b i j t
text_same a b i j s t e S = subst (Stored a b i j) e S

-- ---- a text copied into what a room has from a position on

module _ (old : List ℕ) (at : ℕ) where
  whole : take (length old - at) (drop at old) ≡ drop at old
  whole = ap (λ (n : ℕ). take n (drop at old)) (sym (length-drop at old)) ∙ take-length (drop at old)

  pub room_behind : length (take (length old - at) (drop at old)) ≡ length old - at
  room_behind = ap length whole ∙ length-drop at old

  pub copied : (part text : List ℕ) → at + length text ≤ length old
      → part ≡ take (length text) text ++ drop (length text) (take (length old - at) (drop at old))
      → Stored old (take at old ++ (part ++ drop (length old - at) (drop at old))) at (at + length text) text
  copied part text h e =
      let l : length (drop at old) ≤ length old - at = omega (arith, length-drop at old) in
      let f : part ≡ text ++ drop (at + length text) old =
      e ∙ ap (λ (p : List ℕ). take (length text) text ++ drop (length text) p) whole ∙ ap₂ ◌++◌ (take-length text) (drop-drop (length text) at old) in
      record {
        room =
            ap₂ (λ (p r : List ℕ). take at old ++ (p ++ r)) f (drop_of_length-le (drop at old) l)
            ∙ ap (λ (p : List ℕ). take at old ++ p) (append-nil (text ++ drop (at + length text) old))
            ∙ sym (append_assoc (take at old) text (drop (at + length text) old))
            ∙ sym (sets-eq text old at h);
        behind = refl;
      }

-- ---- lines

pub short_mark : (n b : ℕ) → n < 10000 → length (marked n b) ≤ 5
short_mark n b h = let e : length (marked n b) ≡ length (decimal n) + 1 = length-append (decimal n) (b ∷ []) in omega (arith, e, short n h)

pub none_spaced : (ns : List ℕ) → spaced (take 0 ns) ≡ []
unfolding spaced
none_spaced ns = refl

pub one_spaced : (ns : List ℕ) (i d : ℕ) → i < length ns → spaced (take (suc i) ns) ≡ spaced (take i ns) ++ marked (get_or ns i d) 32
unfolding spaced
one_spaced [] i d h = absurd (omega arith)
one_spaced (n ∷ ns) zero d h = append-nil (marked n 32)
one_spaced (n ∷ ns) (suc i) d h =
    ap (λ (l : List ℕ). marked n 32 ++ l) (one_spaced ns i d (omega arith)) ∙ sym (append_assoc (marked n 32) (spaced (take i ns)) (marked (get_or ns i d) 32))

-- a byte behind the last number ends the line
pub line_ends : (ns : List ℕ) (i d : ℕ) → suc i ≡ length ns → spaced (take i ns) ++ marked (get_or ns i d) 10 ≡ line_of ns
unfolding spaced line_of
line_ends [] i d h = absurd (omega arith)
line_ends (n ∷ []) zero d h = refl
line_ends (n ∷ []) (suc i) d h = absurd (omega arith)
line_ends (n ∷ (m ∷ ns)) zero d h = absurd (omega arith)
line_ends (n ∷ (m ∷ ns)) (suc i) d h =
    append_assoc (marked n 32) (spaced (take i (m ∷ ns))) (marked (get_or (m ∷ ns) i d) 10)
    ∙ ap (λ (l : List ℕ). marked n 32 ++ l) (line_ends (m ∷ ns) i d (omega arith))
    ∙ append_assoc (decimal n) (32 ∷ []) (line_of (m ∷ ns))

pub spaced_short : (ns : List ℕ) (i : ℕ) → All (λ (n : ℕ). n < 10000) ns → length (spaced (take i ns)) ≤ 5 * i
unfolding spaced
spaced_short ns zero h = omega arith
spaced_short [] (suc i) h = omega arith
spaced_short (n ∷ ns) (suc i) h =
    let rest = spaced (take i ns) in
    let e : length (marked n 32 ++ rest) ≡ length (marked n 32) + length rest = length-append (marked n 32) rest in
    omega (arith, e, short_mark n 32 (h 0 n (omega arith)), spaced_short ns i (λ k d l. h (suc k) d (omega (arith, l))))

-- a line of three numbers, and of one and two
pub short_line : (n m k : ℕ) → n < 10000 → m < 10000 → k < 10000 → length (line_of (n ∷ m ∷ k ∷ [])) ≤ 15
unfolding line_of
short_line n m k a b c =
    let last = decimal k ++ 10 ∷ [] in
    let two = decimal m ++ 32 ∷ last in
    let e : length (decimal n ++ 32 ∷ two) ≡ length (decimal n) + suc (length two) = length-append (decimal n) (32 ∷ two) in
    let f : length two ≡ length (decimal m) + suc (length last) = length-append (decimal m) (32 ∷ last) in
    omega (arith, e, f, short n a, short m b, short_mark k 10 c)

pub short_count : (n : ℕ) → n < 10000 → length (line_of (n ∷ [])) ≤ 5
unfolding line_of
short_count n h = short_mark n 10 h

pub pair_short : (n m : ℕ) → n < 10000 → m < 10000 → length (line_of (n ∷ m ∷ [])) ≤ 10
unfolding line_of
pair_short n m a b =
    let last = decimal m ++ 10 ∷ [] in
    let e : length (decimal n ++ 32 ∷ last) ≡ length (decimal n) + suc (length last) = length-append (decimal n) (32 ∷ last) in
    omega (arith, e, short n a, short_mark m 10 b)

-- ---- small numbers

pub all_one : (a : ℕ) → a < 10000 → All (λ (n : ℕ). n < 10000) (a ∷ [])
all_one a x zero d h = x
all_one a x (suc k) d h = absurd (omega arith)

pub all_two : (a b : ℕ) → a < 10000 → b < 10000 → All (λ (n : ℕ). n < 10000) (a ∷ b ∷ [])
all_two a b x y zero d h = x
all_two a b x y (suc k) d h = all_one b y k d (omega arith)

pub all_three : (a b c : ℕ) → a < 10000 → b < 10000 → c < 10000 → All (λ (n : ℕ). n < 10000) (a ∷ b ∷ c ∷ [])
all_three a b c x y z zero d h = x
all_three a b c x y z (suc k) d h = all_two b c y z k d (omega arith)
