-- The 16 digits that `io::hex` writes of a number are read back as that number. Assumes nothing.
use Rattle.std.proofs.Common.{◌≡◌, ℕ, zero, suc, ◌+◌, ◌-◌, ◌/◌, ◌%◌, ◌^◌, ◌<◌, ◌≤◌, Bool, true, false, cond, ltb, List, [], ◌∷◌, ◌++◌, length, take, take_all, sym, refl, ◌∙◌, append_assoc, append-nil, pow-suc, div-add-mod', arith, length-append, ltb-false, ltb-true, lt-ltb, eq-eqb, le-leb, Some}
use borrow.Author.Tests.{lt-leb}
use Rattle.io.specs.Digits.{hex_digit_ascii, last_digits}
use Rattle.text_lines.specs.spelling.Words.{digit_value, spelt, pattern_of}

decimal : (b : ℕ) → 48 ≤ b → b ≤ 57 → b - 48 ≡ digit_value b
decimal b h l = rw (le-leb 48 b h, le-leb b 57 l)

letter : (b : ℕ) → 97 ≤ b → b ≤ 102 → b - 97 + 10 ≡ digit_value b
letter b h l = rw (le-leb 48 b (omega arith), lt-leb b 57 (omega arith), le-leb 97 b h, le-leb b 102 l)

by_kind : (d : ℕ) (t : Bool) → ltb d 10 ≡ t → d < 16 → digit_value (cond t (48 + d) (87 + d)) ≡ d
by_kind d true e h =
    let l = ltb-true d 10 e in
    let s : 48 + d - 48 ≡ d = omega arith in sym (decimal (48 + d) (omega arith) (omega arith)) ∙ s
by_kind d false e h =
    let l = ltb-false d 10 e in
    let s : 87 + d - 97 + 10 ≡ d = omega arith in sym (letter (87 + d) (omega arith) (omega arith)) ∙ s

digit_back : (d : ℕ) → d < 16 → digit_value (hex_digit_ascii d) ≡ d
digit_back d h = by_kind d (ltb d 10) refl h

last_back : (w : ℕ) (t : List ℕ) → spelt (w / 16) (hex_digit_ascii (w % 16) ∷ t) ≡ spelt w t
unfolding spelt
last_back w t = rw (digit_back (w % 16) (omega arith), lt-ltb (w % 16) 16 (omega arith), div-add-mod' w 16)

digits_back : (k w : ℕ) (t : List ℕ) → w < 16 ^ k → spelt 0 (last_digits 16 k w ++ t) ≡ spelt w t
digits_back zero w t h = let e : w ≡ 0 = omega arith in rw e
digits_back (suc k) w t h =
    let h' = rw pow-suc at h in
    rw append_assoc (digits_back k (w / 16) (hex_digit_ascii (w % 16) ∷ t) (omega arith) ∙ last_back w t)

length_digits : (k w : ℕ) → length (last_digits 16 k w) ≡ k
length_digits zero w = refl
length_digits (suc k) w = rw length-append (let e = length_digits k (w / 16) in omega arith)

any_width : (k w : ℕ) → k ≡ 16 → w < 16 ^ k → pattern_of (last_digits 16 k w) ≡ Some w
unfolding pattern_of spelt
any_width k w e h =
    rw (eq-eqb (length (last_digits 16 k w)) 16 (length_digits k w ∙ e)) (rw append-nil at (digits_back k w [] h))

pub pattern_back : (w : ℕ) → w < 18446744073709551616 → pattern_of (last_digits 16 16 w) ≡ Some w
pattern_back w h = any_width 16 w refl h

-- where `io::hex` has left k digits in front of room for 16
pub left_back : (w k : ℕ) (s : List ℕ) → w < 18446744073709551616 → 16 ≤ k → k ≤ length s → length s ≡ 16 → take k s ≡ last_digits 16 k w → pattern_of s ≡ Some w
left_back w k s h l m e d =
    let t : take k s ≡ s = take_all k s (omega arith) in
    rw (sym t ∙ d) (any_width k w (omega arith) (let p : k ≡ 16 = omega arith in rw p h))
