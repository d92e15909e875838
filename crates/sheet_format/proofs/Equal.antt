-- Equality of numbers, as the sheet's definitions test it, is the code's. Assumes nothing.
use Rattle.std.proofs.Common.{◌≡◌, Bool, true, false, ◌&&◌, leb, ℤ, pos, negsuc, refl, sym, ap, arith}
use borrow.Author.Tests.{leb-true, le-leb}
use Rattle.std.specs.Ordering.{int_eq}
use Rattle.std.proofs.lemmas.Bool.Decides.{same_from_decides, Decides-int_eq}
use Rattle.sheet_lines.proofs.Bounds.{clash}
use Rattle.sheet_format.specs.Sheet.{equal}

left : (a b : Bool) → a && b ≡ true → a ≡ true
left true b h = refl
left false b h = clash h

right : (a b : Bool) → a && b ≡ true → b ≡ true
right true b h = h
right false b h = clash h

same : (a b : ℤ) → equal a b ≡ true → b ≡ a
same (pos m) (pos n) h = ap pos (omega (arith, leb-true m n (left (leb m n) (leb n m) h), leb-true n m (right (leb m n) (leb n m) h)))
same (pos m) (negsuc n) h = clash h
same (negsuc m) (pos n) h = clash h
same (negsuc m) (negsuc n) h = ap negsuc (omega (arith, leb-true n m (left (leb n m) (leb m n) h), leb-true m n (right (leb n m) (leb m n) h)))

itself : (a : ℤ) → equal a a ≡ true
itself (pos m) = rw (le-leb m m (omega arith))
itself (negsuc m) = rw (le-leb m m (omega arith))

pub equal_by : (a b : ℤ) → int_eq b a ≡ equal a b
equal_by a b = same_from_decides (int_eq b a) (equal a b) (Decides-int_eq b a) (same a b, λ e. rw e (itself a))

pub equal_is : (a b : ℤ) → int_eq a b ≡ equal a b
equal_is a b = same_from_decides (int_eq a b) (equal a b) (Decides-int_eq a b) (λ h. sym (same a b h), λ e. rw e (itself b))
