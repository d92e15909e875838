-- NaN's patterns and NaN itself. Assumes nothing.
use Rattle.std.proofs.Common.{◌≡◌, ℕ, true, false, not, T, sym, refl, ◌∙◌, subst, arith}
use lib.Ieee.{Float, nan, inf, fin, binary64, is_nan, nan_bits, of_bits, ne}
use lib.Ieee.Bits.{nan_bits_is}
use lib.Ieee.Compare.{nan_differs}

pub clash : {A : Type 0} → true ≡ false → A
clash h = let k : ◌≡◌ {A = ℕ} 0 1 = cc in absurd (omega arith)

pub only_nan : (x : Float) → T (is_nan x) → x ≡ nan
unfolding is_nan
only_nan nan t = refl
only_nan (inf s) t = absurd t
only_nan (fin s m e) t = absurd t

pub nan_pattern : (w : ℕ) → nan_bits binary64 w ≡ true → of_bits binary64 w ≡ nan
nan_pattern w e = only_nan (of_bits binary64 w) (subst T (sym (sym (nan_bits_is binary64 w) ∙ e)) tt)

pub no_nan : (x : Float) → ne x x ≡ false → T (not (is_nan x))
unfolding is_nan
no_nan nan e = clash (sym nan_differs ∙ e)
no_nan (inf s) e = tt
no_nan (fin s m x) e = tt
