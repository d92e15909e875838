-- Transforms: six coefficients a..f kept as one record. (x, y) goes to (a·x + c·y + e, b·x + d·y + f).
use Rattle.std.specs.Prelude.{Bool, ◌&&◌, Float}
use Rattle.std.specs.Float.Ieee.{neg, eq}
use Rattle.std.specs.Float.Ieee.Scale.{finite}
use Rattle.geometry.specs.declared.point.Point.{Point}
use Rattle.geometry.specs.declared.affine.Affine.{Affine}
use Rattle.numbers.specs.Rounded.{◌⊕◌, ◌⊖◌, ◌⊗◌, ◌⊘◌, zero, one}

abbrev pub identity : Affine
identity = record { a = one; b = zero; c = zero; d = one; e = zero; f = zero }

unfoldable pub mapped : Affine → Point → Point
mapped t p = record { x = t.a ⊗ p.x ⊕ t.c ⊗ p.y ⊕ t.e; y = t.b ⊗ p.x ⊕ t.d ⊗ p.y ⊕ t.f }

-- P·Q: Q is applied first
unfoldable pub product : Affine → Affine → Affine
product P Q =
    record {
      a = P.a ⊗ Q.a ⊕ P.c ⊗ Q.b;
      b = P.b ⊗ Q.a ⊕ P.d ⊗ Q.b;
      c = P.a ⊗ Q.c ⊕ P.c ⊗ Q.d;
      d = P.b ⊗ Q.c ⊕ P.d ⊗ Q.d;
      e = P.a ⊗ Q.e ⊕ P.c ⊗ Q.f ⊕ P.e;
      f = P.b ⊗ Q.e ⊕ P.d ⊗ Q.f ⊕ P.f;
    }

-- A zero determinant is not refused: r is then an infinity, and the rest follows IEEE 754.
abbrev pub reciprocal_determinant : Affine → Float
reciprocal_determinant t = one ⊘ (t.a ⊗ t.d ⊖ t.b ⊗ t.c)

abbrev pub inverse_by : Affine → Float → Affine
inverse_by t r =
    record {
      a = r ⊗ t.d;
      b = neg r ⊗ t.b;
      c = neg r ⊗ t.c;
      d = r ⊗ t.a;
      e = r ⊗ (t.c ⊗ t.f ⊖ t.d ⊗ t.e);
      f = r ⊗ (t.b ⊗ t.e ⊖ t.a ⊗ t.f);
    }

unfoldable pub inverse : Affine → Affine
inverse t = inverse_by t (reciprocal_determinant t)

-- equality as numbers
unfoldable pub affine_eq : Affine → Affine → Bool
affine_eq s t = eq s.a t.a && (eq s.b t.b && (eq s.c t.c && (eq s.d t.d && (eq s.e t.e && eq s.f t.f))))

-- every coefficient is finite: what refusal 5 asks
unfoldable pub finite_affine : Affine → Bool
finite_affine t = finite t.a && finite t.b && (finite t.c && finite t.d) && (finite t.e && finite t.f)
