-- Equality of transforms as numbers: reflexive on finite values, and symmetric.
use mathlib.Core.Path.{◌≡◌}
use mathlib.Core.Bool.{true, ◌&&◌}
use lib.Ieee.Scale.{finite}
use Rattle.numbers.proofs.Bools.{and_left, and_right, four}
use Rattle.numbers.proofs.Order.{eq_refl, finite_number, eq_sym}
use Rattle.geometry.specs.declared.affine.Affine.{Affine}
use Rattle.geometry.specs.Transform.{affine_eq, finite_affine}

pub affine_refl : (t : Affine) → finite_affine t ≡ true → affine_eq t t ≡ true
unfolding affine_eq finite_affine
affine_refl t f =
    let A = finite t.a && finite t.b && (finite t.c && finite t.d) in
    let E = finite t.e && finite t.f in
    let F = four (finite t.a) (finite t.b) (finite t.c) (finite t.d) (and_left A E f) in
    let e = and_left (finite t.e) (finite t.f) (and_right A E f) in
    let g = and_right (finite t.e) (finite t.f) (and_right A E f) in
    rw
    (eq_refl t.a (finite_number t.a F.first), eq_refl t.b (finite_number t.b F.second), eq_refl t.c (finite_number t.c F.third), eq_refl t.d (finite_number t.d F.fourth), eq_refl t.e (finite_number t.e e), eq_refl t.f (finite_number t.f g))

pub affine_sym : (s t : Affine) → affine_eq s t ≡ affine_eq t s
unfolding affine_eq
affine_sym s t =
    rw (eq_sym s.a t.a, eq_sym s.b t.b, eq_sym s.c t.c, eq_sym s.d t.d, eq_sym s.e t.e, eq_sym s.f t.f)
