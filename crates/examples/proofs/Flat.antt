-- P8: a node whose own linear part is all zero, of either sign, or whose world transform's is, is no candidate of any tap, and so no tap hits it: no
-- point is mapped back to a point.
-- Under any parent its world linear part is zero or NaN, the reciprocal of its determinant an infinity or NaN, and each coefficient of the inverse NaN.
use mathlib.Core.Path.{◌≡◌, refl, sym, ap, ◌∙◌}
use mathlib.Core.Bool.{Bool, true, false, not, ◌&&◌, cond, false≢true}
use mathlib.Core.List.{List, [], ◌∷◌}
use Prim.Native.Nat.{ℕ, zero, suc, ◌+◌, ◌-◌, ◌*◌, ◌<◌}
use native.Mathlib.Omega.{arith}
use native.Mathlib.Nat.{zero-mul, mul-zero, mul-pos, zero-lt-suc, lt_irrefl}
use lib.Dec.{eqb, eqb→eq}
use lib.IntN.{ℤ, pos}
use lib.Ieee.{Float, nan, inf, fin, binary64, up, down, unlike, round, units, odd, size, span, climb, neg, add, sub, sum, mul, div, lt, le, eq}
use lib.Ieee.Fits.{up_pos, down_pos}
use lib.Ieee.Scale.{round_same}
use Rattle.numbers.specs.Rounded as const
use Rattle.numbers.specs.Rounded.{◌⊕◌, ◌⊖◌, ◌⊗◌, ◌⊘◌}
use Rattle.numbers.proofs.Bools.{and_left}
use Rattle.geometry.specs.declared.point.Point.{Point}
use Rattle.geometry.specs.declared.rect.Rect.{Rect}
use Rattle.geometry.specs.declared.insets.Insets.{Insets}
use Rattle.geometry.specs.Rectangle.{contains}
use Rattle.geometry.specs.declared.affine.Affine.{Affine}
use Rattle.geometry.specs.Transform.{mapped, product, inverse}
use Rattle.geometry_clips.specs.declared.clip.Clip.{Clip}
use Rattle.tree_worlds.specs.World.{placed, reached}
use Rattle.index_types.specs.declared.NodeId.{NodeId}
use Rattle.tree_types.specs.declared.NodeFlags.{NodeFlags}
use Rattle.plan.specs.Lists.{keep}
use Rattle.plan.specs.Plan.{Plan, nodes}
use Rattle.plan.specs.Afresh.{placed_on, world_place, candidate, larger, Hit, nothing, node, better, largest, Tap, hit, tap_of, tap}
use Rattle.plan.specs.Demand.{Answer, refused, tapped, listed, answer_if}
use Rattle.examples.specs.Examples.{Flat, FlatNode, own, world}

-- ---- zero or NaN

data Void : Float → Type 0 where
  no_number : Void nan
  nought : (s : Bool) (e : ℤ) → Void (fin s 0 e)

-- an infinity or NaN
data Endless : Float → Type 0 where
  no_number : Endless nan
  endless : (s : Bool) → Endless (inf s)

nothing_of : (m : ℕ) (e : ℤ) → m * up e * 1 ≡ 0 → m ≡ 0
nothing_of zero e h = refl
nothing_of (suc m) e h = absurd (lt_irrefl 0 (rw h at (mul-pos (mul-pos (zero-lt-suc m) (up_pos e)) (zero-lt-suc 0))))

equal_of : (m n : ℕ) → eqb m n ≡ true → m ≡ n
equal_of m n h = eqb→eq m n (rw h tt)

void_of : (x : Float) → eq x const.zero ≡ true → Void x
unfolding eq
void_of nan h = no_number
void_of (inf s) h = absurd (false≢true h)
void_of (fin s m e) h =
    let z : m ≡ 0 = nothing_of m e (equal_of (m * up e * 1) (0 * 1 * down e) (and_left _ _ h) ∙ zero-mul (down e)) in
    rw z (nought s e)

-- ---- sums and products of them

round_nought : (s : Bool) (n c : ℕ) → n ≡ 0 → 0 < c → Void (round binary64 s n c)
unfolding round units odd size span climb
round_nought s n c z h = rw (z, round_same binary64 s 0 c 0 1 h (zero-lt-suc 0) (sym (zero-mul c))) (nought s (pos 0))

times : (x y : Float) → Void y → Void (x ⊗ y)
unfolding mul
times nan y v = no_number
times (inf s) y no_number = no_number
times (inf s) y (nought t d) = no_number
times (fin s m e) y no_number = no_number
times (fin s m e) y (nought t d) =
    round_nought (unlike s t) (m * up e * (0 * up d)) (down e * down d) (ap (λ (z : ℕ). m * up e * z) (zero-mul (up d)) ∙ mul-zero (m * up e)) (mul-pos (down_pos e) (down_pos d))

nought_of : (e d : ℤ) → 0 * up e * down d ≡ 0
nought_of e d = ap (λ (z : ℕ). z * down d) (zero-mul (up e)) ∙ zero-mul (down d)

-- ±0 / c and ±0 / c
both_nought : (s t : Bool) (a b c : ℕ) → a ≡ 0 → b ≡ 0 → 0 < c → Void (sum binary64 s a t b c)
unfolding sum
both_nought true true a b c x y h = round_nought true (a + b) c (omega arith) h
both_nought false false a b c x y h = round_nought false (a + b) c (omega arith) h
both_nought true false a b c x y h = rw (x, y) (round_nought false (0 - 0) c refl h)
both_nought false true a b c x y h = rw (x, y) (round_nought false (0 - 0) c refl h)

plus : (x y : Float) → Void x → Void y → Void (x ⊕ y)
unfolding add
plus x y no_number w = no_number
plus x y (nought s e) no_number = no_number
plus x y (nought s e) (nought t d) =
    both_nought s t (0 * up e * down d) (0 * up d * down e) (down e * down d) (nought_of e d) (nought_of d e) (mul-pos (down_pos e) (down_pos d))

turned : (x : Float) → Void x → Void (neg x)
unfolding neg
turned x no_number = no_number
turned x (nought s e) = nought (not s) e

minus : (x y : Float) → Void x → Void y → Void (x ⊖ y)
unfolding sub
minus x y v w = plus x (neg y) v (turned y w)

reciprocal : (x : Float) → Void x → Endless (const.one ⊘ x)
unfolding div
reciprocal x no_number = no_number
reciprocal x (nought s e) = endless (unlike false s)

turned_endless : (x : Float) → Endless x → Endless (neg x)
unfolding neg
turned_endless x no_number = no_number
turned_endless x (endless s) = endless (not s)

no_product : (r x : Float) → Endless r → Void x → r ⊗ x ≡ nan
unfolding mul
no_product r x no_number v = refl
no_product r x (endless s) no_number = refl
no_product r x (endless s) (nought t d) = refl

-- ---- the node

-- a..d are zero or NaN
record Empty (t : Affine) : Type 0 where
  a : Void t.a
  b : Void t.b
  c : Void t.c
  d : Void t.d

flat_empty : (t : Affine) → Flat t → Empty t
flat_empty t F = record { a = void_of t.a F.a; b = void_of t.b F.b; c = void_of t.c F.c; d = void_of t.d F.d }

under : (P Q : Affine) → Empty Q → Empty (product P Q)
unfolding product
under P Q E =
    record {
      a = plus _ _ (times P.a Q.a E.a) (times P.c Q.b E.b);
      b = plus _ _ (times P.b Q.a E.a) (times P.d Q.b E.b);
      c = plus _ _ (times P.a Q.c E.c) (times P.c Q.d E.d);
      d = plus _ _ (times P.b Q.c E.c) (times P.d Q.d E.d);
    }

-- no point is mapped back
nowhere : Point
nowhere = record { x = nan; y = nan }

mapped_nowhere : (t : Affine) → Empty t → (pt : Point) → mapped (inverse t) pt ≡ nowhere
unfolding mapped inverse nowhere mul add
mapped_nowhere t E pt =
    let r = reciprocal _ (minus _ _ (times t.a t.d E.d) (times t.b t.c E.c)) in
    rw (no_product _ t.d r E.d, no_product _ t.b (turned_endless _ r) E.b)

and_false : (b : Bool) → b && false ≡ false
and_false true = refl
and_false false = refl

out : (r : Rect) → contains r nowhere ≡ false
unfolding contains nowhere lt
out r = rw (and_false (le r.x0 nan))

not_reached : (t : Affine) → Empty t → (r : Rect) (s : Insets) (c : Clip) (pt : Point) → reached (inverse t) r s c pt ≡ false
unfolding reached
not_reached t E r s c pt = rw (mapped_nowhere t E pt, out)

-- of every plan and at every point
world_empty : (p : Plan) (x : ℕ) → FlatNode p x → Empty (world_place p x).transform
unfolding placed_on placed
world_empty p x (own F) = under _ (p.local x).local_transform (flat_empty (p.local x).local_transform F)
world_empty p x (world F) = flat_empty (world_place p x).transform F

pub no_candidate : (p : Plan) (x : ℕ) → FlatNode p x → (asked : NodeFlags) (pt : Point) → candidate p asked pt x ≡ false
unfolding candidate
no_candidate p x F asked pt = rw (not_reached (world_place p x).transform (world_empty p x F), and_false)

-- ---- what a tap answers

-- what is found passes the test
abbrev Passes : (ℕ → Bool) → Hit → Type 0
Passes q nothing = Unit {0}
Passes q (node x) = q x ≡ true

better_passes : (p : Plan) (q : ℕ → Bool) (x : ℕ) → q x ≡ true → (h : Hit) → Passes q h → Passes q (better p x h)
better_passes p q x e nothing u = e
better_passes p q x e (node y) u = go (larger p x y)
  where
    go : (b : Bool) → q (cond b x y) ≡ true
    go true = e
    go false = u

largest_passes : (p : Plan) (q : ℕ → Bool) (xs : List ℕ) → Passes q (largest p (keep q xs))
unfolding largest keep
largest_passes p q [] = tt
largest_passes p q (x ∷ xs) = go (q x) refl (largest_passes p q xs)
  where
    go : (b : Bool) → q x ≡ b → Passes q (largest p (keep q xs)) → Passes q (largest p (cond b (x ∷ keep q xs) (keep q xs)))
    go true e u = better_passes p q x e (largest p (keep q xs)) u
    go false e u = u

-- the slot of a hit, and whether there is one
slot : Tap → ℕ
slot nothing = 0
slot (hit i path) = i.0

found : Tap → Bool
found nothing = false
found (hit i path) = true

-- no tap of any plan hits such a node
not_hit : (p : Plan) (asked : NodeFlags) (pt : Point) (i : NodeId) (path : List NodeId) → tap p asked pt ≡ hit i path → FlatNode p i.0 → ⊥
unfolding tap slot found
not_hit p asked pt i path e F =
    go (largest p (keep (candidate p asked pt) (nodes p))) (largest_passes p (candidate p asked pt) (nodes p)) e
  where
    go : (h : Hit) → Passes (candidate p asked pt) h → tap_of p h ≡ hit i path → ⊥
    go nothing u d = false≢true (ap found d)
    go (node x) u d =
        let here : x ≡ i.0 = ap slot d in
        false≢true (sym (no_candidate p x (rw here F) asked pt) ∙ u)

-- nor is it the answer to one
tap_of_lem : Answer → Tap
tap_of_lem (refused n) = nothing
tap_of_lem (tapped t) = t
tap_of_lem (listed l) = nothing

pub not_answered : (p : Plan) (asked : NodeFlags) (pt : Point) (i : NodeId) (path : List NodeId) (n : ℕ)
    → answer_if n (tapped (tap p asked pt)) ≡ tapped (hit i path) → FlatNode p i.0 → ⊥
unfolding tap_of_lem found
not_answered p asked pt i path zero e F = not_hit p asked pt i path (ap tap_of_lem e) F
not_answered p asked pt i path (suc n) e F = false≢true (ap (λ (r : Answer). found (tap_of_lem r)) e)

-- where it is the only one, a tap finds nothing
pub nothing_hit : (p : Plan) (x : ℕ) → nodes p ≡ x ∷ [] → FlatNode p x → (asked : NodeFlags) (pt : Point) → tap p asked pt ≡ nothing
unfolding tap keep largest
nothing_hit p x e F asked pt = rw (e, no_candidate p x F asked pt)
