-- A rule judges saturated numbers as it judges the numbers, and numbers that it lets pass are not cut off. Assumes nothing.
use mathlib.Core.Path.{◌≡◌, refl, sym, ap, ◌∙◌}
use mathlib.Core.Bool.{Bool, true, false, not, ◌&&◌}
use mathlib.Core.List.{List, map}
use Prim.Native.Nat.{ℕ, suc, ◌≤◌, ◌<◌}
use native.Mathlib.Omega.{arith}
use borrow.Author.Tests.{ltb-true, ltb-false}
use lib.Dec.{lit<, ltb}
use lib.IntN.{ℤ, pos, neg_ℤ}
use lib.Signed.{le_z, mag}
use lib.ListN.{length, length-map, get_or-map}
use lib.Seq.{ext_get_or}
use Rattle.sheet_lines.specs.Saturated.{saturated}
use Rattle.sheet_lines.proofs.Bounds.{under, over, itself, clash}
use Rattle.sheet_format.specs.Sheet.{place_width, clip_width, tap_width, most_lines, column, place_of, clip_of, tap_of, within, coordinate, flag_byte, place_in_range, clip_in_range, tap_in_range, parent_earlier, clipped_before, clip_place_open, count_rule, place_rule, clip_rule, tap_rule}
use Rattle.sheet_reader.specs.Blind.{Blind}

pub and_left : (a b : Bool) → a && b ≡ true → a ≡ true
and_left true b h = refl
and_left false b h = clash h

pub and_right : (a b : Bool) → a && b ≡ true → b ≡ true
and_right true b h = h
and_right false b h = clash h

both : (a a' b b' : Bool) → a ≡ a' → b ≡ b' → a && b ≡ a' && b'
both a a' b b' p q = rw (p, q)

-- ---- one number

col : (zs : List ℤ) (k : ℕ) → column (map saturated zs) k ≡ saturated (column zs k)
unfolding saturated
col zs k = get_or-map saturated zs k (pos 0)

module _ (low high : ℤ) (l : mag low < 999999999999999) (h : mag high < 999999999999999) where
  sat_within : (z : ℤ) → within low high (saturated z) ≡ within low high z
  sat_within z = both _ _ _ _ (over z low l) (under z high h)

  alike : (zs : List ℤ) (k : ℕ) → within low high (column (map saturated zs) k) ≡ within low high (column zs k)
  alike zs k = ap (within low high) (col zs k) ∙ sat_within (column zs k)

  uncut : (z : ℤ) → within low high z ≡ true → saturated z ≡ z
  uncut z e = itself z low high l h (and_left (le_z low z) (le_z z high) e) (and_right (le_z low z) (le_z z high) e)

coordinate_alike : (zs : List ℤ) (k : ℕ) → coordinate (column (map saturated zs) k) ≡ coordinate (column zs k)
coordinate_alike zs k = alike (neg_ℤ (pos 1000000)) (pos 1000000) (lit< tt) (lit< tt) zs k

coordinate_uncut : (z : ℤ) → coordinate z ≡ true → saturated z ≡ z
coordinate_uncut z e = uncut (neg_ℤ (pos 1000000)) (pos 1000000) (lit< tt) (lit< tt) z e

-- ---- a row

-- the first n numbers are not cut off
abbrev Uncut : List ℤ → ℕ → Type 0
Uncut zs n = (k : ℕ) → k < n → saturated (column zs k) ≡ column zs k

none : (zs : List ℤ) → Uncut zs 0
none zs k h = absurd (omega arith)

more_by : (b : Bool) (zs : List ℤ) (n k : ℕ) → ltb k n ≡ b → Uncut zs n → saturated (column zs n) ≡ column zs n → k < suc n → saturated (column zs k) ≡ column zs k
more_by true zs n k t f e h = f k (ltb-true k n t)
more_by false zs n k t f e h = let q : k ≡ n = omega (arith, ltb-false k n t) in rw q e

more : (zs : List ℤ) (n : ℕ) → Uncut zs n → saturated (column zs n) ≡ column zs n → Uncut zs (suc n)
more zs n f e k h = more_by (ltb k n) zs n k refl f e h

row_uncut : (zs : List ℤ) (n : ℕ) → length zs ≡ n → Uncut zs n → map saturated zs ≡ zs
row_uncut zs n l f =
    ext_get_or (pos 0) (map saturated zs) zs (length-map zs saturated)
    (λ i h. let m : length (map saturated zs) ≡ length zs = length-map zs saturated in let b : i < n = omega arith in col zs i ∙ f i b)

-- ---- a rule

pub count_blind : (most : ℕ) (before : List (List ℤ)) → most ≤ most_lines → Blind (count_rule most) before
count_blind most before h =
    let m : most < 999999999999999 = omega arith in
    record {
      ranged = λ zs. alike (pos 0) (pos most) (lit< tt) m zs 0;
      fitted = λ zs. refl;
      uncut = λ zs l r f. row_uncut zs 1 l (more zs 0 (none zs) (uncut (pos 0) (pos most) (lit< tt) m (column zs 0) r));
    }

module _ (zs : List ℤ) where
  abbrev c : ℕ → Bool
  c k = coordinate (column zs k)

  abbrev o : Bool
  o = within (pos 0) (pos 7) (column zs 1)

  abbrev xy : Bool
  xy = coordinate (column zs 2) && coordinate (column zs 3)

  abbrev box : Bool
  box = coordinate (column zs 4) && coordinate (column zs 5) && coordinate (column zs 6) && coordinate (column zs 7)

  abbrev slop : Bool
  slop = within (pos 0) (pos 1000) (column zs 8)

  abbrev level : Bool
  level = within (neg_ℤ (pos 2147483648)) (pos 2147483647) (column zs 9)

  abbrev flags : Bool
  flags = flag_byte (column zs 10)

  place_uncut : (n : ℕ) → n ≤ most_lines → length zs ≡ place_width → o && xy && box && slop && level && flags ≡ true → within (pos 0) (pos n) (column zs 0) ≡ true
      → map saturated zs ≡ zs
  place_uncut n s l e p =
      let m : n < 999999999999999 = omega arith in
      let e4 : o && xy && box && slop && level ≡ true = and_left (o && xy && box && slop && level) flags e in
      let e3 : o && xy && box && slop ≡ true = and_left (o && xy && box && slop) level e4 in
      let e2 : o && xy && box ≡ true = and_left (o && xy && box) slop e3 in
      let e1 : o && xy ≡ true = and_left (o && xy) box e2 in
      let b : box ≡ true = and_right (o && xy) box e2 in
      let b3 : c 4 && c 5 && c 6 ≡ true = and_left (c 4 && c 5 && c 6) (c 7) b in
      let b2 : c 4 && c 5 ≡ true = and_left (c 4 && c 5) (c 6) b3 in
      let f : xy ≡ true = and_right o xy e1 in
      row_uncut zs place_width l
      (more zs 10
      (more zs 9
      (more zs 8
      (more zs 7
      (more zs 6
      (more zs 5
      (more zs 4
      (more zs 3
      (more zs 2
      (more zs 1 (more zs 0 (none zs) (uncut (pos 0) (pos n) (lit< tt) m (column zs 0) p))
      (uncut (pos 0) (pos 7) (lit< tt) (lit< tt) (column zs 1) (and_left o xy e1)))
      (coordinate_uncut (column zs 2) (and_left (c 2) (c 3) f)))
      (coordinate_uncut (column zs 3) (and_right (c 2) (c 3) f)))
      (coordinate_uncut (column zs 4) (and_left (c 4) (c 5) b2)))
      (coordinate_uncut (column zs 5) (and_right (c 4) (c 5) b2)))
      (coordinate_uncut (column zs 6) (and_right (c 4 && c 5) (c 6) b3)))
      (coordinate_uncut (column zs 7) (and_right (c 4 && c 5 && c 6) (c 7) b)))
      (uncut (pos 0) (pos 1000) (lit< tt) (lit< tt) (column zs 8) (and_right (o && xy && box) slop e3)))
      (uncut (neg_ℤ (pos 2147483648)) (pos 2147483647) (lit< tt) (lit< tt) (column zs 9) (and_right (o && xy && box && slop) level e4)))
      (uncut (pos 0) (pos 7) (lit< tt) (lit< tt) (column zs 10) (and_right (o && xy && box && slop && level) flags e)))

pub place_blind : (before : List (List ℤ)) → length before ≤ most_lines → Blind place_rule before
unfolding place_in_range place_of parent_earlier
place_blind before h =
    let m : length before < 999999999999999 = omega arith in
    record {
      ranged = λ zs.
          both _ _ _ _
          (both _ _ _ _
          (both _ _ _ _
          (both _ _ _ _
          (both _ _ _ _ (alike (pos 0) (pos 7) (lit< tt) (lit< tt) zs 1)
          (both _ _ _ _ (coordinate_alike zs 2) (coordinate_alike zs 3)))
          (both _ _ _ _ (both _ _ _ _ (both _ _ _ _ (coordinate_alike zs 4) (coordinate_alike zs 5)) (coordinate_alike zs 6))
          (coordinate_alike zs 7)))
          (alike (pos 0) (pos 1000) (lit< tt) (lit< tt) zs 8))
          (alike (neg_ℤ (pos 2147483648)) (pos 2147483647) (lit< tt) (lit< tt) zs 9))
          (alike (pos 0) (pos 7) (lit< tt) (lit< tt) zs 10);
      fitted = λ zs. alike (pos 0) (pos (length before)) (lit< tt) m zs 0;
      uncut = λ zs l r f. place_uncut zs (length before) h l r f;
    }

pub tap_blind : (before : List (List ℤ)) → Blind tap_rule before
unfolding tap_in_range tap_of
tap_blind before =
    record {
      ranged = λ zs.
          both _ _ _ _ (both _ _ _ _ (coordinate_alike zs 0) (coordinate_alike zs 1)) (alike (pos 0) (pos 7) (lit< tt) (lit< tt) zs 2);
      fitted = λ zs. refl;
      uncut = λ zs l r f.
          let e : c zs 0 && c zs 1 ≡ true = and_left (c zs 0 && c zs 1) (flag_byte (column zs 2)) r in
          row_uncut zs tap_width l
          (more zs 2
          (more zs 1 (more zs 0 (none zs) (coordinate_uncut (column zs 0) (and_left (c zs 0) (c zs 1) e)))
          (coordinate_uncut (column zs 1) (and_right (c zs 0) (c zs 1) e)))
          (uncut (pos 0) (pos 7) (lit< tt) (lit< tt) (column zs 2) (and_right (c zs 0 && c zs 1) (flag_byte (column zs 2)) r)));
    }

-- a place within its bounds is not cut off, and one beyond them does not fit
open_by : (b : Bool) (places : ℕ) (before : List (List ℤ)) (k : ℤ) → places ≤ most_lines → within (pos 1) (pos places) k ≡ b
    → within (pos 1) (pos places) (saturated k) && not (clipped_before before (saturated k)) ≡ within (pos 1) (pos places) k && not (clipped_before before k)
open_by true places before k h e =
    let m : places < 999999999999999 = omega arith in
    ap (λ z. within (pos 1) (pos places) z && not (clipped_before before z)) (uncut (pos 1) (pos places) (lit< tt) m k e)
open_by false places before k h e =
    let m : places < 999999999999999 = omega arith in
    let f : within (pos 1) (pos places) (saturated k) ≡ false = sat_within (pos 1) (pos places) (lit< tt) m k ∙ e in
    ap (λ t. t && not (clipped_before before (saturated k))) f ∙ sym (ap (λ t. t && not (clipped_before before k)) e)

pub clip_blind : (places : ℕ) (before : List (List ℤ)) → places ≤ most_lines → Blind (clip_rule places) before
unfolding clip_in_range clip_of clip_place_open
clip_blind places before h =
    let m : places < 999999999999999 = omega arith in
    record {
      ranged = λ zs.
          both _ _ _ _
          (both _ _ _ _ (both _ _ _ _ (both _ _ _ _ (coordinate_alike zs 1) (coordinate_alike zs 2)) (coordinate_alike zs 3)) (coordinate_alike zs 4))
          (alike (pos 0) (pos 1000000) (lit< tt) (lit< tt) zs 5);
      fitted = λ zs.
          ap (λ z. within (pos 1) (pos places) z && not (clipped_before before z)) (col zs 0)
          ∙ open_by (within (pos 1) (pos places) (column zs 0)) places before (column zs 0) h refl;
      uncut = λ zs l r f.
          let a : c zs 1 && c zs 2 && c zs 3 && c zs 4 ≡ true = and_left (c zs 1 && c zs 2 && c zs 3 && c zs 4) (within (pos 0) (pos 1000000) (column zs 5)) r in
          let a3 : c zs 1 && c zs 2 && c zs 3 ≡ true = and_left (c zs 1 && c zs 2 && c zs 3) (c zs 4) a in
          let a2 : c zs 1 && c zs 2 ≡ true = and_left (c zs 1 && c zs 2) (c zs 3) a3 in
          row_uncut zs clip_width l
          (more zs 5
          (more zs 4
          (more zs 3
          (more zs 2
          (more zs 1
          (more zs 0 (none zs)
          (uncut (pos 1) (pos places) (lit< tt) m (column zs 0)
          (and_left (within (pos 1) (pos places) (column zs 0)) (not (clipped_before before (column zs 0))) f)))
          (coordinate_uncut (column zs 1) (and_left (c zs 1) (c zs 2) a2)))
          (coordinate_uncut (column zs 2) (and_right (c zs 1) (c zs 2) a2)))
          (coordinate_uncut (column zs 3) (and_right (c zs 1 && c zs 2) (c zs 3) a3)))
          (coordinate_uncut (column zs 4) (and_right (c zs 1 && c zs 2 && c zs 3) (c zs 4) a)))
          (uncut (pos 0) (pos 1000000) (lit< tt) (lit< tt) (column zs 5)
          (and_right (c zs 1 && c zs 2 && c zs 3 && c zs 4) (within (pos 0) (pos 1000000) (column zs 5)) r)));
    }
