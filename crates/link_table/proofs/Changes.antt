-- What each change of the table leaves, from what its calls leave of the arrays.
use mathlib.Core.Path.{◌≡◌, refl, ap, ◌∙◌}
use mathlib.Core.Bool.{true}
use mathlib.Core.List.{List, ◌++◌}
use Prim.Native.Nat.{ℕ, ◌+◌, ◌-◌, ◌≤◌, ◌<◌}
use native.Mathlib.Omega.{arith}
use native.Mathlib.Decide.{dec_le}
use borrow.Author.Tests.{lt-ltb, le-ltb}
use lib.ListN.{length, take, drop, get_or, length-drop, get_or-append}
use lib.Seq.{take_at, drop_at, get_or-take, get_or-drop, get_or-append-add, length-take-le}
use Rattle.link_forest.specs.Table.{seg_end, depths_from, insert_all, cut_out}
use Rattle.link_table.specs.declared.Links.{Links}
use Rattle.link_table.specs.Links.{between, after_cut, end_of, cut_tree}
use Rattle.link_table.proofs.depths.Depths.{depth_small}
use Rattle.link_table.proofs.Steps.{length_part, run_short}

-- the test of the shape bounds each depth of the table
pub depth_fits : (n : ℕ) (ds : List ℕ) → depths_from 0 (take n ds) ≡ true → (j : ℕ) → j < n → get_or ds j 0 ≤ j + 1
depth_fits n ds h j k = omega (arith, depth_small 0 (take n ds) h j, get_or-take n ds j 0 k)

-- ---- a place when a segment is out
pub after_less : (i j p : ℕ) → p < i → after_cut i j p ≡ p
unfolding after_cut
after_less i j p h = rw (after_cut, lt-ltb p i h)

pub after_more : (i j p : ℕ) → i ≤ p → after_cut i j p ≡ p - (j - i)
unfolding after_cut
after_more i j p h = rw (after_cut, le-ltb p i h)

module _ (n i j p : ℕ) (h : i ≤ j) (k : j ≤ n) (q : p < n) (out : i ≤ p → j ≤ p) where
  pub after_inside : after_cut i j p < i + (n - j)
  after_inside = elim (dec_le i p) [ yes b ↦ omega (arith, after_more i j p b, out b) | no b ↦ omega (arith, after_less i j p (omega arith)) ]

  pub cut_at : (a : List ℕ) → n ≤ length a → get_or (cut_out n i j a) (after_cut i j p) 0 ≡ get_or a p 0
  cut_at a l =
      let li = length-take-le i a (omega arith) in
      elim (dec_le i p) [
        | yes b ↦
            let jp = out b in
            let w : after_cut i j p ≡ length (take i a) + (p - j) = omega (arith, after_more i j p b) in
            let v : j + (p - j) ≡ p = omega arith in
            let lt : p - j < n - j = omega arith in
            let ln : p - j < length (between j n a) = rw (length_part j n a k l) lt in
            ap (λ (m : ℕ). get_or (cut_out n i j a) m 0) w
            ∙ get_or-append-add (take i a) (between j n a ++ drop (i + (n - j)) a) (p - j) 0
            ∙ get_or-append (between j n a) (drop (i + (n - j)) a) 0 (p - j) ln
            ∙ get_or-take (n - j) (drop j a) (p - j) 0 lt
            ∙ get_or-drop j a (p - j) 0
            ∙ ap (λ (m : ℕ). get_or a m 0) v
        | no b ↦
            let lt : p < i = omega arith in
            let ln : p < length (take i a) = omega arith in
            ap (λ (m : ℕ). get_or (cut_out n i j a) m 0) (after_less i j p lt)
            ∙ get_or-append (take i a) (between j n a ++ drop (i + (n - j)) a) 0 p ln
            ∙ get_or-take i a p 0 lt
      ]

-- ---- a segment that goes in elsewhere
pub end_within : (ds : List ℕ) (i : ℕ) → i < length ds → (i < seg_end ds i) × (seg_end ds i ≤ length ds)
unfolding seg_end
end_within ds i h = (omega arith, omega (arith, run_short (get_or ds i 0) (drop (i + 1) ds), length-drop (i + 1) ds))

-- the items that have gone in, read back
pub inserted_part : (n e k : ℕ) (ys a : List ℕ) → e ≤ length a → length ys ≡ k → between e (e + k) (insert_all n e ys a) ≡ ys
inserted_part n e k ys a h l =
    let w : e + k - e ≡ k = omega arith in
    rw (w, drop_at (take e a) (ys ++ (take (n - e) (drop e a) ++ drop (n + length ys) a)) e (length-take-le e a h))
    (take_at ys (take (n - e) (drop e a) ++ drop (n + length ys) a) k l)

-- the depths of a segment are small
pub part_fits : (n i j : ℕ) (ds : List ℕ) → depths_from 0 (take n ds) ≡ true → j ≤ n → (m : ℕ) → m < j - i → get_or (between i j ds) m 0 ≤ n
part_fits n i j ds h k m lt = omega (arith, get_or-take (j - i) (drop i ds) m 0 lt, get_or-drop i ds m 0, depth_fits n ds h (i + m) (omega arith))

-- the table without a segment
module _ (l : Links) (i p : ℕ) (h : i < l.count) (ld : l.count ≤ length l.depth) where
  pub cut_end : (i < end_of l i) × (end_of l i ≤ l.count)
  cut_end =
      let len : length (take l.count l.depth) ≡ l.count = length-take-le l.count l.depth ld in
      let w = end_within (take l.count l.depth) i (omega arith) in
      (w.0, omega arith)

  pub cut_count : (cut_tree l i).count ≡ i + (l.count - end_of l i)
  unfolding cut_tree
  cut_count = refl

  pub cut_place : p < l.count → (i ≤ p → end_of l i ≤ p) → after_cut i (end_of l i) p < (cut_tree l i).count
  cut_place q out = rw cut_count (after_inside l.count i (end_of l i) p (omega (arith, cut_end)) cut_end.1 q out)

  pub cut_depth : p < l.count → (i ≤ p → end_of l i ≤ p) → get_or (cut_tree l i).depth (after_cut i (end_of l i) p) 0 ≡ get_or l.depth p 0
  unfolding cut_tree
  cut_depth q out = cut_at l.count i (end_of l i) p (omega (arith, cut_end)) cut_end.1 q out l.depth ld
