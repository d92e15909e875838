-- A table of slots below 256, none twice: the test of it is exact, and every change keeps it.
use mathlib.Core.Path.{◌≡◌, refl, sym, ◌∙◌}
use mathlib.Core.Bool.{true, false, ◌&&◌}
use mathlib.Core.List.{List, [], ◌∷◌, map}
use Prim.Native.Nat.{ℕ, ◌+◌, ◌-◌, ◌≤◌, ◌<◌}
use native.Mathlib.Omega.{arith}
use native.Mathlib.Decide.{dec_lt, ℕ_discrete}
use borrow.Author.Tests.{ne_eqb}
use lib.Dec.{eqb}
use lib.ListN.{length, take, drop, get_or}
use Rattle.counting.specs.Lists.{Tells, once_below}
use Rattle.counting.proofs.Counting.{shorter}
use Rattle.counting.proofs.Kit.{both, through}
use Rattle.counting.proofs.Words.{once_below_tells}
use Rattle.link_forest.specs.Forest.{Forest, none, leaf, pre, has, count, cat, under, remove, part}
use Rattle.link_forest.specs.Sound.{Sound}
use Rattle.link_forest.specs.Table.{depths_from, rebased, insert_all, cut_out}
use Rattle.counting.proofs.Counting.{tally_small}
use Rattle.link_forest.proofs.Counting.{has_count, lacks_count, count_pre, count_cat, count_under, count_parts, once_cat, once_under, once_remove, once_moved, once_moved_root}
use Rattle.link_forest.proofs.Rep.{Segment, rep_times, rep_exact, rep_empty, rep_has, rep_add, rep_add_root, rep_remove, rep_moved, rep_moved_root}

pub sound_exact : (slots depths : List ℕ) (n : ℕ) → length slots ≡ 256 → length depths ≡ 256
    → Tells (once_below 256 slots n && depths_from 0 (take n depths)) ((f : Forest) × Sound slots depths n f)
sound_exact slots depths n size dsize =
    through
    (λ p.
    let F = (rep_exact slots depths n p.0.fits size dsize).0 p.1 in
    (F.0, record { rep = F.1; once = λ x. rw (← rep_times F.1 x) (p.0.once x); low = λ x h. sym (rep_times F.1 x) ∙ p.0.low x h }))
    (λ S.
    let T = S.1 in (
      record { fits = T.rep.small; low = λ x h. rep_times T.rep x ∙ T.low x h; once = λ x. rw (rep_times T.rep x) (T.once x) },
      (rep_exact slots depths n T.rep.small size dsize).1 (S.0, T.rep),
    ))
    (both (once_below 256 slots n) (depths_from 0 (take n depths)) (once_below_tells 256 slots n (omega arith)) (λ h. h, λ h. h))

pub sound_empty : (slots depths : List ℕ) → length slots ≡ 256 → length depths ≡ 256 → Sound slots depths 0 none
unfolding count
sound_empty slots depths size dsize = record { rep = rep_empty slots depths size dsize; once = λ x. omega arith; low = λ x h. refl }

-- ---- one slot more
count_leaf : (x y : ℕ) → (x ≡ y → ⊥) → count y (leaf x) ≡ 0
unfolding count
count_leaf x y n = rw (ne_eqb x y n)

leaf_once : (x y : ℕ) → count y (leaf x) ≤ 1
unfolding count
leaf_once x y = omega (arith, tally_small (eqb x y))

module _ {slots depths : List ℕ} {n : ℕ} {f : Forest} (S : Sound slots depths n f) where
  pub sound_low : (x : ℕ) → has x f ≡ true → x < 256
  sound_low x h = elim (dec_lt x 256) [ yes l ↦ l | no m ↦ absurd (omega (arith, has_count x f h, S.low x (omega arith))) ]

  module _ (x : ℕ) (low : x < 256) (new : has x f ≡ false) where
    -- while some slot is free, there is room
    pub sound_room : n < 256
    sound_room =
        let l = shorter 256 x (pre f) (λ y. rw (count_pre y f) (S.once y)) (λ y h. count_pre y f ∙ S.low y h) low (count_pre x f ∙ lacks_count x f new) in
        omega (arith, S.rep.counted)

    apart : (y : ℕ) → count y f + count y (leaf x) ≤ 1
    apart y =
        elim (ℕ_discrete x y) [
          | yes e ↦ let z : count y f ≡ 0 = rw (← e) (lacks_count x f new) in omega (arith, leaf_once x y)
          | no m ↦ omega (arith, count_leaf x y m, S.once y)
        ]

    leaf_low : (y : ℕ) → 256 ≤ y → count y (leaf x) ≡ 0
    leaf_low y h = count_leaf x y (λ e. omega arith)

    pub sound_add_root : Sound (insert_all n n (x ∷ []) slots) (insert_all n n (1 ∷ []) depths) (n + 1) (cat f (leaf x))
    sound_add_root =
        record {
          rep = rep_add_root S.rep x sound_room;
          once = once_cat f (leaf x) apart;
          low = λ y h. omega (arith, count_cat y f (leaf x), S.low y h, leaf_low y h);
        }

    pub sound_add : {p i e : ℕ} → Segment slots depths n p i e
        → Sound (insert_all n e (x ∷ []) slots) (insert_all n e ((get_or depths i 0 + 1) ∷ []) depths) (n + 1) (under p (leaf x) f)
    sound_add {p = p} A =
        let h : has p f ≡ true = rep_has S.rep A.at in
        record {
          rep = rep_add S.rep x sound_room A;
          once = once_under p (leaf x) f h apart;
          low = λ y g. omega (arith, count_under y p (leaf x) f h, S.low y g, leaf_low y g);
        }

  -- ---- a node with what is below it, taken out or moved
  module _ {p i e : ℕ} (A : Segment slots depths n p i e) where
    live : has p f ≡ true
    live = rep_has S.rep A.at

    pub sound_remove : Sound (cut_out n i e slots) (cut_out n i e depths) (i + (n - e)) (remove p f)
    sound_remove =
        record {
          rep = rep_remove S.rep A;
          once = once_remove p f live S.once;
          low = λ y g. omega (arith, count_parts y p f live, S.low y g);
        }

    pub sound_moved : {q j g : ℕ} → Segment (cut_out n i e slots) (cut_out n i e depths) (i + (n - e)) q j g
        → Sound (insert_all (i + (n - e)) g (take (e - i) (drop i slots)) (cut_out n i e slots))
        (insert_all (i + (n - e)) g (map (rebased (get_or depths i 0) (get_or (cut_out n i e depths) j 0 + 1)) (take (e - i) (drop i depths))) (cut_out n i e depths))
        n
        (under q (part p f) (remove p f))
    sound_moved {q = q} B =
        let h : has q (remove p f) ≡ true = rep_has (rep_remove S.rep A) B.at in
        record {
          rep = rep_moved S.rep A B;
          once = once_moved p q f live h S.once;
          low = λ y g. omega (arith, count_under y q (part p f) (remove p f) h, count_parts y p f live, S.low y g);
        }

    pub sound_moved_root : Sound (insert_all (i + (n - e)) (i + (n - e)) (take (e - i) (drop i slots)) (cut_out n i e slots))
        (insert_all (i + (n - e)) (i + (n - e)) (map (rebased (get_or depths i 0) 1) (take (e - i) (drop i depths))) (cut_out n i e depths))
        n
        (cat (remove p f) (part p f))
    sound_moved_root =
        record {
          rep = rep_moved_root S.rep A;
          once = once_moved_root p f live S.once;
          low = λ y g. omega (arith, count_cat y (remove p f) (part p f), count_parts y p f live, S.low y g);
        }
