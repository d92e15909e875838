-- The index's commit over a queue of removed entries with others behind them: the removed ones are freed in their order.
use mathlib.Core.Path.{◌≡◌, refl, sym, ap, ap₂, ◌∙◌}
use mathlib.Core.List.{List, [], ◌∷◌, ◌++◌, reverse, reverse-append, reverse-cons, append_assoc}
use Prim.Native.Nat.{ℕ, ◌+◌, ◌≤◌, ◌<◌}
use native.Mathlib.Numerals.{add-one}
use native.Mathlib.Omega.{arith}
use lib.ListN.{length, set, take, length-set}
use lib.Seq.{take-suc-set}
use Rattle.index_types.specs.declared.Slot.{Slot}
use Rattle.index_types.specs.Slots.{entry_in}
use Rattle.counting.specs.Times.{times}
use Rattle.counting.proofs.Counting.{hit, times_append}
use Rattle.index_entries.specs.declared.reads.Mark.{Mark}
use Rattle.index_entries.proofs.Keep.{Kind, plain, new, moved, gone, kind}
use Rattle.index_commit.specs.Commit.{Act, rests, adds, moves, act_of, free_step, frees_step, Work, work, work_act, work_step}
use Rattle.index_commit.proofs.Acts.{act_gone}
use Rattle.index_commit.proofs.Keep.{other}
use Rattle.agreement.proofs.worlds.Owned.{comes_step}

-- ---- what a slot does, by its mark
data Keeps : Act → Type 0 where
  rested : Keeps rests
  added : Keeps adds
  shifted : Keeps moves

act_keeps : {m : ℕ} {q : Mark} → Kind m q → m ≤ 3 → Keeps (act_of m)
unfolding act_of
act_keeps plain h = rested
act_keeps new h = added
act_keeps moved h = shifted
act_keeps (gone g) h = absurd (omega arith)

-- such a slot leaves the free list alone
keeps_free : (n : ℕ) (l : List ℕ) (x : ℕ) {a : Act} → Keeps a → (frees_step a n ≡ n) × (free_step a l n x ≡ l)
keeps_free n l x rested = (refl, refl)
keeps_free n l x added = (refl, refl)
keeps_free n l x shifted = (refl, refl)

gone_step : (w : Work) (x : ℕ) → 4 ≤ (entry_in w.entries x).mark
    → ((work_step w x).frees ≡ w.frees + 1) × ((work_step w x).free ≡ set w.free w.frees x)
unfolding work_step
gone_step w x h = let e = act_gone (entry_in w.entries x).mark h in (rw e, rw e)

stay_step : (w : Work) (x : ℕ) → 1 ≤ (entry_in w.entries x).mark → (entry_in w.entries x).mark ≤ 3 → ((work_step w x).frees ≡ w.frees) × ((work_step w x).free ≡ w.free)
unfolding work_step
stay_step w x a b =
    keeps_free w.frees w.free x (act_keeps (kind (entry_in w.entries x).mark (λ e. omega arith)) b)

moved_on : (w : Work) (x y : ℕ) → (y ≡ x → ⊥) → entry_in (work_step w x).entries y ≡ entry_in w.entries y
unfolding work_step
moved_on w x y n = other w.entries x (work_act w x) y n

work_append : (w : Work) (xs ys : List ℕ) → work w (xs ++ ys) ≡ work (work w xs) ys
unfolding work
work_append w [] ys = refl
work_append w (x ∷ xs) ys = work_append (work_step w x) xs ys

-- ---- removed entries, none twice
record Dropped (w : Work) (xs : List ℕ) (r : Work) : Type 0 where
  frees : r.frees ≡ w.frees + length xs
  free : w.frees + length xs ≤ length w.free → reverse (take r.frees r.free) ≡ reverse xs ++ reverse (take w.frees w.free)
  marks : (y : ℕ) → times y xs ≡ 0 → (entry_in r.entries y).mark ≡ (entry_in w.entries y).mark

freed_one : (l : List ℕ) (n x : ℕ) → n < length l → reverse (take (n + 1) (set l n x)) ≡ x ∷ reverse (take n l)
freed_one l n x h = ap reverse (ap (λ (m : ℕ). take m (set l n x)) (add-one n) ∙ take-suc-set l n x h) ∙ reverse-append (take n l) (x ∷ [])

dropped : (w : Work) (xs : List ℕ) → ((y : ℕ) → times y xs ≤ 1) → ((y : ℕ) → 1 ≤ times y xs → 4 ≤ (entry_in w.entries y).mark) → Dropped w xs (work w xs)
unfolding work times
dropped w [] once g = record { frees = omega arith; free = λ h. refl; marks = λ y h. refl }
dropped w (x ∷ xs) once g =
    on (gone_step w x (g x (omega (arith, hit x))))
    (dropped (work_step w x) xs (λ y. omega (arith, once y)) (λ y h. rw (other y (λ e. omega (arith, hit x, once x, rw e at h))) (g y (omega arith))))
  where
    u : Work
    u = work_step w x

    other : (y : ℕ) → (y ≡ x → ⊥) → (entry_in (work_step w x).entries y).mark ≡ (entry_in w.entries y).mark
    other y n = ap (λ (e : Slot). e.mark) (moved_on w x y n)

    on : (u.frees ≡ w.frees + 1) × (u.free ≡ set w.free w.frees x) → Dropped u xs (work u xs) → Dropped w (x ∷ xs) (work u xs)
    on S D =
        record {
          frees = omega (arith, D.frees, S.0);
          free = λ h.
              D.free (omega (arith, S.0, ap length S.1, length-set w.free w.frees x))
              ∙ ap (λ (l : List ℕ). reverse xs ++ l) (ap₂ (λ (n : ℕ) (l : List ℕ). reverse (take n l)) S.0 S.1 ∙ freed_one w.free w.frees x (omega arith))
              ∙ sym (append_assoc (reverse xs) (x ∷ []) (reverse (take w.frees w.free)))
              ∙ ap (λ (l : List ℕ). l ++ reverse (take w.frees w.free)) (sym (reverse-cons x xs));
          marks = λ y h. D.marks y (omega arith) ∙ other y (λ e. omega (arith, hit x, rw e at h));
        }

-- ---- entries that are not removed
untouched : (w : Work) (xs : List ℕ) → ((y : ℕ) → 1 ≤ times y xs → (1 ≤ (entry_in w.entries y).mark) × ((entry_in w.entries y).mark ≤ 3)) → ((work w xs).frees ≡ w.frees) × ((work w xs).free ≡ w.free)
unfolding work times work_step
untouched w [] g = (refl, refl)
untouched w (x ∷ xs) g =
    let m = g x (omega (arith, hit x)) in
    let S = stay_step w x m.0 m.1 in
    let D = untouched (work_step w x) xs (λ y h. let v = g y (omega arith) in (comes_step w.entries x y).stays v.0 v.1) in
    (D.0 ∙ S.0, D.1 ∙ S.1)

-- ---- a queue of removed entries, none twice, with others behind them
module _ (w : Work) (xs ys : List ℕ) (once : (y : ℕ) → times y (xs ++ ys) ≤ 1) (removed : (y : ℕ) → 1 ≤ times y xs → 4 ≤ (entry_in w.entries y).mark) (others : (y : ℕ) → 1 ≤ times y ys → (1 ≤ (entry_in w.entries y).mark) × ((entry_in w.entries y).mark ≤ 3)) where
  D : Dropped w xs (work w xs)
  D = dropped w xs (λ y. omega (arith, once y, times_append y xs ys)) removed

  apart : (y : ℕ) → 1 ≤ times y ys → (entry_in (work w xs).entries y).mark ≡ (entry_in w.entries y).mark
  apart y h = D.marks y (omega (arith, once y, times_append y xs ys))

  U : ((work (work w xs) ys).frees ≡ (work w xs).frees) × ((work (work w xs) ys).free ≡ (work w xs).free)
  U = untouched (work w xs) ys (λ y h. rw (apart y h) (others y h))

  pub freed_all : (work w (xs ++ ys)).frees ≤ length w.free → reverse (take (work w (xs ++ ys)).frees (work w (xs ++ ys)).free) ≡ reverse xs ++ reverse (take w.frees w.free)
  freed_all h =
      let a = work_append w xs ys in
      ap (λ (r : Work). reverse (take r.frees r.free)) a ∙ ap₂ (λ (n : ℕ) (l : List ℕ). reverse (take n l)) U.0 U.1
      ∙ D.free (omega (arith, D.frees, U.0, ap (λ (r : Work). r.frees) a))
