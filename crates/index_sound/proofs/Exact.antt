-- The test of soundness is exact: it passes if and only if document 01's "Sound index" holds of the tables. By counting in between.
use mathlib.Core.Path.{◌≡◌, refl, ap, ◌∙◌}
use mathlib.Core.Bool.{◌&&◌, ◌||◌}
use mathlib.Core.List.{List}
use Prim.Native.Nat.{ℕ, ◌≤◌, ◌<◌}
use native.Mathlib.Omega.{arith}
use native.Mathlib.Decide.{dec_lt, ℕ_discrete}
use borrow.Author.Tests.{ne_eqb, lt-ltb, le-ltb}
use lib.Dec.{eqb, ltb, leb}
use lib.ListN.{length, take, get_or, get_or-eq_default}
use Rattle.counting.specs.Times.{tally, times}
use Rattle.counting.specs.Lists.{Tells, once_below}
use Rattle.counting.proofs.Counting.{tally_small}
use Rattle.counting.proofs.Kit.{both, at_most, less, equal, every_tells, through, unless}
use Rattle.counting.proofs.Words.{OnceBelow, once_below_tells, find, seen, small, once_of}
use Rattle.index_types.specs.declared.Slot.{Slot}
use Rattle.index_types.specs.Slots.{no_entry, entry_in}
use Rattle.index_sound.specs.Sound.{Empty, SoundOf, empty, slot_right, sound_of, SlotOf, CountOf}

-- ---- one slot

slot_tells : (x used mark free queue : ℕ) → Tells (slot_right x used mark free queue) (SlotOf x used mark free queue)
slot_tells x used mark free queue =
    through
    (λ p. record { past = λ h. p.0 (λ l. omega arith); counted = p.1.0; waits = λ h. p.1.1 (λ l. omega arith) })
    (λ S. ((λ n. S.past (omega (arith, not_less x used n))), (S.counted, λ n. S.waits (omega (arith, not_less mark 2 n)))))
    (both (ltb x used || eqb mark 0) _ (unless (ltb x used) (eqb mark 0) (less x used) (equal mark 0))
    (both (eqb free (tally (ltb x used && eqb mark 0))) _ (equal free (tally (ltb x used && eqb mark 0))) (unless (ltb mark 2) (eqb queue 1) (less mark 2) (equal queue 1))))
  where
    not_less : (a b : ℕ) → (a < b → ⊥) → b ≤ a
    not_less a b n = elim (dec_lt a b) [ yes l ↦ absurd (n l) | no m ↦ omega arith ]

-- ---- the tables, by counting

module _ (entries : List Slot) (free : List ℕ) (frees : ℕ) (dirty : List ℕ) (queued used : ℕ) (lm : length entries ≡ 512) (lf : length free ≡ 512) (lq : length dirty ≡ 512) where
  abbrev Right : ℕ → Type 0
  Right x = SlotOf x used (entry_in entries x).mark (times x (take frees free)) (times x (take queued dirty))

  gather : (used ≤ 512) × (OnceBelow 512 free frees × (OnceBelow 512 dirty queued × ((x : ℕ) → x < 512 → Right x))) → CountOf entries free frees dirty queued used
  gather p = record { used_fits = p.0; free_fits = p.1.0.fits; queue_fits = p.1.1.0.fits; slot = at; low = p.1.1.0.low; once = p.1.1.0.once }
    where
      at : (x : ℕ) → Right x
      at x =
          elim (dec_lt x 512) [
            | yes l ↦ p.1.1.1 x l
            | no g ↦
                let past : length entries ≤ x = omega arith in
                let z : (entry_in entries x).mark ≡ 0 = ap (λ (e : Slot). e.mark) (get_or-eq_default entries no_entry past) in
                let u = p.0 in
                record { past = λ _. z; counted = rw (le-ltb x used (omega arith)) (p.1.0.low x (omega arith)); waits = λ h. absurd (omega arith) }
          ]

  spread : CountOf entries free frees dirty queued used → (used ≤ 512) × (OnceBelow 512 free frees × (OnceBelow 512 dirty queued × ((x : ℕ) → x < 512 → Right x)))
  spread C =
      let u = C.used_fits in (
        u,
        (
          record { fits = C.free_fits; low = λ x g. (C.slot x).counted ∙ rw (le-ltb x used (omega arith)); once = λ x. rw (C.slot x).counted (tally_small (empty entries used x)) },
          (record { fits = C.queue_fits; low = C.low; once = C.once }, λ x l. C.slot x),
        ),
      )

  pub count_tells : Tells (sound_of entries free frees dirty queued used) (CountOf entries free frees dirty queued used)
  unfolding sound_of
  count_tells =
      through gather spread
      (both (leb used 512) _ (at_most used 512)
      (both (once_below 512 free frees) _ (once_below_tells 512 free frees (omega arith))
      (both (once_below 512 dirty queued) _ (once_below_tells 512 dirty queued (omega arith))
      (every_tells 512 (λ x. slot_right x used (entry_in entries x).mark (times x (take frees free)) (times x (take queued dirty))) Right
      (λ x. slot_tells x used (entry_in entries x).mark (times x (take frees free)) (times x (take queued dirty)))))))

  -- ---- counting and words

  is_empty : (x : ℕ) → Empty entries used x → tally (empty entries used x) ≡ 1
  is_empty x d = rw (lt-ltb x used d.0, d.1)

  empty_of : (x : ℕ) → 1 ≤ tally (empty entries used x) → Empty entries used x
  empty_of x h =
      elim (dec_lt x used) [
        | yes l ↦ elim (ℕ_discrete (entry_in entries x).mark 0) [
          | yes z ↦ (l, z)
          | no n ↦ absurd (omega (arith, rw (lt-ltb x used l, ne_eqb (entry_in entries x).mark 0 n) at h))
        ]
        | no g ↦ absurd (omega (arith, rw (le-ltb x used (omega arith)) at h))
      ]

  pub worded : CountOf entries free frees dirty queued used → SoundOf entries free frees dirty queued used
  worded C =
      let ff : frees ≤ length free = omega (arith, C.free_fits) in
      let qf : queued ≤ length dirty = omega (arith, C.queue_fits) in
      record {
        used_fits = C.used_fits;
        free_fits = C.free_fits;
        queue_fits = C.queue_fits;
        beyond = λ x. (C.slot x).past;
        slots = λ k h. elim (dec_lt (get_or dirty k 0) 512) [
          | yes l ↦ l
          | no g ↦ absurd (omega (arith, seen dirty queued qf (get_or dirty k 0) (k, h, refl), C.low (get_or dirty k 0) (omega arith)))
        ];
        free_empty = λ x w. empty_of x (omega (arith, seen free frees ff x w, (C.slot x).counted));
        empty_free = λ x d. find free frees ff x (omega (arith, is_empty x d, (C.slot x).counted));
        free_once = once_of free frees ff (λ x. rw (C.slot x).counted (tally_small (empty entries used x)));
        marked_queued = λ x m. find dirty queued qf x (omega (arith, (C.slot x).waits m));
        queue_once = once_of dirty queued qf C.once;
      }

  pub counted : SoundOf entries free frees dirty queued used → CountOf entries free frees dirty queued used
  counted S = record {
    used_fits = S.used_fits;
    free_fits = S.free_fits;
    queue_fits = S.queue_fits;
    slot = λ x. record { past = S.beyond x; counted = due x; waits = λ m. omega (arith, seen dirty queued qf x (S.marked_queued x m), small dirty queued qf S.queue_once x) };
    low = λ x g. elim (dec_lt (times x (take queued dirty)) 1) [
      | yes z ↦ omega arith
      | no n ↦ let w = find dirty queued qf x (omega arith) in absurd (omega (arith, S.slots w.0 w.1, w.2))
    ];
    once = small dirty queued qf S.queue_once;
  }
    where
      ff : frees ≤ length free
      ff = omega (arith, S.free_fits)

      qf : queued ≤ length dirty
      qf = omega (arith, S.queue_fits)

      due : (x : ℕ) → times x (take frees free) ≡ tally (empty entries used x)
      due x =
          elim (dec_lt (times x (take frees free)) 1) [
            | yes z ↦ elim (dec_lt (tally (empty entries used x)) 1) [
              | yes y ↦ omega arith
              | no g ↦ absurd (omega (arith, seen free frees ff x (S.empty_free x (empty_of x (omega arith)))))
            ]
            | no g ↦ omega (arith, small free frees ff S.free_once x, is_empty x (S.free_empty x (find free frees ff x (omega arith))))
          ]

  -- the definition's test is exact
  pub decides : Tells (sound_of entries free frees dirty queued used) (SoundOf entries free frees dirty queued used)
  decides = through worded counted count_tells
