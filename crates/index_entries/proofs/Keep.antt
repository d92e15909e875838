-- Each step keeps the tables sound, by counting.
use Rattle.std.proofs.Common.{◌≡◌, ℕ, ◌+◌, ◌-◌, ◌<◌, ◌≤◌, Bool, true, false, cond, ◌&&◌, eqb, ltb, List, length, get_or, take, set, sym, refl, ◌∙◌, zero-le, arith, length-set, length-take-le, get_or-set_other, get_or-set_same, ltb-false, ltb-true, le-ltb, lt-ltb, ne_eqb}
use native.Mathlib.Decide.{dec_lt, ℕ_discrete}
use Rattle.counting.specs.Times.{tally, times}
use Rattle.counting.proofs.Counting.{tally_small, hit, miss, times_next, times_put, times_at, shorter}
use Rattle.index_types.specs.declared.Slot.{Slot}
use Rattle.index_types.specs.Slots.{no_entry, entry_in}
use Rattle.index_sound.specs.Sound.{empty, SlotOf, CountOf}
use Rattle.index_entries.specs.declared.reads.Mark.{Mark}
use Rattle.index_entries.specs.declared.reads.Mark.TheVariants as is
use Rattle.index_entries.specs.Entries.{stands, queue_with, length_with, mark_of, slot_for, used_for, unmarked, added, updated_mark, removed_mark}
use Rattle.index_entries.proofs.Finding.{slot_unused, slot_last, used_unused, used_last}

-- a Bool split with its equation
split : {A : Type 0} (b : Bool) → (b ≡ true → A) → (b ≡ false → A) → A
split true f g = f refl
split false f g = g refl

-- ---- the queue

module _ (dirty : List ℕ) (n x : ℕ) where
  pub queue_stays : stands x dirty n ≡ true → (queue_with dirty n x ≡ dirty) × (length_with dirty n x ≡ n)
  unfolding queue_with length_with
  queue_stays h = (rw (queue_with, h), rw (length_with, h))

  pub queue_grows : stands x dirty n ≡ false → (queue_with dirty n x ≡ set dirty n x) × (length_with dirty n x ≡ n + 1)
  unfolding queue_with length_with
  queue_grows h = (rw (queue_with, h), rw (length_with, h))

-- what is true of a queue without repeats
pub record QueueOf (dirty : List ℕ) (n : ℕ) : Type 0 where
  pub fits : n ≤ 512
  pub low : (x : ℕ) → 512 ≤ x → times x (take n dirty) ≡ 0
  pub once : (x : ℕ) → times x (take n dirty) ≤ 1

module _ (dirty : List ℕ) (n : ℕ) (Q : QueueOf dirty n) (lq : length dirty ≡ 512) (x : ℕ) (h : x < 512) where
  -- a slot that does not stand in the queue has room there
  pub queue_room : stands x dirty n ≡ false → n < 512
  queue_room s =
      let f = Q.fits in
      let z : times x (take n dirty) ≡ 0 = omega (arith, ltb-false 0 (times x (take n dirty)) s) in
      rw (length-take-le n dirty (omega arith)) at (shorter 512 x (take n dirty) Q.once Q.low h z)

  -- the queue after x was put in: without repeats, x stands in it, and no other has changed
  pub record After (d : List ℕ) (m : ℕ) : Type 0 where
    pub queue : QueueOf d m
    pub here : times x (take m d) ≡ 1
    pub there : (y : ℕ) → (y ≡ x → ⊥) → times y (take m d) ≡ times y (take n dirty)
    pub whole : length d ≡ 512

  pub queued : After (queue_with dirty n x) (length_with dirty n x)
  queued =
      split (stands x dirty n)
      (λ (s : stands x dirty n ≡ true).
      let e = queue_stays dirty n x s in
      rw (e.0, e.1)
      (record { queue = Q; here = omega (arith, ltb-true 0 (times x (take n dirty)) s, Q.once x); there = λ y m. refl; whole = lq }))
      (λ (s : stands x dirty n ≡ false).
      let e = queue_grows dirty n x s in
      let r = queue_room s in
      let z : times x (take n dirty) ≡ 0 = omega (arith, ltb-false 0 (times x (take n dirty)) s) in
      let put : (y : ℕ) → times y (take (n + 1) (set dirty n x)) ≡ times y (take n dirty) + tally (eqb y x) = λ y. times_put y dirty n x (omega arith) in
      rw (e.0, e.1)
      (record {
        queue = record {
          fits = omega arith;
          low = λ y g. omega (arith, put y, Q.low y g, miss y x (λ w. omega arith));
          once = λ y. elim (ℕ_discrete y x) [ yes w ↦ rw w (omega (arith, put x, hit x)) | no m ↦ omega (arith, put y, miss y x m, Q.once y) ];
        };
        here = omega (arith, put x, hit x);
        there = λ y m. omega (arith, put y, miss y x m);
        whole = length-set dirty n x ∙ lq;
      }))

-- ---- another entry at a slot, with a free list and a queue that are right for its mark

module _ (entries : List Slot) (free : List ℕ) (frees : ℕ) (dirty : List ℕ) (n used : ℕ) (C : CountOf entries free frees dirty n used) (lm : length entries ≡ 512) where
  pub queue_of : QueueOf dirty n
  queue_of = record { fits = C.queue_fits; low = C.low; once = C.once }

  pub changed : (free' : List ℕ) (frees' : ℕ) (dirty' : List ℕ) (n' used' a : ℕ) (e : Slot)
      → a < used' → used ≤ used' → used' ≤ 512 → frees' ≤ 512
      → times a (take frees' free') ≡ tally (eqb e.mark 0)
      → ((x : ℕ) → (x ≡ a → ⊥) → times x (take frees' free') ≡ tally (empty entries used' x))
      → QueueOf dirty' n'
      → (2 ≤ e.mark → times a (take n' dirty') ≡ 1)
      → ((x : ℕ) → (x ≡ a → ⊥) → times x (take n' dirty') ≡ times x (take n dirty))
      → CountOf (set entries a e) free' frees' dirty' n' used'
  changed free' frees' dirty' n' used' a e l up lu lf here there Q waits still = record {
    used_fits = lu;
    free_fits = lf;
    queue_fits = Q.fits;
    slot = at;
    low = Q.low;
    once = Q.once;
  }
    where
      at : (x : ℕ) → SlotOf x used' (entry_in (set entries a e) x).mark (times x (take frees' free')) (times x (take n' dirty'))
      at x =
          elim (ℕ_discrete x a) [
            | yes q ↦ rw (q, get_or-set_same entries a e no_entry (omega arith)) (record { past = λ g. absurd (omega arith); counted = rw (lt-ltb a used' l) here; waits = waits })
            | no m ↦ rw (get_or-set_other entries a x e no_entry m, still x m) (record { past = λ g. (C.slot x).past (omega arith); counted = there x m; waits = (C.slot x).waits })
          ]

  -- a slot that holds an entry is not in the free list, which so has room
  pub free_room : (a : ℕ) → ((entry_in entries a).mark ≡ 0 → ⊥) → a < 512 → length free ≡ 512 → frees < 512
  free_room a e h lf =
      let f = C.free_fits in
      let u = C.used_fits in
      let none : times a (take frees free) ≡ 0 = (C.slot a).counted ∙ rw (ne_eqb (entry_in entries a).mark 0 e) (nothing (ltb a used)) in
      rw (length-take-le frees free (omega arith)) at
      (shorter 512 a (take frees free) (λ x. rw (C.slot x).counted (tally_small (empty entries used x))) (λ x g. (C.slot x).counted ∙ rw (le-ltb x used (omega arith))) h none)
    where
      nothing : (b : Bool) → tally (b && false) ≡ 0
      nothing true = refl
      nothing false = refl

  -- what holds an entry is used
  pub entry_used : (a : ℕ) → ((entry_in entries a).mark ≡ 0 → ⊥) → a < used
  entry_used a e = elim (dec_lt a used) [ yes l ↦ l | no g ↦ absurd (e ((C.slot a).past (omega arith))) ]

-- ---- insert

module _ (entries : List Slot) (free : List ℕ) (frees : ℕ) (dirty : List ℕ) (n used : ℕ) (C : CountOf entries free frees dirty n used) (lm : length entries ≡ 512) (lf : length free ≡ 512) (lq : length dirty ≡ 512) where
  -- what stands last in the free list is a used empty slot
  last_empty : (frees ≡ 0 → ⊥) → (get_or free (frees - 1) 0 < used) × ((entry_in entries (get_or free (frees - 1) 0)).mark ≡ 0)
  last_empty e =
      let a = get_or free (frees - 1) 0 in
      let f = C.free_fits in
      let t : 1 ≤ tally (empty entries used a) = omega (arith, (C.slot a).counted, times_at free (frees - 1) frees (omega arith) (omega arith)) in
      elim (dec_lt a used) [
        | yes l ↦ elim (ℕ_discrete (entry_in entries a).mark 0) [ yes z ↦ (l, z) | no m ↦ absurd (omega (arith, rw (lt-ltb a used l, ne_eqb (entry_in entries a).mark 0 m) at t)) ]
        | no g ↦ absurd (omega (arith, rw (le-ltb a used (omega arith)) at t))
      ]

  module _ (room : frees ≡ 0 → used < 512) where
    abbrev s : ℕ
    s = slot_for free frees used

    pub slot_fits : s < 512
    slot_fits =
        let u = C.used_fits in
        elim (ℕ_discrete frees 0) [ yes e ↦ rw (slot_unused entries free frees used e) (room e) | no m ↦ rw (slot_last entries free frees used m) (omega (arith, (last_empty m).0)) ]

    -- it is an empty slot
    pub slot_empty : (entry_in entries s).mark ≡ 0
    slot_empty =
        elim (ℕ_discrete frees 0) [
          | yes e ↦ rw (slot_unused entries free frees used e) ((C.slot used).past (omega arith))
          | no m ↦ rw (slot_last entries free frees used m) (last_empty m).1
        ]

    pub keep_insert : (e : Slot) → e.mark ≡ 2 → CountOf (set entries s e) free (frees - 1) (queue_with dirty n s) (length_with dirty n s) (used_for frees used)
    keep_insert e new = elim (ℕ_discrete frees 0) [ yes z ↦ unused z | no m ↦ again m ]
      where
        q : After dirty n (queue_of entries free frees dirty n used C lm) lq s slot_fits (queue_with dirty n s) (length_with dirty n s)
        q = queued dirty n (queue_of entries free frees dirty n used C lm) lq s slot_fits

        wider : (x : ℕ) → (x ≡ used → ⊥) → ltb x used ≡ ltb x (used + 1)
        wider x m =
            elim (dec_lt x used) [
              | yes l ↦ lt-ltb x used l ∙ sym (lt-ltb x (used + 1) (omega arith))
              | no g ↦ le-ltb x used (omega arith) ∙ sym (le-ltb x (used + 1) (omega arith))
            ]

        unused : frees ≡ 0 → CountOf (set entries s e) free (frees - 1) (queue_with dirty n s) (length_with dirty n s) (used_for frees used)
        unused z =
            let su = slot_unused entries free frees used z in
            let fe : frees - 1 ≡ frees = omega arith in
            rw (used_unused entries free frees used z, fe)
            (changed entries free frees dirty n used C lm free frees (queue_with dirty n s) (length_with dirty n s) (used + 1) s e (omega (arith, su)) (omega arith) (omega (arith, room z)) C.free_fits
            (rw (su, new) ((C.slot used).counted ∙ rw (le-ltb used used (omega arith))))
            (λ x m. (C.slot x).counted ∙ rw (wider x (λ w. m (w ∙ sym su))))
            q.queue (λ _. q.here) q.there)

        again : (frees ≡ 0 → ⊥) → CountOf (set entries s e) free (frees - 1) (queue_with dirty n s) (length_with dirty n s) (used_for frees used)
        again m =
            let sl = slot_last entries free frees used m in
            let a = get_or free (frees - 1) 0 in
            let f = C.free_fits in
            let d = last_empty m in
            let back : frees - 1 + 1 ≡ frees = omega arith in
            let next : (x : ℕ) → times x (take frees free) ≡ times x (take (frees - 1) free) + tally (eqb x a) = λ x. rw back at (times_next x free (frees - 1) (omega arith)) in
            let dead : tally (empty entries used a) ≡ 1 = rw (lt-ltb a used d.0, d.1) in
            rw (used_last entries free frees used m)
            (changed entries free frees dirty n used C lm free (frees - 1) (queue_with dirty n s) (length_with dirty n s) used s e (rw sl d.0) (omega arith) C.used_fits (omega arith)
            (rw (sl, new) (omega (arith, next a, hit a, (C.slot a).counted, dead)))
            (λ x w. omega (arith, next x, miss x a (λ q. w (q ∙ sym sl)), (C.slot x).counted))
            q.queue (λ _. q.here) q.there)

-- ---- update and remove

-- an entry's mark: none, or one of the three with its number from 2 on
pub data Kind : ℕ → Mark → Type 0 where
  plain : Kind 1 is.Unmarked
  new : Kind 2 is.Added
  moved : Kind 3 is.Updated
  gone : {k : ℕ} → 4 ≤ k → Kind k is.Removed

pub kind : (k : ℕ) → (k ≡ 0 → ⊥) → Kind k (mark_of k)
unfolding mark_of
kind k z =
    elim (ℕ_discrete k 1) [
      | yes e ↦ rw e plain
      | no a ↦ elim (ℕ_discrete k 2) [
        | yes e ↦ rw e new
        | no b ↦ elim (ℕ_discrete k 3) [ yes e ↦ rw e moved | no d ↦ rw (ne_eqb k 1 a, ne_eqb k 2 b, ne_eqb k 3 d) (gone (above k z a b d)) ]
      ]
    ]
  where
    up : (k m : ℕ) → m ≤ k → (k ≡ m → ⊥) → m + 1 ≤ k
    up k m l n = omega arith

    above : (k : ℕ) → (k ≡ 0 → ⊥) → (k ≡ 1 → ⊥) → (k ≡ 2 → ⊥) → (k ≡ 3 → ⊥) → 4 ≤ k
    above k p q r t = up k 3 (up k 2 (up k 1 (up k 0 (zero-le) p) q) r) t

module _ (entries : List Slot) (free : List ℕ) (frees : ℕ) (dirty : List ℕ) (n used : ℕ) (C : CountOf entries free frees dirty n used) (lm : length entries ≡ 512) (lf : length free ≡ 512) (lq : length dirty ≡ 512) (x : ℕ) (h : x < 512) (held : (entry_in entries x).mark ≡ 0 → ⊥) where
  Q : QueueOf dirty n
  Q = queue_of entries free frees dirty n used C lm

  q : After dirty n Q lq x h (queue_with dirty n x) (length_with dirty n x)
  q = queued dirty n Q lq x h

  -- the slot is in no free list
  unlisted : times x (take frees free) ≡ 0
  unlisted = (C.slot x).counted ∙ rw (ne_eqb (entry_in entries x).mark 0 held) (nothing (ltb x used))
    where
      nothing : (b : Bool) → tally (b && false) ≡ 0
      nothing true = refl
      nothing false = refl

  -- another mark on the entry, where a queue has it
  marked : (e : Slot) (d : List ℕ) (m : ℕ) → 2 ≤ e.mark → QueueOf d m → times x (take m d) ≡ 1 → ((y : ℕ) → (y ≡ x → ⊥) → times y (take m d) ≡ times y (take n dirty)) → CountOf (set entries x e) free frees d m used
  marked e d m big D here there =
      changed entries free frees dirty n used C lm free frees d m used x e (entry_used entries free frees dirty n used C lm x held) (omega arith) C.used_fits C.free_fits
      (unlisted ∙ rw (ne_eqb e.mark 0 (λ z. omega arith)))
      (λ y w. (C.slot y).counted) D (λ _. here) there

  -- the mark taken off, with the queue as it is
  pub settled : (e : Slot) → e.mark ≡ 1 → CountOf (set entries x e) free frees dirty n used
  settled e one =
      changed entries free frees dirty n used C lm free frees dirty n used x e (entry_used entries free frees dirty n used C lm x held) (omega arith) C.used_fits C.free_fits
      (rw one unlisted)
      (λ y w. (C.slot y).counted) Q (λ l. absurd (omega arith)) (λ y w. refl)

  -- a marked entry stands in the queue already
  stays : (e : Slot) → 2 ≤ e.mark → 2 ≤ (entry_in entries x).mark → CountOf (set entries x e) free frees dirty n used
  stays e big m = marked e dirty n big Q ((C.slot x).waits m) (λ y w. refl)

  joins : (e : Slot) → 2 ≤ e.mark → CountOf (set entries x e) free frees (queue_with dirty n x) (length_with dirty n x) used
  joins e big = marked e (queue_with dirty n x) (length_with dirty n x) big q.queue q.here q.there

  abbrev dirty_after : Mark → List ℕ
  dirty_after m = cond (unmarked m) (queue_with dirty n x) dirty

  abbrev queued_after : Mark → ℕ
  queued_after m = cond (unmarked m) (length_with dirty n x) n

  update_kind : {k : ℕ} {m : Mark} → Kind k m → (2 ≤ k → 2 ≤ (entry_in entries x).mark) → (e : Slot) → e.mark ≡ updated_mark m → CountOf (set entries x e) free frees (dirty_after m) (queued_after m) used
  update_kind plain f e w = joins e (omega arith)
  update_kind new f e w = stays e (omega arith) (f (omega arith))
  update_kind moved f e w = stays e (omega arith) (f (omega arith))
  update_kind (gone g) f e w = stays e (omega arith) (f (omega arith))

  pub keep_update : let m = mark_of (entry_in entries x).mark in (e : Slot) → e.mark ≡ updated_mark m → CountOf (set entries x e) free frees (dirty_after m) (queued_after m) used
  keep_update = update_kind (kind (entry_in entries x).mark held) (λ l. l)

  -- an added entry goes, and its slot is freed
  pub freed : (e : Slot) → e.mark ≡ 0 → CountOf (set entries x e) (set free frees x) (frees + 1) dirty n used
  freed e none =
      let r = free_room entries free frees dirty n used C lm x held h lf in
      let put : (y : ℕ) → times y (take (frees + 1) (set free frees x)) ≡ times y (take frees free) + tally (eqb y x) = λ y. times_put y free frees x (omega arith) in
      changed entries free frees dirty n used C lm (set free frees x) (frees + 1) dirty n used x e (entry_used entries free frees dirty n used C lm x held) (omega arith) C.used_fits (omega arith)
      (rw none (omega (arith, put x, hit x, unlisted)))
      (λ y w. omega (arith, put y, miss y x w, (C.slot y).counted)) Q (λ l. absurd (omega arith)) (λ y w. refl)

  remove_kind : {k : ℕ} {m : Mark} → Kind k m → (2 ≤ k → 2 ≤ (entry_in entries x).mark) → (e : Slot) → e.mark ≡ removed_mark m
      → CountOf (set entries x e) (cond (added m) (set free frees x) free) (cond (added m) (frees + 1) frees) (dirty_after m) (queued_after m) used
  remove_kind plain f e w = joins e (omega arith)
  remove_kind new f e w = freed e w
  remove_kind moved f e w = stays e (omega arith) (f (omega arith))
  remove_kind (gone g) f e w = stays e (omega arith) (f (omega arith))

  pub keep_remove : let m = mark_of (entry_in entries x).mark in (e : Slot) → e.mark ≡ removed_mark m
      → CountOf (set entries x e) (cond (added m) (set free frees x) free) (cond (added m) (frees + 1) frees) (dirty_after m) (queued_after m) used
  keep_remove = remove_kind (kind (entry_in entries x).mark held) (λ l. l)
