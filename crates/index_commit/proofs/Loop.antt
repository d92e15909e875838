-- The queued slots, one after the other: the work grows by a step, and each step keeps the tables sound, with the queue as it is.
use mathlib.Core.Path.{◌≡◌, refl, ◌∙◌}
use mathlib.Core.List.{List, [], ◌∷◌, ◌++◌}
use Prim.Native.Nat.{ℕ, ◌+◌, ◌≤◌, ◌<◌}
use native.Mathlib.Numerals.{add-one}
use native.Mathlib.Omega.{arith}
use native.Mathlib.Decide.{dec_lt, ℕ_discrete}
use lib.ListN.{length, take, get_or, length-set}
use lib.Seq.{take-suc}
use Rattle.std.proofs.lemmas.List.{set-get_or}
use Rattle.counting.proofs.Counting.{times_at}
use Rattle.index_types.specs.declared.Slot.{Slot}
use Rattle.index_types.specs.declared.Index.{Index}
use Rattle.index_types.specs.Slots.{no_entry, entry_in, entry}
use Rattle.index_types.proofs.Slots.{part_stays}
use Rattle.index_sound.specs.Sound.{CountOf}
use Rattle.index_entries.specs.declared.reads.Mark.{Mark}
use Rattle.index_entries.proofs.Keep.{Kind, plain, new, moved, gone, kind, settled, freed, free_room}
use Rattle.index_commit.specs.Commit.{Act, rests, adds, moves, drops, act_of, committed_entry, entries_step, free_step, frees_step, Work, work_act, work_step, work, start, work_of, commit_of}
use Rattle.index_commit.proofs.Acts.{act_rests, act_gone}

-- ---- the work, slot by slot

work_append : (w : Work) (l : List ℕ) (x : ℕ) → work w (l ++ (x ∷ [])) ≡ work_step (work w l) x
unfolding work
work_append w [] x = refl
work_append w (y ∷ l) x = work_append (work_step w y) l x

pub work_next : (w : Work) (l : List ℕ) (i : ℕ) → i < length l → work w (take (i + 1) l) ≡ work_step (work w (take i l)) (get_or l i 0)
work_next w l i h = rw (add-one i, take-suc l i 0 h) (work_append w (take i l) (get_or l i 0))

-- what a commit leaves of an entry: all but its mark, and whether it has a previous box
abbrev pub bare : Slot → Slot
bare e = record e { mark = 0; kept = 0 }

pub bare_committed : (a : Act) (e : Slot) → bare (committed_entry a e) ≡ bare e
bare_committed rests e = refl
bare_committed adds e = refl
bare_committed moves e = refl
bare_committed drops e = refl

pub bare_step : (a : Act) (entries : List Slot) (x y : ℕ) → bare (entry_in (entries_step a entries x) y) ≡ bare (entry_in entries y)
bare_step a entries x y = part_stays no_entry bare entries x (committed_entry a (entry_in entries x)) (bare_committed a (entry_in entries x)) y

pub bare_work : (w : Work) (xs : List ℕ) (y : ℕ) → bare (entry_in (work w xs).entries y) ≡ bare (entry_in w.entries y)
unfolding work work_step
bare_work w [] y = refl
bare_work w (x ∷ xs) y = bare_work (work_step w x) xs y ∙ bare_step (work_act w x) w.entries x y

pub commit_bare : (ix : Index) (x : ℕ) → bare (entry (commit_of ix (work_of ix)) x) ≡ bare (entry ix x)
unfolding work_of
commit_bare ix x = bare_work (start ix) (take ix.queued ix.dirty) x

-- nor does the backend get longer
pub stored_work : (w : Work) (xs : List ℕ) → length (work w xs).stored ≡ length w.stored
unfolding work work_step
stored_work w [] = refl
stored_work w (x ∷ xs) = stored_work (work_step w x) xs ∙ length-set w.stored x _

-- ---- soundness, with the queue as it is

-- what a slot does tells its mark
pub data Does : ℕ → Act → Type 0 where
  nothing : {m : ℕ} → m < 2 → Does m rests
  add : {m : ℕ} → 2 ≤ m → Does m adds
  move : {m : ℕ} → 2 ≤ m → Does m moves
  drop : {m : ℕ} → 2 ≤ m → Does m drops

does_kind : {m : ℕ} {k : Mark} → Kind m k → Does m (act_of m)
unfolding act_of
does_kind plain = nothing (omega arith)
does_kind new = add (omega arith)
does_kind moved = move (omega arith)
does_kind (gone {k = m} g) = let l : 2 ≤ m = omega arith in rw (act_gone m g) (drop l)

pub does : (m : ℕ) → Does m (act_of m)
does m = elim (ℕ_discrete m 0) [ yes e ↦ (let l : m < 2 = omega arith in rw (act_rests m l) (nothing l)) | no n ↦ does_kind (kind m n) ]

module _ (entries : List Slot) (free : List ℕ) (frees : ℕ) (dirty : List ℕ) (n u : ℕ) (C : CountOf entries free frees dirty n u) (lm : length entries ≡ 512) (lf : length free ≡ 512) (lq : length dirty ≡ 512) (x : ℕ) (h : x < 512) where
  abbrev e : Slot
  e = entry_in entries x

  held : 2 ≤ e.mark → e.mark ≡ 0 → ⊥
  held b z = omega arith

  keep_by : {a : Act} → Does e.mark a → CountOf (entries_step a entries x) (free_step a free frees x) (frees_step a frees) dirty n u
  keep_by (nothing l) = rw (set-get_or entries x no_entry) C
  keep_by (add g) = settled entries free frees dirty n u C lm lf lq x h (held g) (committed_entry adds e) refl
  keep_by (move g) = settled entries free frees dirty n u C lm lf lq x h (held g) (committed_entry moves e) refl
  keep_by (drop g) = freed entries free frees dirty n u C lm lf lq x h (held g) (committed_entry drops e) refl

  pub keep_slot : let a = act_of e.mark in CountOf (entries_step a entries x) (free_step a free frees x) (frees_step a frees) dirty n u
  keep_slot = keep_by (does e.mark)

  room_by : {a : Act} → Does e.mark a → a ≡ drops → frees < 512
  room_by (nothing l) w = let z : ◌≡◌ {A = ℕ} 0 1 = cc in absurd (omega arith)
  room_by (add g) w = let z : ◌≡◌ {A = ℕ} 0 1 = cc in absurd (omega arith)
  room_by (move g) w = let z : ◌≡◌ {A = ℕ} 0 1 = cc in absurd (omega arith)
  room_by (drop g) w = free_room entries free frees dirty n u C lm x (held g) h lf

  pub drop_room : act_of e.mark ≡ drops → frees < 512
  drop_room w = room_by (does e.mark) w

pub free_length : (a : Act) (free : List ℕ) (frees x : ℕ) → length (free_step a free frees x) ≡ length free
free_length rests free frees x = refl
free_length adds free frees x = refl
free_length moves free frees x = refl
free_length drops free frees x = length-set free frees x

-- a queued number is a slot
pub slot_low : (entries : List Slot) (free : List ℕ) (frees : ℕ) (dirty : List ℕ) (n u i : ℕ) → CountOf entries free frees dirty n u → length dirty ≡ 512 → i < n → get_or dirty i 0 < 512
slot_low entries free frees dirty n u i C lq h =
    let q = C.queue_fits in
    elim (dec_lt (get_or dirty i 0) 512) [
      | yes l ↦ l
      | no g ↦ absurd (omega (arith, C.low (get_or dirty i 0) (omega arith), times_at dirty i n h (omega arith)))
    ]
