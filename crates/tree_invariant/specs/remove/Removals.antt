-- What removing a list of nodes, one after the other, leaves of the pending rectangles, the entries and the queue.
use Rattle.std.specs.Prelude.{ℕ, ◌≤◌, ◌<◌, ◌≡◌, Bool, List, [], ◌∷◌, set}
use Rattle.counting.specs.Times.{times}
use Rattle.geometry.specs.declared.rect.Rect.{Rect}
use Rattle.geometry.specs.Rectangle.{has_area}
use Rattle.index_types.specs.declared.Slot.{Slot}
use Rattle.index_types.specs.Slots.{entry_in}
use Rattle.index_entries.specs.Entries.{queue_with, length_with}
use Rattle.tree_state.specs.declared.Pending.{Pending}
use Rattle.tree_steps.specs.Structure.{push_rect}
use Rattle.plan.specs.Lists.{joined}
use Rattle.plan.specs.Plan.{numbers}
use Rattle.agreement.specs.Read.{entry_if}

-- the boxes of these slots, one after the other, each if it has area
abbrev pub pending_all : (ℕ → Rect) → Pending → List ℕ → Pending
pending_all bounds p [] = p
pending_all bounds p (x ∷ xs) = pending_all bounds (push_rect (has_area (bounds x)) p (bounds x)) xs

-- the entries of these slots, of those that pass the test c; s has the entry of each
abbrev pub keys_of : (ℕ → Bool) → (ℕ → ℕ) → List ℕ → List ℕ
keys_of c s l = joined (λ y. numbers (entry_if (c y) (s y))) l

-- each of them an entry without a mark, none twice
pub record Plain (entries : List Slot) (ks : List ℕ) : Type 0 where
  pub low : (k : ℕ) → 1 ≤ times k ks → k < 512
  pub unmarked : (k : ℕ) → 1 ≤ times k ks → (entry_in entries k).mark ≡ 1
  pub once : (k : ℕ) → times k ks ≤ 1

-- ---- each of them marked removed and queued

abbrev pub gone_entry : Slot → Slot
gone_entry e = record e { mark = 4 }

abbrev pub marks_all : List Slot → List ℕ → List Slot
marks_all entries [] = entries
marks_all entries (k ∷ ks) = marks_all (set entries k (gone_entry (entry_in entries k))) ks

abbrev pub queue_all : List ℕ → ℕ → List ℕ → List ℕ
queue_all dirty n [] = dirty
queue_all dirty n (k ∷ ks) = queue_all (queue_with dirty n k) (length_with dirty n k) ks

abbrev pub length_all : List ℕ → ℕ → List ℕ → ℕ
length_all dirty n [] = n
length_all dirty n (k ∷ ks) = length_all (queue_with dirty n k) (length_with dirty n k) ks
