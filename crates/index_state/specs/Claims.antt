-- What the theorems over every list of calls, and over every index, claim (proofs/Refused.antt, proofs/Full.antt, proofs/Backend.antt).
use Rattle.std.specs.Prelude.{ℕ, ◌≤◌, ◌≡◌, Bool}
use Rattle.index_types.specs.declared.Aabb2D.{Aabb2D}
use Rattle.index_types.specs.declared.NodeId.{NodeId}
use Rattle.index_types.specs.Slots.{entry, stored}
use Rattle.counting.specs.Times.{tally}
use Rattle.counting.specs.Conditions.{Told, refused, gives}
use Rattle.index_commit.specs.Agree.{Agree}
use Rattle.index_types.specs.declared.Index.{Index}
pub use Rattle.index_sound.specs.Sound.{Shaped}
use Rattle.index_state.specs.Index.{AllHeld, slot_of, generation_of, key_of}
use Rattle.index_state.specs.Calls.{insert, Given, key, told}

-- refused by 1 exactly where a fact fails
abbrev pub OneExactlyUnless : Type 0 → Told Given → Type 0
OneExactlyUnless P r = (r ≡ refused 1 → P → ⊥) × ((P → ⊥) → r ≡ refused 1)

-- 11: an insert is refused by it if and only if all 512 slots hold an entry, and else given the entry's key
pub record FullAt512 (ix : Index) : Type 0 where
  pub only : (b : Aabb2D) (p : NodeId) → told ix (insert b p) ≡ refused 11 → AllHeld ix
  pub always : (b : Aabb2D) (p : NodeId) → AllHeld ix → told ix (insert b p) ≡ refused 11
  pub else_given : (b : Aabb2D) (p : NodeId) → (AllHeld ix → ⊥) → told ix (insert b p) ≡ gives (key (key_of (slot_of ix) (generation_of ix)))

-- the backend and the entries agree
abbrev pub Own : Index → Type 0
Own ix = Agree ix.entries ix.backend.entries

-- how often a query, whose test of a box is q, visits a slot: an empty slot and an entry that is only added never; an entry without a mark
-- once if its own box passes; one that is updated or removed once if the box passes that the last commit has left
pub record Visited (ix : Index) (q : Aabb2D → Bool) (x n : ℕ) : Type 0 where
  pub empty : (entry ix x).mark ≡ 0 → n ≡ 0
  pub added : (entry ix x).mark ≡ 2 → n ≡ 0
  pub unmarked : (entry ix x).mark ≡ 1 → n ≡ tally (q (entry ix x).aabb)
  pub marked : 3 ≤ (entry ix x).mark → n ≡ tally (q (stored ix x).aabb)
