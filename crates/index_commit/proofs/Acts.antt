-- What a queued slot does, by its mark. One that does nothing leaves the index as it was.
use mathlib.Core.Path.{◌≡◌, refl, ◌∙◌, ap}
use Prim.Native.Nat.{ℕ, ◌≤◌, ◌<◌}
use native.Mathlib.Omega.{arith}
use borrow.Author.Tests.{lt-ltb, le-ltb, ne_eqb}
use Rattle.std.proofs.lemmas.List.{set-get_or}
use Rattle.index_types.specs.declared.Index.{Index}
use Rattle.index_types.specs.Slots.{no_entry, none_stored, entry}
use Rattle.index_entries.specs.declared.reads.Mark.{Mark}
use Rattle.index_entries.specs.declared.reads.Mark.TheVariants as is
use Rattle.index_entries.specs.Entries.{mark_of}
use Rattle.index_entries.proofs.Keep.{Kind, plain, new, moved, gone, kind}
use Rattle.index_commit.specs.Commit.{Act, rests, adds, moves, drops, act_of, slot_committed}

pub act_rests : (m : ℕ) → m < 2 → act_of m ≡ rests
unfolding act_of
act_rests m l = rw (lt-ltb m 2 l)

pub act_gone : (m : ℕ) → 4 ≤ m → act_of m ≡ drops
unfolding act_of
act_gone m h = rw (le-ltb m 2 (omega arith), ne_eqb m 2 (λ e. omega arith), ne_eqb m 3 (λ e. omega arith))

abbrev act_for : Mark → Act
act_for is.Unmarked = rests
act_for is.Added = adds
act_for is.Updated = moves
act_for is.Removed = drops

act_kind : {m : ℕ} {k : Mark} → Kind m k → act_of m ≡ act_for k
unfolding act_of
act_kind plain = refl
act_kind new = refl
act_kind moved = refl
act_kind (gone {k = m} g) = act_gone m g

act_marked : (m : ℕ) (k : Mark) → (m ≡ 0 → ⊥) → mark_of m ≡ k → act_of m ≡ act_for k
act_marked m k n e = act_kind (kind m n) ∙ ap act_for e

-- by the mark that an entry has
module _ (m : ℕ) (n : m ≡ 0 → ⊥) where
  pub act_unmarked : mark_of m ≡ is.Unmarked → act_of m ≡ rests
  act_unmarked e = act_marked m is.Unmarked n e

  pub act_added : mark_of m ≡ is.Added → act_of m ≡ adds
  act_added e = act_marked m is.Added n e

  pub act_updated : mark_of m ≡ is.Updated → act_of m ≡ moves
  act_updated e = act_marked m is.Updated n e

  pub act_removed : mark_of m ≡ is.Removed → act_of m ≡ drops
  act_removed e = act_marked m is.Removed n e

pub slot_rests : (ix : Index) (x : ℕ) → act_of (entry ix x).mark ≡ rests → ix ≡ slot_committed ix x
slot_rests ix x e = rw (e, set-get_or ix.entries x no_entry, set-get_or ix.backend.entries x none_stored)

-- what the commit of a slot cites
pub ruleset acts = (slot_rests, act_rests, act_unmarked, act_added, act_updated, act_removed)
