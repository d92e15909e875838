-- The relation of a tree and a plan that every call keeps: the tree is sound, its records are the plan's, and its stored world records are
-- right wherever nothing at or above a node counts as changed.
use mathlib.Core.Path.{◌≡◌}
use mathlib.Core.Bool.{true, false}
use mathlib.Core.List.{reverse}
use Prim.Native.Nat.{ℕ, ◌≤◌}
use lib.ListN.{take}
use Rattle.counting.specs.Times.{times}
use Rattle.link_forest.specs.Forest.{has}
use Rattle.index_commit.specs.Agree.{Agree}
use Rattle.tree_state.specs.declared.Dirty.{Dirty}
use Rattle.tree_state.specs.declared.IndexKey.{IndexKey}
use Rattle.tree_state.specs.declared.Tree.{Tree}
use Rattle.tree_state.specs.Tree.{generation_at, local_at, dirty, index_key, stored_place, entry_mark, is_removed}
use Rattle.tree_state.specs.Sound.{SoundTree}
use Rattle.tree_state.specs.Whole.{Whole}
use Rattle.tree_laws.proofs.Ground.{Linked}
use Rattle.plan.specs.Lists.{any}
use Rattle.plan.specs.Plan.{Plan, Mark, Entry}
use Rattle.plan.specs.Visits.{counts_as_changed}
use Rattle.plan.specs.Afresh.{lineage, world_place}
use Rattle.agreement.specs.Read.{entry_if}
use Rattle.agreement.specs.Afresh.{Boxed}

-- ---- the plan's records, read off the tree

abbrev pub as_mark : Dirty → Mark
as_mark d = record { marked = d.marked; transform = d.transform; clip = d.clip }

abbrev pub as_entry : IndexKey → Entry
as_entry i = entry_if i.committed i.key.0

abbrev pub mark_of : Tree → ℕ → Mark
mark_of t x = as_mark (dirty t.marks x)

abbrev pub entry_of : Tree → ℕ → Entry
entry_of t x = as_entry (index_key t.keys x)

pub record Same (t : Tree) (p : Plan) : Type 0 where
  pub links : Linked t p.links
  pub used : t.slots.used ≡ p.slots.used
  pub generation : (x : ℕ) → generation_at t x ≡ p.slots.generation x
  pub free : reverse (take t.slots.frees t.slots.free) ≡ p.slots.free
  pub local : (x : ℕ) → has x p.links ≡ true → local_at t x ≡ p.local x
  -- of live nodes: a dead slot's mark and key are not read before they are written anew
  pub mark : (x : ℕ) → has x p.links ≡ true → mark_of t x ≡ p.mark x
  pub entry : (x : ℕ) → has x p.links ≡ true → entry_of t x ≡ p.entries.entry x
  -- the queue holds the entries marked removed, and nothing else between commits
  pub removed : take t.index.queued t.index.dirty ≡ p.entries.removed
  pub entries_used : t.index.used ≡ p.entries.used
  pub entries_free : reverse (take t.index.frees t.index.free) ≡ p.entries.free

-- ---- world records

-- nothing at x or above it counts as changed
abbrev pub Settled : Plan → ℕ → Type 0
Settled p x = any (counts_as_changed p) (lineage p x) ≡ false

-- of every live node: its place is right if it is settled, and its boxes too if it has no mark either
pub record Right (t : Tree) (p : Plan) : Type 0 where
  pub place : (x : ℕ) → has x p.links ≡ true → Settled p x → stored_place t x ≡ world_place p x
  pub boxes : (x : ℕ) → has x p.links ≡ true → Settled p x → (p.mark x).marked ≡ false → Boxed t p x

-- ---- what every call keeps

-- the queue holds only entries that are marked removed
abbrev pub Queued : Tree → Type 0
Queued t = (k : ℕ) → 1 ≤ times k (take t.index.queued t.index.dirty) → is_removed (entry_mark t k) ≡ true

-- the backend has each unmarked entry's own box, and none for an empty slot
abbrev pub Backed : Tree → Type 0
Backed t = Agree t.index.entries t.index.backend.entries

pub record Known (t : Tree) (p : Plan) : Type 0 where
  pub whole : Whole t
  pub sound : SoundTree t
  pub same : Same t p
  pub queue : Queued t
  pub backed : Backed t
  pub right : Right t p
