-- A commit on the plan: which nodes are walked, in which order, and what entry numbers they get.
use Rattle.std.specs.Prelude.{ℕ, Bool, not, ◌&&◌, ◌||◌, cond, List, [], ◌∷◌, ◌++◌, reverse, eqb, ltb}
use Rattle.link_forest.specs.Forest.{pre, above, part}
use Rattle.plan.specs.Lists.{put, keep, any, joined, sorted}
use Rattle.plan.specs.Plan.{Plan, Entry, without, number, Entries, nodes, no_mark, slot_from, free_after, used_after}

-- a marked node whose transform or clip changed
abbrev pub counts_as_changed : Plan → ℕ → Bool
counts_as_changed p x = (p.mark x).marked && ((p.mark x).transform || (p.mark x).clip)

-- "sorted by generation, then index"
abbrev pub older : Plan → ℕ → ℕ → Bool
older p x y = let g = p.slots.generation in ltb (g x) (g y) || (eqb (g x) (g y) && ltb x y)

-- "marked live nodes are sorted"
unfoldable pub starts : Plan → List ℕ
starts p = sorted (older p) (keep (λ x. (p.mark x).marked) (nodes p))

-- "the climb stops at the first marked ancestor whose transform or clip changed; such a node is covered"
abbrev pub covered : Plan → ℕ → Bool
covered p x = any (counts_as_changed p) (above x p.links)

-- "from a node whose transform or clip changed through its whole subtree, parent first, children in order; from any other node no further"
abbrev pub walk : Plan → ℕ → List ℕ
walk p x = cond (counts_as_changed p x) (pre (part x p.links)) (x ∷ [])

-- "The others are walked"
unfoldable pub visits : Plan → List ℕ
visits p = joined (walk p) (keep (λ x. not (covered p x)) (starts p))

-- "commit inserts the entries that nodes lack": the last freed entry, else the next unused (module 5)
abbrev pub take_entry : Entries → ℕ → Entries
take_entry e x =
    record {
      entry = put e.entry x (number (slot_from e.free e.used));
      removed = e.removed;
      used = used_after e.free e.used;
      free = free_after e.free;
    }

abbrev pub enter_as : Entry → Entries → ℕ → Entries
enter_as without e x = take_entry e x
enter_as (number n) e x = e

unfoldable pub enter : Entries → List ℕ → Entries
enter e [] = e
enter e (x ∷ xs) = enter (enter_as (e.entry x) e x) xs

-- "then commits the index": the entries marked removed are freed, in their order
abbrev pub free_removed : Entries → Entries
free_removed e = record { entry = e.entry; removed = []; used = e.used; free = reverse e.removed ++ e.free }

-- "An accepted commit leaves no mark, nothing that counts as changed, no removed entry"
unfoldable pub committed : Plan → Plan
committed p =
    record { links = p.links; slots = p.slots; local = p.local; mark = λ x. no_mark; entries = free_removed (enter p.entries (visits p)) }
