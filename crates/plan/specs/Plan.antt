-- Document 01's plain plan: "It keeps links (children in order), slots with generations, local records, live nodes' marks with what counts
-- as changed, entry numbers, the entries marked removed in their order, and both free lists." Of a dead node's local record, mark and
-- entry nothing is ever read; insert writes all three anew.
use Rattle.std.specs.Prelude.{ℕ, suc, Bool, true, false, not, ◌&&◌, ◌||◌, cond, List, [], ◌∷◌, ◌++◌, reverse, eqb, ltb, leb, length, None, Some, Option}
use Rattle.index_types.specs.declared.NodeId.{NodeId}
use Rattle.tree_types.specs.declared.LocalNode.{LocalNode}
use Rattle.tree_types.specs.Local.{default_local, stored}
use Rattle.link_forest.specs.Forest.{Forest, none, leaf, pre, post, has, cat, under, remove, part}
use Rattle.plan.specs.Lists.{put, any, joined}

-- ---- what it keeps

pub record Slots : Type 0 where
  pub used : ℕ
  pub generation : ℕ → ℕ
  pub free : List ℕ  -- the last freed first

-- a mark, and whether the node counts as changed in transform and in clip
pub record Mark : Type 0 where
  pub marked : Bool
  pub transform : Bool
  pub clip : Bool

-- an entry number, or none yet
pub data Entry : Type 0 where
  without : Entry
  number : ℕ → Entry

pub record Entries : Type 0 where
  pub entry : ℕ → Entry  -- of a node
  pub removed : List ℕ  -- the entries marked removed, in their order
  pub used : ℕ
  pub free : List ℕ  -- the last freed first

pub record Plan : Type 0 where
  pub links : Forest
  pub slots : Slots
  pub local : ℕ → LocalNode
  pub mark : ℕ → Mark
  pub entries : Entries

abbrev pub no_mark : Mark
no_mark = record { marked = false; transform = false; clip = false }

-- "A new or moved node is marked and counts as changed in both"
abbrev pub changed_in_both : Mark
changed_in_both = record { marked = true; transform = true; clip = true }

abbrev pub no_entries : Entries
no_entries = record { entry = λ x. without; removed = []; used = 0; free = [] }

-- "Its plain plan starts empty"
abbrev pub empty : Plan
empty =
    record {
      links = none;
      slots = record { used = 0; generation = λ x. 0; free = [] };
      local = λ x. default_local;
      mark = λ x. no_mark;
      entries = no_entries;
    }

-- ---- nodes and ids

abbrev pub nodes : Plan → List ℕ
nodes p = pre p.links

abbrev pub id_of : Plan → ℕ → NodeId
id_of p x = record { 0 = x; 1 = p.slots.generation x }

-- a live node, by its full id
abbrev pub live : Plan → NodeId → Bool
live p i = has i.0 p.links && eqb (p.slots.generation i.0) i.1

-- a parent, if one is named, is live
abbrev pub parent_live : Plan → Option NodeId → Bool
parent_live p None = true
parent_live p (Some h) = live p h

-- the new parent is the node or below it
abbrev pub at_or_below : Plan → ℕ → Option NodeId → Bool
at_or_below p x None = false
at_or_below p x (Some h) = has h.0 (part x p.links)

-- "256 live nodes"
abbrev pub full : Plan → Bool
full p = leb 256 (length (nodes p))

is_empty : List ℕ → Bool
is_empty [] = true
is_empty (x ∷ xs) = false

-- "nothing but a mark, a removed entry or a pending rectangle calls for a commit": the plan keeps no rectangles, since a removal leaves a
-- pending one only where it also marks an entry removed
unfoldable pub needs_commit : Plan → Bool
unfolding is_empty
needs_commit p = any (λ x. (p.mark x).marked) (nodes p) || not (is_empty p.entries.removed)

-- ---- insert

-- "the last freed slot, .. else the next unused slot"
abbrev pub slot_from : List ℕ → ℕ → ℕ
slot_from [] used = used
slot_from (x ∷ xs) used = x

abbrev pub free_after : List ℕ → List ℕ
free_after [] = []
free_after (x ∷ xs) = xs

abbrev pub used_after : List ℕ → ℕ → ℕ
used_after [] used = suc used
used_after (x ∷ xs) used = used

-- "generation one higher (saturating, as in Rust), else .. generation 1"
abbrev pub one_higher : ℕ → ℕ
one_higher g = cond (ltb g 4294967295) (suc g) 4294967295

abbrev pub generation_from : List ℕ → (ℕ → ℕ) → ℕ
generation_from [] g = 1
generation_from (x ∷ xs) g = one_higher (g x)

abbrev pub new_slot : Plan → ℕ
new_slot p = slot_from p.slots.free p.slots.used

abbrev pub new_id : Plan → NodeId
new_id p = record { 0 = new_slot p; 1 = generation_from p.slots.free p.slots.generation }

abbrev pub take_slot : Slots → Slots
take_slot s =
    record {
      used = used_after s.free s.used;
      generation = put s.generation (slot_from s.free s.used) (generation_from s.free s.generation);
      free = free_after s.free;
    }

-- last among the children of the parent, or among the roots
abbrev pub onto : Option NodeId → Forest → Forest → Forest
onto None t f = cat f t
onto (Some h) t f = under h.0 t f

abbrev pub with_entry : Entries → ℕ → Entry → Entries
with_entry e x n = record { entry = put e.entry x n; removed = e.removed; used = e.used; free = e.free }

unfoldable pub inserted : Plan → Option NodeId → LocalNode → Plan
inserted p parent v =
    record {
      links = onto parent (leaf (new_slot p)) p.links;
      slots = take_slot p.slots;
      local = put p.local (new_slot p) (stored v);
      mark = put p.mark (new_slot p) changed_in_both;
      entries = with_entry p.entries (new_slot p) without;
    }

-- ---- remove: "the subtree, children first in order"

abbrev pub numbers : Entry → List ℕ
numbers without = []
numbers (number n) = n ∷ []

-- "removing a committed node marks its entry removed"
abbrev pub release : Entries → List ℕ → Entries
release e gone = record { entry = e.entry; removed = e.removed ++ joined (λ x. numbers (e.entry x)) gone; used = e.used; free = e.free }

abbrev pub free_slots : Slots → List ℕ → Slots
free_slots s gone = record { used = s.used; generation = s.generation; free = reverse gone ++ s.free }

unfoldable pub removed : Plan → ℕ → Plan
removed p x =
    let gone = post (part x p.links) in
    record { links = remove x p.links; slots = free_slots p.slots gone; local = p.local; mark = p.mark; entries = release p.entries gone }

-- ---- reparent: "puts the node last among its new siblings, also under the same parent"

unfoldable pub moved : Plan → ℕ → Option NodeId → Plan
moved p x parent =
    record {
      links = onto parent (part x p.links) (remove x p.links);
      slots = p.slots;
      local = p.local;
      mark = put p.mark x changed_in_both;
      entries = p.entries;
    }

-- ---- setters

-- a local record and a mark for one node, all else as it is
abbrev pub with_local : Plan → ℕ → LocalNode → Mark → Plan
with_local p x v m = record { links = p.links; slots = p.slots; local = put p.local x v; mark = put p.mark x m; entries = p.entries }

-- "A change marks the node"
abbrev pub mark_alone : Mark → Mark
mark_alone m = record { marked = true; transform = m.transform; clip = m.clip }

abbrev pub mark_transform : Mark → Mark
mark_transform m = record { marked = true; transform = true; clip = m.clip }

abbrev pub mark_clip : Mark → Mark
mark_clip m = record { marked = true; transform = m.transform; clip = true }

-- "Setters compare as numbers": an equal value leaves the plan as it is
abbrev pub set_unless : Bool → Plan → ℕ → LocalNode → (Mark → Mark) → Plan
set_unless true p x v m = p
set_unless false p x v m = with_local p x v (m (p.mark x))
