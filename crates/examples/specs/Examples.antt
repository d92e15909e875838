-- Document 01's examples P1 to P12, a row each, as one claim. Rows about taps, ids and refusals speak of the tree's own run from fresh;
-- P6's world box and P8's first row speak of the plan, P11 and P12 of the index's definitions.
use Rattle.std.specs.Prelude.{◌≡◌, true, false, List, [], ◌∷◌, ℕ, get_or, None, Some, Ok}
use Rattle.std.specs.Float.{binary64}
use Rattle.std.specs.Float.Ieee.{round, eq}
use Rattle.numbers.specs.Rounded.{zero}
use Rattle.geometry.specs.declared.point.Point.{Point}
use Rattle.geometry.specs.Rectangle.{rect}
use Rattle.geometry.specs.declared.affine.Affine.{Affine}
use Rattle.index_types.specs.declared.NodeId.{NodeId}
use Rattle.tree_types.specs.declared.NodeFlags.{NodeFlags}
use Rattle.tree_types.specs.Local.{flags, with_transform}
use Rattle.index_state.specs.Index as index
use Rattle.index_state.specs.Calls as list
use Rattle.index_rows.proofs.Rows as entries
use Rattle.tree_state.specs.Tree.{fresh_tree, position_of}
use Rattle.tree_commit.specs.Commit.{commit_call}
use Rattle.tree_readings.specs.Answers as reads
use Rattle.tree_run.specs.Told.{listing_told}
use Rattle.tree_run.specs.Run as tree
use Rattle.tree_rows.proofs.Rows.{after}
use Rattle.plan.specs.Plan.{Plan, empty}
use Rattle.plan.specs.Afresh.{world_place, world_bounds, candidate, nothing, hit}
use Rattle.plan.specs.Calls as call
use Rattle.plan.specs.Calls.{Call, Outcome, step}
use Rattle.plan.specs.Demand.{Answer, tapped, listed, run, outcomes}
use Rattle.plan.proofs.Rows.{num, point, id, ten, root, child, words, settle, a, b, c, half_clip}
use Rattle.sheet_format.specs.Sheet as sheet
use Rattle.sheet_format.specs.Sheet.{read_sheet}
use Rattle.sheet_calls.specs.Calls.{calls_of}
use Rattle.sheet_calls.specs.Answers.{bytes, output}

-- ---- words for the rows: a run of the tree from fresh

-- a call's refusal, or 0, and nothing besides
abbrev pub told : ℕ → Outcome
told n = record { refused = n; told = call.nothing }

abbrev pub answers : List Call → List Outcome
answers cs = outcomes tree.step tree.outcome fresh_tree cs

-- a tap of visible, pickable nodes
abbrev pub tap_at : List Call → Point → Answer
tap_at cs pt = tree.answer (after cs) (flags 3) (words 512) (call.hit_test_point pt)

-- a node's children, read back from the room
abbrev pub children_at : List Call → NodeId → Answer
children_at cs i = listing_told (reads.children_call (after cs) i 512) (reads.children_room (after cs) i (words 512))

-- the id that an insert hands out
abbrev pub given : NodeId → Outcome
given i = record { refused = 0; told = call.id i }

abbrev pub example_sheet : List ℕ
example_sheet = bytes "2\n0 0 0 0 0 0 100 100 0 0 3\n1 1 100 0 0 0 40 20 0 0 3\n0\n4\n90 10 3\n100 10 3\n80 10 3\n200 200 3\n"

-- bounds 0 to 10, all of which go to the point (5, 5)
abbrev pub flat : Affine
flat = record { a = zero; b = zero; c = zero; d = zero; e = num 5; f = num 5 }

abbrev pub flat_root : Call
flat_root = call.insert None (with_transform flat ten)

-- below the first node, and deeper
abbrev pub flat_child : Call
flat_child = call.insert (Some a) (with_transform flat ten)

-- the calls of a sheet that is read
abbrev pub calls_in : sheet.Read → List Call
calls_in (sheet.refused r at) = []
calls_in (sheet.sheet s) = calls_of s

-- a..d are 0 as numbers
pub record Flat (t : Affine) : Type 0 where
  pub a : eq t.a zero ≡ true
  pub b : eq t.b zero ≡ true
  pub c : eq t.c zero ≡ true
  pub d : eq t.d zero ≡ true

-- so it is of a node's own transform, or of its world transform
pub data FlatNode (p : Plan) (x : ℕ) : Type 0 where
  own : Flat (p.local x).local_transform → FlatNode p x
  world : Flat (world_place p x).transform → FlatNode p x

pub record Examples : Type 0 where
  -- Fresh tree: commit gives no damage.
  pub p1 : (commit_call fresh_tree 2048).answer ≡ Ok 0
  -- First insert: id (0, 1); committed depth 1.
  pub p2 : (answers (root ∷ settle ∷ []) ≡ given (id 0 1) ∷ told 0 ∷ [])
      × (get_or (after (root ∷ settle ∷ [])).links.depth (position_of (after (root ∷ settle ∷ [])) 0) 0 ≡ 1)
  -- A, child B; remove A; the next inserts give (0, 2), (1, 2).
  pub p3 : answers (root ∷ child a ∷ call.remove a ∷ root ∷ root ∷ [])
      ≡ given (id 0 1) ∷ given (id 1 1) ∷ told 0 ∷ given (id 0 2) ∷ given (id 1 2) ∷ []
  -- A under its child, A under A: 4.
  pub p4 : answers (root ∷ child a ∷ call.reparent a (Some b) ∷ call.reparent a (Some a) ∷ [])
      ≡ given a ∷ given b ∷ told 4 ∷ told 4 ∷ []
  -- Children B, C; B reparented to the same parent: C, B.
  pub p5 : children_at (root ∷ child a ∷ child a ∷ call.reparent b (Some a) ∷ []) a ≡ listed (c ∷ b ∷ [])
  -- The sheet above: place 2 has world box 80, 0, 100, 40; and its answers.
  pub p6 : (world_bounds (run step empty (calls_in (read_sheet example_sheet))) 1 ≡ rect (num 80) zero (num 100) (num 40))
      × (output example_sheet ≡ bytes "4\n1 2 2\n2 2 2\n3 1 1\n4 0 0\n")
      × (tap_at (calls_in (read_sheet example_sheet)) (point 90 10) ≡ tapped (hit b (a ∷ b ∷ [])))
      × (tap_at (calls_in (read_sheet example_sheet)) (point 100 10) ≡ tapped (hit b (a ∷ b ∷ [])))
      × (tap_at (calls_in (read_sheet example_sheet)) (point 80 10) ≡ tapped (hit a (a ∷ [])))
      × (tap_at (calls_in (read_sheet example_sheet)) (point 200 200) ≡ tapped nothing)
  -- Bounds 0 to 20, square clip 0 to 10 both ways, identity: (10, 10) hits, (10.5, 10) doesn't.
  pub p7 : (tap_at half_clip (point 10 10) ≡ tapped (hit a (a ∷ [])))
      × (tap_at half_clip (record { x = round binary64 false 21 2; y = num 10 }) ≡ tapped nothing)
  -- All-zero linear part: no tap hits. Of every plan such a node is no candidate; after every list of calls no tap answers it; a tree of one such node
  -- answers every tap with nothing, also at the point that is its hit box, and one in front of another node leaves that to be hit.
  pub p8 : ((p : Plan) (x : ℕ) → FlatNode p x → (asked : NodeFlags) (pt : Point) → candidate p asked pt x ≡ false)
      × ((calls : List Call) (asked : NodeFlags) (room : List ℕ) (pt : Point) (i : NodeId) (path : List NodeId)
      → tree.answer (after calls) asked room (call.hit_test_point pt) ≡ tapped (hit i path) → FlatNode (run step empty calls) i.0 → ⊥)
      × ((pt : Point) → tap_at (flat_root ∷ settle ∷ []) pt ≡ tapped nothing)
      × (tap_at (root ∷ flat_child ∷ settle ∷ []) (point 5 5) ≡ tapped (hit a (a ∷ [])))
  -- Equal level and depth: (0, 2) beats (1, 1).
  pub p9 : tap_at (root ∷ root ∷ call.remove a ∷ root ∷ settle ∷ []) (point 5 5) ≡ tapped (hit (id 0 2) (id 0 2 ∷ []))
  -- After the last leaf of a root, `next_depth_first` gives none.
  pub p10 : reads.next_call (after (root ∷ child a ∷ root ∷ [])) b ≡ Ok None
  -- Index: committed entry removed, then updated, commit: it lives with the new box and no damage.
  pub p11 : let calls = entries.add 10 ∷ entries.settle ∷ list.remove entries.first ∷ list.update entries.first (entries.box 20) ∷ [] in
      (entries.found calls ≡ [] ∷ [] ∷ [] ∷ [] ∷ [])
      × (index.live (entries.done (entries.add 10 ∷ entries.settle ∷ list.remove entries.first ∷ list.update entries.first (entries.box 20) ∷ entries.settle ∷ [])) entries.first ≡ true)
      × (index.rect_slots (entries.done (entries.add 10 ∷ entries.settle ∷ list.remove entries.first ∷ list.update entries.first (entries.box 20) ∷ entries.settle ∷ [])) (entries.box 20) ≡ 0 ∷ [])
      × (index.rect_slots (entries.done (entries.add 10 ∷ entries.settle ∷ list.remove entries.first ∷ list.update entries.first (entries.box 20) ∷ entries.settle ∷ [])) (entries.box 10) ≡ [])
  -- Updated, then removed: damage shows the box before the update.
  pub p12 : entries.found (entries.add 10 ∷ entries.settle ∷ list.update entries.first (entries.box 20) ∷ list.remove entries.first ∷ [])
      ≡ [] ∷ (entries.box 10 ∷ []) ∷ [] ∷ [] ∷ []
