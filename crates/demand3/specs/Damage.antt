-- The damage of a commit, over every list of calls from fresh: which rectangles its answer counts and its room begins with. They are worked out from
-- the calls alone: beside the plan (crate plan) stands only what world boxes were shown last and which of them have gone since. Which nodes a commit
-- visits, and in which order, is the plan's `visits`; a node's world box worked out afresh from the local records is its `world_bounds`.
use Rattle.std.specs.Prelude.{ℕ, zero, suc, ◌*◌, ◌≤◌, ◌<◌, ◌≡◌, true, List, [], ◌++◌, Float, length, drop, Ok}
use Rattle.geometry.specs.declared.rect.Rect.{Rect}
use Rattle.geometry.specs.Rectangle.{has_area}
use Rattle.tree_types.specs.Local.{empty_rect}
use Rattle.tree_types.specs.rooms.Rooms.{rect_at}
use Rattle.link_forest.specs.Forest.{post, part}
use Rattle.tree_state.specs.declared.Tree.{Tree}
use Rattle.tree_state.specs.Tree.{fresh_tree}
use Rattle.tree_steps.specs.Commit.{if_area, damage_of, rects_of}
use Rattle.tree_commit.specs.Commit.{commit_call, commit_room}
use Rattle.tree_damage.specs.Damage as damage
use Rattle.tree_run.specs.Run as tree
use Rattle.plan.specs.Lists.{put, joined}
use Rattle.plan.specs.Plan.{Plan, empty, new_slot}
use Rattle.plan.specs.Visits.{visits}
use Rattle.plan.specs.Afresh.{world_bounds}
use Rattle.plan.specs.Calls as call
use Rattle.plan.specs.Calls.{Call}
use Rattle.plan.specs.Demand.{run}

-- ---- what was shown last, and what has gone since

pub record Shown : Type 0 where
  pub box : ℕ → Rect  -- a node's world box as the last accepted commit left it; of a node inserted since, the zero box
  pub gone : List Rect  -- the shown boxes of nodes removed since then, each if it has area, in the order in which the nodes went

-- what an accepted call leaves of it, of the plan before the call
abbrev pub shown_after : Plan → Shown → Call → Shown
shown_after p s (call.insert parent v) = record { box = put s.box (new_slot p) empty_rect; gone = s.gone }
-- "the subtree, children first in order"
shown_after p s (call.remove i) = record { box = s.box; gone = s.gone ++ joined (λ x. if_area (s.box x)) (post (part i.0 p.links)) }
shown_after p s (call.commit room) = record { box = world_bounds p; gone = [] }
shown_after p s (call.reparent i parent) = s
shown_after p s (call.set_local_transform i t) = s
shown_after p s (call.set_local_clip i c) = s
shown_after p s (call.set_local_bounds i r) = s
shown_after p s (call.set_hit_slop i w) = s
shown_after p s (call.set_z_index i z) = s
shown_after p s (call.set_flags i f) = s
shown_after p s (call.read r) = s
shown_after p s (call.request q asked room) = s

-- a refused call changes nothing
abbrev pub shown_if : ℕ → Plan → Shown → Call → Shown
shown_if zero p s c = shown_after p s c
shown_if (suc n) p s c = s

-- the plan, and what was shown, after a list of calls
pub record Seen : Type 0 where
  pub plan : Plan
  pub shown : Shown

unfoldable pub see : Seen → Call → Seen
see s c = record { plan = call.step s.plan c; shown = shown_if (call.refusal s.plan c) s.plan s.shown c }

abbrev pub seen : List Call → Seen
seen calls = run see (record { plan = empty; shown = record { box = λ x. empty_rect; gone = [] } }) calls

-- ---- the rectangles of a commit

-- "A changed world box gives its old form, then its new, as damage, each if its own width and height exceed 0.0; earlier removals stand first, under
-- the same test": those of removals, then of each visited node, in the order of the visits, its old box and its new one (`damage_of`)
unfoldable pub rects : Seen → List Rect
rects s = s.shown.gone ++ joined (λ x. damage_of (s.shown.box x) (world_bounds s.plan x)) (visits s.plan)

-- a commit of this tree, lent this room, has these rectangles as its damage
pub record Damage (t : Tree) (room : List Float) (rs : List Rect) : Type 0 where
  -- its answer counts them, and 512 are the most
  pub counted : (commit_call t (length room)).answer ≡ Ok (length rs)
  pub few : length rs ≤ 512
  -- they stand in front of the room, in order, four numbers each
  pub in_front : rects_of (commit_room t room) (length rs) ≡ rs
  -- behind them the room is as it was, and it is as long
  pub behind : drop (4 * length rs) (commit_room t room) ≡ drop (4 * length rs) room
  pub as_long : length (commit_room t room) ≡ length room
  -- each of them has area: its width and its height exceed 0.0
  pub area : (i : ℕ) → i < length rs → has_area (rect_at (commit_room t room) i) ≡ true
  -- `union_rect`, handed that room and that count, joins them one after the other
  pub union : damage.union_rect (commit_room t room) (length rs) ≡ Ok (damage.joined rs)

-- after every list of calls, of every commit that is accepted
abbrev pub DamageTold : Type 0
DamageTold = (calls : List Call) (room : List Float) → (tree.outcome (run tree.step fresh_tree calls) (call.commit room)).refused ≡ 0
    → Damage (run tree.step fresh_tree calls) room (rects (seen calls))
