-- A node's world record: what it hands down, and the record that a commit stores.
use Rattle.std.specs.Prelude.{false}
use Rattle.std.specs.Bool.{then_some}
use Rattle.std.specs.Option.{is_some, unwrap_or}
use Rattle.std.specs.Float.{nan}
use Rattle.geometry.specs.declared.rect.Rect.{Rect}
use Rattle.geometry.specs.Rectangle.{rect}
use Rattle.tree_worlds.specs.declared.Placed.{Placed}
use Rattle.tree_state.specs.declared.WorldNode.{WorldNode}

-- what is read where a table has no place
abbrev pub no_rect : Rect
no_rect = rect nan nan nan nan

abbrev pub no_world : WorldNode
no_world =
    record {
      transform = record { a = nan; b = nan; c = nan; d = nan; e = nan; f = nan };
      clipped = false;
      clip = no_rect;
      bounds = no_rect;
      hit_bounds = no_rect;
    }

-- its world clip is there if it says so
abbrev pub place_of : WorldNode → Placed
place_of w = record { transform = w.transform; clip = then_some w.clipped w.clip }

-- where there is no world clip, the rectangle of the old one stays
abbrev pub stored_world : WorldNode → Placed → Rect → Rect → WorldNode
stored_world old w b h = record { transform = w.transform; clipped = is_some w.clip; clip = unwrap_or w.clip old.clip; bounds = b; hit_bounds = h }
