-- What a world record that was stored hands down: the place that it was stored with.
use mathlib.Core.Path.{◌≡◌, refl}
use Rattle.std.specs.Prelude.{Option, Some, None}
use Rattle.std.specs.Bool.{then_some}
use Rattle.std.specs.Option.{is_some, unwrap_or}
use Rattle.geometry.specs.declared.rect.Rect.{Rect}
use Rattle.tree_worlds.specs.declared.Placed.{Placed}
use Rattle.tree_state.specs.declared.WorldNode.{WorldNode}
use Rattle.tree_state.specs.Worlds.{place_of, stored_world}

clip_back : (c : Option Rect) (r : Rect) → then_some (is_some c) (unwrap_or c r) ≡ c
clip_back None r = refl
clip_back (Some s) r = refl

pub place_back : (old : WorldNode) (w : Placed) (b h : Rect) → place_of (stored_world old w b h) ≡ w
place_back old w b h = rw (clip_back w.clip old.clip)
