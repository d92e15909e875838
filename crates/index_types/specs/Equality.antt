-- What == answers on boxes, as the derive computes it, is the definition that contracts cite.
use Rattle.std.specs.Prelude.{◌≡◌, refl, ◌&&◌}
use Rattle.std.specs.Float.Ieee.{eq}
use Rattle.index_types.specs.declared.Aabb2D.{Aabb2D}
use Rattle.index_types.specs.Boxes.{aabb_eq}

pub aabb_chain : (b c : Aabb2D) → eq b.min_x c.min_x && (eq b.min_y c.min_y && (eq b.max_x c.max_x && eq b.max_y c.max_y)) ≡ aabb_eq b c
unfolding aabb_eq
aabb_chain b c = refl
