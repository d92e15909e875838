-- The entries that a query visits, in rising order, are those of the nodes whose hit box passes, in entry order; so listings are the plan's.
use mathlib.Core.Path.{◌≡◌, refl, sym, ap, ◌∙◌, subst}
use mathlib.Core.Bool.{Bool, true, false, ◌&&◌, cond}
use mathlib.Core.List.{List, [], ◌∷◌, map, map-append}
use Prim.Native.Nat.{ℕ, zero, suc}
use native.Mathlib.Omega.{arith}
use native.Mathlib.Decide.{ℕ_discrete}
use borrow.Author.Tests.{eqb-true, eq-eqb, ne_eqb}
use lib.Dec.{eqb}
use Rattle.index_types.specs.Slots.{entry_in}
use Rattle.geometry.specs.declared.point.Point.{Point}
use Rattle.geometry.specs.declared.rect.Rect.{Rect}
use Rattle.index_types.specs.declared.Aabb2D.{Aabb2D}
use Rattle.index_types.specs.Boxes.{contains_point, overlaps}
use Rattle.tree_types.specs.declared.NodeFlags.{NodeFlags}
use Rattle.tree_types.specs.Local.{has_all, rect_to_aabb}
use Rattle.link_forest.specs.Forest.{Forest, has}
use Rattle.index_query.specs.Query.{slots}
use Rattle.index_state.specs.Index.{rect_slots, point_slots}
use Rattle.tree_state.specs.declared.Tree.{Tree}
use Rattle.tree_state.specs.Tree.{id_at, local_at, key_at, stored_bounds, entry_mark}
use Rattle.tree_steps.specs.Requests.{keep_of, rect_nodes, point_nodes}
use Rattle.plan.specs.Lists.{keep, joined, up_to}
use Rattle.plan.specs.Plan.{Plan, nodes, id_of, needs_commit}
use Rattle.plan.specs.Afresh.{world_bounds, world_hit_bounds, meets_rect, meets_point, is_number, in_entry_order, list_rect, list_point}
use Rattle.agreement.proofs.Same.{Known}
use Rattle.agreement_calls.proofs.requests.Boxes.{Fair, fair_rect, fair_point}
use Rattle.agreement_calls.proofs.requests.Lists.{In, Every, every_keep, every_joined, every_map, keep_none, keep_append, keep_one, keep_twice, joined_next, joined_more, map_same}
use Rattle.agreement_calls.proofs.requests.Quiet as quiet

module _ (t : Tree) (p : Plan) (K : Known t p) (Q : needs_commit p ≡ false) where
  abbrev f : Forest
  f = p.links

  -- the node that an entry carries
  abbrev carried_by : ℕ → ℕ
  carried_by k = (entry_in t.index.entries k).payload.0

  -- the nodes with one entry number
  abbrev pub numbered : ℕ → List ℕ
  numbered k = keep (λ x. is_number k (p.entries.entry x)) (nodes p)

  by_key : (k x : ℕ) → has x f ≡ true → is_number k (p.entries.entry x) ≡ eqb (key_at t x).0 k
  by_key k x h = ap (is_number k) (quiet.entry t p K Q x h)

  numbered_empty : (k : ℕ) → entry_mark t k ≡ 0 → numbered k ≡ []
  numbered_empty k z =
      keep_none (λ x. is_number k (p.entries.entry x)) (nodes p)
      (every_map (λ x. has x f ≡ true) (λ x. is_number k (p.entries.entry x) ≡ false) none (nodes p) (quiet.nodes_live t p K Q))
    where
      none : (x : ℕ) → has x f ≡ true → is_number k (p.entries.entry x) ≡ false
      none x h =
          let m = (quiet.owns t p K Q x h).unmarked in
          by_key k x h ∙ ne_eqb (key_at t x).0 k (λ e. omega (arith, rw e at m))

  pub numbered_owner : (x : ℕ) → has x f ≡ true → numbered (key_at t x).0 ≡ x ∷ []
  numbered_owner x h =
      keep_one (λ y. is_number (key_at t x).0 (p.entries.entry y)) x (by_key (key_at t x).0 x h ∙ eq-eqb (key_at t x).0 (key_at t x).0 refl) (nodes p) (quiet.node_once t p K Q x h) same
    where
      same : (y : ℕ) → In y (nodes p) → is_number (key_at t x).0 (p.entries.entry y) ≡ true → y ≡ x
      same y i e =
          let g = quiet.node_has t p K Q y i in
          let k : (key_at t y).0 ≡ (key_at t x).0 = eqb-true (key_at t y).0 (key_at t x).0 (sym (by_key (key_at t x).0 y g) ∙ e) in
          sym (quiet.carried t p K Q y g) ∙ ap carried_by k ∙ quiet.carried t p K Q x h

  pub in_order_live : Every (λ x. has x f ≡ true) (in_entry_order p)
  unfolding in_entry_order
  in_order_live = every_joined (λ x. has x f ≡ true) numbered (λ k. every_keep (λ x. has x f ≡ true) (λ x. is_number k (p.entries.entry x)) (nodes p) (quiet.nodes_live t p K Q)) (up_to p.entries.used)

  -- ---- the visited entries

  module _ (q : Aabb2D → Bool) (F : Fair q) where
    abbrev passes : ℕ → Bool
    passes x = q (rect_to_aabb (world_hit_bounds p x))

    abbrev Step : ℕ → Type 0
    Step k = map carried_by (cond (quiet.visit t p K Q q k) (k ∷ []) []) ≡ keep passes (numbered k)

    step_owned : (x : ℕ) → has x f ≡ true → Step (key_at t x).0
    unfolding keep
    step_owned x h = rw (quiet.visit_owner t p K Q q F x h, numbered_owner x h) (go (passes x))
      where
        go : (b : Bool) → map carried_by (cond b ((key_at t x).0 ∷ []) []) ≡ cond b (x ∷ []) []
        go true = ap (λ (y : ℕ). y ∷ []) (quiet.carried t p K Q x h)
        go false = refl

    step : (k : ℕ) → Step k
    unfolding keep
    step k =
        elim (ℕ_discrete (entry_mark t k) 0) [
          | yes z ↦ rw (quiet.visit_empty t p K Q q k z, numbered_empty k z)
          | no n ↦
              let W = quiet.owner t p K Q k n in
              subst Step W.2 (step_owned W.0 W.1)
        ]

    visited : (n : ℕ) → map carried_by (slots n (quiet.visit t p K Q q)) ≡ keep passes (joined numbered (up_to n))
    unfolding slots keep joined up_to
    visited zero = refl
    visited (suc n) =
        map-append carried_by (slots n (quiet.visit t p K Q q)) (cond (quiet.visit t p K Q q n) (n ∷ []) [])
        ∙ rw (visited n, step n) (sym (ap (keep passes) (joined_next numbered n) ∙ keep_append passes (joined numbered (up_to n)) (numbered n)))

    pub in_order_lem : map carried_by (slots 512 (quiet.visit t p K Q q)) ≡ keep passes (in_entry_order p)
    unfolding in_entry_order
    in_order_lem =
        visited 512 ∙ ap (keep passes) (joined_more numbered p.entries.used (λ k l. numbered_empty k (quiet.beyond_empty t p K Q k l)) 512 (quiet.used_few t p K Q))

    -- a second test on the nodes, with which the two make up the plan's
    pub kept_in_order : (g m : ℕ → Bool) → ((x : ℕ) → has x f ≡ true → passes x && g x ≡ m x)
        → keep_of g (map carried_by (slots 512 (quiet.visit t p K Q q))) ≡ keep m (in_entry_order p)
    kept_in_order g m e =
        ap (keep_of g) in_order_lem
        ∙ keep_twice passes g m (in_entry_order p) (every_map (λ x. has x f ≡ true) (λ x. passes x && g x ≡ m x) e (in_entry_order p) in_order_live)

  -- ---- listings

  flags_first : (a b c : Bool) → a && (b && c) ≡ b && a && c
  flags_first true true c = refl
  flags_first true false c = refl
  flags_first false true c = refl
  flags_first false false c = refl

  pub rect_same : (asked : NodeFlags) (r : Rect) → rect_nodes t asked r ≡ list_rect p asked r
  unfolding rect_nodes list_rect rect_slots meets_rect
  rect_same asked r =
      ap (map (id_at t)) (kept_in_order (λ b. overlaps b (rect_to_aabb r)) (fair_rect (rect_to_aabb r)) (λ x. has_all (local_at t x).flags asked && overlaps (rect_to_aabb (stored_bounds t x)) (rect_to_aabb r)) (meets_rect p asked r) meets)
      ∙ map_same (id_at t) (id_of p) (quiet.ids t p K Q) (keep (meets_rect p asked r) (in_entry_order p))
    where
      meets : (x : ℕ) → has x f ≡ true
          → overlaps (rect_to_aabb (world_hit_bounds p x)) (rect_to_aabb r) && (has_all (local_at t x).flags asked && overlaps (rect_to_aabb (stored_bounds t x)) (rect_to_aabb r)) ≡ meets_rect p asked r x
      meets x h = rw (K.same.local x h, (quiet.boxed t p K Q x h).bounds) (flags_first (overlaps (rect_to_aabb (world_hit_bounds p x)) (rect_to_aabb r)) (has_all (p.local x).flags asked) (overlaps (rect_to_aabb (world_bounds p x)) (rect_to_aabb r)))

  pub point_same : (asked : NodeFlags) (pt : Point) → point_nodes t asked pt ≡ list_point p asked pt
  unfolding point_nodes list_point point_slots meets_point
  point_same asked pt =
      ap (map (id_at t)) (kept_in_order (λ b. contains_point b pt.x pt.y) (fair_point pt.x pt.y) (λ x. has_all (local_at t x).flags asked && contains_point (rect_to_aabb (stored_bounds t x)) pt.x pt.y) (meets_point p asked pt) meets)
      ∙ map_same (id_at t) (id_of p) (quiet.ids t p K Q) (keep (meets_point p asked pt) (in_entry_order p))
    where
      meets : (x : ℕ) → has x f ≡ true
          → contains_point (rect_to_aabb (world_hit_bounds p x)) pt.x pt.y && (has_all (local_at t x).flags asked && contains_point (rect_to_aabb (stored_bounds t x)) pt.x pt.y) ≡ meets_point p asked pt x
      meets x h = rw (K.same.local x h, (quiet.boxed t p K Q x h).bounds) (flags_first (contains_point (rect_to_aabb (world_hit_bounds p x)) pt.x pt.y) (has_all (p.local x).flags asked) (contains_point (rect_to_aabb (world_bounds p x)) pt.x pt.y))
