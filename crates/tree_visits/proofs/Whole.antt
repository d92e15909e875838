-- The starts and the positions together.
use mathlib.Core.Path.{◌≡◌, sym, ap}
use mathlib.Core.List.{List}
use Prim.Native.Nat.{ℕ, ◌≤◌}
use native.Mathlib.Omega.{arith}
use lib.ListN.{length, take, drop, length-append}
use lib.Seq.{take_at}
use Rattle.link_forest.specs.Forest.{Forest}
use Rattle.link_forest.specs.Sound.{Sound}
use Rattle.link_table.specs.Links.{in_front}
use Rattle.tree_state.specs.declared.Tree.{Tree}
use Rattle.tree_state.specs.Tree.{marked_at}
use Rattle.tree_steps.specs.Commit.{starts_of}
use Rattle.slot_order.proofs.Members.{slots_count}
use Rattle.tree_visits.specs.Visits.{Walkable}

-- what stands in front
pub front_take : (xs out l : List ℕ) (n : ℕ) → l ≡ in_front xs out → length l ≡ 256 → n ≡ length xs → (n ≤ 256) × (take n l ≡ xs)
front_take xs out l n is size e =
    let w = length-append xs (drop (length xs) out) in
    (omega (arith, ap length is), rw is (take_at xs (drop (length xs) out) n (sym e)))

-- the starts in front of some room, as what is to be walked
pub starts_front : (t : Tree) (l : List ℕ) (m : ℕ) → take m l ≡ starts_of t → (f : Forest) → Sound t.links.order t.links.depth t.links.count f → Walkable t (take m l)
starts_front t l m is f S = record { forest = f; sound = S; once = λ x. rw is (slots_count t f S (marked_at t) x) }
