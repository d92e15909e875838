-- Of every call the lowest number that applies is given; the numbers of an insert and of a commit by their tests; and a point is a rectangle
-- of no size.
use mathlib.Core.Path.{◌≡◌, refl, sym}
use mathlib.Core.Bool.{Bool, true, false, not, ◌||◌}
use Prim.Native.Nat.{ℕ, suc}
use lib.Ieee.{Float}
use borrow.Author.Tests.{not-false}
use Rattle.counting.specs.Conditions.{lowest, rising_from, rising, Least, refused, gives}
use Rattle.counting.proofs.Conditions.{least, told_refused, left_refused, told_accepted, left_accepted}
use Rattle.index_types.specs.declared.Aabb2D.{Aabb2D}
use Rattle.index_types.specs.declared.NodeId.{NodeId}
use Rattle.index_types.specs.declared.Key.{Key}
use Rattle.index_types.specs.Boxes as box
use Rattle.index_query.proofs.Visits.{point_slots_lem}
use Rattle.index_types.specs.declared.Index.{Index}
use Rattle.index_state.specs.Index.{sound_index, full, live, rect_slots, point_slots}
use Rattle.index_state.specs.Calls.{Call, insert, update, remove, clear, commit, query_rect, query_point, short}
use Rattle.index_state.specs.Calls.{conditions, refusal, accepted, after, given, told}

-- ---- the lowest number that applies is given

rows_rise : (ix : Index) (c : Call) → rising (conditions ix c) ≡ true
unfolding rising_from
rows_rise ix (insert b p) = refl
rows_rise ix (update k b) = refl
rows_rise ix (remove k) = refl
rows_rise ix clear = refl
rows_rise ix (commit a r o n) = refl
rows_rise ix (query_rect rect len) = refl
rows_rise ix (query_point x y len) = refl

pub lowest_given : (ix : Index) (c : Call) → Least (conditions ix c)
lowest_given ix c = least (conditions ix c) (rows_rise ix c)

-- ---- a refusal's number, by the call's tests

module _ (ix : Index) where
  module _ (S : not (sound_index ix) ≡ false) where
    pub insert_full : (b : Aabb2D) (p : NodeId) → full ix ≡ true → refusal ix (insert b p) ≡ 11
    unfolding refusal lowest
    insert_full b p h = rw (not-false (sound_index ix) S, h)

    pub insert_fits : (b : Aabb2D) (p : NodeId) → full ix ≡ false → refusal ix (insert b p) ≡ 0
    unfolding refusal lowest
    insert_fits b p h = rw (not-false (sound_index ix) S, h)

    module _ (k : Key) where
      pub update_dead : (b : Aabb2D) → live ix k ≡ false → refusal ix (update k b) ≡ 10
      unfolding refusal lowest
      update_dead b d = rw (not-false (sound_index ix) S, d)

      pub update_lives : (b : Aabb2D) → live ix k ≡ true → refusal ix (update k b) ≡ 0
      unfolding refusal lowest
      update_lives b l = rw (not-false (sound_index ix) S, l)

      pub remove_dead : live ix k ≡ false → refusal ix (remove k) ≡ 10
      unfolding refusal lowest
      remove_dead d = rw (not-false (sound_index ix) S, d)

      pub remove_lives : live ix k ≡ true → refusal ix (remove k) ≡ 0
      unfolding refusal lowest
      remove_lives l = rw (not-false (sound_index ix) S, l)

    module _ (a r o n : ℕ) where
      pub commit_long : short a r o n ≡ false → refusal ix (commit a r o n) ≡ 0
      unfolding refusal lowest
      commit_long h = rw (not-false (sound_index ix) S, h)

-- ---- what it then tells and leaves

module _ (ix : Index) (c : Call) where
  pub refuses : (n : ℕ) → refusal ix c ≡ suc n → (refused (suc n) ≡ told ix c) × (ix ≡ after ix c)
  unfolding told after
  refuses n e = (told_refused n (refusal ix c) e (given ix c), left_refused n (refusal ix c) e ix (accepted ix c))

  pub accepts : refusal ix c ≡ 0 → (gives (given ix c) ≡ told ix c) × (accepted ix c ≡ after ix c)
  unfolding told after
  accepts e = (told_accepted (refusal ix c) e (given ix c), left_accepted (refusal ix c) e ix (accepted ix c))

-- ---- commit

pub or_none : (a b : Bool) → a || b ≡ false → (a ≡ false) × (b ≡ false)
or_none false false h = (refl, refl)
or_none false true h = (refl, h)
or_none true b h = (h, sym (cc))

-- ---- queries

-- a point is a rectangle of no size
pub point_of_lem : (ix : Index) (x y : Float) → rect_slots ix (box.aabb x y x y) ≡ point_slots ix x y
unfolding rect_slots point_slots
point_of_lem ix x y = point_slots_lem ix x y

pub point_told : (ix : Index) (x y : Float) (len : ℕ) → told ix (query_rect (box.aabb x y x y) len) ≡ told ix (query_point x y len)
unfolding told given refusal
point_told ix x y len = rw (point_of_lem ix x y)
