-- The loop over the positions to visit: what holds before each turn, and that one more turn keeps it.
use Prim.Native.Nat.{ℕ, ◌+◌, ◌<◌}
use mathlib.Core.Path.{◌≡◌, refl, sym, ap, ◌∙◌}
use mathlib.Core.List.{List, [], ◌∷◌, ◌++◌}
use native.Mathlib.Numerals.{add-one}
use lib.ListN.{length, get_or, take}
use lib.Seq.{take-suc}
use lib.Ieee.{Float}
use Rattle.geometry.specs.declared.rect.Rect.{Rect}
use Rattle.tree_state.specs.declared.Tree.{Tree}
use Rattle.tree_steps.specs.Commit.{Work, rework, rework_all, rects_in_front}
use Rattle.tree_rework.specs.preconditions.Fits.{Fits, Ready, from}

-- ---- the work, position by position

all_append : (k : Work) (l : List ℕ) (i : ℕ) → rework_all k (l ++ (i ∷ [])) ≡ rework (rework_all k l) i
unfolding rework_all
all_append k [] i = refl
all_append k (y ∷ l) i = all_append (rework k y) l i

all_next : (k : Work) (l : List ℕ) (j : ℕ) → j < length l → rework_all k (take (j + 1) l) ≡ rework (rework_all k (take j l)) (get_or l j 0)
all_next k l j h = rw (add-one j, take-suc l j 0 h) (all_append k (take j l) (get_or l j 0))

-- ---- what a turn, and what all turns so far, leave of a tree and the room

abbrev pub Leaves : (List Rect → Work) → Tree → List Float → List Float → ℕ → ℕ → Type 0
Leaves done t room room' count longer =
    ((ds : List Rect) → t ≡ (done ds).tree)
    × ((ds : List Rect) → count ≡ length ds → (longer ≡ length (done ds).damage)
    × ((before : List Float) → room ≡ rects_in_front ds before → room' ≡ rects_in_front (done ds).damage before))

abbrev pub done : List ℕ → ℕ → Tree → List Rect → Work
done visits j t ds = rework_all (from t ds) (take j visits)

pub record Inv (visits : List ℕ) (t t' : Tree) (room room' : List Float) (count longer j : ℕ) : Type 0 where
  pub long : length room' ≡ length room
  pub leaves : Leaves (done visits j t) t' room room' count longer

pub start : (visits : List ℕ) (t : Tree) (room : List Float) (count : ℕ) → Inv visits t t room room count count 0
unfolding rework_all
start visits t room count = record { long = refl; leaves = (λ ds. refl, λ ds e. (e, λ before h. h)) }

module _ {visits : List ℕ} {t t' : Tree} {room room' : List Float} {count longer j : ℕ} (I : Inv visits t t' room room' count longer j) (h : j < length visits) where
  same_work : (ds : List Rect) → from t' (done visits j t ds).damage ≡ done visits j t ds
  same_work ds = ap (λ (s : Tree). from s (done visits j t ds).damage) (I.leaves.0 ds)

  -- what the turn needs
  pub turn_fits : (ds : List Rect) → Ready t ds visits → Fits (from t' (done visits j t ds).damage) (get_or visits j 0)
  turn_fits ds R = rw (same_work ds) (R j h)

  -- one turn more
  pub next : (t'' : Tree) (room'' : List Float) (longer' : ℕ)
      → Leaves (λ (ds : List Rect). rework (from t' ds) (get_or visits j 0)) t'' room' room'' longer longer'
      → length room'' ≡ length room'
      → Inv visits t t'' room room'' count longer' (j + 1)
  next t'' room'' longer' turn l =
      let at = get_or visits j 0 in
      let step : (ds : List Rect) → rework (from t' (done visits j t ds).damage) at ≡ done visits (j + 1) t ds =
      λ ds. ap (λ (k : Work). rework k at) (same_work ds) ∙ sym (all_next (from t ds) visits j h) in
      record {
        long = l ∙ I.long;
        leaves = (
          λ ds. turn.0 (done visits j t ds).damage ∙ ap (λ (k : Work). k.tree) (step ds),
          λ ds e. let T = turn.1 (done visits j t ds).damage ((I.leaves.1 ds e).0) in (
            T.0 ∙ ap (λ (k : Work). length k.damage) (step ds),
            λ before s. T.1 before ((I.leaves.1 ds e).1 before s) ∙ ap (λ (k : Work). rects_in_front k.damage before) (step ds),
          ),
        );
      }
