-- A turn of the loop that pushes positions.
use mathlib.Core.Path.{◌≡◌, sym, ◌∙◌}
use mathlib.Core.List.{List, [], ◌∷◌, ◌++◌, append_assoc, append-nil}
use Prim.Native.Nat.{ℕ, suc, ◌+◌, ◌-◌, ◌≤◌, ◌<◌}
use native.Mathlib.Numerals.{add-one}
use native.Mathlib.Omega.{arith}
use lib.ListN.{length, take, drop, set, take-append-drop}
use lib.Seq.{take-suc-set, length-take-le}
use Rattle.link_table.specs.Links.{in_front}
use Rattle.tree_steps.specs.Commit.{positions_from}

pub positions_cons : (i e : ℕ) → i < e → positions_from i (e - i) ≡ i ∷ positions_from (i + 1) (e - (i + 1))
unfolding positions_from
positions_cons i e h = let w : e - i ≡ suc (e - (i + 1)) = omega arith in rw (w, add-one i)

pub positions_none : (e : ℕ) → positions_from e (e - e) ≡ []
unfolding positions_from
positions_none e = let w : e - e ≡ 0 = omega arith in rw w

pub positions_one : (i : ℕ) → positions_from i (i + 1 - i) ≡ i ∷ []
unfolding positions_from
positions_one i = let w : i + 1 - i ≡ 1 = omega arith in rw w

pub push_on : (out g : List ℕ) (m i e : ℕ) → m < length out → i < e → take m out ++ positions_from i (e - i) ≡ g
    → take (m + 1) (set out m i) ++ positions_from (i + 1) (e - (i + 1)) ≡ g
push_on out g m i e l h is =
    rw (add-one m, take-suc-set out m i l) (append_assoc (take m out) (i ∷ []) (positions_from (i + 1) (e - (i + 1))) ∙ rw (positions_cons i e h) at is)

pub push_end : (out out₀ g : List ℕ) (m e : ℕ) → m ≤ length out → take m out ++ positions_from e (e - e) ≡ g → drop m out ≡ drop m out₀ → out ≡ in_front g out₀
push_end out out₀ g m e h is rest =
    let w : take m out ≡ g = sym (append-nil (take m out)) ∙ rw (positions_none e) at is in
    let l : length g ≡ m = rw (← w) (length-take-le m out h) in
    sym (take-append-drop m out) ∙ rw (w, rest, l)
