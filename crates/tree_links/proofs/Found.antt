-- The children's ids in front of lent room: one more at a time, and what is found in the table.
use Rattle.std.proofs.Common.{◌≡◌, sym, ◌∙◌, Bool, true, false, List, [], ◌∷◌, ◌++◌, map, ℕ, zero, suc, ◌+◌, ◌-◌, ◌*◌, ◌≤◌, ◌<◌, add-one, arith, eqb, length, get_or, take, drop}
use Rattle.std.proofs.lemmas.List.{map-append, length-map}
use lib.Seq.{take-suc, take_at, length-take-le, get_or-take, get_or-drop}
use Rattle.index_types.specs.rooms.Tables.{put_id}
use Rattle.index_types.proofs.rooms.Rooms.{front_one, front_none}
use Rattle.link_forest.specs.Table.{at_depth}
use Rattle.link_table.specs.Links.{between, in_front}
use Rattle.tree_state.specs.declared.Tree.{Tree}
use Rattle.tree_state.specs.Tree.{id_at}
use Rattle.tree_steps.specs.Requests.{ids_in_front}

-- ---- the loop

module _ (t : Tree) (slots room₀ : List ℕ) where
  abbrev pub front : ℕ → List ℕ
  front i = ids_in_front (map (id_at t) (take i slots)) room₀

  pub front_start : room₀ ≡ front 0
  front_start = sym (front_none room₀)

  pub front_next : (i : ℕ) → i < length slots → 2 * i + 2 ≤ length room₀ → put_id (front i) i (id_at t (get_or slots i 0)) ≡ front (i + 1)
  front_next i h l =
      let those = map (id_at t) (take i slots) in
      let m : length those ≡ i = length-map (take i slots) (id_at t) ∙ length-take-le i slots (omega arith) in
      let more : map (id_at t) (take (i + 1) slots) ≡ those ++ (id_at t (get_or slots i 0) ∷ []) =
      rw (add-one i, take-suc slots i 0 h) (map-append (id_at t) (take i slots) (get_or slots i 0 ∷ [])) in
      let one = front_one those room₀ (omega (arith, m)) (id_at t (get_or slots i 0)) in
      rw more (rw m at one)

-- ---- what the table has at a depth

abbrev pub Lows : List ℕ → Type 0
Lows l = (j : ℕ) → j < length l → get_or l j 0 < 256

lows_head : (x : ℕ) (l : List ℕ) → Lows (x ∷ l) → x < 256
lows_head x l h = h 0 (omega arith)

lows_tail : (x : ℕ) (l : List ℕ) → Lows (x ∷ l) → Lows l
lows_tail x l h j k = h (suc j) (omega arith)

lows_cons : (x : ℕ) (l : List ℕ) → x < 256 → Lows l → Lows (x ∷ l)
lows_cons x l a h zero k = a
lows_cons x l a h (suc j) k = h j (omega arith)

at_depth_lows : (k : ℕ) (xs ds : List ℕ) → Lows xs → Lows (at_depth k xs ds)
unfolding at_depth
at_depth_lows k [] ds h = λ j l. absurd (omega arith)
at_depth_lows k (x ∷ xs) [] h = λ j l. absurd (omega arith)
at_depth_lows k (x ∷ xs) (d ∷ ds) h = by_case (eqb d k) (at_depth_lows k xs ds (lows_tail x xs h))
  where
    by_case : (b : Bool) → Lows (at_depth k xs ds) → Lows (elim b [ true ↦ x ∷ at_depth k xs ds | false ↦ at_depth k xs ds ])
    by_case true r = lows_cons x (at_depth k xs ds) (lows_head x xs h) r
    by_case false r = r

part_lows : (order : List ℕ) (i e : ℕ) → ((j : ℕ) → j < e → get_or order j 0 < 256) → Lows (between i e order)
part_lows order i e h j k =
    let s : j < e - i = omega (arith, length_take_short (e - i) (drop i order)) in
    rw (get_or-take (e - i) (drop i order) j 0 s, get_or-drop i order j 0) (h (i + j) (omega arith))
  where
    length_take_short : (m : ℕ) (a : List ℕ) → length (take m a) ≤ m
    length_take_short zero a = omega arith
    length_take_short (suc m) [] = omega arith
    length_take_short (suc m) (x ∷ a) = omega (arith, length_take_short m a)

pub below_low : (order depth : List ℕ) (i e k : ℕ) → ((j : ℕ) → j < e → get_or order j 0 < 256) → Lows (at_depth k (between i e order) (between i e depth))
below_low order depth i e k h = at_depth_lows k (between i e order) (between i e depth) (part_lows order i e h)

-- found slots in front of an array
pub found_take : (l out out' : List ℕ) (m : ℕ) → m ≡ length l → out' ≡ in_front l out → take m out' ≡ l
found_take l out out' m many lie = rw lie (take_at l (drop (length l) out) m (sym many))
