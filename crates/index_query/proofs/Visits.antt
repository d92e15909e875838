-- The loop over the slots: one more entry in front of the room, or none.
use mathlib.Core.Path.{◌≡◌, refl, sym, ap, ◌∙◌}
use mathlib.Core.Bool.{Bool, true, false, ◌&&◌, cond}
use mathlib.Core.List.{List, [], ◌∷◌, ◌++◌}
use Prim.Native.Nat.{ℕ, zero, suc, ◌+◌, ◌*◌, ◌≤◌, ◌<◌}
use native.Mathlib.Nat.{mul-suc}
use native.Mathlib.Numerals.{add-one}
use native.Mathlib.Omega.{arith}
use lib.ListN.{length, drop, length-append, length-drop}
use lib.Seq.{sets-eq, take_at, drop_at, drop-drop}
use lib.Ieee.{Float, le}
use Rattle.index_types.specs.declared.Aabb2D.{Aabb2D}
use Rattle.index_types.specs.Boxes.{aabb, overlaps, contains_point}
use Rattle.index_types.specs.rooms.Stride.{store}
use Rattle.index_types.specs.declared.Index.{Index}
use Rattle.index_types.specs.Slots.{entry, stored}
use Rattle.index_query.specs.Query.{visits, visits_point, slots, words, entries, entries_in_front}

-- ---- slots

pub slots_next : (n : ℕ) (p : ℕ → Bool) → slots (n + 1) p ≡ slots n p ++ cond (p n) (n ∷ []) []
unfolding slots
slots_next n p = rw (add-one n)

pub slots_same : (n : ℕ) (p q : ℕ → Bool) → ((x : ℕ) → p x ≡ q x) → slots n p ≡ slots n q
unfolding slots
slots_same zero p q h = refl
slots_same (suc n) p q h = rw (slots_same n p q h, h n)

append_none : (l : List ℕ) → l ++ [] ≡ l
append_none [] = refl
append_none (x ∷ l) = ap (λ (t : List ℕ). x ∷ t) (append_none l)

-- ---- a point is a rectangle of no size

regroup : (a b c d : Bool) → a && b && (c && d) ≡ a && c && (b && d)
regroup true true true d = refl
regroup true true false d = refl
regroup true false true d = refl
regroup true false false d = refl
regroup false b c d = refl

pub point_rect : (b : Aabb2D) (x y : Float) → contains_point b x y ≡ overlaps b (aabb x y x y)
unfolding contains_point overlaps
point_rect b x y = regroup (le b.min_x x) (le b.min_y y) (le x b.max_x) (le y b.max_y)

pub point_slots_lem : (ix : Index) (x y : Float) → slots 512 (visits ix (aabb x y x y)) ≡ slots 512 (visits_point ix x y)
point_slots_lem ix x y = slots_same 512 _ _ (λ s. rw (point_rect (stored ix s).aabb x y))

-- ---- entries

module _ (ix : Index) where
  pub entries_length : (xs : List ℕ) → length (entries ix xs) ≡ 4 * length xs
  unfolding entries
  entries_length [] = refl
  entries_length (x ∷ xs) = rw (length-append (words x (entry ix x)) (entries ix xs), entries_length xs, mul-suc 4 (length xs)) (omega arith)

  entries_append : (xs : List ℕ) (x : ℕ) → entries ix (xs ++ (x ∷ [])) ≡ entries ix xs ++ words x (entry ix x)
  unfolding entries
  entries_append [] x = refl
  entries_append (y ∷ xs) x = rw (entries_append xs x)

  front_one : (xs : List ℕ) (room : List ℕ) (x : ℕ) → 4 * length xs + 4 ≤ length room
      → store 4 (entries_in_front (entries ix xs) room) (length xs) (words x (entry ix x)) ≡ entries_in_front (entries ix (xs ++ (x ∷ []))) room
  front_one xs room x h =
      let es = entries ix xs in
      let ws = words x (entry ix x) in
      let n = 4 * length xs in
      let el : length es ≡ n = entries_length xs in
      let l = es ++ drop n room in
      let long : n + 4 ≤ length l = rw (length-append es (drop n room), el, length-drop n room) (omega arith) in
      let more : length (es ++ ws) ≡ n + 4 = rw (length-append es ws, el) in
      rw (el, sets-eq ws l n long, take_at es (drop n room) n el, ← drop-drop 4 n l, drop_at es (drop n room) n el, drop-drop 4 n room, entries_append xs x, more)

  -- one more slot is looked at
  pub record Listed (p : ℕ → Bool) (room₀ room : List ℕ) (n x : ℕ) : Type 0 where
    pub lies : room ≡ entries_in_front (entries ix (slots x p)) room₀
    pub many : n ≡ length (slots x p)
    pub few : n ≤ x

  module _ (p : ℕ → Bool) (room₀ room : List ℕ) (n x : ℕ) (L : Listed p room₀ room n x) where
    -- it is listed
    pub listed_next : (room' : List ℕ) → x < 512 → 2048 ≤ length room₀ → p x ≡ true → room' ≡ store 4 room n (words x (entry ix x)) → Listed p room₀ room' (n + 1) (x + 1)
    listed_next room' h l e r =
        let s : slots (x + 1) p ≡ slots x p ++ (x ∷ []) = rw (slots_next x p, e) in
        let f = L.few in
        let m = L.many in
        record {
          lies = r ∙ rw (L.lies, L.many, s) (front_one (slots x p) room₀ x (omega arith));
          many = rw (L.many, s) (sym (length-append (slots x p) (x ∷ [])));
          few = omega arith;
        }

    -- it is not
    pub listed_past : p x ≡ false → Listed p room₀ room n (x + 1)
    listed_past e =
        let s : slots (x + 1) p ≡ slots x p = rw (slots_next x p, e) (append_none (slots x p)) in
        let f = L.few in
        record { lies = rw s L.lies; many = rw s L.many; few = omega arith }

  -- nothing is looked at yet
  pub listed_none : (p : ℕ → Bool) (room : List ℕ) → Listed p room room 0 0
  unfolding slots entries
  listed_none p room = record { lies = refl; many = refl; few = omega arith }
