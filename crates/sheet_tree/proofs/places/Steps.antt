-- What a good sheet, as it was read, gives each of its inserts. Assumes nothing.
use Rattle.std.specs.Prelude.{All}
use Prim.Native.Nat.{ℕ, suc, ◌+◌, ◌≤◌, ◌<◌}
use mathlib.Core.Path.{◌≡◌, refl, sym, ◌∙◌, subst}
use mathlib.Core.Bool.{true, ◌&&◌}
use mathlib.Core.List.{List, [], map}
use native.Mathlib.Omega.{arith}
use native.Mathlib.Numerals.{add-one}
use lib.IntN.{ℤ, pos, negsuc, nat_abs}
use lib.Signed.{le_z}
use lib.ListN.{length, take, get_or}
use lib.Seq.{length-take-le}
use borrow.Author.Tests.{leb-true}
use Rattle.std.proofs.lemmas.List.{get_or-map, length-map}
use Rattle.numbers.proofs.Bools.{clash, and_right}
use Rattle.geometry_clips.specs.declared.clip.Clip.{Clip}
use Rattle.tree_state.specs.declared.Tree.{Tree}
use Rattle.tree_steps.specs.Structure.{insert_tree}
use Rattle.tree_insert.specs.Insert.{Room}
use Rattle.sheet_format.specs.Lines.{items}
use Rattle.sheet_format.specs.declared.PlaceLine.{PlaceLine}
use Rattle.sheet_format.specs.declared.ClipLine.{ClipLine}
use Rattle.sheet_format.specs.declared.Parsed.{Parsed}
use Rattle.sheet_format.specs.Sheet.{place_of, clip_of, place_in_range, clip_in_range, parent_earlier, place_rule, clip_rule}
use Rattle.sheet_format.specs.Told.{place_numbers, clip_numbers, sheet_of}
use Rattle.sheet_calls.specs.Calls.{parent_at, local_of, clip_for}
use Rattle.sheet_calls.specs.Good.{Good, Fair}
use Rattle.sheet_calls.proofs.Inserts.{passes_at}
use Rattle.sheet_laws.specs.Built.{tree_up_to}
use Rattle.sheet_tree.proofs.places.Inserts.{room_up_to, one_more}

-- a parent's number
upward : (z : ℤ) (n : ℕ) → le_z (pos 0) z && le_z z (pos n) ≡ true → (z ≡ pos (nat_abs z)) × (nat_abs z ≤ n)
upward (pos k) n h = (refl, leb-true k n (and_right (le_z (pos 0) (pos k)) (le_z (pos k) (pos n)) h))
upward (negsuc k) n h = clash (sym h)

parent_told : (before : List (List ℤ)) (p : PlaceLine) → parent_earlier before p ≡ true → (p.parent ≡ pos (nat_abs p.parent)) × (nat_abs p.parent ≤ length before)
unfolding parent_earlier
parent_told before p h = upward p.parent (length before) h

module _ (s : Parsed) (g : Good (sheet_of s)) where
  rows : List (List ℤ)
  rows = map place_numbers (items s.places)

  abbrev pub clip_rows : List (List ℤ)
  clip_rows = map clip_numbers (items s.clips)

  many : length rows ≡ length (items s.places)
  unfolding rows
  many = length-map (items s.places) place_numbers

  pub few_places : length (items s.places) ≤ 256
  unfolding rows
  few_places = omega (arith, g.few_places, many)

  pub clips_ranged : All (λ (c : ClipLine). clip_in_range c ≡ true) (items s.clips)
  unfolding rows clip_of
  clips_ranged i d h =
      let f = passes_at (clip_rule (length rows)) [] clip_rows g.clips i (omega (arith, h, length-map (items s.clips) clip_numbers)) in
      subst (λ (r : List ℤ). clip_in_range (clip_of r) ≡ true) (get_or-map clip_numbers (items s.clips) i d [] h) f.ranged

  module _ (i : ℕ) (h : i < length (items s.places)) (d : PlaceLine) where
    abbrev p : PlaceLine
    p = get_or (items s.places) i d

    here : get_or rows i [] ≡ place_numbers p
    unfolding rows
    here = get_or-map place_numbers (items s.places) i d [] h

    low : i < length rows
    low = omega (arith, h, many)

    row : Fair place_rule (take i rows) (place_numbers p)
    unfolding rows
    row = subst (Fair place_rule (take i rows)) here (passes_at place_rule [] rows g.places i low)

    pub place_ranged : place_in_range p ≡ true
    unfolding place_of
    place_ranged = row.ranged

    told : (p.parent ≡ pos (nat_abs p.parent)) × (nat_abs p.parent ≤ length (take i rows))
    unfolding place_of
    told = parent_told (take i rows) p row.fitting

    pub parent_whole : p.parent ≡ pos (nat_abs p.parent)
    parent_whole = told.0

    pub parent_low : nat_abs p.parent ≤ 256
    parent_low = omega (arith, told.1, length-take-le i rows (omega (arith, low)), h, few_places)

    -- there is room for it
    pub place_room : (t : Tree) → t ≡ tree_up_to (sheet_of s) i → Room t (parent_at (nat_abs p.parent))
    unfolding rows place_of
    place_room t e =
        rw e
        (subst (λ (r : List ℤ). Room (tree_up_to (sheet_of s) i) (parent_at (nat_abs (place_of r).parent))) here (room_up_to (sheet_of s) g i low))

    -- and it leaves the tree of one place more
    pub place_next : (t u : Tree) (own : Clip) → t ≡ tree_up_to (sheet_of s) i → own ≡ clip_for clip_rows (i + 1)
        → u ≡ insert_tree t (parent_at (nat_abs p.parent)) (local_of p own) → u ≡ tree_up_to (sheet_of s) (i + 1)
    unfolding rows place_of
    place_next t u own e f k =
        let next = subst (λ (r : List ℤ). tree_up_to (sheet_of s) (suc i) ≡ insert_tree (tree_up_to (sheet_of s) i) (parent_at (nat_abs (place_of r).parent)) (local_of (place_of r) (clip_for clip_rows (suc i)))) here (one_more (sheet_of s) g i low) in
        k ∙ rw (e, f, add-one i) (sym next)
