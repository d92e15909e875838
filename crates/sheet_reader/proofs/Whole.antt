-- The sheet from its sections. Assumes nothing.
use mathlib.Core.Path.{◌≡◌, refl}
use mathlib.Core.List.{List, [], ◌∷◌}
use Prim.Native.Nat.{ℕ, ◌+◌, ◌≤◌, ◌<◌}
use native.Mathlib.Omega.{arith}
use borrow.Author.Tests.{lt-ltb, le-ltb}
use lib.IntN.{ℤ}
use lib.ListN.{length}
use Rattle.sheet_format.specs.Sheet.{most_places, most_taps, stopped, ended, place_rule, clip_rule, tap_rule, counted, Sheet, refused, sheet, at_end, read_sheet}

pub too_long : (s : List ℕ) → 65536 < length s → refused 20 0 ≡ read_sheet s
unfolding read_sheet
too_long s h = rw (lt-ltb 65536 (length s) h)

some_left : (line : ℕ) (whole : Sheet) (s : List ℕ) → 0 < length s → refused 24 line ≡ at_end line whole s
some_left line whole [] h = absurd (omega arith)
some_left line whole (b ∷ s) h = refl

none_left : (line : ℕ) (whole : Sheet) (s : List ℕ) → length s ≤ 0 → sheet whole ≡ at_end line whole s
none_left line whole [] h = refl
none_left line whole (b ∷ s) h = absurd (omega arith)

module _ (s : List ℕ) (h : length s ≤ 65536) where
  pub places_stop : (r l : ℕ) → stopped r l ≡ counted place_rule most_places 1 s → refused r l ≡ read_sheet s
  unfolding read_sheet
  places_stop r l e = rw (le-ltb 65536 (length s) h, ← e)

  module _ (P : List (List ℤ)) (s₁ : List ℕ) (e₁ : ended P s₁ ≡ counted place_rule most_places 1 s) (n : ℕ) (p : length P ≡ n) where
    pub clips_stop : (r l : ℕ) → stopped r l ≡ counted (clip_rule n) n (2 + n) s₁ → refused r l ≡ read_sheet s
    unfolding read_sheet
    clips_stop r l e = rw (le-ltb 65536 (length s) h, ← e₁, p, ← e)

    module _ (C : List (List ℤ)) (s₂ : List ℕ) (e₂ : ended C s₂ ≡ counted (clip_rule n) n (2 + n) s₁) (m : ℕ) (q : n + length C ≡ m) where
      pub taps_stop : (r l : ℕ) → stopped r l ≡ counted tap_rule most_taps (3 + m) s₂ → refused r l ≡ read_sheet s
      unfolding read_sheet
      taps_stop r l e = rw (le-ltb 65536 (length s) h, ← e₁, p, ← e₂, q, ← e)

      module _ (U : List (List ℤ)) (s₃ : List ℕ) (e₃ : ended U s₃ ≡ counted tap_rule most_taps (3 + m) s₂) (k : ℕ) (u : length U ≡ k) where
        pub trailing : 0 < length s₃ → refused 24 (4 + m + k) ≡ read_sheet s
        unfolding read_sheet
        trailing l = rw (le-ltb 65536 (length s) h, ← e₁, p, ← e₂, q, ← e₃, u) (some_left (4 + m + k) _ s₃ l)

        pub whole : length s₃ ≤ 0 → sheet (record { places = P; clips = C; taps = U }) ≡ read_sheet s
        unfolding read_sheet
        whole l = rw (le-ltb 65536 (length s) h, ← e₁, p, ← e₂, q, ← e₃, u) (none_left (4 + m + k) _ s₃ l)
