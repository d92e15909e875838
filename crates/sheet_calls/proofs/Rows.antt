-- Worked rows: document 01's example from its bytes to the bytes of its answer; orientations, corners and refusals.
use Prim.Native.Nat.{ℕ}
use mathlib.Core.Path.{◌≡◌, refl}
use mathlib.Core.List.{[]}
use lib.IntN.{ℤ, pos, neg_ℤ}
use lib.Ieee.{of_int}
use Rattle.plan.proofs.Rows as plan
use Rattle.geometry_clips.specs.declared.clip.Clip.TheVariants as clip
use Rattle.sheet_format.specs.declared.ClipLine.{ClipLine}
use Rattle.sheet_format.proofs.Rows as format
use Rattle.sheet_calls.specs.Calls as calls
use Rattle.sheet_calls.specs.Answers.{bytes, output, plan_of, tap_on, digits_up_to, decimal, line_of, tap_lines, sheet_text}

-- what the rows compute through
unfoldable pub computed : Unit {0}
unfolding plan.computed format.computed output plan_of tap_on digits_up_to decimal line_of tap_lines sheet_text calls.turns calls.orientation calls.clip_on
    calls.clip_for calls.local_of calls.insert_of calls.inserts_from calls.room calls.calls_of of_int
computed = tt

example : output (bytes "2\n0 0 0 0 0 0 100 100 0 0 3\n1 1 100 0 0 0 40 20 0 0 3\n0\n4\n90 10 3\n100 10 3\n80 10 3\n200 200 3\n") ≡ bytes "4\n1 2 2\n2 2 2\n3 1 1\n4 0 0\n"
unfolding computed
example = refl

-- ---- orientations 0 to 7: (a, b, c, d)

one : ℤ
one = pos 1

minus : ℤ
minus = neg_ℤ (pos 1)

none : ℤ
none = pos 0

linear : ℤ → ℤ → ℤ → ℤ → calls.Linear
linear a b c d = record { a = a; b = b; c = c; d = d }

orientations : (calls.orientation 0 ≡ linear one none none one)
    × (calls.orientation 1 ≡ linear none one minus none)
    × (calls.orientation 2 ≡ linear minus none none minus)
    × (calls.orientation 3 ≡ linear none minus one none)
    × (calls.orientation 4 ≡ linear minus none none one)
    × (calls.orientation 5 ≡ linear none minus minus none)
    × (calls.orientation 6 ≡ linear one none none minus)
    × (calls.orientation 7 ≡ linear none one one none)
unfolding linear one minus none calls.orientation calls.turns
orientations = (refl, refl, refl, refl, refl, refl, refl, refl)

-- ---- "A clip line whose two corners are equal stands for no clip"; equal x alone is a clip

cornered : ℕ → ℕ → ℕ → ℕ → ClipLine
cornered x0 y0 x1 y1 = record { place = pos 1; x0 = pos x0; y0 = pos y0; x1 = pos x1; y1 = pos y1; radius = pos 7 }

corners : (calls.clip_on (cornered 3 3 3 3) ≡ clip.None)
    × (calls.clip_on (cornered 3 0 3 9) ≡ clip.Rounded (calls.real (pos 3)) (calls.real (pos 0)) (calls.real (pos 3)) (calls.real (pos 9)) (calls.real (pos 7)) (calls.real (pos 7)) (calls.real (pos 7)) (calls.real (pos 7)))
unfolding cornered calls.clip_on
corners = (refl, refl)

-- ---- refused sheets: one line only

refusals : (output [] ≡ bytes "refused 21 1\n")
    × (output (bytes "0\n0\n0\nx") ≡ bytes "refused 24 4\n")
    × (output (bytes "257\n0\n0\n") ≡ bytes "refused 22 1\n")
    × (output (bytes "0\n0\n0\n") ≡ bytes "0\n")
unfolding computed
refusals = (refl, refl, refl, refl)
