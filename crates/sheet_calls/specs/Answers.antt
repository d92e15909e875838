-- What a sheet's taps answer, on the plain plan of its calls, redacted; and the text that the program prints: "the tap count, then per tap: tap
-- number, place hit or 0, depth or 0. A refused sheet prints one line only: `refused`, number and line".
use Rattle.std.specs.Prelude.{ℕ, zero, suc, ◌+◌, ◌/◌, ◌%◌, cond, List, [], ◌∷◌, ◌++◌, ltb, ℤ, nat_abs, length}
use Prim.Native.Char.{code}
use Prim.Native.String.{String, [] as end, ◌∷◌ as ◌then◌}
use Rattle.geometry.specs.declared.point.Point.{Point}
use Rattle.tree_types.specs.declared.NodeFlags.{NodeFlags}
use Rattle.tree_types.specs.Local.{flags}
use Rattle.plan.specs.Plan.{Plan, empty}
use Rattle.plan.specs.Calls as call
use Rattle.plan.specs.Afresh as afresh
use Rattle.plan.specs.Afresh.{Tap, tap, redact}
use Rattle.plan.specs.Demand.{run}
use Rattle.sheet_format.specs.declared.TapLine.{TapLine}
use Rattle.sheet_format.specs.Sheet.{Sheet, Read, refused, sheet, tap_of, read_sheet}
use Rattle.sheet_calls.specs.Calls.{real, calls_of}

-- ---- answers

unfoldable pub plan_of : Sheet → Plan
plan_of s = run call.step empty (calls_of s)

abbrev pub point_of : TapLine → Point
point_of t = record { x = real t.x; y = real t.y }

abbrev pub asked_of : TapLine → NodeFlags
asked_of t = flags (nat_abs t.flags)

unfoldable pub tap_on : Plan → TapLine → Tap
tap_on p t = tap (redact (asked_of t) p) (asked_of t) (point_of t)

-- "place hit or 0"
abbrev pub place_hit : Tap → ℕ
place_hit afresh.nothing = 0
place_hit (afresh.hit id path) = suc id.0

-- "depth or 0"
abbrev pub depth_hit : Tap → ℕ
depth_hit afresh.nothing = 0
depth_hit (afresh.hit id path) = length path

-- ---- text, in ASCII

abbrev pub bytes : String → List ℕ
bytes end = []
bytes (c then s) = code c ∷ bytes s

-- a number's decimal digits, at most k of them
unfoldable pub digits_up_to : ℕ → ℕ → List ℕ
digits_up_to zero n = []
digits_up_to (suc k) n = cond (ltb n 10) ((48 + n) ∷ []) (digits_up_to k (n / 10) ++ (48 + n % 10) ∷ [])

unfoldable pub decimal : ℕ → List ℕ
decimal n = digits_up_to (suc n) n

-- numbers, one space between, and LF
unfoldable pub line_of : List ℕ → List ℕ
line_of [] = 10 ∷ []
line_of (n ∷ []) = decimal n ++ 10 ∷ []
line_of (n ∷ (m ∷ ns)) = decimal n ++ 32 ∷ line_of (m ∷ ns)

-- the taps from number k on
unfoldable pub tap_lines : Plan → ℕ → List (List ℤ) → List ℕ
tap_lines p k [] = []
tap_lines p k (zs ∷ taps) =
    let hit = tap_on p (tap_of zs) in
    line_of (k ∷ place_hit hit ∷ depth_hit hit ∷ []) ++ tap_lines p (suc k) taps

unfoldable pub sheet_text : Sheet → List ℕ
sheet_text s = line_of (length s.taps ∷ []) ++ tap_lines (plan_of s) 1 s.taps

abbrev pub read_text : Read → List ℕ
read_text (refused number at) = bytes "refused " ++ line_of (number ∷ at ∷ [])
read_text (sheet s) = sheet_text s

-- what the program prints for the bytes that it reads
unfoldable pub output : List ℕ → List ℕ
output s = read_text (read_sheet s)
