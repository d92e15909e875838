-- What a sheet prints is short: a place hit and a depth are at most 256, a refusal's line is within the sheet's lines. Assumes nothing.
use Prim.Native.Nat.{ℕ, zero, suc, ◌+◌, ◌≤◌, ◌<◌}
use mathlib.Core.Path.{◌≡◌, refl, sym, ap, ◌∙◌, subst}
use mathlib.Core.Bool.{Bool, true, false, cond}
use mathlib.Core.List.{List, [], ◌∷◌, ◌++◌, map}
use native.Mathlib.Omega.{arith}
use lib.IntN.{ℤ}
use lib.ListN.{length, get_or, take, length-map, length-reverse}
use lib.Seq.{take-length}
use Rattle.geometry.specs.declared.point.Point.{Point}
use Rattle.tree_types.specs.declared.NodeFlags.{NodeFlags}
use Rattle.link_forest.specs.Forest.{pre, has, above, path, depth}
use Rattle.link_forest.proofs.Laws.{place_there, slot_has, depth_small}
use Rattle.plan.specs.Lists.{keep}
use Rattle.plan.specs.Plan.{Plan, empty, id_of}
use Rattle.plan.specs.Visits.{committed}
use Rattle.plan.specs.Afresh as afresh
use Rattle.plan.specs.Afresh.{Hit, better, largest, larger, candidate, tap, redact}
use Rattle.plan.specs.Calls.{step}
use Rattle.plan.specs.Demand.{run}
use Rattle.sheet_format.specs.declared.TapLine.{TapLine}
use lib.Dec.{ltb}
use Rattle.sheet_lines.specs.Lines.{Numbers, malformed, numbers, fields, Cut, without, line, cut}
use Rattle.sheet_format.specs.Sheet.{most_places, most_taps, Rule, Judged, bad, good, judge_numbers, judge, Section, stopped, ended, on_judged, on_line, section, then_section, count_rule, count_on, counted, place_rule, clip_rule, tap_rule, Sheet, refused, sheet, then_read, at_end, read_sheet}
use Rattle.sheet_calls.specs.Calls.{inserts_from}
use Rattle.sheet_calls.specs.Answers.{plan_of, tap_on, asked_of, point_of, place_hit, depth_hit}
use Rattle.sheet_calls.specs.Good.{Good}
use Rattle.sheet_calls.proofs.Accepted.{counted_rows, count_few}
use Rattle.sheet_calls.proofs.Inserts.{Grown, grown_after, plan_committed}

-- ---- the node hit is one of the nodes

All : (ℕ → Type 0) → List ℕ → Type 0
All P [] = Unit {0}
All P (x ∷ xs) = P x × All P xs

all_of : (P : ℕ → Type 0) (xs : List ℕ) → ((j : ℕ) → j < length xs → P (get_or xs j 0)) → All P xs
unfolding All
all_of P [] h = tt
all_of P (x ∷ xs) h = (h 0 (omega arith), all_of P xs (λ j l. h (suc j) (omega arith)))

all_keep : (P : ℕ → Type 0) (t : ℕ → Bool) (xs : List ℕ) → All P xs → All P (keep t xs)
unfolding All keep
all_keep P t [] h = tt
all_keep P t (x ∷ xs) h = go (t x) (all_keep P t xs h.1)
  where
    go : (b : Bool) → All P (keep t xs) → All P (cond b (x ∷ keep t xs) (keep t xs))
    go true later = (h.0, later)
    go false later = later

HitOf : (ℕ → Type 0) → Hit → Type 0
HitOf P Hit.nothing = Unit {0}
HitOf P (Hit.node x) = P x

all_largest : (P : ℕ → Type 0) (p : Plan) (xs : List ℕ) → All P xs → HitOf P (largest p xs)
unfolding All largest HitOf
all_largest P p [] h = tt
all_largest P p (x ∷ xs) h = go (largest p xs) (all_largest P p xs h.1)
  where
    pick : (y : ℕ) (b : Bool) → P y → P (cond b x y)
    pick y true q = h.0
    pick y false q = q

    go : (best : Hit) → HitOf P best → HitOf P (better p x best)
    go Hit.nothing q = h.0
    go (Hit.node y) q = pick y (larger p x y) q

-- ---- so its place and depth are small

module _ (p : Plan) (low : (x : ℕ) → has x p.links ≡ true → x < 256) (few : length (pre p.links) ≤ 256) where
  depth_low : (x : ℕ) → has x p.links ≡ true → length (map (id_of p) (path x p.links)) ≤ 256
  depth_low x h =
      let e : length (map (id_of p) (path x p.links)) ≡ depth x p.links = length-map (path x p.links) (id_of p) ∙ length-reverse (x ∷ above x p.links) in
      omega (arith, e, depth_small x p.links h, place_there x p.links h)

  hit_low : (best : Hit) → HitOf (λ x. has x p.links ≡ true) best → (place_hit (afresh.tap_of p best) ≤ 256) × (depth_hit (afresh.tap_of p best) ≤ 256)
  unfolding HitOf
  hit_low Hit.nothing h = (omega arith, omega arith)
  hit_low (Hit.node x) h = (omega (arith, low x h), depth_low x h)

  pub tap_low : (asked : NodeFlags) (pt : Point) → (place_hit (tap p asked pt) ≤ 256) × (depth_hit (tap p asked pt) ≤ 256)
  unfolding tap
  tap_low asked pt =
      let P : ℕ → Type 0 = λ x. has x p.links ≡ true in
      let xs = keep (candidate p asked pt) (pre p.links) in
      hit_low (largest p xs) (all_largest P p xs (all_keep P (candidate p asked pt) (pre p.links) (all_of P (pre p.links) (slot_has p.links))))

-- of a good sheet
pub tap_short : (s : Sheet) → Good s → (t : TapLine) → (place_hit (tap_on (plan_of s) t) ≤ 256) × (depth_hit (tap_on (plan_of s) t) ≤ 256)
unfolding tap_on redact committed
tap_short s g t =
    let n = length s.places in
    let inserts = inserts_from s.clips 1 s.places in
    let all : inserts_from s.clips 1 (take n s.places) ≡ inserts = ap (inserts_from s.clips 1) (take-length s.places) in
    let G : Grown n (run step empty inserts) = subst (λ (l : List _). Grown n (run step empty l)) all (grown_after s g n (omega arith)) in
    let q = redact (asked_of t) (committed (run step empty inserts)) in
    subst (λ (p : Plan). (place_hit (tap (redact (asked_of t) p) (asked_of t) (point_of t)) ≤ 256) × (depth_hit (tap (redact (asked_of t) p) (asked_of t) (point_of t)) ≤ 256)) (sym (plan_committed s))
    (tap_low q (λ x h. omega (arith, G.only x h, g.few_places)) (omega (arith, G.many, g.few_places)) (asked_of t) (point_of t))

-- ---- a refusal's number and line

pub record Small (r at most : ℕ) : Type 0 where
  pub number : r ≤ 24
  pub line : at ≤ most

stopped_same : {r q at n : ℕ} → stopped r at ≡ stopped q n → (r ≡ q) × (at ≡ n)
stopped_same e = (cc, cc)

refused_same : {r q at n : ℕ} → refused r at ≡ refused q n → (r ≡ q) × (at ≡ n)
refused_same e = (cc, cc)

ended_apart : {A : Type 0} {r at : ℕ} {l : List (List ℤ)} {s : List ℕ} → ended l s ≡ stopped r at → A
ended_apart e = let z : ◌≡◌ {A = ℕ} 0 1 = cc in absurd (omega arith)

sheet_apart : {A : Type 0} {r at : ℕ} {w : Sheet} → sheet w ≡ refused r at → A
sheet_apart e = let z : ◌≡◌ {A = ℕ} 0 1 = cc in absurd (omega arith)

small_at : (a b r at most : ℕ) → stopped a b ≡ stopped r at → a ≤ 24 → b ≤ most → Small r at most
small_at a b r at most e x y = let q = stopped_same e in record { number = omega (arith, q.0); line = omega (arith, q.1) }

bad_small : (rule : Rule) (before : List (List ℤ)) (ns : Numbers) (r : ℕ) → judge_numbers rule before ns ≡ bad r → r ≤ 24
bad_small rule before malformed r e = let q : 21 ≡ r = cc in omega arith
bad_small rule before (numbers zs) r e = go (rule.in_range zs) (rule.fitting before zs) e
  where
    go : (a b : Bool) → cond a (cond b (good zs) (bad 23)) (bad 22) ≡ bad r → r ≤ 24
    go true true q = let z : ◌≡◌ {A = ℕ} 0 1 = cc in absurd (omega arith)
    go true false q = let w : 23 ≡ r = cc in omega arith
    go false b q = let w : 22 ≡ r = cc in omega arith

section_small : (rule : Rule) (n : ℕ) (before : List (List ℤ)) (at : ℕ) (s : List ℕ) (r k most : ℕ) → section rule n before at s ≡ stopped r k → at + n ≤ suc most → Small r k most
unfolding section judge
section_small rule zero before at s r k most e h = ended_apart e
section_small rule (suc n) before at s r k most e h = on_cut (λ zs after q. section_small rule n (before ++ zs ∷ []) (suc at) after r k most q (omega arith)) (cut s) e
  where
    Later : Type 0
    Later = (zs : List ℤ) (after : List ℕ) → section rule n (before ++ zs ∷ []) (suc at) after ≡ stopped r k → Small r k most

    on_bad : Later → (l after : List ℕ) (j : Judged) → judge rule before l ≡ j → on_judged at (λ zs. section rule n (before ++ zs ∷ []) (suc at) after) j ≡ stopped r k → Small r k most
    on_bad later l after (bad q) w f = small_at q at r k most f (bad_small rule before (fields rule.width l) q w) (omega arith)
    on_bad later l after (good zs) w f = later zs after f

    on_cut : Later → (c : Cut) → on_line rule before at (λ zs after. section rule n (before ++ zs ∷ []) (suc at) after) c ≡ stopped r k → Small r k most
    on_cut later without f = small_at 21 at r k most f (omega arith) (omega arith)
    on_cut later (line l after) f = on_bad later l after (judge rule before l) refl f

counted_small : (rule : Rule) (most at : ℕ) (s : List ℕ) (r k : ℕ) → counted rule most at s ≡ stopped r k → Small r k (at + most)
unfolding counted
counted_small rule most at s r k e = go (section (count_rule most) 1 [] at s) refl e
  where
    go : (c : Section) → section (count_rule most) 1 [] at s ≡ c → then_section c (λ l rest. section rule (count_on l) [] (suc at) rest) ≡ stopped r k → Small r k (at + most)
    go (stopped a b) w q =
        let f = stopped_same q in
        let z = section_small (count_rule most) 1 [] at s a b (at + most) w (omega arith) in
        record { number = omega (arith, z.number, f.0); line = omega (arith, z.line, f.1) }
    go (ended l rest) w q = section_small rule (count_on l) [] (suc at) rest r k (at + most) q (omega (arith, count_few most at s l rest w))

grow : (r at a b : ℕ) → a ≤ b → Small r at a → Small r at b
grow r at a b h z = record { number = z.number; line = omega (arith, z.line) }

-- a section that stops refuses the sheet by its own number and line
stop_small : (a b r at : ℕ) → refused a b ≡ refused r at → Small a b 9999 → Small r at 9999
stop_small a b r at e z = let q = refused_same e in record { number = omega (arith, q.0, z.number); line = omega (arith, q.1, z.line) }

pub refusal_small : (b : List ℕ) (r at : ℕ) → read_sheet b ≡ refused r at → Small r at 9999
unfolding read_sheet
refusal_small b r at e = short (ltb 65536 (length b)) e
  where
    Lines : Type 0
    Lines = List (List ℤ)

    last : (n : ℕ) (whole : Sheet) (rest : List ℕ) → n ≤ 9999 → at_end n whole rest ≡ refused r at → Small r at 9999
    last n whole [] h q = sheet_apart q
    last n whole (x ∷ rest) h q = stop_small 24 n r at q (record { number = omega arith; line = h })

    third : (places clips : Lines) (s₂ : List ℕ) → length places ≤ most_places → length clips ≤ most_places → (k : Section)
        → let m = length places + length clips in counted tap_rule most_taps (3 + m) s₂ ≡ k
        → then_read k (λ taps s₃. at_end (4 + m + length taps) (record { places = places; clips = clips; taps = taps }) s₃) ≡ refused r at → Small r at 9999
    third places clips s₂ p c (stopped a d) w q =
        let m = length places + length clips in
        stop_small a d r at q (grow a d (3 + m + most_taps) 9999 (omega arith) (counted_small tap_rule most_taps (3 + m) s₂ a d w))
    third places clips s₂ p c (ended taps s₃) w q =
        let m = length places + length clips in
        last (4 + m + length taps) (record { places = places; clips = clips; taps = taps }) s₃ (omega (arith, (counted_rows tap_rule most_taps (3 + m) s₂ taps s₃ w).few)) q

    second : (places : Lines) (s₁ : List ℕ) → length places ≤ most_places → (k : Section)
        → let n = length places in counted (clip_rule n) n (2 + n) s₁ ≡ k
        → then_read k (λ clips s₂. let m = n + length clips in then_read (counted tap_rule most_taps (3 + m) s₂) (λ taps s₃. at_end (4 + m + length taps) (record { places = places; clips = clips; taps = taps }) s₃)) ≡ refused r at → Small r at 9999
    second places s₁ p (stopped a d) w q =
        let n = length places in
        stop_small a d r at q (grow a d (2 + n + n) 9999 (omega arith) (counted_small (clip_rule n) n (2 + n) s₁ a d w))
    second places s₁ p (ended clips s₂) w q =
        let n = length places in
        third places clips s₂ p (omega (arith, (counted_rows (clip_rule n) n (2 + n) s₁ clips s₂ w).few)) (counted tap_rule most_taps (3 + (n + length clips)) s₂) refl q

    first : (k : Section) → counted place_rule most_places 1 b ≡ k
        → then_read k (λ places s₁. let n = length places in then_read (counted (clip_rule n) n (2 + n) s₁) (λ clips s₂. let m = n + length clips in then_read (counted tap_rule most_taps (3 + m) s₂) (λ taps s₃. at_end (4 + m + length taps) (record { places = places; clips = clips; taps = taps }) s₃))) ≡ refused r at → Small r at 9999
    first (stopped a d) w q = stop_small a d r at q (grow a d (1 + most_places) 9999 (omega arith) (counted_small place_rule most_places 1 b a d w))
    first (ended places s₁) w q =
        let n = length places in
        second places s₁ (counted_rows place_rule most_places 1 b places s₁ w).few (counted (clip_rule n) n (2 + n) s₁) refl q

    short : (k : Bool) → cond k (refused 20 0) (then_read (counted place_rule most_places 1 b) (λ places s₁. let n = length places in then_read (counted (clip_rule n) n (2 + n) s₁) (λ clips s₂. let m = n + length clips in then_read (counted tap_rule most_taps (3 + m) s₂) (λ taps s₃. at_end (4 + m + length taps) (record { places = places; clips = clips; taps = taps }) s₃)))) ≡ refused r at → Small r at 9999
    short true q = stop_small 20 0 r at q (record { number = omega arith; line = omega arith })
    short false q = first (counted place_rule most_places 1 b) refl q
