-- On the plain plan every call of a good sheet is accepted, and place k is the node (k − 1, 1).
use Prim.Native.Nat.{ℕ, zero, suc, ◌+◌, ◌≤◌, ◌<◌}
use mathlib.Core.Path.{◌≡◌, refl, sym, ap, ap₂, ◌∙◌, subst}
use mathlib.Core.Bool.{Bool, true, false, ◌&&◌, cond}
use mathlib.Core.List.{List, [], ◌∷◌, ◌++◌, append-nil, append_assoc}
use native.Mathlib.Decide.{ℕ_discrete}
use native.Mathlib.Omega.{arith}
use lib.Dec.{eqb}
use lib.IntN.{ℤ, pos, negsuc, nat_abs}
use lib.Signed.{le_z}
use lib.ListN.{length, take, drop, get_or, length-append, length-replicate, take-append-drop}
use lib.Seq.{length-take-le, take-suc, take-length}
use borrow.Author.Tests.{eq-eqb, ne_eqb, lt-leb, leb-true}
use Rattle.numbers.specs.Rounded as fl
use Rattle.numbers.proofs.Bools.{clash, and_right}
use Rattle.tree_types.specs.declared.NodeFlags.{NodeFlags}
use Rattle.tree_types.specs.declared.LocalNode.{LocalNode}
use Rattle.tree_types.specs.Local.{known, finite_local}
use Rattle.link_forest.specs.Forest.{Forest, leaf, pre, has, either}
use Rattle.link_forest.proofs.Counting.{has_cat, has_under}
use Rattle.link_forest.proofs.Whole.{pre_cat}
use Rattle.link_forest.proofs.Laws.{end, pre_under}
use Rattle.plan.specs.Plan.{Plan, empty, nodes, full, parent_live, new_id, new_slot, inserted, onto, needs_commit}
use Rattle.plan.specs.Lists.{any}
use Rattle.plan.specs.Visits.{committed}
use Rattle.plan.specs.Calls as call
use Rattle.plan.specs.Calls.{Call, lowest, refusal, accepted, step, outcome}
use Rattle.plan.specs.Demand.{run, outcomes}
use Rattle.sheet_format.specs.declared.PlaceLine.{PlaceLine}
use Rattle.sheet_format.specs.Sheet.{Sheet, Rule, place_of, place_rule, parent_earlier, clip_rule}
use Rattle.sheet_calls.specs.Calls.{local_of, clip_for, parent_at, insert_of, inserts_from, room, calls_of, handed_out}
use Rattle.sheet_calls.specs.Answers.{plan_of}
use Rattle.sheet_calls.specs.Good.{Fair, Passes, Good}
use Rattle.sheet_calls.proofs.Finite.{place_ranges, clip_for_finite, local_finite, local_known}

-- ---- the plan after k inserts from empty

pub record Grown (k : ℕ) (p : Plan) : Type 0 where
  pub used : p.slots.used ≡ k
  pub free : p.slots.free ≡ []
  pub first : (x : ℕ) → x < k → p.slots.generation x ≡ 1
  pub there : (x : ℕ) → x < k → has x p.links ≡ true
  pub only : (x : ℕ) → has x p.links ≡ true → x < k
  pub many : length (nodes p) ≡ k

pub grown_empty : Grown 0 empty
unfolding pre has
grown_empty =
    record { used = refl; free = refl; first = λ x h. absurd (omega arith); there = λ x h. absurd (omega arith); only = λ x h. clash (sym h); many = refl }

module _ (k : ℕ) (p : Plan) (G : Grown k p) where
  pub new_slot_lem : new_slot p ≡ k
  new_slot_lem = rw G.free G.used

  pub new_id_lem : new_id p ≡ record { 0 = k; 1 = 1 }
  new_id_lem = rw (G.free, G.used)

  pub parent_there : (h : ℕ) → h ≤ k → parent_live p (parent_at h) ≡ true
  parent_there zero le = refl
  parent_there (suc h) le = rw (G.there h (omega arith), G.first h (omega arith))

  pub not_full : k < 256 → full p ≡ false
  not_full lt = lt-leb 256 (length (nodes p)) (omega (arith, G.many))

  -- an insert is accepted
  pub insert_accepted : (h : ℕ) (v : LocalNode) → h ≤ k → k < 256 → finite_local v ≡ true → known v.flags ≡ true → refusal p (call.insert (parent_at h) v) ≡ 0
  unfolding refusal lowest
  insert_accepted h v le lt f w = rw (parent_there h le, f, w, not_full lt)

-- ---- and leaves a plan of one more

has_leaf : (x y : ℕ) → x ≡ y → has x (leaf y) ≡ true
unfolding has
has_leaf x y e = rw (eq-eqb y x (sym e))

either_left : {a : Bool} (b : Bool) → a ≡ true → either a b ≡ true
either_left b e = rw e

either_right : (a : Bool) {b : Bool} → b ≡ true → either a b ≡ true
either_right true e = refl
either_right false e = e

-- what was there, and the new one
there_with : (x k s : ℕ) (f : Forest) → s ≡ k → x < suc k → (x < k → has x f ≡ true) → either (has x f) (has x (leaf s)) ≡ true
there_with x k s f e lt old =
    elim (ℕ_discrete x k) [
      | yes q ↦ either_right (has x f) (has_leaf x s (q ∙ sym e))
      | no n ↦ either_left (has x (leaf s)) (old (omega (arith, n)))
    ]

onto_there : (h x s k : ℕ) (f : Forest) → s ≡ k → h ≤ k → ((y : ℕ) → y < k → has y f ≡ true) → x < suc k → has x (onto (parent_at h) (leaf s) f) ≡ true
onto_there zero x s k f e le old lt = has_cat x f (leaf s) ∙ there_with x k s f e lt (old x)
onto_there (suc h) x s k f e le old lt = has_under x h (leaf s) f (old h (omega arith)) ∙ there_with x k s f e lt (old x)

leaf_has : (x y : ℕ) → has x (leaf y) ≡ true → x ≡ y
unfolding has
leaf_has x y e =
    elim (ℕ_discrete y x) [
      | yes q ↦ sym q
      | no n ↦ clash (sym (let f : either (eqb y x) (either false false) ≡ false = rw (ne_eqb y x n) in sym f ∙ e))
    ]

only_with : (x k s : ℕ) (f : Forest) → s ≡ k → ((y : ℕ) → has y f ≡ true → y < k) → either (has x f) (has x (leaf s)) ≡ true → x < suc k
only_with x k s f e old h = go (has x f) refl h
  where
    go : (b : Bool) → has x f ≡ b → either b (has x (leaf s)) ≡ true → x < suc k
    go true q r = omega (arith, old x q)
    go false q r = omega (arith, leaf_has x s r, e)

onto_only : (h x s k : ℕ) (f : Forest) → s ≡ k → h ≤ k → ((y : ℕ) → y < k → has y f ≡ true) → ((y : ℕ) → has y f ≡ true → y < k)
    → has x (onto (parent_at h) (leaf s) f) ≡ true → x < suc k
onto_only zero x s k f e le old low q = only_with x k s f e low (sym (has_cat x f (leaf s)) ∙ q)
onto_only (suc h) x s k f e le old low q = only_with x k s f e low (sym (has_under x h (leaf s) f (old h (omega arith))) ∙ q)

onto_many : (h s k : ℕ) (f : Forest) → h ≤ k → ((y : ℕ) → y < k → has y f ≡ true) → length (pre (onto (parent_at h) (leaf s) f)) ≡ suc (length (pre f))
unfolding pre
onto_many zero s k f le old = ap length (pre_cat f (leaf s)) ∙ simp length-append (omega arith)
onto_many (suc h) s k f le old =
    let e = end h f in
    let whole : length (take e (pre f)) + length (drop e (pre f)) ≡ length (pre f) = sym (length-append (take e (pre f)) (drop e (pre f))) ∙ ap length (take-append-drop e (pre f)) in
    ap length (pre_under h f (old h (omega arith)) (leaf s)) ∙ simp length-append (omega (arith, whole))

put_first : (g : ℕ → ℕ) (x s k : ℕ) → s ≡ k → x < suc k → (x < k → g x ≡ 1) → cond (eqb x s) 1 (g x) ≡ 1
put_first g x s k e lt old =
    elim (ℕ_discrete x s) [
      | yes q ↦ rw (eq-eqb x s q)
      | no n ↦ rw (ne_eqb x s n) (old (omega (arith, n, e)))
    ]

pub grown_insert : (k : ℕ) (p : Plan) (h : ℕ) (v : LocalNode) → Grown k p → h ≤ k → Grown (suc k) (inserted p (parent_at h) v)
unfolding inserted
grown_insert k p h v G le =
    record {
      used = rw G.free (ap suc G.used);
      free = rw G.free;
      first = λ x lt. rw G.free (put_first p.slots.generation x p.slots.used k G.used lt (G.first x));
      there = λ x lt. onto_there h x (new_slot p) k p.links (new_slot_lem k p G) le G.there lt;
      only = λ x q. onto_only h x (new_slot p) k p.links (new_slot_lem k p G) le G.there G.only q;
      many = onto_many h (new_slot p) k p.links le G.there ∙ ap suc G.many;
    }

-- ---- a row's insert

row_parent : (before : List (List ℤ)) (p : PlaceLine) → parent_earlier before p ≡ true → nat_abs p.parent ≤ length before
unfolding parent_earlier
row_parent before p h = go p.parent h
  where
    go : (z : ℤ) → le_z (pos 0) z && le_z z (pos (length before)) ≡ true → nat_abs z ≤ length before
    go (pos n) q = leb-true n (length before) (and_right (le_z (pos 0) (pos n)) (le_z (pos n) (pos (length before))) q)
    go (negsuc n) q = clash (sym q)

-- of clips that pass their rule
abbrev pub Clips : List (List ℤ) → Type 0
Clips clips = (n : ℕ) × Passes (clip_rule n) [] clips

module _ (clips : List (List ℤ)) (C : Clips clips) (k : ℕ) (p : Plan) (G : Grown k p) (before : List (List ℤ)) (b : length before ≡ k) (lt : k < 256) (row : List ℤ) (F : Fair place_rule before row) where
  le : nat_abs (place_of row).parent ≤ k
  le = omega (arith, row_parent before (place_of row) F.fitting)

  pub row_accepted : refusal p (insert_of clips (suc k) (place_of row)) ≡ 0
  unfolding insert_of
  row_accepted =
      let q = place_of row in
      let r = place_ranges q F.ranged in
      let c = clip_for clips (suc k) in
      insert_accepted k p G (nat_abs q.parent) (local_of q c) le lt (local_finite q c r (clip_for_finite C.0 [] clips C.1 (suc k))) (local_known q c r)

  pub row_step : step p (insert_of clips (suc k) (place_of row)) ≡ accepted p (insert_of clips (suc k) (place_of row))
  unfolding step
  row_step = rw row_accepted

  pub row_grown : Grown (suc k) (step p (insert_of clips (suc k) (place_of row)))
  unfolding insert_of accepted
  row_grown =
      let q = place_of row in
      subst (λ (z : Plan). Grown (suc k) z) (sym row_step) (grown_insert k p (nat_abs q.parent) (local_of q (clip_for clips (suc k))) G le)

  pub row_outcome : outcome p (insert_of clips (suc k) (place_of row)) ≡ record { refused = 0; told = call.id (record { 0 = k; 1 = 1 }) }
  unfolding outcome insert_of
  row_outcome = rw (row_accepted, new_id_lem k p G)

-- ---- every row in order

-- the first j rows leave a plan of j more
pub rows_grown : (clips : List (List ℤ)) → Clips clips → (k : ℕ) (p : Plan) → Grown k p → (before rows : List (List ℤ)) → length before ≡ k → k + length rows ≤ 256
    → Passes place_rule before rows → (j : ℕ) → j ≤ length rows → Grown (k + j) (run step p (inserts_from clips (suc k) (take j rows)))
unfolding run inserts_from Passes
rows_grown clips C k p G before rows b few P zero le = subst (λ (n : ℕ). Grown n p) (omega arith) G
rows_grown clips C k p G before [] b few P (suc j) le = absurd (omega arith)
rows_grown clips C k p G before (row ∷ rows) b few P (suc j) le =
    let c = insert_of clips (suc k) (place_of row) in
    subst (λ (n : ℕ). Grown n (run step (step p c) (inserts_from clips (suc (suc k)) (take j rows)))) (omega arith)
    (rows_grown clips C (suc k) (step p c) (row_grown clips C k p G before b (omega arith) row P.0) (before ++ row ∷ []) rows (simp length-append (omega arith)) (omega arith) P.1 j (omega arith))

-- a commit with room is never refused
pub room_long : length room ≡ 2048
unfolding room
room_long = length-replicate 2048 fl.zero

pub commit_accepted : (p : Plan) → refusal p (call.commit room) ≡ 0
unfolding refusal lowest
commit_accepted p = rw room_long

pub commit_outcome : (p : Plan) → outcome p (call.commit room) ≡ record { refused = 0; told = call.nothing }
unfolding outcome
commit_outcome p = rw (commit_accepted p)

pub calls_outcomes : (clips : List (List ℤ)) → Clips clips → (k : ℕ) (p : Plan) → Grown k p → (before rows : List (List ℤ)) → length before ≡ k → k + length rows ≤ 256
    → Passes place_rule before rows
    → outcomes step outcome p (inserts_from clips (suc k) rows ++ call.commit room ∷ []) ≡ handed_out k (length rows) ++ record { refused = 0; told = call.nothing } ∷ []
unfolding outcomes inserts_from handed_out Passes
calls_outcomes clips C k p G before [] b few P = rw (commit_outcome p)
calls_outcomes clips C k p G before (row ∷ rows) b few P =
    let c = insert_of clips (suc k) (place_of row) in
    ap₂ ◌∷◌ (row_outcome clips C k p G before b (omega arith) row P.0)
    (calls_outcomes clips C (suc k) (step p c) (row_grown clips C k p G before b (omega arith) row P.0) (before ++ row ∷ []) rows (simp length-append (omega arith)) (omega arith) P.1)

-- ---- a good sheet

-- each row, by its place in the section
pub passes_at : (rule : Rule) (before rows : List (List ℤ)) → Passes rule before rows → (j : ℕ) → j < length rows → Fair rule (before ++ take j rows) (get_or rows j [])
unfolding Passes
passes_at rule before [] P j lt = absurd (omega arith)
passes_at rule before (row ∷ rows) P zero lt = rw append-nil P.0
passes_at rule before (row ∷ rows) P (suc j) lt =
    subst (λ (l : List (List ℤ)). Fair rule l (get_or rows j [])) (append_assoc before (row ∷ []) (take j rows)) (passes_at rule (before ++ row ∷ []) rows P.1 j (omega arith))

-- calls one behind another
pub run_append : {S : Type 0} (f : S → Call → S) (s : S) (a b : List Call) → run f s (a ++ b) ≡ run f (run f s a) b
unfolding run
run_append f s [] b = refl
run_append f s (c ∷ a) b = run_append f (f s c) a b

pub inserts_append : (clips : List (List ℤ)) (k : ℕ) (a : List (List ℤ)) (row : List ℤ)
    → inserts_from clips k (a ++ row ∷ []) ≡ inserts_from clips k a ++ insert_of clips (k + length a) (place_of row) ∷ []
unfolding inserts_from
inserts_append clips k [] row = ap (λ (n : ℕ). insert_of clips n (place_of row) ∷ []) (omega arith)
inserts_append clips k (b ∷ a) row =
    ap (λ (l : List Call). insert_of clips k (place_of b) ∷ l)
    (inserts_append clips (suc k) a row ∙ ap (λ (n : ℕ). inserts_from clips (suc k) a ++ insert_of clips n (place_of row) ∷ []) (omega arith))

module _ (s : Sheet) (g : Good s) where
  -- the calls of the first j places
  abbrev pub first_calls : ℕ → List Call
  first_calls j = inserts_from s.clips 1 (take j s.places)

  clips_pass : Clips s.clips
  clips_pass = (length s.places, g.clips)

  pub grown_after : (j : ℕ) → j ≤ length s.places → Grown j (run step empty (first_calls j))
  grown_after j le = subst (λ (n : ℕ). Grown n (run step empty (first_calls j))) (omega arith) (rows_grown s.clips clips_pass 0 empty grown_empty [] s.places refl (omega (arith, g.few_places)) g.places j le)

  -- the call after them is accepted
  pub next_accepted : (j : ℕ) → j < length s.places → refusal (run step empty (first_calls j)) (insert_of s.clips (suc j) (place_of (get_or s.places j []))) ≡ 0
  next_accepted j lt =
      row_accepted s.clips clips_pass j (run step empty (first_calls j)) (grown_after j (omega arith)) (take j s.places) (length-take-le j s.places (omega arith)) (omega (arith, g.few_places))
      (get_or s.places j []) (passes_at place_rule [] s.places g.places j lt)

  pub next_calls : (j : ℕ) → j < length s.places → first_calls (suc j) ≡ first_calls j ++ insert_of s.clips (suc j) (place_of (get_or s.places j [])) ∷ []
  next_calls j lt =
      ap (inserts_from s.clips 1) (take-suc s.places j [] lt)
      ∙ inserts_append s.clips 1 (take j s.places) (get_or s.places j [])
      ∙ ap (λ (n : ℕ). first_calls j ++ insert_of s.clips n (place_of (get_or s.places j [])) ∷ []) (omega (arith, length-take-le j s.places (omega arith)))

  pub all_calls : calls_of s ≡ first_calls (length s.places) ++ call.commit room ∷ []
  unfolding calls_of
  all_calls = rw (take-length s.places)

  -- every call of the sheet is accepted, and place k is the node (k − 1, 1)
  pub sheet_outcomes : outcomes step outcome empty (calls_of s) ≡ handed_out 0 (length s.places) ++ record { refused = 0; told = call.nothing } ∷ []
  unfolding calls_of
  sheet_outcomes = calls_outcomes s.clips clips_pass 0 empty grown_empty [] s.places refl (omega (arith, g.few_places)) g.places

-- ---- after the commit

none_marked : (xs : List ℕ) → any (λ x. false) xs ≡ false
unfolding any
none_marked [] = refl
none_marked (x ∷ xs) = none_marked xs

pub committed_clean : (p : Plan) → needs_commit (committed p) ≡ false
unfolding needs_commit committed
committed_clean p = rw (none_marked (pre p.links))

pub commit_step : (p : Plan) → step p (call.commit room) ≡ committed p
unfolding step accepted
commit_step p = rw (commit_accepted p)

module _ (s : Sheet) where
  pub plan_committed : plan_of s ≡ committed (run step empty (inserts_from s.clips 1 s.places))
  unfolding plan_of calls_of run
  plan_committed = run_append step empty (inserts_from s.clips 1 s.places) (call.commit room ∷ []) ∙ commit_step (run step empty (inserts_from s.clips 1 s.places))

  -- any request for known flags is accepted then, with room for 256 ids
  pub request_accepted : (asked : NodeFlags) → known asked ≡ true → lowest (call.conditions_of_request (plan_of s) asked 512) ≡ 0
  unfolding lowest
  request_accepted asked h = rw (h, plan_committed, committed_clean (run step empty (inserts_from s.clips 1 s.places)))
