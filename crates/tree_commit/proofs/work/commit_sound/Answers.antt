use Prim.Native.Nat.{ℕ}
use mathlib.Core.Path.{◌≡◌, sym, ap, ◌∙◌}
use mathlib.Core.List.{List}
use native.Mathlib.Omega.{arith}
use lib.ListN.{length, replicate, take}
use Rattle.tree_steps.specs.Commit.{begun, visits_of, rework_all, rects_in_front}
use Rattle.tree_laws.proofs.Ground.{linked}
use Rattle.tree_invariant.proofs.commit.Keep.{begun_many}
use Rattle.tree_commit.proofs.work.Work.{worked, front_none, positions_are, positions_ready, front_same, finish_ready, damage_of, no_damage}
use Rattle.tree_commit.proofs.work.commit_sound.Goals as goal
use Rattle.tree_commit.proofs.work.commit_sound.Goals.{After-positions-n, After-rework_all-count}

pub returns-then-not-need-clause-room : goal.returns-then-not-need-clause-room
returns-then-not-need-clause-room c = rw (no_damage c.args.tree.now (sym c.needs_commit-need.ensures ∙ c.if-not-need.true)) (front_none c.args.room.now)

pub positions-n-requires : goal.positions-n-requires
positions-n-requires c = let H = c.requires.0 in linked c.args.tree.now H.whole H.sound

-- the positions in front of the list
listed : (c : After-positions-n) → take c.positions-n.result c.positions-n.new.visits ≡ visits_of c.args.tree.now
listed c = let n = c.positions-n in positions_are c.args.tree.now (replicate 256 0) n.new.visits n.result n.array_long n.ensures.room n.ensures.count.1

pub rework_all-count-requires : goal.rework_all-count-requires
rework_all-count-requires c =
    let H = c.requires.0 in
    let t = c.args.tree.now in
    let many = begun_many t H.whole H.sound in
    let long = front_same (begun t).damage c.args.room.now c.put_pending.new.room c.put_pending.ensures (omega (arith, many, H.sound.pending_fits, c.requires.1)) in
    let P = goal.at.rework_all-count-requires c in (
      omega (arith, long, c.requires.1),
      ((begun t).damage, sym many, positions_ready t _ H.whole H.sound (listed P.After-positions-n)),
    )

-- the reworked tree
reworked : (c : After-rework_all-count) → take c.positions-n.result c.positions-n.new.visits ≡ visits_of c.args.tree.now
    → c.rework_all-count.new.tree ≡ (worked c.args.tree.now).tree
reworked c e = let t = c.args.tree.now in c.rework_all-count.ensures.tree (begun t).damage ∙ ap (λ (l : List ℕ). (rework_all (begun t) l).tree) e

pub commit_index-requires : goal.commit_index-requires
commit_index-requires c =
    let H = c.requires.0 in
    let P = goal.at.commit_index-requires c in
    finish_ready c.args.tree.now c.rework_all-count.new.tree H.whole H.sound (reworked P.After-rework_all-count (listed P.After-positions-n))

pub returns-clause-count : goal.returns-clause-count
returns-clause-count c =
    let t = c.args.tree.now in
    let P = goal.at.returns-clause-count c in
    let many = let H = c.requires.0 in begun_many t H.whole H.sound in
    let D = c.rework_all-count.ensures.damage (begun t).damage (sym many) in
    rw (damage_of t (sym c.needs_commit-need.ensures ∙ c.if-not-need.false))
    (D.0 ∙ ap (λ (l : List ℕ). length (rework_all (begun t) l).damage) (listed P.After-positions-n))

pub returns-clause-room : goal.returns-clause-room
returns-clause-room c =
    let t = c.args.tree.now in
    let P = goal.at.returns-clause-room c in
    let many = let H = c.requires.0 in begun_many t H.whole H.sound in
    let D = c.rework_all-count.ensures.damage (begun t).damage (sym many) in
    rw (damage_of t (sym c.needs_commit-need.ensures ∙ c.if-not-need.false))
    (D.1 c.args.room.now c.put_pending.ensures ∙ ap (λ (l : List ℕ). rects_in_front (rework_all (begun t) l).damage c.args.room.now) (listed P.After-positions-n))
