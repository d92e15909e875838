use Rattle.std.proofs.Common.{◌≡◌, ◌≤◌, ℤ, eqb, nat_abs, rules, tests, arith, w64, of_z, ◌∙◌}
use Rattle.std.specs.Ordering.{int_eq}
use Rattle.sheet_format.specs.Sheet.{equal}
use Rattle.sheet_format.proofs.Equal.{equal_is}
use Rattle.sheet_calls.specs.Calls as call
use Rattle.sheet_calls.proofs.Finite.{clip_ranges}
use Rattle.sheet_records.proofs.values.Signed.{back, fits_small}
use Rattle.sheet_records.proofs.clips.clip_on.Goals as goal

as_words : (a b : ℤ) → nat_abs a ≤ 9007199254740992 → nat_abs b ≤ 9007199254740992 → eqb (of_z w64 a) (of_z w64 b) ≡ equal a b
as_words a b f g = let p = fits_small a f in let q = fits_small b g in let e : eqb (of_z w64 a) (of_z w64 b) ≡ int_eq a b = search (rules, tests) in e ∙ equal_is a b

pub returns-then-c : goal.returns-then-c
unfolding call.clip_on
returns-then-c c =
    let l = c.args.c in
    let r = clip_ranges l c.requires in
    rw (← as_words l.x0 l.x1 (omega (arith, r.x0)) (omega (arith, r.x1)), ← as_words l.y0 l.y1 (omega (arith, r.y0)) (omega (arith, r.y1)), c.if-c.true)

pub returns : goal.returns
unfolding call.clip_on
returns c =
    let l = c.args.c in
    let r = clip_ranges l c.requires in
    rw (
      ← as_words l.x0 l.x1 (omega (arith, r.x0)) (omega (arith, r.x1)),
      ← as_words l.y0 l.y1 (omega (arith, r.y0)) (omega (arith, r.y1)),
      c.if-c.false,
      c.real-radius.ensures,
      c.real-y1.ensures,
      c.real-x1.ensures,
      c.real-y0.ensures,
      c.real-x0.ensures,
      back l.x0 (omega (arith, r.x0)),
      back l.x1 (omega (arith, r.x1)),
      back l.y0 (omega (arith, r.y0)),
      back l.y1 (omega (arith, r.y1)),
      back l.radius (omega (arith, r.radius)),
    )
