use Rattle.std.proofs.Common.{◌≡◌, nat_abs, ap, ◌∙◌, arith, w64, to_z, of_z}
use Rattle.sheet_calls.specs.Calls as call
use Rattle.sheet_calls.proofs.Finite.{place_ranges}
use Rattle.sheet_records.specs.orientations.Turns as spec
use Rattle.sheet_records.proofs.values.Signed.{back, byte_near, level_near, level_same, word_same}
use Rattle.sheet_records.proofs.local_of.Goals as goal

pub small-k-requires : goal.small-k-requires
small-k-requires c = let r = place_ranges c.args.p c.requires in byte_near c.args.p.orientation r.turn r.orientation

pub level-z-requires : goal.level-z-requires
level-z-requires c = level_near c.args.p.level (place_ranges c.args.p c.requires).level

pub small-bits-requires : goal.small-bits-requires
small-bits-requires c = let r = place_ranges c.args.p c.requires in byte_near c.args.p.flags r.bits r.flags

pub returns : goal.returns
unfolding call.local_of
returns c =
    let p = c.args.p in
    let r = place_ranges p c.requires in
    let k = c.small-k in
    let m = c.orientation-m in
    let tf = c.shifted-tf in
    let turn : k.result ≡ nat_abs p.orientation = k.ensures ∙ ap nat_abs (back p.orientation (omega (arith, r.orientation))) in
    let coefficients : spec.linear m.result ≡ call.orientation (nat_abs p.orientation) = m.ensures ∙ ap call.orientation turn in
    let placed : tf.result ≡ call.shifted (call.orientation (nat_abs p.orientation)) p.x p.y =
    tf.ensures ∙ ap (λ (m : call.Linear). call.shifted m (to_z w64 (of_z w64 p.x)) (to_z w64 (of_z w64 p.y))) coefficients
    ∙ rw (back p.x (omega (arith, r.x)), back p.y (omega (arith, r.y))) in
    rw (
      c.small-bits.ensures,
      c.level-z.ensures,
      c.real-s.ensures,
      c.bounds-area.ensures,
      placed,
      back p.x0 (omega (arith, r.x0)),
      back p.y0 (omega (arith, r.y0)),
      back p.x1 (omega (arith, r.x1)),
      back p.y1 (omega (arith, r.y1)),
      back p.slop (omega (arith, r.slop)),
      level_same p.level r.level,
      word_same p.level r.level,
      back p.flags (omega (arith, r.flags)),
    )
