use Rattle.std.proofs.Common.{◌≡◌, ◌+◌, Err, map, length, refl, ◌∙◌, sym, ap, arith, rules}
use Rattle.std.proofs.lemmas.List.{length-map}
use Rattle.sheet_format.specs.Told.{number_of, place_numbers, clip_numbers, tap_numbers}
use Rattle.sheet_format.specs.Lines.{items}
use Rattle.sheet_reader.specs.Ahead.{ahead}
use Rattle.sheet_reader.proofs.Whole.{too_long, places_stop, clips_stop, taps_stop, trailing, whole}
use Rattle.sheet_reader.proofs.Reader.sheet.Goals as goal
use Rattle.sheet_reader.proofs.Reader.sheet.Goals.{After-len-n, After-len}

-- how many places, and how many with the clips
placed : (c : After-len-n) → length (map place_numbers (items c.in_ok-places.places)) ≡ c.len-n.result
placed c = length-map (items c.in_ok-places.places) place_numbers ∙ sym c.len-n.ensures.value

clipped : (c : After-len) → c.len-n.result + length (map clip_numbers (items c.in_ok-clips.clips)) ≡ c.len-n.result + c.len.result
clipped c = ap (λ k. c.len-n.result + k) (length-map (items c.in_ok-clips.clips) clip_numbers ∙ sym c.len.ensures.value)

pub returns-then-left-gt-MOST_BYTES : goal.returns-then-left-gt-MOST_BYTES
returns-then-left-gt-MOST_BYTES c = too_long (ahead c.args.self) (omega arith)

pub returns-in_err-places : goal.returns-in_err-places
returns-in_err-places c =
    let r = c.in_err-places.field-0.0 in
    let e : c.from_residual.result ≡ Err r = search rules in
    rw e (places_stop (ahead c.args.self) (omega arith) (number_of r.why) r.line c.in_err-places.ensures)

pub returns-in_err-clips : goal.returns-in_err-clips
returns-in_err-clips c =
    let P = map place_numbers (items c.in_ok-places.places) in
    let r = c.in_err-clips.field-0.0 in
    let e : c.from_residual-in_err-clips.result ≡ Err r = search rules in
    let p = placed (goal.at.returns-in_err-clips c).After-len-n in
    rw e (clips_stop (ahead c.args.self) (omega arith) P (ahead c.counted.new.self) c.in_ok-places.ensures c.len-n.result p (number_of r.why) r.line c.in_err-clips.ensures)

pub returns-in_err-taps : goal.returns-in_err-taps
returns-in_err-taps c =
    let P = map place_numbers (items c.in_ok-places.places) in
    let C = map clip_numbers (items c.in_ok-clips.clips) in
    let r = c.in_err-taps.field-0.0 in
    let e : c.from_residual-in_err-taps.result ≡ Err r = search rules in
    let p = placed (goal.at.returns-in_err-taps c).After-len-n in
    let q = clipped (goal.at.returns-in_err-taps c).After-len in
    rw e
    (taps_stop (ahead c.args.self) (omega arith) P (ahead c.counted.new.self) c.in_ok-places.ensures c.len-n.result p C (ahead c.counted-2.new.self)
    c.in_ok-clips.ensures (c.len-n.result + c.len.result) q (number_of r.why) r.line c.in_err-taps.ensures)

pub returns-then-left-gt0 : goal.returns-then-left-gt0
returns-then-left-gt0 c =
    let P = map place_numbers (items c.in_ok-places.places) in
    let C = map clip_numbers (items c.in_ok-clips.clips) in
    let U = map tap_numbers (items c.in_ok-taps.taps) in
    let p = placed (goal.at.returns-then-left-gt0 c).After-len-n in
    let q = clipped (goal.at.returns-then-left-gt0 c).After-len in
    let u = length-map (items c.in_ok-taps.taps) tap_numbers ∙ sym c.len-then-left-gt0.ensures.value in
    trailing (ahead c.args.self) (omega arith) P (ahead c.counted.new.self) c.in_ok-places.ensures c.len-n.result p C (ahead c.counted-2.new.self)
    c.in_ok-clips.ensures (c.len-n.result + c.len.result) q U (ahead c.counted-3.new.self) c.in_ok-taps.ensures c.len-then-left-gt0.result u (omega arith)

pub returns : goal.returns
returns c =
    let P = map place_numbers (items c.in_ok-places.places) in
    let C = map clip_numbers (items c.in_ok-clips.clips) in
    let U = map tap_numbers (items c.in_ok-taps.taps) in
    let p = placed (goal.at.returns c).After-len-n in
    let q = clipped (goal.at.returns c).After-len in
    whole (ahead c.args.self) (omega arith) P (ahead c.counted.new.self) c.in_ok-places.ensures c.len-n.result p C (ahead c.counted-2.new.self)
    c.in_ok-clips.ensures (c.len-n.result + c.len.result) q U (ahead c.counted-3.new.self) c.in_ok-taps.ensures (length U) refl (omega arith)
