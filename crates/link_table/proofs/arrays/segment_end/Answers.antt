use Rattle.std.proofs.Common.{◌≡◌, ◌+◌, length, drop, get_or, ltb, ap, sym, ◌∙◌, length-drop, arith}
use Rattle.std.specs.List.{take_while, between}
use Rattle.std.proofs.lemmas.Slice.{between_to_end}
use Rattle.link_forest.specs.Table.{seg_end}
use Rattle.link_table.proofs.Steps.{run_short}
use Rattle.link_table.proofs.arrays.Runs.{run_passed}
use Rattle.link_table.proofs.arrays.segment_end.Goals as goal

pub returns : goal.returns
unfolding seg_end
returns c =
    let ds = c.args.depths.now in
    let at = c.args.at in
    let d = get_or ds at 0 in
    let below = drop (at + 1) ds in
    let passed : c.run_length.result ≡ length (take_while (λ x. ltb d x) (between (at + 1) (length ds) ds)) = c.run_length.ensures in
    let run = passed ∙ ap (λ s. length (take_while (λ x. ltb d x) s)) (between_to_end ds (at + 1) (length ds) (omega arith)) ∙ sym (run_passed d below) in
    (omega arith, omega (arith, run, run_short d below, length-drop (at + 1) ds), ap (λ n. at + 1 + n) run)
