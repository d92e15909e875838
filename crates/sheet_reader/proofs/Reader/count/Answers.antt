use Rattle.std.proofs.Common.{◌≡◌, ◌<◌, true, false, [], ◌∷◌, length, pos, get_or, refl, sym, ◌∙◌, arith, rules, w64, SFits, to_z-of_z}
use Rattle.std.proofs.lemmas.Int.{to_z_pos}
use Rattle.sheet_lines.specs.Lines.{line_width}
use Rattle.sheet_format.specs.Sheet.{within, count_rule, section}
use Rattle.sheet_reader.specs.Ahead.{ahead}
use Rattle.sheet_reader.specs.Ranges.{count_blind}
use Rattle.sheet_reader.proofs.Turns.{turn_21, turn_22, turn}
use Rattle.sheet_reader.proofs.Counts.{itself, one_number}
use Rattle.sheet_reader.proofs.Reader.count.Goals as goal

pub returns-in_default-clause-value : goal.returns-in_default-clause-value
returns-in_default-clause-value c =
    let A = c.args in
    turn_21 (count_rule A.most) [] (count_blind A.most [] c.requires) 1 refl (omega arith) 1 A.line (ahead A.self.now) _ (omega arith) refl
    c.in_default.ensures.numbers

pub returns-then-not-within-clause-value : goal.returns-then-not-within-clause-value
returns-then-not-within-clause-value c =
    let A = c.args in
    let zs = c.in-Some.row in
    let z = get_or zs 0 (pos 0) in
    let g : SFits w64 z = search rules in
    let long : length zs ≡ line_width = search rules in
    let f : A.most < 9223372036854775808 = omega arith in
    let h = sym c.within.ensures ∙ c.if-not-within.true in
    let b : within (pos 0) (pos A.most) z ≡ false =
    rw (to_z_pos w64 A.most f, to_z-of_z g) at h in
    turn_22 (count_rule A.most) [] (count_blind A.most [] c.requires) 1 refl (omega arith) 1 A.line (ahead A.self.now) _ (omega arith) refl
    (z ∷ []) (ahead c.line.new.self) (rw (one_number zs long) at c.in-Some.ensures.numbers) b

pub returns-clause-value : goal.returns-clause-value
unfolding section
returns-clause-value c =
    let A = c.args in
    let zs = c.in-Some.row in
    let z = get_or zs 0 (pos 0) in
    let g : SFits w64 z = search rules in
    let long : length zs ≡ line_width = search rules in
    let f : A.most < 9223372036854775808 = omega arith in
    let h = sym c.within.ensures ∙ c.if-not-within.false in
    let b : within (pos 0) (pos A.most) z ≡ true =
    rw (to_z_pos w64 A.most f, to_z-of_z g) at h in
    rw (to_z-of_z g, itself A.most z b)
    (turn (count_rule A.most) [] (count_blind A.most [] c.requires) 1 refl (omega arith) 1 A.line (ahead A.self.now) _ (omega arith) refl
    (z ∷ []) (ahead c.line.new.self) (rw (one_number zs long) at c.in-Some.ensures.numbers) b refl)
