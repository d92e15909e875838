use Rattle.std.proofs.Common.{◌+◌, ◌∙◌, drop}
use Rattle.sheet_lines.proofs.Cuts.{past_end, no_end, passed, too_wide, with_end, told}
use Rattle.sheet_lines.proofs.fields_at.Goals as goal

pub returns-then-at-s : goal.returns-then-at-s
returns-then-at-s c = let p = past_end c.args.s.now c.args.at c.args.width c.if-at-s.true in record { row = p.0; next = p.1 }

pub returns-then-end-s : goal.returns-then-end-s
returns-then-end-s c =
    let p = no_end c.args.s.now c.args.at c.find-end.result c.args.width c.find-end.ensures.value c.if-end-s.true in record { row = p.0; next = p.1 }

pub returns-then-width-gt-LINE_WIDTH : goal.returns-then-width-gt-LINE_WIDTH
returns-then-width-gt-LINE_WIDTH c =
    let A = c.args in
    let e = c.find-end in
    record {
      row = too_wide (drop A.at A.s.now) A.width c.if-width-gt-LINE_WIDTH.true;
      next = passed A.s.now A.at e.result A.width e.ensures.value c.if-end-s.false;
    }

pub returns : goal.returns
returns c =
    let A = c.args in
    let e = c.find-end in
    let r = c.row_of-row in
    record {
      row =
          told A.width (e.result + 1) A.s.now r.result _ r.ensures
          ∙ with_end A.s.now A.at e.result A.width e.ensures.value c.if-end-s.false c.if-width-gt-LINE_WIDTH.false;
      next = passed A.s.now A.at e.result A.width e.ensures.value c.if-end-s.false;
    }
