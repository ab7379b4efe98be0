-- `fields::field_in` meets its contract: past the spaces stand no column, or digits to the end.
-- Assumes nothing.
use Rattle.std.proofs.Common.{◌∙◌, arith}
use Rattle.lines.proofs.FieldLaws.{field_spaces, field_digits}
use Rattle.fields.proofs.field_in.Goals as goal

pub returns-then-spaces-eq6 : goal.returns-then-spaces-eq6
returns-then-spaces-eq6 c =
    let x = c.args in
    let p = c.past_spaces-spaces in
    field_spaces x.line.now x.at p.result c.if-spaces-eq6.true p.ensures.same

pub returns : goal.returns
returns c =
    let x = c.args in
    let p = c.past_spaces-spaces in
    c.digits_in.ensures
    ∙ field_digits x.line.now x.at p.result (omega arith) (omega arith) p.ensures.same (p.ensures.no_space (omega arith))
