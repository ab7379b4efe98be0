-- `rowscall::rows_rule` meets its contract: the table of zeros that is lent is left as the rule's bytes, or as it was beside a refusal.
-- Assumes nothing.
use Rattle.refusal.specs.Refusal.{said}
use Rattle.rowscall.proofs.CallLaws.{value_ends}
use Rattle.rowscall.proofs.rows_rule.Goals as goal

pub returns : goal.returns
returns c =
    let x = c.args in
    let r = c.take_rows-answer in
    value_ends x.rows.now _ x.states x.symbols x.finals (said r.result) r.ensures
