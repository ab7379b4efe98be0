-- `expressioncall::expression_rule` meets its contract: the table of zeros that is lent is left as the rule's bytes, or as it was beside a refusal.
-- Assumes nothing.
use Rattle.refusal.specs.Refusal.{said}
use Rattle.expressioncall.proofs.CallLaws.{value_of_lem}
use Rattle.expressioncall.proofs.expression_rule.Goals as goal

pub returns : goal.returns
returns c =
    let x = c.args in
    let r = c.take_expression-answer in
    value_of_lem x.text.now _ x.symbols (said r.result) r.ensures
