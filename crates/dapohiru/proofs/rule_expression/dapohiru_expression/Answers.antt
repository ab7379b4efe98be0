-- `dapohiru::rule_expression::dapohiru_expression` meets its contract: the number of the answer, whose numbers are small, and the rule buffer as the call
-- on values left it.
-- Assumes nothing.
use Rattle.refusal.specs.Refusal.{said}
use mathlib.Core.Path.{sym, ap, subst, ◌∙◌}
use Rattle.reasons.proofs.ReasonsLaws.{said_by_reason}
use Rattle.expressionrule.specs.ExpressionRule.{expression_number}
use Rattle.rulenumbers.specs.Fits.{ExpressionFits}
use Rattle.dapohiru.proofs.FitsLaws.{expression_fits}
use Rattle.dapohiru.proofs.rule_expression.dapohiru_expression.Goals as goal

pub of_expression-requires : goal.of_expression-requires
of_expression-requires c =
    let x = c.args in
    let r = c.take_expression in
    subst ExpressionFits (sym (said_by_reason r.result)) (expression_fits x.text.now x.symbols x.rule.now _ (said r.result) r.ensures)

pub returns : goal.returns
returns c =
    let r = c.take_expression in
    record { answer = said r.result; answers = r.ensures; number = c.of_expression.ensures ∙ ap expression_number (said_by_reason r.result) }
