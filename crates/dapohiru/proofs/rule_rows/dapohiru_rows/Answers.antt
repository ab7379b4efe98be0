-- `dapohiru::rule_rows::dapohiru_rows` meets its contract: the number of the answer, and the rule buffer as the call on values left it.
-- Assumes nothing.
use mathlib.Core.Path.{ap, ◌∙◌}
use Rattle.reasons.proofs.ReasonsLaws.{said_by_reason}
use Rattle.rulerows.specs.RuleRows.{rows_number}
use Rattle.dapohiru.proofs.rule_rows.dapohiru_rows.Goals as goal

pub returns : goal.returns
returns c =
    let r = c.take_rows in (c.of_rows.ensures ∙ ap rows_number (said_by_reason r.result ∙ r.ensures.0), r.ensures.1)
