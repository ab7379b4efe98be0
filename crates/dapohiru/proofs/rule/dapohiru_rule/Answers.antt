-- `dapohiru::rule::dapohiru_rule` meets its contract: the number of the answer, whose numbers are small, and the buffers as the call on values
-- left them.
-- Assumes nothing.
use Rattle.refusal.specs.Refusal.{said}
use mathlib.Core.Path.{sym, ap, subst, ◌∙◌}
use lib.ListN.{length}
use Rattle.reasons.proofs.ReasonsLaws.{said_by_reason}
use Rattle.ruleoutcome.specs.RuleCall.{rule_number}
use Rattle.rulenumbers.specs.Fits.{RuleFits}
use Rattle.dapohiru.proofs.FitsLaws.{rule_fits}
use Rattle.dapohiru.proofs.rule.dapohiru_rule.Goals as goal

pub of_rule-requires : goal.of_rule-requires
of_rule-requires c =
    let x = c.args in
    let r = c.take_rule in
    subst RuleFits (sym (said_by_reason r.result)) (rule_fits x.job.now (length x.work.now) (length x.rule.now) (said r.result) r.ensures.0)

pub returns : goal.returns
returns c =
    let r = c.take_rule in
    (c.of_rule.ensures ∙ ap rule_number (said_by_reason r.result ∙ r.ensures.0), r.ensures.1, r.ensures.2)
