-- `rulecall::job_rule` meets its contract: the table of zeros that is lent is left as the rule's bytes, or as it was beside a refusal.
-- Assumes nothing.
use Rattle.refusal.specs.Refusal.{said}
use Rattle.rulecall.proofs.CallLaws.{value_ends}
use Rattle.rulecall.proofs.job_rule.Goals as goal

pub returns : goal.returns
returns c =
    let r = c.take_rule-answer in
    let x = c.args in
    value_ends x.file.now x.work.now _ _ (said r.result) r.ensures
