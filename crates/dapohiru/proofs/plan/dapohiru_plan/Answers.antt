-- `dapohiru::plan::dapohiru_plan` meets its contract: the number of the outcome, whose counts are small, and the buffers
-- as planning left them.
-- Assumes nothing.
use Rattle.refusal.specs.Refusal.{said}
use mathlib.Core.Path.{sym, ap, subst, ◌∙◌}
use mathlib.Core.Bool.{◌||◌}
use lib.Dec.{ltb}
use lib.ListN.{length}
use Rattle.reasons.proofs.ReasonsLaws.{said_by_reason}
use Rattle.buffer.specs.Buffer.{work_size}
use Rattle.planoutcome.specs.PlanCall.{plan_size, plan_number}
use Rattle.answernumbers.specs.Fits.{OutcomeFits}
use Rattle.dapohiru.proofs.FitsLaws.{outcome_fits}
use Rattle.dapohiru.proofs.plan.dapohiru_plan.Goals as goal

pub of_outcome-requires : goal.of_outcome-requires
of_outcome-requires c =
    let x = c.args in
    let r = c.plan_job in
    subst OutcomeFits (sym (said_by_reason r.result))
    (outcome_fits x.job.now (ltb (length x.work.now) work_size || ltb (length x.plan.now) plan_size) (said r.result) r.ensures.0)

pub returns : goal.returns
returns c =
    let r = c.plan_job in
    (c.of_outcome.ensures ∙ ap plan_number (said_by_reason r.result ∙ r.ensures.0), r.ensures.1, r.ensures.2)
