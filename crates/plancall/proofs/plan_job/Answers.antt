-- `plancall::plan_job` meets its contract: a refusal of admission, or the plan of the job that was admitted; what is left in the work buffer is
-- cleared.
-- Assumes nothing.
use Rattle.std.proofs.lemmas.Result.{err_from_is_err_and}
use mathlib.Core.Path.{refl, ◌∙◌}
use native.Mathlib.Omega.{arith}
use Rattle.refusal.proofs.RefusalLaws.{number_some}
use Rattle.plancall.proofs.CallLaws.{plan_refused, plan_ready, plan_accepted}
use Rattle.plancall.proofs.plan_job.Goals as goal

pub returns-in_err-head : goal.returns-in_err-head
returns-in_err-head c =
    let x = c.args in
    let p = err_from_is_err_and c.from_residual.result c.from_residual.ensures.1 in
    rw (p.1, p.2)
    (plan_refused x.file.now x.work.now x.plan.now _ _ c.in_err-head.ensures (number_some _))

pub overflow_cast-head : goal.overflow_cast-head
overflow_cast-head c = record { fits = (c.in_ok-head.ensures.job refl).final_set }

pub plan_held-counts-requires : goal.plan_held-counts-requires
plan_held-counts-requires c =
    let x = c.args in
    plan_ready x.file.now x.work.now x.plan.now _ _ c.in_ok-head.ensures refl

pub clear-requires : goal.clear-requires
clear-requires c =
    omega (arith, c.plan_held-counts.ensures.kept.long, (c.in_ok-head.ensures.job refl).usable.long)

pub returns : goal.returns
returns c =
    let x = c.args in
    let v = c.plan_held-counts in
    let accepted =
    plan_accepted x.file.now x.work.now x.plan.now _ _ c.in_ok-head.ensures refl _ _ v.result v.ensures in
    (accepted.0, c.clear.ensures ∙ accepted.1, accepted.2)
