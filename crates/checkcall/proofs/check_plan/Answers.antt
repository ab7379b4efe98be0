-- `checkcall::check_plan` meets its contract: a refusal of admission, or the answer for the job that was admitted; what is left in the
-- work buffer is cleared.
-- Assumes nothing.
use Rattle.refusal.specs.Refusal.{said}
use Rattle.std.proofs.lemmas.Result.{err_from_is_err_and}
use mathlib.Core.Path.{refl, ◌∙◌}
use native.Mathlib.Omega.{arith}
use lib.ListN.{length}
use Rattle.refusal.proofs.RefusalLaws.{number_some}
use Rattle.checking.specs.Checking.{checked}
use Rattle.admission.proofs.CallLaws.{admitted_alone}
use Rattle.checking.proofs.CheckLaws.{check_refused, check_judged}
use Rattle.checkcall.proofs.check_plan.Goals as goal

pub returns-in_err-head : goal.returns-in_err-head
unfolding checked
returns-in_err-head c =
    let x = c.args in
    let p = err_from_is_err_and c.from_residual.result c.from_residual.ensures.1 in
    rw (p.1, p.2)
    (check_refused x.plan.now (admitted_alone x.file.now (length x.work.now) c.in_err-head.ensures) (number_some _))

pub overflow_cast-head : goal.overflow_cast-head
overflow_cast-head c = record { fits = (c.in_ok-head.ensures.job refl).final_set }

pub judge-verdict-requires : goal.judge-verdict-requires
judge-verdict-requires c = (c.in_ok-head.ensures.job refl).usable

pub clear-requires : goal.clear-requires
clear-requires c =
    omega (arith, c.judge-verdict.ensures.kept.long, (c.in_ok-head.ensures.job refl).usable.long)

pub returns : goal.returns
unfolding checked
returns c =
    let x = c.args in
    let judged =
    check_judged x.plan.now _ (said c.judge-verdict.result) (admitted_alone x.file.now (length x.work.now) c.in_ok-head.ensures)
    refl c.judge-verdict.ensures in
    (judged.0, c.clear.ensures ∙ judged.1)
