-- `listcall::list_job` meets its contract: a refusal of admission, or the listing of the job that was admitted; what is left in the work buffer is
-- cleared.
-- Assumes nothing.
use Rattle.std.proofs.lemmas.Result.{err_from_is_err_and}
use mathlib.Core.Path.{refl, ◌∙◌}
use native.Mathlib.Omega.{arith}
use Rattle.refusal.proofs.RefusalLaws.{number_some}
use Rattle.listcall.proofs.CallLaws.{list_refused, list_ready, list_accepted}
use Rattle.listcall.proofs.list_job.Goals as goal

pub returns-in_err-head : goal.returns-in_err-head
returns-in_err-head c =
    let x = c.args in
    let p = err_from_is_err_and c.from_residual.result c.from_residual.ensures.1 in
    rw (p.1, p.2)
    (list_refused x.file.now x.work.now x.listing.now _ _ c.in_err-head.ensures (number_some _))

pub overflow_cast-head : goal.overflow_cast-head
overflow_cast-head c = record { fits = (c.in_ok-head.ensures.job refl).final_set }

pub list_held-length-requires : goal.list_held-length-requires
list_held-length-requires c =
    let x = c.args in
    list_ready x.file.now x.work.now x.listing.now _ _ c.in_ok-head.ensures refl

pub clear-requires : goal.clear-requires
clear-requires c =
    omega (arith, c.list_held-length.ensures.kept.long, (c.in_ok-head.ensures.job refl).usable.long)

pub returns : goal.returns
returns c =
    let x = c.args in
    let v = c.list_held-length in
    let accepted =
    list_accepted x.file.now x.work.now x.listing.now _ _ c.in_ok-head.ensures refl _ _ v.result v.ensures in
    (accepted.0, c.clear.ensures ∙ accepted.1, accepted.2)
