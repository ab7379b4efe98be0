-- `pricecall::price_at` meets its contract: a refusal of the job file, or the answer for the job that was admitted.
-- Assumes nothing.
use Rattle.refusal.specs.Refusal.{said}
use Rattle.std.proofs.lemmas.Result.{err_from_is_err_and}
use mathlib.Core.Path.{refl}
use lib.ListN.{replicate}
use Rattle.refusal.proofs.RefusalLaws.{number_some}
use Rattle.buffer.specs.Buffer.{work_size}
use Rattle.pricecall.proofs.PriceCallLaws.{enough, price_turned, price_fit, price_billed}
use Rattle.pricecall.proofs.price_at.Goals as goal

pub returns-in_err-head : goal.returns-in_err-head
returns-in_err-head c =
    let x = c.args in
    let p = err_from_is_err_and c.from_residual.result c.from_residual.ensures.1 in
    rw (p.1, p.2)
    (price_turned x.prices.now x.file.now x.plan.now x.volumes.now (replicate work_size 0) _ _ enough c.in_err-head.ensures
    (number_some _))

pub bill-requires : goal.bill-requires
bill-requires c =
    let x = c.args in
    price_fit x.prices.now x.file.now x.plan.now x.volumes.now (replicate work_size 0) _ _ enough c.in_ok-head.ensures
    refl c.requires

pub returns : goal.returns
returns c =
    let x = c.args in
    price_billed x.prices.now x.file.now x.plan.now x.volumes.now (replicate work_size 0) _ _ enough c.in_ok-head.ensures
    refl (said c.bill.result) c.bill.ensures
