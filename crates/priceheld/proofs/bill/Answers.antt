-- `priceheld::bill` meets its contract: 11 and 12 by the tests of the plan, 16 by the volume file, else the sum in cents.
-- Assumes nothing.
use Rattle.std.proofs.lemmas.Result.{err_from_is_err_and}
use mathlib.Core.Path.{sym, ◌∙◌}
use Rattle.priceheld.proofs.BillLaws.{bill_length, bill_marks, bill_fit, bill_lines, bill_price}
use Rattle.priceheld.proofs.bill.Goals as goal

pub returns-then-plan-nodes : goal.returns-then-plan-nodes
returns-then-plan-nodes c =
    let x = c.args in
    bill_length x.prices.now x.work.now x.plan.now x.volumes.now x.nodes c.if-plan-nodes.true

pub returns-then-not-is_plan : goal.returns-then-not-is_plan
returns-then-not-is_plan c =
    let x = c.args in
    bill_marks x.prices.now x.work.now x.plan.now x.volumes.now x.nodes c.if-plan-nodes.false
    (sym c.is_plan.ensures ∙ c.if-not-is_plan.true)

pub day_cost-requires : goal.day_cost-requires
day_cost-requires c =
    let x = c.args in
    bill_fit x.prices.now x.work.now x.plan.now x.volumes.now x.nodes c.if-plan-nodes.false
    (sym c.is_plan.ensures ∙ c.if-not-is_plan.false) c.requires

pub cents-requires : goal.cents-requires
cents-requires c = c.in_ok-sum.ensures.small

pub returns : goal.returns
returns c =
    let x = c.args in
    bill_price x.prices.now x.work.now x.plan.now x.volumes.now x.nodes c.if-plan-nodes.false
    (sym c.is_plan.ensures ∙ c.if-not-is_plan.false) c.in_ok-sum.sum c.cents.result c.in_ok-sum.ensures.is c.cents.ensures

pub returns-in_err-sum : goal.returns-in_err-sum
returns-in_err-sum c =
    let x = c.args in
    let p = err_from_is_err_and c.from_residual.result c.from_residual.ensures.1 in
    rw (p.1, p.2)
    (bill_lines x.prices.now x.work.now x.plan.now x.volumes.now x.nodes c.if-plan-nodes.false
    (sym c.is_plan.ensures ∙ c.if-not-is_plan.false) c.in_err-sum.field-0.0 c.in_err-sum.ensures.is)
