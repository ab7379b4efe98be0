-- `daycost::cost_at` meets its contract: nothing where the node is not watched, else its volume times the price of its symbol.
-- Assumes nothing.
use native.Mathlib.Nat.{mul-le-mul_right}
use native.Mathlib.Omega.{arith}
use lib.ListN.{get_or}
use Rattle.daycost.proofs.DayCostLaws.{cost_unwatched, cost_watched}
use Rattle.daycost.proofs.cost_at.Goals as goal

pub returns-then-plan-n-ne1 : goal.returns-then-plan-n-ne1
returns-then-plan-n-ne1 c =
    let x = c.args in
    cost_unwatched x.prices.now x.work.now x.plan.now x.n x.volume c.if-plan-n-ne1.true

pub overflow_mul-result : goal.overflow_mul-result
overflow_mul-result c =
    let price = get_or c.args.prices.now c.symbol_at-symbol.result 0 in
    let cheap = c.requires.prices_fit c.symbol_at-symbol.result in
    record { fits = omega (arith, cheap, mul-le-mul_right price c.requires.volume_fits) }

pub returns : goal.returns
returns c =
    let x = c.args in
    cost_watched x.prices.now x.work.now x.plan.now x.n x.volume c.requires.node c.if-plan-n-ne1.false
    c.symbol_at-symbol.result c.symbol_at-symbol.ensures.1
