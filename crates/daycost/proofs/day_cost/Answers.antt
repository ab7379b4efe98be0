-- `daycost::day_cost` meets its contract.
-- Invariant: the lines of the first n nodes pass, and the sum is what their events cost.
-- Assumes nothing.
use native.Mathlib.Omega.{arith}
use borrow.Author.Rules.{rules}
use Rattle.daycost.proofs.DayCostLaws.{sum_start, sum_next, volume_few, sum_length, sum_stop, sum_end}
use Rattle.daycost.proofs.day_cost.Goals as goal

pub returns-then-volumes-nodes : goal.returns-then-volumes-nodes
returns-then-volumes-nodes c =
    let x = c.args in
    sum_length x.volumes.now x.prices.now x.work.now x.plan.now x.nodes c.if-volumes-nodes.true

pub loop-n-init : goal.loop-n-init
loop-n-init c =
    let x = c.args in
    (search rules, sum_start x.volumes.now x.prices.now x.work.now x.plan.now)

pub volume_line-requires : goal.volume_line-requires
volume_line-requires c = omega (arith, c.if-volumes-nodes.false, c.loop-n-test.true)

pub returns-in_default : goal.returns-in_default
returns-in_default c =
    let x = c.args in
    let l = c.loop-n in
    let f = c.volume_line in
    sum_stop x.volumes.now x.prices.now x.work.now x.plan.now l.sum x.nodes l.n f.result c.loop-n-test.true l.invariant.1 f.ensures c.in_default.is

pub cost_at-sum-requires : goal.cost_at-sum-requires
cost_at-sum-requires c =
    let x = c.args in
    let l = c.loop-n in
    let f = c.volume_line in
    let below = c.loop-n-test.true in
    let few = volume_few x.volumes.now x.prices.now x.work.now x.plan.now l.n _ f.result f.ensures c.in-Some.is in
    record {
      long = c.requires.long;
      few = omega (arith, c.requires.few);
      byte = omega (arith, c.requires.bytes);
      volume_fits = few;
      prices_fit = c.requires.prices_fit;
      node = c.requires.node l.n below;
    }

pub overflow_add-sum : goal.overflow_add-sum
overflow_add-sum c =
    let x = c.args in
    let l = c.loop-n in
    let f = c.volume_line in
    let more =
    sum_next x.volumes.now x.prices.now x.work.now x.plan.now l.sum l.n _ f.result c.cost_at-sum.result
    c.requires.prices_fit l.invariant.1 f.ensures c.in-Some.is c.cost_at-sum.ensures in
    record { fits = omega (arith, more.small, c.requires.few, c.loop-n-test.true) }

pub loop-n-preserved : goal.loop-n-preserved
loop-n-preserved c =
    let x = c.args in
    let l = c.loop-n in
    let f = c.volume_line in (
      search rules,
      sum_next x.volumes.now x.prices.now x.work.now x.plan.now l.sum l.n _ f.result c.cost_at-sum.result
          c.requires.prices_fit l.invariant.1 f.ensures c.in-Some.is c.cost_at-sum.ensures,
    )

pub returns : goal.returns
returns c =
    let x = c.args in
    let l = c.loop-n in
    sum_end x.volumes.now x.prices.now x.work.now x.plan.now l.sum x.nodes l.n (omega (arith, l.invariant.0, c.loop-n-test.false))
    c.requires.few (omega (arith, c.if-volumes-nodes.false)) l.invariant.1
