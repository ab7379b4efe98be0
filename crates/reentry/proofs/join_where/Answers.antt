-- `reentry::join_where` meets its contract.
-- Invariant: the rows are joined at the nodes below n that pass the test.
-- Assumes nothing.
use mathlib.Core.Path.{ap}
use native.Mathlib.Omega.{arith}
use Rattle.job.specs.Job.{Node}
use Rattle.tables.proofs.KeptLaws.{node_same}
use Rattle.reentry.proofs.ReentryLaws.{where_start, where_more, where_end}
use Rattle.reentry.proofs.join_where.Goals as goal

pub loop-n-init : goal.loop-n-init
loop-n-init g c = where_start _ _ _ _

pub join_if-requires : goal.join_if-requires
join_if-requires g c =
    let pre = c.requires in
    (omega (arith, pre.0, c.loop-n.invariant.joined.grown.kept.long), omega (arith, pre.1))

pub loop-n-preserved : goal.loop-n-preserved
loop-n-preserved g c =
    let pre = c.requires in
    let loop = c.loop-n in
    where_more (omega arith) pre.1 loop.invariant
    (ap (λ (x : Node). g.T.NodeTest.holds x) (node_same loop.invariant.joined.grown.kept loop.n (omega (arith, pre.1)))) c.join_if.ensures

pub shape_of-work : goal.shape_of-work
shape_of-work g c = c.loop-n.invariant.joined.grown.kept.long

pub returns : goal.returns
returns g c = where_end c.loop-n.invariant (omega arith)
