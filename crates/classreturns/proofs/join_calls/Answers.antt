-- `classreturns::join_calls` meets its contract.
-- Invariant: the rows at the calls below n were joined, and `grown` rows grew.
-- Assumes nothing.
use native.Mathlib.Omega.{arith}
use Rattle.buffer.proofs.ClassRowLaws.{apart_left_small}
use Rattle.classreturns.specs.Joins.{ToCall}
use Rattle.classreturns.proofs.JoinLaws.{nodes_none, nodes_more, nodes_end}
use Rattle.classreturns.proofs.join_calls.Goals as goal

pub loop-n-init : goal.loop-n-init
loop-n-init c =
    let a = c.args in
    nodes_none (ToCall a.rows.now) (ToCall a.rows.now) a.work.now

pub join_call-grown-requires : goal.join_call-grown-requires
join_call-grown-requires c =
    let pre = c.requires in
    let long = c.loop-n.invariant.kept.long in
    (omega (arith, pre.0), omega (arith, pre.1))

pub overflow_add-grown : goal.overflow_add-grown
overflow_add-grown c =
    let a = c.args in
    omega (arith, c.loop-n.invariant.left, c.join_call-grown.ensures.left, apart_left_small a.work.now)

pub loop-n-preserved : goal.loop-n-preserved
loop-n-preserved c =
    let a = c.args in
    let pre = c.requires in
    nodes_more (ToCall a.rows.now) (ToCall a.rows.now) (omega (arith, pre.1)) c.loop-n.invariant c.join_call-grown.ensures

pub shape_of-work : goal.shape_of-work
shape_of-work c = c.loop-n.invariant.kept.long

pub returns : goal.returns
returns c =
    let a = c.args in
    nodes_end (ToCall a.rows.now) (ToCall a.rows.now) c.loop-n.n a.nodes (omega arith) c.loop-n.invariant
