-- `classreturns::join_exits` meets its contract.
-- Invariant: the after words of the exits below n were joined, and `grown` rows grew.
-- Assumes nothing.
use native.Mathlib.Omega.{arith}
use Rattle.buffer.proofs.ClassRowLaws.{apart_left_small}
use Rattle.classreturns.specs.Joins.{ToExit, ToExitWithin}
use Rattle.classreturns.proofs.JoinLaws.{nodes_none, nodes_more, nodes_end}
use Rattle.classreturns.proofs.join_exits.Goals as goal

pub loop-n-init : goal.loop-n-init
loop-n-init c =
    let a = c.args in
    nodes_none (ToExit a.table.now a.finals a.states a.rows) (ToExitWithin a.table.now a.finals a.states a.rows) a.work.now

pub join_exit-grown-requires : goal.join_exit-grown-requires
join_exit-grown-requires c =
    let pre = c.requires in
    let long = c.loop-n.invariant.kept.long in
    (omega (arith, pre.0), (omega (arith, pre.1.0), pre.1.1))

pub overflow_add-grown : goal.overflow_add-grown
overflow_add-grown c =
    let a = c.args in
    omega (arith, c.loop-n.invariant.left, c.join_exit-grown.ensures.left, apart_left_small a.work.now)

pub loop-n-preserved : goal.loop-n-preserved
loop-n-preserved c =
    let a = c.args in
    let pre = c.requires in
    nodes_more (ToExit a.table.now a.finals a.states a.rows) (ToExitWithin a.table.now a.finals a.states a.rows) (omega (arith, pre.1.0)) c.loop-n.invariant c.join_exit-grown.ensures

pub shape_of-work : goal.shape_of-work
shape_of-work c = c.loop-n.invariant.kept.long

pub returns : goal.returns
returns c =
    let a = c.args in
    nodes_end (ToExit a.table.now a.finals a.states a.rows) (ToExitWithin a.table.now a.finals a.states a.rows) c.loop-n.n a.nodes (omega arith) c.loop-n.invariant
