-- `returnrows::call_rows` meets its contract.
-- Invariant: the rows hold the pairs past the calls that may come back in below n, and nothing else.
-- Assumes nothing.
use native.Mathlib.Omega.{arith}
use Rattle.tables.proofs.SixteenLaws.{empty_rows, empty_sixteen}
use Rattle.relation.proofs.UnionLaws.{union_start, union_more}
use Rattle.returnrows.specs.Gathered.{AtCall}
use Rattle.returnrows.proofs.GatherLaws.{rows_hold, below_end}
use Rattle.returnrows.proofs.call_rows.Goals as goal

pub loop-n-init : goal.loop-n-init
unfolding empty_rows
loop-n-init c = (omega arith, empty_sixteen, union_start (empty_rows 16))

pub gather_call-requires : goal.gather_call-requires
gather_call-requires c =
    let pre = c.requires in
    (c.loop-n.invariant.1, (pre.0, omega (arith, pre.1)))

pub loop-n-preserved : goal.loop-n-preserved
loop-n-preserved c =
    let a = c.args in
    let joined = c.gather_call.ensures in
    (omega arith, joined.0, union_more {T = AtCall a.work.now} c.loop-n.invariant.2 joined.1)

pub returns : goal.returns
returns c =
    let a = c.args in
    let loop = c.loop-n in
    rows_hold loop.invariant.1 (below_end {T = AtCall a.work.now} loop.n a.nodes (omega arith) loop.invariant.0 loop.invariant.2)
