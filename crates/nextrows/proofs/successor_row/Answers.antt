-- `nextrows::successor_row` meets its contract.
-- Invariant: `out` has the states told apart before the ends of the edges below i.
-- Assumes nothing.
use Prim.Native.Nat.{suc, ◌<◌, ◌≤◌}
use native.Mathlib.Numerals.{add-one}
use native.Mathlib.Omega.{arith}
use Rattle.buffer.specs.Views.{start_in}
use Rattle.classes.proofs.ClassLaws.{next_start, next_more, next_end}
use Rattle.nextrows.proofs.successor_row.Goals as goal

pub loop-i-init : goal.loop-i-init
loop-i-init c =
    let a = c.args in
    next_start a.table.now a.finals a.states a.work.now a.n a.p c.start_at-i.result c.start_at-i.ensures

pub target_at-m-requires : goal.target_at-m-requires
target_at-m-requires c =
    let pre = c.requires in
    let end = rw add-one at c.start_at-end.ensures in
    (pre.0, omega (arith, pre.1.1.1.1.1.last))

pub before_row-out-requires : goal.before_row-out-requires
before_row-out-requires c =
    let a = c.args in
    let pre = c.requires in
    let loop = c.loop-i in
    let end = rw add-one at c.start_at-end.ensures in
    let high : loop.i < start_in a.work.now (suc a.n) = omega arith in
    let small = pre.1.1.1.1.1.targets loop.i loop.invariant.first high in
    (pre.0, (omega (arith, c.target_at-m.ensures), (pre.1.1.0, (pre.1.1.1.0, pre.1.1.1.1.0))))

pub loop-i-preserved : goal.loop-i-preserved
loop-i-preserved c =
    let a = c.args in
    let loop = c.loop-i in
    let end = rw add-one at c.start_at-end.ensures in
    let high : loop.i < start_in a.work.now (suc a.n) = omega arith in
    next_more a.table.now a.finals a.states a.work.now a.n a.p loop.i loop.out c.target_at-m.result
    c.before_row-out.result loop.invariant high c.target_at-m.ensures c.before_row-out.ensures

pub returns : goal.returns
returns c =
    let a = c.args in
    let loop = c.loop-i in
    let end = rw add-one at c.start_at-end.ensures in
    let high : start_in a.work.now (suc a.n) ≤ loop.i = omega arith in
    next_end a.table.now a.finals a.states a.work.now a.n a.p loop.i loop.out loop.invariant high
