-- `reentry::entering_rows` meets its contract.
-- Invariant: the rows of the calls below n are joined.
-- Assumes nothing.
use mathlib.Core.Path.{sym}
use native.Mathlib.Omega.{arith}
use Rattle.tables.proofs.SixteenLaws.{empty_rows, empty_sixteen}
use Rattle.reentry.proofs.ReentryLaws.{entering_start, entering_more, entering_end}
use Rattle.reentry.proofs.entering_rows.Goals as goal

pub loop-n-init : goal.loop-n-init
unfolding empty_rows
loop-n-init c = entering_start c.args.work.now c.args.nodes empty_sixteen

pub slice_bounds-join_entering-end : goal.slice_bounds-join_entering-end
slice_bounds-join_entering-end c = sym c.loop-n.invariant.sixteen.long

pub join_entering-requires : goal.join_entering-requires
join_entering-requires c =
    let pre = c.requires in
    (c.loop-n.invariant.sixteen, (pre.0, omega (arith, pre.1)))

pub loop-n-preserved : goal.loop-n-preserved
loop-n-preserved c = entering_more (omega arith) c.loop-n.invariant c.join_entering.ensures

pub returns : goal.returns
returns c = entering_end c.loop-n.invariant (omega arith)
