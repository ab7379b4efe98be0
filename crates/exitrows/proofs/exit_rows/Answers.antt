-- `exitrows::exit_rows` meets its contract.
-- Invariant: what the words after the exits below n lead to is joined.
-- Assumes nothing.
use mathlib.Core.Path.{sym}
use native.Mathlib.Omega.{arith}
use Rattle.tables.proofs.SixteenLaws.{empty_rows, empty_sixteen}
use Rattle.exitrows.proofs.EndedLaws.{ended_start, ended_more, ended_end}
use Rattle.exitrows.proofs.exit_rows.Goals as goal

pub loop-n-init : goal.loop-n-init
unfolding empty_rows
loop-n-init c = ended_start c.args.nodes c.args.work.now empty_sixteen

pub slice_bounds-join_ended-end : goal.slice_bounds-join_ended-end
slice_bounds-join_ended-end c = sym c.loop-n.invariant.sixteen.long

pub join_ended-requires : goal.join_ended-requires
join_ended-requires c =
    let pre = c.requires in
    (c.loop-n.invariant.sixteen, (pre.0, (omega (arith, pre.1.0), pre.1.1)))

pub loop-n-preserved : goal.loop-n-preserved
loop-n-preserved c = ended_more (omega arith) c.loop-n.invariant c.join_ended.ensures

pub returns : goal.returns
returns c = ended_end c.loop-n.invariant (omega arith)
