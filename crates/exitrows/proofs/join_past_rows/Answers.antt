-- `exitrows::join_past_rows` meets its contract.
-- Invariant: the rows below p are joined past the node.
-- Assumes nothing.
use mathlib.Core.Path.{sym, ◌∙◌}
use native.Mathlib.Omega.{arith}
use Rattle.exitrows.proofs.EndedLaws.{past_start, Past-more, past_end}
use Rattle.exitrows.proofs.join_past_rows.Goals as goal

pub loop-p-init : goal.loop-p-init
loop-p-init c = let a = c.args in past_start a.work.now a.rows.now a.n c.requires.0

pub join_past-any-requires : goal.join_past-any-requires
join_past-any-requires c =
    let pre = c.requires in
    (c.loop-p.invariant.sixteen, (pre.1.0, (pre.1.1.0, (omega arith, pre.1.1.1))))

pub loop-p-preserved : goal.loop-p-preserved
loop-p-preserved c = Past-more (omega arith) c.loop-p.invariant c.join_past-any.ensures

pub shape_of-rows : goal.shape_of-rows
shape_of-rows c = c.loop-p.invariant.sixteen.long ∙ sym c.requires.0.long

pub returns : goal.returns
returns c = past_end c.loop-p.invariant (omega arith)
