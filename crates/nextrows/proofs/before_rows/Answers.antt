-- `nextrows::before_rows` meets its contract.
-- Invariant: the rows before p are those before the node.
-- Assumes nothing.
use mathlib.Core.Path.{refl, ◌∙◌}
use native.Mathlib.Nat.{not-suc-le-zero}
use native.Mathlib.Omega.{arith}
use lib.ListN.{length-set}
use Rattle.laws.proofs.Bounded.{fill_more, fill_done}
use Rattle.classes.specs.Classes.{before_row}
use Rattle.nextrows.proofs.before_rows.Goals as goal

pub loop-p-init : goal.loop-p-init
loop-p-init c = (refl, λ k h. absurd (not-suc-le-zero h))

pub loop-p-preserved : goal.loop-p-preserved
loop-p-preserved c =
    let l = c.loop-p in
    let x = c.args in (
      length-set l.rows l.p _ ∙ l.invariant.0,
      fill_more l.rows l.p (before_row x.table.now x.finals x.states x.work.now x.m) _ 0 (omega arith) l.invariant.1 c.before_row.ensures,
    )

pub returns : goal.returns
returns c =
    let l = c.loop-p in
    let x = c.args in
    fill_done l.rows 16 (before_row x.table.now x.finals x.states x.work.now x.m) 0 l.invariant.0 (λ k h. l.invariant.1 k (omega arith))
