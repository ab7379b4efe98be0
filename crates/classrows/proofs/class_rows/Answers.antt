-- `classrows::class_rows` meets its contract.
-- Invariant: the rows before p are those of the node.
-- Assumes nothing.
use mathlib.Core.Path.{refl, ◌∙◌}
use native.Mathlib.Nat.{not-suc-le-zero}
use native.Mathlib.Omega.{arith}
use borrow.Author.Rules.{rules}
use lib.ListN.{length-set}
use Rattle.laws.proofs.Bounded.{fill_more, fill_done}
use Rattle.buffer.specs.Views.{class_row_in}
use Rattle.classrows.proofs.class_rows.Goals as goal

pub loop-p-init : goal.loop-p-init
loop-p-init c = (refl, search rules, λ k h. absurd (not-suc-le-zero h))

pub loop-p-preserved : goal.loop-p-preserved
loop-p-preserved c =
    let l = c.loop-p in
    let x = c.args in (
      length-set l.rows l.p _ ∙ l.invariant.0,
      search rules,
      fill_more l.rows l.p (class_row_in x.work.now x.n) _ 0 (omega arith) l.invariant.2 c.class_row.ensures,
    )

pub returns : goal.returns
returns c =
    let l = c.loop-p in
    let x = c.args in
    fill_done l.rows 16 (class_row_in x.work.now x.n) 0 l.invariant.0 (λ k h. l.invariant.2 k (omega arith))
