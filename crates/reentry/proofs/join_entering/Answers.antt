-- `reentry::join_entering` meets its contract.
-- Invariant: the rows of the node below p are joined.
-- Assumes nothing.
use mathlib.Core.Path.{sym, ◌∙◌}
use native.Mathlib.Omega.{arith}
use Rattle.relation.proofs.UnionLaws.{union_start, union_more}
use Rattle.reentry.proofs.ReentryLaws.{entering_none, entering_row, entering_all}
use Rattle.reentry.proofs.join_entering.Goals as goal

pub returns-then-not-is_reentrant : goal.returns-then-not-is_reentrant
returns-then-not-is_reentrant c =
    let a = c.args in
    (c.requires.0, entering_none a.work.now a.n a.rows.now (sym c.is_reentrant.ensures ∙ c.if-not-is_reentrant.true))

pub loop-p-init : goal.loop-p-init
loop-p-init c = (c.requires.0, union_start c.args.rows.now)

pub pair_row-requires : goal.pair_row-requires
pair_row-requires c = let pre = c.requires in (pre.1.0, (pre.1.1, omega arith))

pub join_row-requires : goal.join_row-requires
join_row-requires c = (c.loop-p.invariant.0, omega arith)

pub loop-p-preserved : goal.loop-p-preserved
loop-p-preserved c =
    let joined = c.join_row.ensures in (
      joined.sixteen,
      union_more c.loop-p.invariant.1
          (entering_row c.pair_row.ensures joined),
    )

pub shape_of-rows : goal.shape_of-rows
shape_of-rows c = c.loop-p.invariant.0.long ∙ sym c.requires.0.long

pub returns : goal.returns
returns c =
    let a = c.args in
    let inv = c.loop-p.invariant in
    (inv.0, entering_all a.work.now a.n (sym c.is_reentrant.ensures ∙ c.if-not-is_reentrant.false) inv.1 (omega arith))
