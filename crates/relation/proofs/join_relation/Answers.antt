-- `relation::join_relation` meets its contract.
-- Invariant: the rows below p are joined.
-- Assumes nothing.
use Prim.Native.Nat.{ℕ}
use mathlib.Core.Path.{sym, ◌∙◌}
use native.Mathlib.Omega.{arith}
use lib.ListN.{get_or}
use Rattle.relation.proofs.UnionLaws.{union_row, union_start, union_more, union_rows}
use Rattle.relation.proofs.join_relation.Goals as goal

pub loop-p-init : goal.loop-p-init
loop-p-init c = (c.requires, union_start c.args.rows.now)

pub join_row-requires : goal.join_row-requires
join_row-requires c = (c.loop-p.invariant.0, omega arith)

pub loop-p-preserved : goal.loop-p-preserved
loop-p-preserved c =
    let joined = c.join_row.ensures in
    (joined.sixteen, union_more c.loop-p.invariant.1 (union_row joined))

pub shape_of-rows : goal.shape_of-rows
shape_of-rows c = c.loop-p.invariant.0.long ∙ sym c.requires.long

pub returns : goal.returns
returns c =
    let inv = c.loop-p.invariant in
    (inv.0, union_rows (λ (i : ℕ). get_or c.args.more.now i 0) inv.1 (omega arith))
