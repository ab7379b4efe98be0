-- `relation::join_row` meets its contract. Where the union is the row nothing is stored; elsewhere the row grows.
-- Assumes nothing.
use native.Mathlib.Omega.{arith}
use Rattle.tables.proofs.SixteenLaws.{row_same, row_grows}
use Rattle.relation.proofs.join_row.Goals as goal

pub bounds-rows-p : goal.bounds-rows-p
bounds-rows-p c = omega (arith, c.requires.0.long)

pub returns-then-joined-old : goal.returns-then-joined-old
returns-then-joined-old c =
    row_same c.args.rows.now c.args.p c.args.s c.requires.0 c.requires.1 c.ranges.s.fits c.if-joined-old.true

pub bounds-rows-p-2 : goal.bounds-rows-p-2
bounds-rows-p-2 c = omega (arith, c.requires.0.long)

pub returns : goal.returns
returns c =
    row_grows c.args.rows.now c.args.p c.args.s c.requires.0 c.requires.1 c.ranges.s.fits c.if-joined-old.false
