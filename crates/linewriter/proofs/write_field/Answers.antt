-- `linewriter::write_field` meets its contract.
-- Invariant: the columns from k on, of the five before the last, are stored, and the other k are due, of the digits that are left.
-- Assumes nothing.
use native.Mathlib.Omega.{arith}
use lib.ListN.{length-set}
use borrow.Author.Rules.{rules}
use Rattle.linewriter.proofs.WriteLaws.{columns_start, columns_more, columns_end}
use Rattle.linewriter.proofs.write_field.Goals as goal

pub loop-k-init : goal.loop-k-init
loop-k-init c = columns_start c.args.out.now c.args.at c.args.value (omega arith)

pub bounds-out-at : goal.bounds-out-at
bounds-out-at c = search (rules, c.loop-k.invariant.long)

pub loop-k-preserved : goal.loop-k-preserved
loop-k-preserved c =
    let l = c.loop-k in
    let x = c.args in
    columns_more x.out.now l.out x.at x.value l.rest l.k c.column.result (omega arith) c.column.ensures l.invariant

pub bounds-out-at-2 : goal.bounds-out-at-2
bounds-out-at-2 c = search (rules, c.loop-k.invariant.long)

pub shape_of-out : goal.shape_of-out
shape_of-out c = simp (length-set, c.loop-k.invariant.long)

pub returns : goal.returns
returns c =
    let l = c.loop-k in
    let x = c.args in
    columns_end x.out.now l.out x.at x.value l.rest l.k c.digit.result (omega arith) c.digit.ensures l.invariant
