-- `rowmarks::mark_span` meets its contract.
-- Invariant: the places from the start to before i are marked, had no mark, and no other place changed; i is at most the stop, or the start where
-- that is past the stop.
-- Assumes nothing.
use borrow.Author.Rules.{rules}
use Rattle.rowmarks.proofs.SpanLaws.{span_none, span_more, span_done, span_met}
use Rattle.rowmarks.proofs.mark_span.Goals as goal

pub loop-i-init : goal.loop-i-init
loop-i-init c = (search rules, search rules, search rules, span_none c.args.marks.now c.args.start c.args.mark)

pub shape_of-marks-then-marks-i-ne0 : goal.shape_of-marks-then-marks-i-ne0
shape_of-marks-then-marks-i-ne0 c = c.loop-i.invariant.2

pub returns-then-marks-i-ne0 : goal.returns-then-marks-i-ne0
returns-then-marks-i-ne0 c =
    let x = c.args in
    let l = c.loop-i in
    span_met x.marks.now x.start x.mark l.marks l.i l.invariant.3 x.stop l.invariant.2 l.invariant.0 (search rules) c.if-marks-i-ne0.true

pub loop-i-preserved : goal.loop-i-preserved
loop-i-preserved c =
    let x = c.args in
    let l = c.loop-i in (
      search rules,
      search rules,
      search rules,
      span_more x.marks.now x.start x.mark l.marks l.i l.invariant.3 l.invariant.0 (search rules) c.if-marks-i-ne0.false,
    )

pub shape_of-marks : goal.shape_of-marks
shape_of-marks c = c.loop-i.invariant.2

pub returns : goal.returns
returns c =
    let x = c.args in
    let l = c.loop-i in
    span_done x.marks.now x.start x.mark l.marks l.i l.invariant.3 x.stop l.invariant.2 (search rules) l.invariant.1
