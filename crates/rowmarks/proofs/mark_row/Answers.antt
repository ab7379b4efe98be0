-- `rowmarks::mark_row` meets its contract.
-- Invariant: the pairs that the row names with the states before q are marked, had no mark, and no other pair changed; q is at most one past the last
-- state, or the first where that is past it.
-- Assumes nothing.
use mathlib.Core.Path.{refl, ◌∙◌}
use native.Mathlib.Omega.{arith}
use borrow.Author.Rules.{rules}
use Rattle.rowmarks.proofs.RowLaws.{block_none, block_more, row_done, row_met}
use Rattle.rowmarks.proofs.mark_row.Goals as goal

pub loop-q-init : goal.loop-q-init
loop-q-init c = (search rules, search rules, refl, block_none _ _ _ _ _)

pub shape_of-marks-then-not-mark_span : goal.shape_of-marks-then-not-mark_span
shape_of-marks-then-not-mark_span c = c.mark_span.ensures.long ∙ c.loop-q.invariant.2

pub returns-then-not-mark_span : goal.returns-then-not-mark_span
returns-then-not-mark_span c =
    let x = c.args in
    let p = c.requires in
    let l = c.loop-q in
    let s = c.mark_span in
    row_met x.row x.marks.now s.new.marks (s.ensures.long ∙ l.invariant.2 ∙ p.0) l.q l.marks p.1 l.invariant.0 (search rules)
    l.invariant.3 (s.ensures.met (c.if-not-mark_span.true))

pub loop-q-preserved : goal.loop-q-preserved
loop-q-preserved c =
    let p = c.requires in
    let l = c.loop-q in
    let s = c.mark_span in (
      search rules,
      search rules,
      s.ensures.long ∙ l.invariant.2,
      block_more _ _ _ _ _ (omega (arith, p.1.symbols)) l.marks l.q l.invariant.3 s.new.marks l.invariant.0
          (s.ensures.all (c.if-not-mark_span.false)),
    )

pub shape_of-marks : goal.shape_of-marks
shape_of-marks c = c.loop-q.invariant.2

pub returns : goal.returns
returns c =
    let x = c.args in
    let p = c.requires in
    let l = c.loop-q in
    row_done x.row x.marks.now l.marks (l.invariant.2 ∙ p.0) l.q (search rules) l.invariant.1 l.invariant.3
