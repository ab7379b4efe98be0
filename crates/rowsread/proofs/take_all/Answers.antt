-- `rowsread::take_all` meets its contract.
-- Invariant: the first i rows pass, and their pairs are marked, or two of them have met.
-- Assumes nothing.
use mathlib.Core.Path.{sym, ap, ◌∙◌}
use native.Mathlib.Omega.{arith}
use lib.ListN.{length}
use Rattle.refusal.specs.Refusal.{status_in}
use Rattle.rowsread.proofs.ReadLaws.{row_due_lem, row_fits, taken_start, taken_next, taken_stop, taken_end}
use Rattle.rowsread.proofs.take_all.Goals as goal

pub loop-i-init : goal.loop-i-init
loop-i-init c =
    let x = c.args in
    taken_start x.states x.symbols x.text.now x.marks.now c.requires.1.1.1

pub row_line-requires : goal.row_line-requires
row_line-requires c = c.loop-i.invariant.room

pub shape_of-marks-in_default : goal.shape_of-marks-in_default
shape_of-marks-in_default c =
    c.loop-i.invariant.long ∙ sym (ap length c.requires.1.1.1)

pub returns-in_default : goal.returns-in_default
returns-in_default c =
    let l = c.loop-i in
    let x = c.args in
    taken_stop x.states x.symbols x.text.now l.i l.marks (status_in l.taken) l.invariant (omega (arith, c.loop-i-test.true))
    (sym c.row_line.ensures ∙ c.in_default.is)

pub mark_more-taken-requires : goal.mark_more-taken-requires
mark_more-taken-requires c =
    let x = c.args in
    let l = c.loop-i in
    let due = sym c.row_line.ensures ∙ c.in-Some.is in
    let here = row_due_lem x.states x.symbols x.text.now l.i _ due in
    (l.invariant.long, row_fits c.requires.1.0 c.requires.1.1.0 here.2)

pub loop-i-preserved : goal.loop-i-preserved
loop-i-preserved c =
    let x = c.args in
    let l = c.loop-i in
    let due =
    sym c.row_line.ensures
    ∙ c.in-Some.is in
    taken_next x.states x.symbols x.text.now l.i l.marks _ (status_in l.taken) _ _ c.requires.1.0 c.requires.1.1.0 l.invariant due
    c.mark_more-taken.ensures

pub shape_of-marks : goal.shape_of-marks
shape_of-marks c =
    c.loop-i.invariant.long ∙ sym (ap length c.requires.1.1.1)

pub returns : goal.returns
returns c =
    let x = c.args in
    let l = c.loop-i in
    taken_end x.states x.symbols x.text.now l.i l.marks (status_in l.taken) l.invariant (omega (arith, c.loop-i-test.false))
