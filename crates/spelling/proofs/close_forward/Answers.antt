-- `spelling::close_forward` meets its contract.
-- Invariant: every pair is one that a word leads to, and the rows that are not due were moved by every symbol.
-- Measure: the room in the rows, each step of it more than the rows that are due, and those.
-- Assumes nothing.
use mathlib.Core.Path.{sym, ◌∙◌}
use native.Mathlib.Omega.{arith}
use Rattle.spelling.proofs.SpellingLaws.{closing_start, due_small, closing_more, closing_less, Closing-End, closed_none}
use Rattle.spelling.proofs.close_forward.Goals as goal

pub returns-then-set-eq0 : goal.returns-then-set-eq0
returns-then-set-eq0 c = closed_none c.requires.0 c.if-set-eq0.true

pub loop-due-init : goal.loop-due-init
loop-due-init c = closing_start c.args.table.now c.args.rows.now c.args.set c.requires.0

pub spell_row-requires : goal.spell_row-requires
spell_row-requires c =
    let inv = c.loop-due.invariant in
    (inv.sixteen, (due_small inv (omega arith) c.lowest-p.ensures, c.requires.1))

pub loop-due-smaller : goal.loop-due-smaller
loop-due-smaller c =
    closing_less c.loop-due.invariant c.requires.1 c.ranges.set.fits (omega arith) c.lowest-p.ensures c.without_lowest.ensures
    c.spell_row.ensures (omega arith)

pub loop-due-preserved : goal.loop-due-preserved
loop-due-preserved c =
    closing_more c.loop-due.invariant c.requires.1 c.ranges.set.fits (omega arith) c.lowest-p.ensures c.without_lowest.ensures
    c.spell_row.ensures (omega arith)

pub shape_of-rows : goal.shape_of-rows
shape_of-rows c = c.loop-due.invariant.sixteen.long ∙ sym c.requires.0.long

pub returns : goal.returns
returns c = Closing-End c.requires.1 c.ranges.set.fits c.loop-due.invariant (omega arith)
