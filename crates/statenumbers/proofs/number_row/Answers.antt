-- `statenumbers::number_row` meets its contract.
-- Invariant: the cells of the row before symbol s are done, and the set of its state is as it was.
-- Assumes nothing.
use Rattle.expressionrule.proofs.GrowLaws.{Rowing-more, row_many, row_done}
use Rattle.statenumbers.proofs.number_row.Goals as goal

pub returns-then-i-eq16 : goal.returns-then-i-eq16
returns-then-i-eq16 c =
    let l = c.loop-s in
    let z = c.args in
    row_many z.symbols z.places.now z.follow.now z.firsts z.q z.count z.sets.now z.cells.now l.sets l.cells
    l.n l.s c.requires l.invariant c.onward_of-onward.result c.seek-i.result c.loop-s-test.true
    c.onward_of-onward.ensures c.seek-i.ensures c.if-i-eq16.true

pub loop-s-preserved : goal.loop-s-preserved
loop-s-preserved c =
    let l = c.loop-s in
    let z = c.args in
    Rowing-more z.symbols z.places.now z.follow.now z.firsts z.q z.count z.sets.now z.cells.now l.sets l.cells
    l.n l.s c.requires l.invariant c.onward_of-onward.result c.seek-i.result c.loop-s-test.true
    c.onward_of-onward.ensures c.seek-i.ensures c.add_set-n.new.sets c.add_set-n.result c.if-i-eq16.false
    c.add_set-n.ensures

pub returns : goal.returns
returns c =
    let l = c.loop-s in
    let z = c.args in (
      row_done z.symbols z.places.now z.follow.now z.firsts z.q z.count z.sets.now z.cells.now l.sets l.cells
          l.n l.s c.requires.symbols c.loop-s-test.false l.invariant,
      l.invariant.few,
    )
