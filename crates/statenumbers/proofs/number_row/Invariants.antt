-- `statenumbers::number_row` meets its contract.
-- Invariant: the cells of the row before symbol s are done, and the set of its state is as it was.
-- Assumes nothing.
use Rattle.expressionrule.proofs.GrowLaws.{Rowing}
use Rattle.statenumbers.proofs.number_row.Given as goal

abbrev pub invariant-loop-s : goal.invariant-loop-s
invariant-loop-s l =
    Rowing l.symbols l.places l.follow l.firsts l.q l.count l.initial.sets l.initial.cells l.sets l.cells l.n l.s
