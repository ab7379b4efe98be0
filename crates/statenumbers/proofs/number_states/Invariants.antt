-- `statenumbers::number_states` meets its contract.
-- Invariant: the rows before q are done. Measure: the rows still to be done, of sixteen.
-- Assumes nothing.
use Prim.Native.Nat.{◌-◌}
use Rattle.expressionrule.proofs.GrowLaws.{Rows}
use Rattle.statenumbers.proofs.number_states.Given as goal

abbrev pub invariant-loop-q : goal.invariant-loop-q
invariant-loop-q l =
    Rows l.symbols l.places l.follow l.firsts l.initial.sets l.initial.cells l.sets l.cells l.n l.q

abbrev pub decreases-loop-q : goal.decreases-loop-q
decreases-loop-q l = 16 - l.q
