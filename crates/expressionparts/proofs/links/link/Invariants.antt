-- `expressionparts::links::link` meets its contract.
-- Invariant: the members of `lasts` that are no longer in `rest` are linked, the other positions are as they were.
-- Measure: the set that is left, as a number. Each turn is one step of the walk.
-- Assumes nothing.
use Rattle.expressionparts.proofs.ReadingLaws.{Linking}
use Rattle.expressionparts.proofs.links.link.Given as goal

abbrev pub invariant-loop-rest : goal.invariant-loop-rest
invariant-loop-rest l = Linking l.initial.follow l.follow l.lasts l.firsts l.rest

abbrev pub decreases-loop-rest : goal.decreases-loop-rest
decreases-loop-rest l = l.rest
