-- `positionsets::union_of` meets its contract.
-- Invariant: `rest` is the members from some position on, and `out` is the union over those before it.
-- Measure: the set that is left, as a number. Each turn is one step of the walk.
-- Assumes nothing.
use Rattle.positionsets.proofs.NumberLaws.{Joined}
use Rattle.positionsets.proofs.union_of.Given as goal

abbrev pub invariant-loop-rest : goal.invariant-loop-rest
invariant-loop-rest l = Joined l.follow l.set l.out l.rest

abbrev pub decreases-loop-rest : goal.decreases-loop-rest
decreases-loop-rest l = l.rest
