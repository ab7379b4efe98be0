-- `positionsets::seek` meets its contract.
-- Invariant: no state from 1 to before i has the set.
-- Assumes nothing.
use Rattle.positionsets.proofs.NumberLaws.{Seeking}
use Rattle.positionsets.proofs.seek.Given as goal

abbrev pub invariant-loop-i : goal.invariant-loop-i
invariant-loop-i l = Seeking l.sets l.count l.set l.i
