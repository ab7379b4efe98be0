-- `daycost::day_cost` meets its contract.
-- Invariant: the lines of the first n nodes pass, and the sum is what their events cost.
-- Assumes nothing.
use Prim.Native.Nat.{◌≤◌}
use Rattle.daycost.proofs.DayCostLaws.{SumSoFar}
use Rattle.daycost.proofs.day_cost.Given as goal

abbrev pub invariant-loop-n : goal.invariant-loop-n
invariant-loop-n l = (l.n ≤ l.nodes) × SumSoFar l.volumes l.prices l.work l.plan l.sum l.n
