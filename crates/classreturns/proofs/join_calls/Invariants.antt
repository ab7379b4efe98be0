-- `classreturns::join_calls` meets its contract.
-- Invariant: the rows at the calls below n were joined, and `grown` rows grew.
-- Assumes nothing.
use Rattle.classreturns.specs.Joins.{ToCall, NodesJoined}
use Rattle.classreturns.proofs.join_calls.Given as goal

abbrev pub invariant-loop-n : goal.invariant-loop-n
invariant-loop-n l = NodesJoined (ToCall l.rows) (ToCall l.rows) l.initial.work l.work l.n l.grown
