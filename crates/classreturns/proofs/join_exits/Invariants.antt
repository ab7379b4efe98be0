-- `classreturns::join_exits` meets its contract.
-- Invariant: the after words of the exits below n were joined, and `grown` rows grew.
-- Assumes nothing.
use Rattle.classreturns.specs.Joins.{ToExit, ToExitWithin, NodesJoined}
use Rattle.classreturns.proofs.join_exits.Given as goal

abbrev pub invariant-loop-n : goal.invariant-loop-n
invariant-loop-n l = NodesJoined (ToExit l.table l.finals l.states l.rows) (ToExitWithin l.table l.finals l.states l.rows) l.initial.work l.work l.n l.grown
