-- `starts::start_node` meets its contract.
-- Invariant: `rest` is the admitted states from some number on; those before it were joined, and nothing else.
-- Measure: the set that is left, as a number. Each turn is one step of the walk.
-- Assumes nothing.
use Rattle.starts.proofs.StartedLaws.{StartingNode}
use Rattle.starts.proofs.start_node.Given as goal

abbrev pub invariant-loop-rest : goal.invariant-loop-rest
invariant-loop-rest l = StartingNode l.initial.work l.work l.n l.initial.rest l.rest

abbrev pub decreases-loop-rest : goal.decreases-loop-rest
decreases-loop-rest l = l.rest
