-- `indextest::arrive_all` meets its contract.
-- Invariant: the edges before the index stand at their places, and the cursors are past them.
-- Assumes nothing.
use Rattle.indextest.proofs.FreshLaws.{Arriving}
use Rattle.indextest.proofs.arrive_all.Given as goal

abbrev pub invariant-loop-from : goal.invariant-loop-from
invariant-loop-from l = Arriving l.edges l.predecessors l.initial.next l.next l.count l.from-index
