-- `starts::start` meets its contract.
-- Invariant: of the emptied rows those of the nodes below n hold their starts, and nothing else is held.
-- Assumes nothing.
use Rattle.starts.proofs.StartedLaws.{Starting}
use Rattle.starts.proofs.start.Given as goal

abbrev pub invariant-loop-n : goal.invariant-loop-n
invariant-loop-n l = Starting l.initial.work l.work l.n
