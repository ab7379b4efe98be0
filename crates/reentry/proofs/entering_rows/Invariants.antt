-- `reentry::entering_rows` meets its contract.
-- Invariant: the rows of the calls below n are joined.
-- Assumes nothing.
use Rattle.reentry.proofs.ReentryLaws.{EnteringSoFar}
use Rattle.reentry.proofs.entering_rows.Given as goal

abbrev pub invariant-loop-n : goal.invariant-loop-n
invariant-loop-n l = EnteringSoFar l.work l.nodes l.rows l.n
