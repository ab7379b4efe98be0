-- `enabling::enable_all` meets its contract.
-- Invariant: the plan bytes of the nodes before n are stored, and their shadows counted.
-- Assumes nothing.
use Rattle.passes.proofs.EnabledLaws.{EnabledSoFar}
use Rattle.enabling.proofs.enable_all.Given as goal

abbrev pub invariant-loop-n : goal.invariant-loop-n
invariant-loop-n l = EnabledSoFar l.initial.work l.work l.n l.count
