-- `successors::join_rows` meets its contract.
-- Invariant: the rows below p are joined, and nothing else is new.
-- Each turn is one step of `JoiningRows`.
-- Assumes nothing.
use Rattle.successors.proofs.SuccessorLaws.{JoiningRows}
use Rattle.successors.proofs.join_rows.Given as goal

abbrev pub invariant-loop-p : goal.invariant-loop-p
invariant-loop-p l = JoiningRows l.initial.work l.work l.n l.rows l.p
