-- `successors::join_successors` meets its contract.
-- Invariant: the rows are joined at the ends of the edges of the node below i, and nothing else is new.
-- Each turn is one step of `Joining`.
-- Assumes nothing.
use Rattle.successors.proofs.SuccessorLaws.{Joining}
use Rattle.successors.proofs.join_successors.Given as goal

abbrev pub invariant-loop-i : goal.invariant-loop-i
invariant-loop-i l = Joining l.initial.work l.work l.n l.rows l.i
