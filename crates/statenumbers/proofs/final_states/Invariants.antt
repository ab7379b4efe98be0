-- `statenumbers::final_states` meets its contract.
-- Invariant: out has the final states before q.
-- Assumes nothing.
use Rattle.statenumbers.proofs.FinalLaws.{Looked}
use Rattle.statenumbers.proofs.final_states.Given as goal

abbrev pub invariant-loop-q : goal.invariant-loop-q
invariant-loop-q l = Looked l.lasts l.sets l.count l.q l.out
