-- `rowsread::take_all` meets its contract.
-- Invariant: the first i rows pass, and their pairs are marked, or two of them have met.
-- Assumes nothing.
use Rattle.refusal.specs.Refusal.{status_in}
use Rattle.rowsread.proofs.ReadLaws.{TakenSoFar}
use Rattle.rowsread.proofs.take_all.Given as goal

abbrev pub invariant-loop-i : goal.invariant-loop-i
invariant-loop-i l = TakenSoFar l.states l.symbols l.text l.i l.marks (status_in l.taken)
