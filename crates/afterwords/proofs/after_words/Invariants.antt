-- `afterwords::after_words` meets its contract.
-- Invariant: the rows of the nodes below n hold the after words of the exits among them, and the rows of the others are empty.
-- Assumes nothing.
use Rattle.classes.proofs.AfterLaws.{AfterSoFar}
use Rattle.afterwords.proofs.after_words.Given as goal

abbrev pub invariant-loop-n : goal.invariant-loop-n
invariant-loop-n l = AfterSoFar l.table l.finals l.states l.initial.work l.work l.n
