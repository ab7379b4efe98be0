-- `afterwords::word_round` meets its contract.
-- Invariant: the rows below p were joined, and `grown` of them grew.
-- Each turn is one step of `JoiningWords`.
-- Assumes nothing.
use Rattle.classes.proofs.WordLaws.{JoiningWords}
use Rattle.afterwords.proofs.word_round.Given as goal

abbrev pub invariant-loop-p : goal.invariant-loop-p
invariant-loop-p l = JoiningWords l.table l.finals l.states l.initial.rows l.rows l.set l.grown l.p
