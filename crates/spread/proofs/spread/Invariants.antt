-- `spread::spread` meets its contract.
-- Invariant: the row was moved by the symbols before some number and joined, all alarming alike; `rest` is the symbols from it on.
-- Measure: the set that is left, as a number. Each turn is one step of `Spreading`.
-- Assumes nothing.
use Rattle.spread.proofs.SpreadLaws.{Spreading}
use Rattle.spread.proofs.spread.Given as goal

abbrev pub invariant-loop-rest : goal.invariant-loop-rest
invariant-loop-rest l = Spreading l.table l.finals l.initial.work l.work l.n l.p l.s l.set l.rest

abbrev pub decreases-loop-rest : goal.decreases-loop-rest
decreases-loop-rest l = l.rest
