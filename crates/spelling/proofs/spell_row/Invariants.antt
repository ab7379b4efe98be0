-- `spelling::spell_row` meets its contract.
-- Invariant: the row, as it was at the start, was moved by the symbols before some number; `rest` is the symbols from it on.
-- Measure: the set that is left, as a number. Each turn is one step of `SpellingRow`.
-- Assumes nothing.
use Rattle.spelling.proofs.SpellingLaws.{SpellingRow}
use Rattle.spelling.proofs.spell_row.Given as goal

abbrev pub invariant-loop-rest : goal.invariant-loop-rest
invariant-loop-rest l = SpellingRow l.table l.initial.rows l.rows l.set l.p l.rest l.grown

abbrev pub decreases-loop-rest : goal.decreases-loop-rest
decreases-loop-rest l = l.rest
