-- `afterwords::close_words` meets its contract.
-- Invariant: the rows hold what words tell apart; they are closed where the last round grew none.
-- Measure: the room in the rows and one more; nothing where the last round grew none.
-- Assumes nothing.
use Rattle.tables.specs.Sixteen.{rows_left}
use Rattle.classes.proofs.GrownLaws.{rank}
use Rattle.classes.proofs.WordLaws.{ClosingWords}
use Rattle.afterwords.proofs.close_words.Given as goal

abbrev pub invariant-loop-grown : goal.invariant-loop-grown
invariant-loop-grown l = ClosingWords l.table l.finals l.states l.initial.rows l.rows l.set l.grown

abbrev pub decreases-loop-grown : goal.decreases-loop-grown
decreases-loop-grown l = rank l.grown (rows_left l.rows)
