-- `spelling::close_forward` meets its contract.
-- Invariant: every pair is one that a word leads to, and the rows that are not due were moved by every symbol.
-- Measure: the room in the rows, each step of it more than the rows that are due, and those.
-- Assumes nothing.
use Prim.Native.Nat.{◌+◌, ◌*◌}
use Rattle.tables.specs.Sixteen.{rows_left}
use Rattle.spelling.proofs.SpellingLaws.{Closing}
use Rattle.spelling.proofs.close_forward.Given as goal

abbrev pub invariant-loop-due : goal.invariant-loop-due
invariant-loop-due l = Closing l.table l.initial.rows l.rows l.set l.due

abbrev pub decreases-loop-due : goal.decreases-loop-due
decreases-loop-due l = 65536 * rows_left l.rows + l.due
