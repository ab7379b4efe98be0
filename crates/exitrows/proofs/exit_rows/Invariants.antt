-- `exitrows::exit_rows` meets its contract.
-- Invariant: what the words after the exits below n lead to is joined.
-- Assumes nothing.
use Rattle.exitrows.proofs.EndedLaws.{EndedSoFar}
use Rattle.exitrows.proofs.exit_rows.Given as goal

abbrev pub invariant-loop-n : goal.invariant-loop-n
invariant-loop-n l = EndedSoFar l.table l.finals l.nodes l.work l.rows l.n
