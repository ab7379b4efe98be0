-- `exitrows::join_past_rows` meets its contract.
-- Invariant: the rows below p are joined past the node.
-- Assumes nothing.
use Rattle.exitrows.proofs.EndedLaws.{PastSoFar}
use Rattle.exitrows.proofs.join_past_rows.Given as goal

abbrev pub invariant-loop-p : goal.invariant-loop-p
invariant-loop-p l = PastSoFar l.table l.finals l.work l.initial.rows l.rows l.n l.any l.p
