-- `classrows::join_class_rows` meets its contract.
-- Invariant: the rows below p are joined, `grown` of them grew, and nothing else is new.
-- Each turn is one step of `JoiningApart`.
-- Assumes nothing.
use Rattle.buffer.proofs.ClassRowLaws.{JoiningApart}
use Rattle.classrows.proofs.join_class_rows.Given as goal

abbrev pub invariant-loop-p : goal.invariant-loop-p
invariant-loop-p l = JoiningApart l.initial.work l.work l.n l.rows l.grown l.p
