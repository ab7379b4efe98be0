-- `reentry::join_where` meets its contract.
-- Invariant: the rows are joined at the nodes below n that pass the test.
-- Assumes nothing.
use Prim.Native.Nat.{ℕ}
use Rattle.buffer.specs.Views.{node_in}
use Rattle.reentry.proofs.ReentryLaws.{JoiningWhere}
use Rattle.reentry.proofs.join_where.Given as goal

abbrev pub invariant-loop-n : goal.invariant-loop-n
invariant-loop-n g l = JoiningWhere (λ (k : ℕ). g.T.NodeTest.holds (node_in l.initial.work k)) l.initial.work l.work l.nodes l.rows l.n
