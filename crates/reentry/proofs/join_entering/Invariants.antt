-- `reentry::join_entering` meets its contract.
-- Invariant: the rows of the node below p are joined.
-- Assumes nothing.
use Prim.Native.Nat.{ℕ}
use Rattle.buffer.specs.Views.{pair_row_in}
use Rattle.tables.specs.Sixteen.{Sixteen}
use Rattle.relation.specs.Union.{Union, Below}
use Rattle.relation.proofs.UnionLaws.{AtRow}
use Rattle.reentry.proofs.join_entering.Given as goal

abbrev pub invariant-loop-p : goal.invariant-loop-p
invariant-loop-p l = Sixteen l.rows × Union (Below (λ (i : ℕ). AtRow i (pair_row_in l.work l.n i)) l.p) l.initial.rows l.rows
